-- Numbers written one list after another. Assumes nothing: these are definitions.
use Rattle.std.specs.Prelude.{ℕ, ◌+◌, ◌≤◌, ◌≡◌, List, ◌++◌, length, take}

-- xs are written from w up to end: what stands before end is what stood before w, and xs
pub record Wrote (l : List ℕ) (w : ℕ) (xs : List ℕ) (end : ℕ) (m : List ℕ) : Type 0 where
  pub ends : end ≡ w + length xs
  pub inside : end ≤ length l
  pub front : take end m ≡ take w l ++ xs

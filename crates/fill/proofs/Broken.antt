-- Laws of the tests of a node's words, one for each way that their code goes. Assumes nothing.
use Prim.Native.Nat.{ℕ, ◌*◌, ◌≤◌, ◌<◌}
use mathlib.Core.Path.{◌≡◌, refl}
use mathlib.Core.Bool.{Bool, true, false, not, ◌&&◌, ◌||◌}
use native.Mathlib.Omega.{arith}
use lib.Dec.{ltb, eqb}
use borrow.Author.Tests.{eqb-true, eqb-false, ne_eqb, lt-ltb, le-ltb}
use Rattle.table.specs.Nodes.{broken}

pub broken_first : (i a b : ℕ) → i < a → true ≡ broken i a b
unfolding broken
broken_first i a b h = rw (ne_eqb a 0 (λ e. omega arith), lt-ltb i a h)

pub broken_second : (i a b : ℕ) → a ≤ i → i < b → true ≡ broken i a b
unfolding broken
broken_second i a b h k = rw (le-ltb i a h, lt-ltb i b k, ne_eqb b 0 (λ e. omega arith)) (go (eqb a 0))
  where
    go : (z : Bool) → true ≡ ((z && true) || true)
    go true = refl
    go false = refl

pub broken_gap : (i a b : ℕ) → a ≤ i → b ≤ i → b < 4294967296 → ltb (a * 4294967296) b ≡ broken i a b
unfolding broken
broken_gap i a b h k l = rw (le-ltb i a h, le-ltb i b k) (go (eqb a 0) refl (eqb b 0) refl)
  where
    go : (y : Bool) → eqb a 0 ≡ y → (z : Bool) → eqb b 0 ≡ z → ltb (a * 4294967296) b ≡ ((y && not z) || false)
    go true p true q = le-ltb (a * 4294967296) b (omega (arith, eqb-true b 0 q))
    go true p false q =
        let n : (b ≡ 0 → ⊥) = eqb-false b 0 q in
        lt-ltb (a * 4294967296) b (omega (arith, eqb-true a 0 p))
    go false p z q =
        let n : (a ≡ 0 → ⊥) = eqb-false a 0 p in
        le-ltb (a * 4294967296) b (omega arith)

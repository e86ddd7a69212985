-- Numbers in ascending order. Assumes nothing: these are definitions.
use Rattle.std.specs.Prelude.{ℕ, ◌+◌, ◌≤◌, List, [], ◌∷◌}

-- "in ascending order" ([10]), "ascending" ([12]): numbers of which each is above the one before it, the first at least m
pub data NumbersAscend : ℕ → List ℕ → Type 0 where
  no_more : {m : ℕ} → NumbersAscend m []
  one_more : {m c : ℕ} {cs : List ℕ} → m ≤ c → NumbersAscend (c + 1) cs → NumbersAscend m (c ∷ cs)

-- In which order the numbers of an answer stand in the caller's array. Assumes nothing: these are definitions.
use Rattle.std.specs.Prelude.{ℕ, List, [], ◌∷◌, ◌++◌}
use Rattle.calculus.specs.declared.Uses.{Uses}
use Rattle.table.specs.Refusal.{Numbers}

-- the five numbers of an answer
abbrev pub listed : Numbers → List ℕ
listed n = n.refusal ∷ n.node ∷ n.used ∷ n.steps ∷ n.digits ∷ []

-- the ten of an answer of Apply or Run: these five, and "the uses of each, five counts in document 01's order" ([5])
abbrev pub listed_uses : Numbers → Uses → List ℕ
listed_uses n k = listed n ++ (k.leaf ∷ k.stem ∷ k.drop ∷ k.spread ∷ k.triage ∷ [])

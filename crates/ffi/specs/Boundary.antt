-- What an exported function leaves in its caller's memory, in terms of the operations' outcomes. Assumes nothing: these are definitions.
use Rattle.std.specs.Prelude.{ℕ, List}
use Rattle.calculus.specs.declared.Uses.{Uses}
use Rattle.table.specs.Refusal.{Numbers}
use Rattle.table.specs.Outcome.{Outcome, answered}
use Rattle.answers.specs.Listed.{listed, listed_uses}

-- an operation's outcome, with its answer as the list of its five numbers
abbrev pub numbered : {A : Type 0} → (A → Numbers) → Outcome A → Outcome (List ℕ)
numbered numbers o = answered (λ a. listed (numbers a)) o

-- the same, with the ten
abbrev pub counted : {A : Type 0} → (A → Numbers) → (A → Uses) → Outcome A → Outcome (List ℕ)
counted numbers uses o = answered (λ a. listed_uses (numbers a) (uses a)) o

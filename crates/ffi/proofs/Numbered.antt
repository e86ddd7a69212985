-- An exported function calls its operation and lists the answer's numbers: what it leaves is the operation's outcome, with the answer as numbers.
-- Assumes nothing.
use Prim.Native.Nat.{ℕ}
use mathlib.Core.Path.{◌≡◌, ap, ◌∙◌}
use mathlib.Core.List.{List}
use Rattle.calculus.specs.declared.Uses.{Uses}
use Rattle.table.specs.Refusal.{Numbers}
use Rattle.table.specs.Outcome.{Outcome, whole_out, answered}
use Rattle.answers.specs.Listed.{listed, listed_uses}
use Rattle.ffi.specs.Boundary.{numbered, counted}

pub is_answered : {A : Type 0} (numbers : A → List ℕ) {a : A} {l w s b : List ℕ} {o : Outcome A}
    → l ≡ numbers a → whole_out a w s b ≡ o → whole_out l w s b ≡ answered numbers o
is_answered numbers {w = w} {s = s} {b = b} p q = ap (λ (x : List ℕ). whole_out x w s b) p ∙ ap (answered numbers) q

pub is_numbered : {A : Type 0} (numbers : A → Numbers) {a : A} {l w s b : List ℕ} {o : Outcome A}
    → l ≡ listed (numbers a) → whole_out a w s b ≡ o → whole_out l w s b ≡ numbered numbers o
is_numbered numbers = is_answered (λ a. listed (numbers a))

pub is_counted : {A : Type 0} (numbers : A → Numbers) (uses : A → Uses) {a : A} {l w s b : List ℕ} {o : Outcome A}
    → l ≡ listed_uses (numbers a) (uses a) → whole_out a w s b ≡ o → whole_out l w s b ≡ counted numbers uses o
is_counted numbers uses = is_answered (λ a. listed_uses (numbers a) (uses a))

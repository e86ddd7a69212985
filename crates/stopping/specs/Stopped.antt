-- What `stopped` gives ([14]). Assumes nothing: these are definitions.
use Rattle.std.specs.Prelude as code
use Rattle.std.specs.Prelude.{ℕ, List, [], ◌∷◌, Err, None, Ok, Result, Some}
use Rattle.table.specs.Outcome.{Outcome, answered}
use Rattle.table.specs.Refusal.{number}
use Rattle.table.specs.declared.Refusal.{Refusal}
use Rattle.applying.specs.declared.Rule.{Rule}
use Rattle.applying.specs.declared.Rule.TheVariants as rule
use Rattle.running.specs.Tell.{tell, at_place}
use Rattle.running.specs.Run.{not_ran, ran}
use Rattle.running.specs.declared.Ran.{Ran}
use Rattle.running.specs.declared.Stop.{Stop}
use Rattle.stopping.specs.declared.Kind.{Kind}
use Rattle.stopping.specs.declared.Kind.TheVariants.{Leaf, Stem, Drop, Spread, Triage}
use Rattle.stopping.specs.declared.Stopped.{Stopped}
use Rattle.stopping.specs.declared.Stopped.TheVariants.{Applying, Refused, Completed}

-- which of the five a rule is, without the nodes that it names
unfoldable pub kind : Rule → Kind
kind rule.Leaf = Leaf
kind (rule.Stem p) = Stem
kind (rule.Drop y) = Drop
kind (rule.Spread p y) = Spread
kind (rule.Triage p q) = Triage

-- "for a stop while applying, gives Run's number, the argument's place (1 to 8), the steps taken in the whole run and which of the five rules was wanted.
-- [..] For every other outcome it gives Run's number alone."
unfoldable pub stop_by : Result Ran Refusal → code.Option Stop → Stopped
stop_by (Err e) (Some m) = Applying e m.place m.steps (kind m.rule)
stop_by (Err e) None = Refused e
stop_by (Ok m) p = Completed

-- "A tool runs a packet alone": as Run does, and with what it leaves of lent memory
unfoldable pub stopped : List ℕ → List ℕ → List ℕ → List ℕ → Outcome Stopped
stopped w s o l = answered (λ a. stop_by a.ran a.stop) (tell w s o l)

-- the rules in document 01's order
unfoldable pub kind_number : Kind → ℕ
kind_number Leaf = 1
kind_number Stem = 2
kind_number Drop = 3
kind_number Spread = 4
kind_number Triage = 5

-- the four numbers of the answer: Run's number, the place, the steps and the rule
unfoldable pub stopped_numbers : Stopped → List ℕ
stopped_numbers (Applying e i j c) = number e ∷ i ∷ j ∷ kind_number c ∷ []
stopped_numbers (Refused e) = number e ∷ 0 ∷ 0 ∷ 0 ∷ []
stopped_numbers Completed = 0 ∷ 0 ∷ 0 ∷ 0 ∷ []

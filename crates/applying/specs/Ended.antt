-- How an application ends, told with where it stopped ([14]). Assumes nothing: these are definitions.
use Rattle.std.specs.Prelude.{ℕ, List, Result, Ok, Err}
use Rattle.calculus.specs.declared.Uses.{Uses}
use Rattle.calculus.specs.Uses.{steps}
use Rattle.table.specs.Outcome.{Outcome, whole, frames, zeros, stopped}
use Rattle.table.specs.declared.Refusal.{Refusal}
use Rattle.table.specs.declared.Refusal.TheVariants.{Steps}
use Rattle.applying.specs.Machine.{State, wanted, Turn, more, done, stop, uses}
use Rattle.applying.specs.Apply.{begin, applied, not_applied}
use Rattle.applying.specs.declared.Rule.{Rule}
use Rattle.applying.specs.declared.Stopped.{Stopped}
use Rattle.applying.specs.declared.Applied.{Applied}

-- The turn in which an application is refused with e, and the state that then wants a use.
pub data Halted : Turn → Refusal → State → Type 0 where
  for_steps : {z : State} → Halted (more z) Steps z
  for_lack : {e : Refusal} {z : State} → Halted (stop e z) e z

-- How an application ends: as Apply answers, or with the refusal, the steps taken before it and the rule that was wanted.
abbrev pub Ended : Type 0
Ended = Result Applied Stopped

abbrev pub ended_in : ℕ → ℕ → ℕ → Uses → Ended
ended_in n u j k = Ok (record { node = n; used = u; steps = j; uses = k })

abbrev pub stopped_with : Refusal → ℕ → Rule → Ended
stopped_with e j r = Err (record { refusal = e; steps = j; rule = r })

-- how an application ends that had u nodes in use at entry; at a stop the steps are those of the uses taken, and the rule is the one wanted then
unfoldable pub ended : ℕ → List ℕ → Turn → Outcome Ended
ended u s (more z) = stopped (stopped_with Steps (steps z.uses) (wanted z)) z.table u s
ended u s (done p k) = whole (ended_in p.node p.table.used (steps k) k) p.table.words (zeros s)
ended u s (stop e z) = stopped (stopped_with e (steps z.uses) (wanted z)) z.table u s

-- node f applied to node n of a sound table, both in use
unfoldable pub apply_ended : List ℕ → ℕ → List ℕ → ℕ → ℕ → ℕ → Outcome Ended
apply_ended w u s f n limit = ended u s (uses (frames s) limit (begin w u f n))

-- Apply's answer does not tell where it stopped
unfoldable pub applied_of : Ended → Result Applied Refusal
applied_of (Ok m) = applied m.node m.used m.steps m.uses
applied_of (Err m) = not_applied m.refusal

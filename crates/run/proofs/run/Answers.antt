-- `run::run` meets its contract: what is told of a packet is Run's answer, and lent memory is as Run leaves it. Assumes nothing.
use mathlib.Core.Path.{ap, ◌∙◌}
use Rattle.table.specs.Outcome.{answered}
use Rattle.running.specs.declared.Told.{Told}
use Rattle.running.proofs.Checks.{tell_runs}
use Rattle.run.proofs.run.Goals as goal

pub returns : goal.returns
returns c = ap (answered (λ (a : Told). a.ran)) c.tell.ensures ∙ tell_runs _ _ _ _

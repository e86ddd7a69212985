-- `stops::stopped` meets its contract: what is given of a packet that is run and told. Assumes nothing.
use mathlib.Core.Path.{ap}
use Rattle.table.specs.Outcome.{answered}
use Rattle.running.specs.declared.Told.{Told}
use Rattle.stopping.specs.Stopped.{stop_by, stopped}
use Rattle.stops.proofs.stopped.Goals as goal

pub returns : goal.returns
unfolding stopped
returns c = rw c.stop.ensures (ap (answered (λ (a : Told). stop_by a.ran a.stop)) c.tell.ensures)

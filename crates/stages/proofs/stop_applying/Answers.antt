-- `stages::stop_applying` meets its contract. Assumes nothing.
use mathlib.Core.Path.{ap}
use Rattle.running.specs.Tell.{tell_at}
use Rattle.stages.proofs.stop_applying.Goals as goal

pub returns : goal.returns
returns c = λ o. ap (tell_at _) (c.stop.ensures o)

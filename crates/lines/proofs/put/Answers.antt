-- `lines::put` meets its contract: what is written by the three calls in turn. Assumes nothing.
use Rattle.lines.specs.Line.{line}
use Rattle.lines.proofs.Appending.{in_turn}
use Rattle.lines.proofs.put.Goals as goal

pub returns : goal.returns
unfolding line
returns g c = in_turn _ _ _ _ _ _ _ _ c.in_ok-write.ensures.bytes c.in_ok-write_all.ensures.bytes c.write_all-2.ensures.bytes

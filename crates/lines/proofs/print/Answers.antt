-- `lines::print` meets its contract: each case of the answer. Assumes nothing.
use Rattle.lines.specs.Line.{line_of}
use Rattle.lines.proofs.print.Goals as goal

pub returns-in-Ok : goal.returns-in-Ok
unfolding line_of
returns-in-Ok g c = rw c.in-Ok.is c.put.ensures

pub returns-in-Err : goal.returns-in-Err
unfolding line_of
returns-in-Err g c = rw (c.in-Err.is, ← c.number.ensures) c.put-in-Err.ensures

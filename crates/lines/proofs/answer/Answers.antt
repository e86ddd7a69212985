-- `lines::answer` meets its contract: the line of the answer that the operation gave. Assumes nothing.
use mathlib.Core.Path.{refl}
use Rattle.lines.proofs.Appending.{answered}
use Rattle.lines.proofs.answer.Goals as goal

pub returns : goal.returns
returns g c = answered _ _ _ _ _ _ _ _ _ _ _ _ _ c.operation-answer.ensures refl refl refl refl c.print.ensures

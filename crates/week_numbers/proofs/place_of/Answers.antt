-- `week_numbers::place_of` meets its contract: three numbers in a row. Assumes nothing.
use mathlib.Core.Path.{refl}
use Rattle.week.specs.Lent.{place_of}
use Rattle.week_numbers.proofs.place_of.Goals as goal

pub returns : goal.returns
unfolding place_of
returns c = refl

-- `weighing::grams_of` meets its contract. The loop's invariant: the total is the number of the digits from place i on. Assumes nothing.
use mathlib.Core.Path.{◌≡◌}
use lib.ListN.{drop}
use Rattle.weights.specs.Digits.{grams_of}
use Rattle.weighing.proofs.grams_of.Given as goal

abbrev pub invariant-loop-i : goal.invariant-loop-i
invariant-loop-i l = l.total ≡ grams_of (drop l.i l.weight.digits)

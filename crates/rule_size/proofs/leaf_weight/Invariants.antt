-- The invariant of the loop of `rule_size::leaf_weight`: u is what a leaf counts under so many abstractions as turns were taken.
use mathlib.Core.Path.{◌≡◌}
use Rattle.rule_size.specs.Weight.{leaf_weight}
use Rattle.rule_size.proofs.leaf_weight.Given as goal

abbrev pub invariant-loop : goal.invariant-loop
invariant-loop l = l.u ≡ leaf_weight l.counter

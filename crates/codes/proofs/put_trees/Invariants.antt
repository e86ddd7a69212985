-- `codes::put_trees` meets its contract: the values of the trees of at most so many nodes stand at the front. Assumes nothing.
use Rattle.table.specs.Wrote.{Wrote}
use Rattle.short_codes.specs.Values.{values_to}
use Rattle.codes.proofs.put_trees.Given as goal

abbrev pub invariant-loop-n : goal.invariant-loop-n
invariant-loop-n l = Wrote l.initial.out 0 (values_to l.n) l.at l.out

-- `weight_digits::digit_at` meets its contract. The loop's invariant: the digit of the node is that of d Ks before the tree of the node at hand. Assumes
-- nothing.
use mathlib.Core.Path.{◌≡◌}
use Rattle.table.specs.Nodes.{tree_at}
use Rattle.table.specs.Branches.{InUse}
use Rattle.weights.specs.Digits.{digit_after, digit_of}
use Rattle.weight_digits.proofs.digit_at.Given as goal

abbrev pub invariant-loop-d : goal.invariant-loop-d
invariant-loop-d l = InUse l.table l.node → InUse l.table l.at × (digit_of (tree_at l.table l.node) ≡ digit_after l.d (tree_at l.table l.at))

-- `weight_digits::read_digits` meets its contract. The loop's invariant: the digits of the node are those that are read and then those of the list at the
-- node at hand. Assumes nothing.
use Prim.Native.Nat.{◌-◌}
use mathlib.Core.Path.{◌≡◌}
use lib.ListN.{take}
use Rattle.table.specs.Nodes.{tree_at}
use Rattle.table.specs.Branches.{InUse}
use Rattle.weights.specs.Digits.{digits_in, digits_of_weight}
use Rattle.weights.specs.Claims.{NineDigits}
use Rattle.weights.proofs.Places.{after}
use Rattle.weight_digits.proofs.read_digits.Given as goal

abbrev pub invariant-loop-digit : goal.invariant-loop-digit
invariant-loop-digit l = record {
  nine : NineDigits l.digit-items;
  read : InUse l.table l.node
      → InUse l.table l.at × (digits_of_weight (tree_at l.table l.node) ≡ after (take l.digit-index l.digit-items) (digits_in (9 - l.digit-index) (tree_at l.table l.at)));
}

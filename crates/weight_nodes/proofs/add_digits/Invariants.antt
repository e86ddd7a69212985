-- `weight_nodes::add_digits` meets its contract. The loop's invariant: the digits of the sum are those that are made and then those of the digits after them
-- and the carry. Assumes nothing.
use Prim.Native.Nat.{◌≤◌}
use mathlib.Core.Path.{◌≡◌}
use lib.ListN.{take, drop}
use Rattle.weights.specs.Digits.{add_digits}
use Rattle.weights.specs.Claims.{NineDigits}
use Rattle.weights.proofs.Places.{after}
use Rattle.weight_nodes.proofs.add_digits.Given as goal

abbrev pub invariant-loop-i : goal.invariant-loop-i
invariant-loop-i l = record {
  carry : l.carry ≤ 1;
  nine : NineDigits l.digits;
  sum : add_digits l.a.digits l.b.digits 0 ≡ after (take l.i l.digits) (add_digits (drop l.i l.a.digits) (drop l.i l.b.digits) l.carry);
}

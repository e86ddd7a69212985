-- `weight_list::put_list` meets its contract. The loop's invariant: the first items are written. Assumes nothing.
use Prim.Native.Nat.{◌*◌, ◌≤◌}
use lib.ListN.{take}
use Rattle.table.specs.Wrote.{Wrote}
use Rattle.weight_list.proofs.Ways.{items}
use Rattle.weight_list.proofs.put_list.Given as goal

abbrev pub invariant-loop-d : goal.invariant-loop-d
invariant-loop-d l = record {
  at : l.at ≤ l.d-index * 20;
  written : Wrote l.initial.bytes 0 (items (take l.d-index l.fn.weight.digits)) l.at l.bytes;
}

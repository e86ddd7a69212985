-- `weight_list::put_item` meets its contract. The loop's invariant: so many Ks are written after the fork's byte. Assumes nothing.
use Prim.Native.Nat.{◌+◌}
use mathlib.Core.Path.{◌≡◌}
use Rattle.table.specs.Wrote.{Wrote}
use Rattle.weight_list.proofs.Ways.{ks}
use Rattle.weight_list.proofs.put_item.Given as goal

abbrev pub invariant-loop : goal.invariant-loop
invariant-loop l = record {
  end : l.end ≡ l.initial.end + l.counter + l.counter;
  written : Wrote l.initial.bytes l.initial.end (ks l.counter) l.end l.bytes;
}

-- `writer::put_text` meets its contract. The loop's invariant: `done` digits of the text are written. Assumes nothing.
use Prim.Native.Nat.{◌-◌}
use lib.ListN.{length}
use Rattle.table.specs.Nodes.{tree_at}
use Rattle.writer.proofs.Passes.{Puts}
use Rattle.writer.proofs.put_text.Given as goal

abbrev pub invariant-loop-next : goal.invariant-loop-next
invariant-loop-next l = Puts l.table l.used l.initial.stack l.stack (tree_at l.table l.node) l.initial.out l.out l.next l.done

abbrev pub decreases-loop-next : goal.decreases-loop-next
decreases-loop-next l = length l.out - l.done

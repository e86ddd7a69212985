-- `writer::measure` meets its contract. The loop's invariant: what is left of the digits leads to the same room. Assumes nothing.
use Rattle.table.specs.Nodes.{tree_at}
use Rattle.table.specs.Outcome.{frames}
use Rattle.ternary.specs.Write.{digits}
use Rattle.writer.proofs.Passes.{Walks}
use Rattle.writer.proofs.measure.Given as goal

abbrev pub invariant-loop-next : goal.invariant-loop-next
invariant-loop-next l = Walks l.table l.used l.initial.stack l.stack l.next l.left (digits (frames l.initial.stack) 0 (tree_at l.table l.node) l.room)

abbrev pub decreases-loop-next : goal.decreases-loop-next
decreases-loop-next l = l.left

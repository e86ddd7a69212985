-- `stages::apply_all` meets its contract. The loop's invariant: the applications left come to what all of them do. Assumes nothing.
use Rattle.stages.proofs.Ways.{Applying}
use Rattle.stages.proofs.apply_all.Given as goal

abbrev pub invariant-loop-done : goal.invariant-loop-done
invariant-loop-done l =
    Applying l.nodes l.limit l.out l.initial.table l.used l.initial.stack l.initial.node l.slots l.initial.index l.table l.stack l.index l.node l.in_use l.uses l.done

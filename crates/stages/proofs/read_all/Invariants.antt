-- `stages::read_all` meets its contract. The loop's invariant: the texts left come to what all of them do, and so many nodes are kept.
-- Assumes nothing.
use Rattle.calculus.specs.Uses.{no_uses}
use Rattle.running.specs.Tell.{tell_applies}
use Rattle.stages.proofs.Ways.{Reading}
use Rattle.stages.proofs.read_all.Given as goal

abbrev pub invariant-loop-kept : goal.invariant-loop-kept
invariant-loop-kept l =
    Reading l.packet l.count l.out (λ ns w u s. tell_applies 1 ns l.form.limit w u s l.out l.rule no_uses) l.rule l.initial.table l.used l.initial.stack l.from l.slots l.initial.index l.table l.stack l.index l.nodes l.at l.in_use l.kept

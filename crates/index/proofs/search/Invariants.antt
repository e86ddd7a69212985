-- The invariants of both loops of `index::search`: of the entries from the home on up to `at`, none is empty and none is the node.
use Prim.Native.Nat.{◌+◌, ◌-◌}
use Rattle.index.proofs.Indexing.{Passed}
use Rattle.index.proofs.search.Given as goal

abbrev pub invariant-loop-at : goal.invariant-loop-at
invariant-loop-at l = Passed l.table l.used l.slots l.index l.a l.b l.at

abbrev pub invariant-blocks-2 : goal.invariant-blocks-2
invariant-blocks-2 l = Passed l.table l.used l.slots l.index l.a l.b l.from

abbrev pub decreases-blocks-2 : goal.decreases-blocks-2
decreases-blocks-2 l = l.slots + l.used - l.from

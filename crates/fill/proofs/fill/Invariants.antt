-- `fill::fill` meets its contract. The loop keeps: the nodes below i are sound and in the index. Assumes nothing.
use mathlib.Core.Path.{◌≡◌}
use lib.ListN.{length}
use Rattle.index.specs.Index.{Ready}
use Rattle.fill.proofs.fill.Given as goal

abbrev pub invariant-loop-i : goal.invariant-loop-i
invariant-loop-i l = Ready l.table l.i l.slots l.index × (length l.index ≡ length l.initial.index)

-- The measure of `term::lay`: what is left of the tree's run.
use Prim.Native.Nat.{◌-◌}
use lib.ListN.{length}
use Rattle.term.proofs.+lay.Given as goal

abbrev pub decreases-lay : goal.decreases-lay
decreases-lay l = length l.stack.now - l.p

-- `codes::put_trees` meets its contract: the values of the trees of at most so many nodes stand at the front. Assumes nothing.
use Rattle.codes.proofs.Putting.{no_trees_put, trees_ready, trees_put}
use Rattle.codes.proofs.put_trees.Goals as goal

pub loop-n-init : goal.loop-n-init
loop-n-init c = no_trees_put _

pub put_values-at-requires : goal.put_values-at-requires
put_values-at-requires c = trees_ready _ _ _ c.requires.0 c.loop-n-test.true c.requires.1 c.loop-n.invariant c.loop-n.auto.out

pub loop-n-preserved : goal.loop-n-preserved
loop-n-preserved c = trees_put _ _ _ c.requires.0 c.loop-n-test.true c.requires.1 c.loop-n.invariant c.loop-n.auto.out c.put_values-at.ensures

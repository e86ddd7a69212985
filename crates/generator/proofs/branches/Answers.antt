-- `generator::branches` meets its contract: the digit that is picked has so many branches. Assumes nothing.
use native.Mathlib.Omega.{arith}
use Rattle.generator.proofs.Between.{fewest_branches, most_branches, wanted_between, last_taken, between_taken}
use Rattle.generator.proofs.branches.Goals as goal

pub returns-then-left-eq0 : goal.returns-then-left-eq0
returns-then-left-eq0 c = last_taken _ _ _ c.if-left-eq0.true c.requires

pub overflow_sub-wanted : goal.overflow_sub-wanted
overflow_sub-wanted c = (wanted_between _ _ c.requires).0

pub overflow_sub-left : goal.overflow_sub-left
overflow_sub-left c = omega (arith, wanted_between _ _ c.requires)

pub returns : goal.returns
returns c =
    let few = fewest_branches c.args.wanted c.from-fewest.result c.from-fewest.ensures in
    let most = most_branches c.args.left c.args.wanted c.min-most.result (wanted_between _ _ c.requires).0 c.min-most.ensures in
    between_taken _ _ _ _ _ c.if-left-eq0.false c.requires few most

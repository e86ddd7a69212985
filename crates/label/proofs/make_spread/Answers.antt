-- `label::make_spread` meets its contract: the stem has no place, or the fork is wanted after it. Assumes nothing.
use Rattle.std.proofs.Common.{arith, rules}
use Rattle.label.specs.Code.{spread_nodes}
use Rattle.table.proofs.Making.{stem_words, fork_words}
use Rattle.label.proofs.Ways.{one_stands, onward, no_place, goes_on}
use Rattle.label.proofs.make_spread.Goals as goal

pub returns-in_err-stem : goal.returns-in_err-stem
unfolding spread_nodes
returns-in_err-stem c = no_place _ _ _ _ c.make.ensures.0 c.in_err-stem.was (search rules) _ _

pub overflow_add-stem : goal.overflow_add-stem
overflow_add-stem c =
    let d = onward (λ _. one_stands c.requires.0.fine _ _ (stem_words c.requires.1)) c.make.ensures c.in_ok-stem.was in
    omega arith

pub make-requires-2 : goal.make-requires-2
make-requires-2 c =
    let d = onward (λ _. one_stands c.requires.0.fine _ _ (stem_words c.requires.1)) c.make.ensures c.in_ok-stem.was in
    (d.ready, fork_words d.inside (omega arith))

pub returns : goal.returns
unfolding spread_nodes
returns c = goes_on _ _ _ _ c.make.ensures.0 c.in_ok-stem.was _ _ c.make-2.ensures

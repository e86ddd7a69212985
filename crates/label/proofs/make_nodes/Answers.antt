-- `label::make_nodes` meets its contract: the leaf or the second branch has no place, or the whole is wanted after them. Assumes nothing.
use Rattle.std.proofs.Common.{arith, rules}
use Rattle.table.proofs.Making.{leaf_words}
use Rattle.label.proofs.Ways.{one_stands, rule_stands, onward, no_place, goes_on, of_nodes}
use Rattle.label.proofs.make_nodes.Goals as goal

pub returns-in_err-leaf : goal.returns-in_err-leaf
returns-in_err-leaf c = of_nodes _ _ _ _ _ (no_place _ _ _ _ c.make.ensures.0 c.in_err-leaf.was (search rules) _ _)

pub make_rule-requires : goal.make_rule-requires
make_rule-requires c =
    let d = onward (λ _. one_stands c.requires.0.fine _ _ leaf_words) c.make.ensures c.in_ok-leaf.was in
    (d.ready, d.inside, omega arith)

pub returns-in_err-fifth : goal.returns-in_err-fifth
returns-in_err-fifth c =
    of_nodes _ _ _ _ _ (goes_on _ _ _ _ c.make.ensures.0 c.in_ok-leaf.was _ _
    (no_place _ _ _ _ c.make_rule.ensures.0 c.in_err-fifth.was (search rules) _ _))

pub make_whole-requires : goal.make_whole-requires
make_whole-requires c =
    let d = onward (λ _. one_stands c.requires.0.fine _ _ leaf_words) c.make.ensures c.in_ok-leaf.was in
    let k = onward (λ _. rule_stands d.ready.fine _ _ d.inside (omega arith)) c.make_rule.ensures c.in_ok-fifth.was in
    (k.ready, omega arith, omega arith, k.inside)

pub returns : goal.returns
returns c =
    of_nodes _ _ _ _ _ (goes_on _ _ _ _ c.make.ensures.0 c.in_ok-leaf.was _ _
    (goes_on _ _ _ _ c.make_rule.ensures.0 c.in_ok-fifth.was _ _ c.make_whole.ensures))

-- `unlabel::unlabel_node` meets its contract: the tests of the labelled form, branch by branch. Assumes nothing.
use Rattle.std.proofs.Common.{rules}
use Rattle.unlabel.proofs.Ways.{no_fork, told_node, told_none, refused, no_labelled, no_label_branch, no_rule_branch, both_branches}
use Rattle.unlabel.proofs.unlabel_node.Goals as goal

pub returns-in_default : goal.returns-in_default
returns-in_default c = no_labelled _ _ (no_fork c.args.table.now c.args.node _ c.shape_at.ensures c.in_default.not-Fork).3

pub returns-in_err-label : goal.returns-in_err-label
returns-in_err-label c = refused (search rules) (no_label_branch c.in-Fork.ensures (told_none _ _ c.label_under.ensures c.in_err-label.was))

pub returns-in_err-rule : goal.returns-in_err-rule
returns-in_err-rule c =
    let l = told_node _ _ c.label_under.ensures c.in_ok-label.was in
    refused (search rules) (no_rule_branch c.in-Fork.ensures l.0 (told_none _ _ c.rule_under.ensures c.in_err-rule.was))

pub returns : goal.returns
returns c =
    let l = told_node _ _ c.label_under.ensures c.in_ok-label.was in
    let r = told_node _ _ c.rule_under.ensures c.in_ok-rule.was in
    both_branches c.in-Fork.ensures l.0 r.0 r.1 l.1

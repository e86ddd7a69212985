-- `term::translate_rule` meets its contract: 5, or 9 by the check for frames, or the tree that is laid out. Assumes nothing.
use native.Mathlib.Omega.{arith}
use Rattle.std.proofs.lemmas.Result.{err_from_is_err_and}
use Rattle.term.proofs.Outcomes.{lacks_rule, has_rule, refuses, refused_rule, few_frames, in_place, of_place}
use Rattle.term.proofs.translate_rule.Goals as goal

pub returns-in_err-nodes : goal.returns-in_err-nodes
returns-in_err-nodes c =
    let p = err_from_is_err_and c.from_residual.result c.from_residual.ensures.1 in
    let r = lacks_rule _ c.rule_size.ensures c.in_err-nodes.ensures.value in
    rw (p.1, p.2, r.0) (refuses _ _ _ _ (refused_rule _ _ _ _ r.1))

pub overflow_mul-nodes : goal.overflow_mul-nodes
overflow_mul-nodes c =
    let k = has_rule _ c.rule_size.ensures c.in_ok-nodes.ensures.value in
    omega (arith, k.most)

pub returns-in-Err : goal.returns-in-Err
returns-in-Err c =
    let k = has_rule _ c.rule_size.ensures c.in_ok-nodes.ensures.value in
    refuses _ _ _ _ (few_frames _ _ _ _ k (rw c.in-Err.is at c.check_frames.ensures))

pub place-requires : goal.place-requires
place-requires c =
    let k = has_rule _ c.rule_size.ensures c.in_ok-nodes.ensures.value in
    (c.requires.0, in_place c.args.table.now c.args.used _ _ k (rw c.in-Ok.is at c.check_frames.ensures) c.requires.1)

pub returns-in-Ok : goal.returns-in-Ok
returns-in-Ok c =
    let k = has_rule _ c.rule_size.ensures c.in_ok-nodes.ensures.value in
    (of_place _ _ _ _ k (rw c.in-Ok.is at c.check_frames.ensures) _ c.place.ensures.0, c.place.ensures.1)

-- `parser::expression` and `parser::operand`, which call each other, meet their contracts: the loop over operands, and each kind of operand; remaining words fall. Assumes nothing.
use mathlib.Core.Path.{refl, ap, ◌∙◌}
use native.Mathlib.Omega.{arith}
use Rattle.std.specs.Prelude.{Some}
use Rattle.parser.proofs.Phrases.{carried_start, carried_nothing, carried_after, carried_more, carried_done, carried_broken, told_phrase, told_nothing, tell, tell_nothing}
use Rattle.parser.proofs.Groups.{none_here, too_deep, group_nothing, group_told, names_less, body_room, body_none, body_told}
use Rattle.parser.proofs.+expression_operand.Goals as goal

pub expression-loop-next-init : goal.expression-loop-next-init
expression-loop-next-init t c = carried_start _ _ _ _ _ _ _ c.requires _ c.begin-waiting.ensures

pub expression-returns-in_err-next : goal.expression-returns-in_err-next
expression-returns-in_err-next t c = (tell_nothing _ _ _ _ _ _ (carried_nothing _ _ _ _ _ _ _ c.requires _ _ _ c.loop-next.invariant (told_nothing _ _ _ _ _ _ c.operand.ensures.0 c.in_err-next.was)) c.from_residual.ensures, c.operand.ensures.1 ∙ c.loop-next.invariant.same)

pub expression-after-requires : goal.expression-after-requires
expression-after-requires t c = carried_after _ _ _ _ _ _ _ c.requires _ _ _ c.loop-next.invariant _ _ _ (told_phrase _ _ _ _ _ _ c.operand.ensures.0 c.in_ok-next.was) c.operand.auto.post

pub expression-returns-in_err-more : goal.expression-returns-in_err-more
expression-returns-in_err-more t c =
    let o = told_phrase _ _ _ _ _ _ c.operand.ensures.0 c.in_ok-next.was in
    let v = c.loop-next.invariant in
    let s = c.after.ensures c.args.depth _ v.goes.p v.goes.f o.e _ in
    (tell_nothing _ _ _ _ _ _ (carried_broken _ _ _ _ _ _ _ c.requires _ _ _ v _ _ _ o _ _ s c.in_err-more.was) c.from_residual-in_err-more.ensures, c.operand.ensures.1 ∙ v.same)

pub expression-loop-next-smaller : goal.expression-loop-next-smaller
expression-loop-next-smaller t c =
    let o = told_phrase _ _ _ _ _ _ c.operand.ensures.0 c.in_ok-next.was in
    let v = c.loop-next.invariant in
    let s = c.after.ensures c.args.depth _ v.goes.p v.goes.f o.e _ in
    let g = carried_more _ _ _ _ _ _ _ c.requires _ _ _ v _ _ _ o _ _ s (c.in_ok-more.was ∙ ap Some c.in-More.is) _ c.operand.ensures.1 c.operand.auto.names (c.after.auto.post ∙ c.operand.auto.post) in
    omega (arith, g.1, g.2)

pub expression-loop-next-preserved : goal.expression-loop-next-preserved
expression-loop-next-preserved t c =
    let o = told_phrase _ _ _ _ _ _ c.operand.ensures.0 c.in_ok-next.was in
    let v = c.loop-next.invariant in
    let s = c.after.ensures c.args.depth _ v.goes.p v.goes.f o.e _ in
    (carried_more _ _ _ _ _ _ _ c.requires _ _ _ v _ _ _ o _ _ s (c.in_ok-more.was ∙ ap Some c.in-More.is) _ c.operand.ensures.1 c.operand.auto.names (c.after.auto.post ∙ c.operand.auto.post)).0

pub expression-returns-in-Done : goal.expression-returns-in-Done
expression-returns-in-Done t c =
    let o = told_phrase _ _ _ _ _ _ c.operand.ensures.0 c.in_ok-next.was in
    let v = c.loop-next.invariant in
    let s = c.after.ensures c.args.depth _ v.goes.p v.goes.f o.e _ in
    (tell (carried_done _ _ _ _ _ _ _ c.requires _ _ _ v _ _ _ o _ _ s (c.in_ok-more.was ∙ ap Some c.in-Done.is) (c.after.auto.post ∙ c.operand.auto.post)), c.operand.ensures.1 ∙ v.same)

pub operand-returns-then-words-place : goal.operand-returns-then-words-place
operand-returns-then-words-place t c = (tell_nothing _ _ _ _ _ _ (none_here _ _ _ _ c.if-words-place.true) refl, refl)

pub operand-returns-then-depth-eq0 : goal.operand-returns-then-depth-eq0
operand-returns-then-depth-eq0 t c = (tell_nothing _ _ _ _ _ _ (too_deep _ _ _ _ c.if-words-place.false c.if-t-eq-OPENING.true c.if-depth-eq0.true) refl, refl)

pub operand-returns-in_err-inner : goal.operand-returns-in_err-inner
operand-returns-in_err-inner t c = (tell_nothing _ _ _ _ _ _ (group_nothing _ _ _ _ c.if-words-place.false c.if-t-eq-OPENING.true c.if-depth-eq0.false (told_nothing _ _ _ _ _ _ c.expression.ensures.0 c.in_err-inner.was)) c.from_residual.ensures, c.expression.ensures.1)

pub operand-returns-then-t-eq-OPENING : goal.operand-returns-then-t-eq-OPENING
operand-returns-then-t-eq-OPENING t c = (rw c.close_group.ensures (group_told _ _ _ _ _ _ _ c.if-words-place.false c.if-t-eq-OPENING.true c.if-depth-eq0.false _ _ (told_phrase _ _ _ _ _ _ c.expression.ensures.0 c.in_ok-inner.was)), c.expression.ensures.1)

pub operand-returns-then-n-eq0 : goal.operand-returns-then-n-eq0
operand-returns-then-n-eq0 t c = (tell_nothing _ _ _ _ _ _ (c.open_abstractions-n.ensures.1 c.if-n-eq0.true _ _) refl, c.open_abstractions-n.ensures.0.kept)

pub operand-returns-in_err-body : goal.operand-returns-in_err-body
operand-returns-in_err-body t c =
    let v = c.open_abstractions-n.ensures.0 in
    (tell_nothing _ _ _ _ _ _ (body_none _ _ c.args.depth _ _ _ _ c.requires _ _ c.open_abstractions-n.auto.names v _ c.expression-then-t-eq-BACKSLASH.auto.post (told_nothing _ _ _ _ _ _ c.expression-then-t-eq-BACKSLASH.ensures.0 c.in_err-body.was)) c.from_residual-in_err-body.ensures, names_less _ _ _ _ v.fits c.expression-then-t-eq-BACKSLASH.ensures.1 ∙ v.kept)

pub operand-put-end-requires : goal.operand-put-end-requires
operand-put-end-requires t c = body_room _ _ c.args.depth _ _ _ _ c.requires _ _ c.open_abstractions-n.auto.names c.open_abstractions-n.ensures.0 _ c.expression-then-t-eq-BACKSLASH.auto.post _ _ (told_phrase _ _ _ _ _ _ c.expression-then-t-eq-BACKSLASH.ensures.0 c.in_ok-body.was)

pub operand-returns-then-t-eq-BACKSLASH : goal.operand-returns-then-t-eq-BACKSLASH
operand-returns-then-t-eq-BACKSLASH t c =
    let v = c.open_abstractions-n.ensures.0 in
    (tell (body_told _ _ c.args.depth _ _ _ _ c.requires _ _ c.open_abstractions-n.auto.names v _ c.expression-then-t-eq-BACKSLASH.auto.post _ _ (told_phrase _ _ _ _ _ _ c.expression-then-t-eq-BACKSLASH.ensures.0 c.in_ok-body.was) _ _ c.put-end.ensures), names_less _ _ _ _ v.fits c.expression-then-t-eq-BACKSLASH.ensures.1 ∙ v.kept)

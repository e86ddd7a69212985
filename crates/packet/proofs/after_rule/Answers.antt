-- `packet::after_rule` meets its contract. The loop's invariant: the arguments so far and the form of the fields left are the form of all.
-- Assumes nothing.
use Prim.Native.Nat.{◌-◌}
use mathlib.Core.Path.{◌≡◌, ap, ◌∙◌}
use native.Mathlib.Omega.{arith}
use Rattle.packet.specs.Code.{form_of, counted}
use Rattle.packet.proofs.Forms.{is_no_end, is_end, counted_none, left_broken, rule_other, rule_full, after_next}
use Rattle.packet.proofs.after_rule.Goals.{then-at-packet-via-then-at-packet, then-at-packet-via-else-at-packet+then-packet-at-ne2}
use Rattle.packet.proofs.after_rule.Goals as goal

pub loop-count-init : goal.loop-count-init
loop-count-init c = (c.requires, λ q. counted_none _)

pub returns-in_err-at : goal.returns-in_err-at
returns-in_err-at c =
    let l = c.loop-count in
    let p = c.args.packet.now in
    λ q. c.from_residual.ensures ∙ left_broken p l.at l.count q _ (omega arith) (is_no_end p l.at c.in_err-at.ensures) ∙ l.invariant.1 q

pub loop-count-preserved : goal.loop-count-preserved
loop-count-preserved c =
    let l = c.loop-count in
    let p = c.args.packet.now in
    let g = is_end p l.at _ c.in_ok-at.ensures in
    (omega arith, λ q. rw g.0 (after_next p l.at l.count q g.1 c.if-packet-at-ne2.false c.loop-count-test.true ∙ l.invariant.1 q))

pub returns-then-at-packet : goal.returns-then-at-packet
returns-then-at-packet c =
    let l = c.loop-count in
    let p = c.args.packet.now in
    λ q. c.after_arguments.ensures q ∙ ap (λ x. counted l.count (form_of x)) (rule_other p l.at q (8 - l.count) (λ h e. elim c.then-at-packet.branch [
      | then-at-packet-via-then-at-packet w ↦ omega arith
      | then-at-packet-via-else-at-packet+then-packet-at-ne2 w ↦ w.if-packet-at-ne2.true e
    ])) ∙ l.invariant.1 q

pub returns : goal.returns
returns c =
    let l = c.loop-count in
    let e : l.count ≡ 8 = omega arith in
    λ q. c.after_arguments-2.ensures q ∙ ap (λ x. counted 8 (form_of x)) (rule_full c.args.packet.now l.at q) ∙ (rw e at (l.invariant.1 q))

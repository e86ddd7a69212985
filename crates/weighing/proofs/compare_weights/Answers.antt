-- `weighing::compare_weights` meets its contract: 1 and 2, then 3, then 14, then the digits compared. Assumes nothing.
use mathlib.Core.Path.{refl, ap, ◌∙◌}
use native.Mathlib.Omega.{arith}
use Rattle.std.specs.Prelude.{Ok}
use Rattle.weighing.proofs.Ways.{failed, compare_no_first, compare_no_second, compare_some, compare_refused, compare_no_node, compare_in}
use Rattle.weighing.proofs.compare_weights.Goals as goal

pub returns-in_err-check : goal.returns-in_err-check
returns-in_err-check c = failed c.from_residual.ensures.1 ∙ compare_refused _ _ _ _ c.in_err-check.ensures

pub returns-then-used-a : goal.returns-then-used-a
returns-then-used-a c = compare_no_node _ _ c.in_ok-check.ensures (λ h k. grind arith)

pub returns-in_err-first : goal.returns-in_err-first
returns-in_err-first c =
    let r = c.read_digits in
    failed c.from_residual-in_err-first.ensures.1 ∙ compare_no_first r.result _ c.in_err-first.ensures.value
    ∙ compare_in _ _ c.in_ok-check.ensures c.if-used-a.false c.if-used-b.false r.ensures (λ i. refl)

pub returns-in_err-second : goal.returns-in_err-second
returns-in_err-second c =
    let r = c.read_digits in
    let s = c.read_digits-2 in
    failed c.from_residual-in_err-second.ensures.1 ∙ compare_no_second r.result s.result c.in_ok-first.ensures.value c.in_err-second.ensures.value
    ∙ compare_in _ _ c.in_ok-check.ensures c.if-used-a.false c.if-used-b.false r.ensures s.ensures

pub returns : goal.returns
returns c =
    let r = c.read_digits in
    let s = c.read_digits-2 in
    ap Ok c.compare_digits.ensures ∙ compare_some r.result s.result c.in_ok-first.ensures.value c.in_ok-second.ensures.value
    ∙ compare_in _ _ c.in_ok-check.ensures c.if-used-a.false c.if-used-b.false r.ensures s.ensures

-- `weighing::grams` meets its contract: 1 and 2, then 3, then 14 or the number of the digits. Assumes nothing.
use mathlib.Core.Path.{ap, ◌∙◌}
use Rattle.std.specs.Prelude.{Ok}
use Rattle.weighing.proofs.Ways.{failed, weigh_none, weigh_some, grams_refused, grams_no_node, grams_in}
use Rattle.weighing.proofs.grams.Goals as goal

pub returns-in_err-check : goal.returns-in_err-check
returns-in_err-check c = failed c.from_residual.ensures.1 ∙ grams_refused _ _ _ c.in_err-check.ensures

pub returns-then-used-node : goal.returns-then-used-node
returns-then-used-node c = grams_no_node _ _ c.in_ok-check.ensures c.if-used-node.true

pub returns-in_err-digits : goal.returns-in_err-digits
returns-in_err-digits c =
    let r = c.read_digits in
    failed c.from_residual-in_err-digits.ensures.1 ∙ weigh_none r.result c.in_err-digits.ensures.value ∙ grams_in _ _ c.in_ok-check.ensures c.if-used-node.false r.ensures

pub returns : goal.returns
returns c =
    let r = c.read_digits in
    ap Ok c.grams_of.ensures ∙ weigh_some r.result c.in_ok-digits.ensures.value ∙ grams_in _ _ c.in_ok-check.ensures c.if-used-node.false r.ensures

-- `weight_nodes::weight` meets its contract: 14 above the top, or the digits laid out. Assumes nothing.
use mathlib.Core.Path.{◌∙◌}
use Rattle.weight_nodes.proofs.Ways.{above_top, to_top}
use Rattle.weight_nodes.proofs.weight.Goals as goal

pub returns-then-grams-gt999999999 : goal.returns-then-grams-gt999999999
returns-then-grams-gt999999999 c = above_top c.args.table.now c.args.used c.if-grams-gt999999999.true c.refuse.ensures

pub returns : goal.returns
returns c = c.lay_digits.ensures ∙ to_top c.args.table.now c.args.used c.if-grams-gt999999999.false c.digits_of.ensures

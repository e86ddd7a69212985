-- `weight_nodes::add_weights` meets its contract: 3 for either node, 14, or the sum laid out. Assumes nothing.
use mathlib.Core.Path.{◌∙◌}
use native.Mathlib.Omega.{arith}
use Rattle.std.specs.Prelude.{Some, None}
use Rattle.weight_nodes.proofs.Ways.{no_node, refused_digits, sum_checked}
use Rattle.weight_nodes.proofs.add_weights.Goals as goal

pub returns-then-used-a : goal.returns-then-used-a
returns-then-used-a c = no_node c.args.table.now c.args.used (λ h k. grind arith) c.refuse.ensures

pub returns-in-Some : goal.returns-in-Some
returns-in-Some c = c.lay_digits.ensures ∙ sum_checked c.args.table.now c.args.used c.if-used-a.false c.if-used-b.false (Some c.in-Some.sum) c.in-Some.ensures

pub returns-in-None : goal.returns-in-None
returns-in-None c =
    let a = c.args in
    refused_digits a.table.now a.used c.refuse-in-None.ensures ∙ sum_checked a.table.now a.used c.if-used-a.false c.if-used-b.false None c.in-None.ensures

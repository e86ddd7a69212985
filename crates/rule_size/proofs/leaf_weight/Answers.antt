-- `rule_size::leaf_weight` meets its contract. Assumes nothing.
use mathlib.Core.Path.{◌≡◌, refl, ap, ◌∙◌}
use native.Mathlib.Omega.{arith}
use Rattle.rule_size.specs.Weight.{leaf_weight}
use Rattle.rule_size.proofs.Weights.{leaf_weight_most, leaf_weight_more}
use Rattle.rule_size.proofs.leaf_weight.Goals as goal

pub loop-init : goal.loop-init
unfolding leaf_weight
loop-init c = refl

pub overflow_mul-u : goal.overflow_mul-u
overflow_mul-u c = omega (arith, leaf_weight_most c.loop.counter (omega arith))

pub loop-preserved : goal.loop-preserved
loop-preserved c = leaf_weight_more c.loop.counter c.loop.invariant

pub returns : goal.returns
returns c = let e : c.loop.counter ≡ c.args.depth = omega arith in c.loop.invariant ∙ ap leaf_weight e

-- `label::make_rule` meets its contract: KK has no place, or the spread is wanted after it. Assumes nothing.
use Rattle.std.proofs.Common.{arith, rules}
use Rattle.label.specs.Code.{rule_nodes}
use Rattle.label.proofs.Ways.{constant_stands, onward, no_place, goes_on}
use Rattle.label.proofs.make_rule.Goals as goal

pub returns-in_err-third : goal.returns-in_err-third
unfolding rule_nodes
returns-in_err-third c = no_place _ _ _ _ c.make_constant.ensures.0 c.in_err-third.was (search rules) _ _

pub make_spread-requires : goal.make_spread-requires
make_spread-requires c =
    let d = onward (λ _. constant_stands c.requires.0.fine _ c.requires.1) c.make_constant.ensures c.in_ok-third.was in
    (d.ready, omega arith, d.inside)

pub returns : goal.returns
unfolding rule_nodes
returns c = goes_on _ _ _ _ c.make_constant.ensures.0 c.in_ok-third.was _ _ c.make_spread.ensures

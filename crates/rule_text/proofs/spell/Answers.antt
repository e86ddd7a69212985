-- `rule_text::spell` meets its contract: each byte in turn. Assumes nothing.
use native.Mathlib.Omega.{arith}
use mathlib.Core.Path.{refl}
use Rattle.rule_text.proofs.Spelling.{spelled_none, spelled_more, spelled_all}
use Rattle.rule_text.proofs.spell.Goals as goal

pub loop-i-init : goal.loop-i-init
loop-i-init c = spelled_none _ _

pub loop-i-preserved : goal.loop-i-preserved
loop-i-preserved c = spelled_more _ _ _ _ _ _ c.loop-i.invariant c.loop-i-test.true (omega (arith, c.loop-i.invariant.same)) c.digit.ensures c.digit-in-loop-i.ensures

pub returns : goal.returns
returns c = (refl, spelled_all _ _ _ _ (omega arith) c.loop-i.invariant)

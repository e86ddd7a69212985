-- `rule_text::spell` meets its contract: each byte in turn. Assumes nothing.
use Rattle.rule_text.proofs.Spelling.{Spelled}
use Rattle.rule_text.proofs.spell.Given as goal

abbrev pub invariant-loop-i : goal.invariant-loop-i
invariant-loop-i l = Spelled l.bytes l.initial.line l.line l.i

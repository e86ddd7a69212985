-- `lexer::lex` meets its contract: each byte in turn. Assumes nothing.
use native.Mathlib.Omega.{arith}
use mathlib.Core.Path.{◌∙◌, ap, sym}
use mathlib.Core.Bool.{not}
use Rattle.lexer.proofs.Lexing.{lexing_start, lexing_letter, lexing_space, lexing_sign}
use Rattle.lexer.proofs.lex.Goals as goal

pub loop-b-init : goal.loop-b-init
loop-b-init c = lexing_start _ _

pub loop-b-preserved-then-is_ascii_lowercase : goal.loop-b-preserved-then-is_ascii_lowercase
loop-b-preserved-then-is_ascii_lowercase c = rw c.from.ensures (lexing_letter _ _ _ _ _ _ _ c.loop-b.invariant c.loop-b-test.true (sym c.if-is_ascii_lowercase.true ∙ c.is_ascii_lowercase.ensures.value) c.if-k-eq-MOST_LETTERS.false (omega (arith, c.type_inv.text c.loop-b.b-index)))

pub loop-b-preserved-then-b-eq32 : goal.loop-b-preserved-then-b-eq32
loop-b-preserved-then-b-eq32 c = lexing_space _ _ _ _ _ _ _ c.loop-b.invariant c.loop-b-test.true (sym c.if-is_ascii_lowercase.false ∙ c.is_ascii_lowercase.ensures.value) _ _ c.flush-n.auto.words c.flush-n.ensures c.if-b-eq32.true

pub loop-b-preserved : goal.loop-b-preserved
loop-b-preserved c = rw c.from-in-loop-b.ensures (lexing_sign _ _ _ _ _ _ _ c.loop-b.invariant c.loop-b-test.true (sym c.if-is_ascii_lowercase.false ∙ c.is_ascii_lowercase.ensures.value) _ _ c.flush-n.auto.words c.flush-n.ensures c.if-b-eq32.false c.is_sign.result c.is_sign.ensures (ap not c.if-not-is_sign.false) (omega (arith, c.flush-n.ensures.most, c.loop-b.invariant.few, c.loop-b.invariant.same, c.flush-n.auto.words)))

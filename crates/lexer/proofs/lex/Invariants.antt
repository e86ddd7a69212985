-- `lexer::lex` meets its contract: each byte in turn. Assumes nothing.
use Rattle.lexer.proofs.Lexing.{Lexing}
use Rattle.lexer.proofs.lex.Given as goal

abbrev pub invariant-loop-b : goal.invariant-loop-b
invariant-loop-b l = Lexing l.text l.initial.words l.words l.b-index l.n l.k l.w

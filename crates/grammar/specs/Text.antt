-- Which texts have a reading, and the reader that finds it ([3]). Assumes nothing: these are definitions.
use Rattle.std.specs.Prelude.{ℕ, ◌≤◌, cond, List, [], ◌∷◌, length, leb}
use Rattle.std.proofs.Math.Option.{Option, none, some}
use Rattle.grammar.specs.Tokens.{Token, Spells}
use Rattle.grammar.specs.Expression.{Expression}
use Rattle.grammar.specs.Grammar.{Level, Reads}
use Rattle.grammar.specs.Words.{tokens, lex}
use Rattle.grammar.specs.Reader.{Read, nothing, read, empty, parse}

-- "Parentheses nest at most 32 deep; text has at most 8,192 bytes.": the text reads as e, under no name.
pub record IsText (text : List ℕ) (e : Expression) : Type 0 where
  pub tokens : List Token
  pub spelled : Spells text tokens
  pub reads : Reads [] 32 Level.expression tokens e []
  pub short : length text ≤ 8192

-- What follows finds the reading of a text; the theorem `text_exact` says that it finds e exactly where IsText holds.

unfoldable pub all_read : Read → Option Expression
all_read nothing = none
all_read (read e []) = some e
all_read (read e (t ∷ r)) = none

unfoldable pub of_words : Option (List ℕ) → Option Expression
of_words none = none
of_words (some ws) = all_read (parse 32 [] empty (tokens ws))

unfoldable pub read_text : List ℕ → Option Expression
read_text l = cond (leb (length l) 8192) (of_words (lex 0 0 l)) none

-- What the functions ask. Assumes nothing: these are definitions.
use Rattle.std.specs.Prelude.{ℕ, ◌*◌, ◌≤◌, ◌≡◌, List, length, take}
use Rattle.calculus.specs.Term.{ClosedUnder}
use Rattle.grammar.specs.Expression.{Expression}
use Rattle.grammar.specs.Meaning.{term_of}
use Rattle.grammar.specs.Postfix.{postfix}

-- the first symbols are those of e, whose term has no variable from outside
pub record Stands (e : Expression) (post : List ℕ) (end : ℕ) : Type 0 where
  pub stands : take end post ≡ postfix e
  pub closed : ClosedUnder 0 (term_of e)
  pub within : end ≤ length post
  pub few : end ≤ 16384

pub record StandsSome (post : List ℕ) (end : ℕ) : Type 0 where
  pub e : Expression
  pub is : Stands e post end

-- room for the names and the symbols of so many words: an abstraction takes three words, and two symbols are enough for a word
pub record WordRoom (words names post : List ℕ) : Type 0 where
  pub few : length words ≤ 8192
  pub names_enough : length words ≤ 3 * length names
  pub names_few : length names ≤ 8192
  pub space : 2 * length words ≤ length post
  pub post_few : length post ≤ 16384

-- room for the words of a text too, of which it has one a byte at most
pub record TextRoom (text words names post : List ℕ) : Type 0 where
  pub few : length text ≤ 8192
  pub words_enough : length text ≤ length words
  pub names_enough : length text ≤ 3 * length names
  pub names_few : length names ≤ 8192
  pub space : 2 * length text ≤ length post
  pub post_few : length post ≤ 16384

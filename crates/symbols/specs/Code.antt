-- What the functions ask and give, in terms of the term. Assumes nothing: these are definitions.
use Rattle.std.specs.Prelude.{ℕ, ◌≤◌, ◌<◌, ◌≡◌, List, ◌++◌, length, take}
use Rattle.calculus.specs.Term.{nesting}
use Rattle.grammar.specs.Expression.{Expression, leaf, var, app, abs, not, and, or, implies}
use Rattle.grammar.specs.Meaning.{term_of}
use Rattle.grammar.specs.Postfix.{postfix}

-- every variable fits a byte
abbrev pub Small : Expression → Type 0
Small leaf = Unit {0}
Small (var i) = i < 256
Small (app f a) = Small f × Small a
Small (abs b) = Small b
Small (not a) = Small a
Small (and a b) = Small a × Small b
Small (or a b) = Small a × Small b
Small (implies a b) = Small a × Small b

-- the symbols of some e stand before p
pub record NestsAsks (post : List ℕ) (p : ℕ) : Type 0 where
  pub e : Expression
  pub xs : List ℕ
  pub stands : take p post ≡ xs ++ postfix e
  pub within : p ≤ length post
  pub few : p ≤ 16384

-- where the symbols of e begin, and how many abstractions nest in its term
pub record Nests (e : Expression) (xs : List ℕ) (from nests : ℕ) : Type 0 where
  pub begins : from ≡ length xs
  pub deep : nests ≡ nesting (term_of e)

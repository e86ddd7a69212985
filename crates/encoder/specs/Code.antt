-- What the functions ask and give, in terms of the term and its bytes. Assumes nothing: these are definitions.
use Rattle.std.specs.Prelude.{ℕ, ◌+◌, ◌≤◌, ◌≡◌, List, ◌++◌, length, take, drop}
use Rattle.calculus.specs.Bytes.{bytes}
use Rattle.grammar.specs.Expression.{Expression}
use Rattle.grammar.specs.Meaning.{term_of}
use Rattle.grammar.specs.Postfix.{postfix}
use Rattle.symbols.specs.Code.{Small}

-- xs are written before o, from r on, and nothing else changes
pub record Laid (l : List ℕ) (o : ℕ) (xs : List ℕ) (r : ℕ) (m : List ℕ) : Type 0 where
  pub ends : r + length xs ≡ o
  pub stored : drop r m ≡ xs ++ drop o l
  pub kept : take r m ≡ take r l

-- the symbols of e stand before p, after xs, and its bytes have room before o
pub record EncodeAt (e : Expression) (xs post : List ℕ) (p : ℕ) (out : List ℕ) (o : ℕ) : Type 0 where
  pub stands : take p post ≡ xs ++ postfix e
  pub within : p ≤ length post
  pub room : length (bytes (term_of e)) ≤ o
  pub inside : o ≤ length out
  pub small : Small e

pub record EncodeAsks (post : List ℕ) (p : ℕ) (out : List ℕ) (o : ℕ) : Type 0 where
  pub e : Expression
  pub xs : List ℕ
  pub is : EncodeAt e xs post p out o

-- where the symbols and the bytes of e begin, and that the bytes are written
pub record EncodeGives (e : Expression) (xs out : List ℕ) (o from at : ℕ) (m : List ℕ) : Type 0 where
  pub begins : from ≡ length xs
  pub laid : Laid out o (bytes (term_of e)) at m

-- A term without abstraction as a run of words, and what the functions that read and write such runs ask and give.
-- Assumes nothing: these are definitions.
use Rattle.std.specs.Prelude.{ℕ, ◌+◌, ◌*◌, ◌≤◌, ◌≡◌, List, [], ◌∷◌, ◌++◌, length, take, drop}
use Rattle.std.proofs.lemmas.List.Edits.{sets}
use Rattle.calculus.specs.Term.{Term}
use Rattle.calculus.specs.Bytes.{bytes}
use Rattle.calculus.specs.Abstraction.{Combination, leaf, app, var, bracket, translate}

-- Function part before argument. A leaf is 0, the variable i is 2i + 1, and an application is twice the number of its function part's words, so
-- that the argument's place is known without a look at the function part.
unfoldable pub words : Combination → List ℕ
words leaf = 0 ∷ []
words (app u v) = 2 * length (words u) ∷ (words u ++ words v)
words (var i) = (2 * i + 1) ∷ []

-- xs stands in s from index p on
unfoldable pub Holds : List ℕ → ℕ → List ℕ → Type 0
Holds s p xs = drop p s ≡ xs ++ drop (p + length xs) s

-- a term's words stand in s from p on and end before q, and those of its bracket abstraction have room from q on
pub record BracketAt (s : List ℕ) (p q : ℕ) : Type 0 where
  pub body : Combination
  pub stands : Holds s p (words body)
  pub apart : p + length (words body) ≤ q
  pub room : q + length (words (bracket body)) ≤ length s
  pub short : length s ≤ 65536

-- the words xs are written to d from q on, and e is the place after them
pub record Written (d : List ℕ) (q : ℕ) (xs : List ℕ) (e : ℕ) (d' : List ℕ) : Type 0 where
  pub end : e ≡ q + length xs
  pub stored : d' ≡ sets d q xs

-- the words of a rule's translation
abbrev pub run : Term → List ℕ
run t = words (translate t)

-- a term stands in b from at on, and the words of its translation have room in s from w up to q, and once more from q on
pub record BuildAt (b : List ℕ) (at : ℕ) (s : List ℕ) (w q : ℕ) : Type 0 where
  pub read : Term
  pub stands : Holds b at (bytes read)
  pub room : w + length (run read) ≤ q
  pub space : q + length (run read) ≤ length s
  pub short : length s ≤ 65536

-- the term's bytes end at next, the words of its translation stand in s' from w up to end, and the words before w are those of s
pub record Builds (at w : ℕ) (t : Term) (next end : ℕ) (s s' : List ℕ) : Type 0 where
  pub read : next ≡ at + length (bytes t)
  pub ends : end ≡ w + length (run t)
  pub stands : Holds s' w (run t)
  pub before : take w s' ≡ take w s
  pub same_length : length s' ≡ length s

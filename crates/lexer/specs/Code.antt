-- What the functions of the reader of text ask and give. Assumes nothing: these are definitions.
use Rattle.std.specs.Prelude.{ℕ, zero, suc, ◌+◌, ◌≤◌, ◌≡◌, List, [], ◌∷◌, ◌++◌, length, take}
use Rattle.std.specs.Prelude as code
use Rattle.std.proofs.Math.Option.{Option, none, some}

-- the word of a name of k letters, where there is one
unfoldable pub name_of : ℕ → ℕ → List ℕ
name_of zero w = []
name_of (suc k) w = w ∷ []

-- a name of k letters is ended: its word, where there is one, stands after the first n words
pub record Flushed (l : List ℕ) (n k w r : ℕ) (m : List ℕ) : Type 0 where
  pub front : take r m ≡ take n l ++ name_of k w
  pub least : n ≤ r
  pub most : r ≤ n + k
  pub inside : r ≤ length l

-- the first r words are those of the text, one a byte at most; or it has none
unfoldable pub Lexes : Option (List ℕ) → ℕ → List ℕ → code.Option ℕ → Type 0
Lexes o n words (code.Some r) = (o ≡ some (take r words)) × (r ≤ n) × (r ≤ length words)
Lexes o n words code.None = o ≡ none

-- What the code's own values say in terms of the definitions, and what Read's inner functions ask. Assumes nothing: these are definitions.
use Rattle.std.specs.Prelude.{ℕ, zero, suc, ◌-◌, ◌*◌, ◌≤◌, ◌<◌, ◌≡◌, List, [], ◌∷◌, length, get_or}
use Rattle.std.specs.Prelude as code
use Rattle.std.specs.Prelude.{Some, None}
use Rattle.std.proofs.Math.Option.{none, some}
use Rattle.calculus.specs.Tree.{Tree}
use Rattle.table.specs.Outcome.{frames}
use Rattle.ternary.specs.Text.{tree_of, most_pending}
use Rattle.ternary.specs.Read.{readable}
use Rattle.whole_text.specs.Code.{ScanSays}

-- what the test of a text says: the most trees pending, where Read takes it
unfoldable pub PendingSays : List ℕ → code.Option ℕ → Type 0
PendingSays l (Some m) = (length l ≤ 65535) × ScanSays l (Some m)
PendingSays l None = readable l ≡ none

-- the nodes in the lowest n frames of a stack, that of the last frame first
unfoldable pub nodes_in : List ℕ → ℕ → List ℕ
nodes_in s zero = []
nodes_in s (suc n) = get_or s (n * 3) 0 ∷ nodes_in s n

-- c is a digit, and its branches are pending: nodes in use, in frames
pub record TakesDigit (u : ℕ) (s : List ℕ) (held c : ℕ) : Type 0 where
  pub from_leaf : 48 ≤ c
  pub to_fork : c ≤ 50
  pub branches : c - 48 ≤ held
  pub frames_held : held * 3 ≤ length s
  pub in_use : (k : ℕ) → k < held → get_or s (k * 3) 0 < u

-- a whole text, and a frame for each tree pending
pub record LaysText (s l : List ℕ) : Type 0 where
  pub tree : Tree
  pub tree_is : tree_of l ≡ some tree
  pub frames_free : most_pending l ≤ frames s

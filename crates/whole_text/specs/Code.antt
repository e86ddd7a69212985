-- What the code's own values say in terms of the definitions. Assumes nothing: these are definitions.
use Rattle.std.specs.Prelude.{ℕ, ◌≡◌, List, Option, Some, None}
use Rattle.std.proofs.Math.Option as math
use Rattle.calculus.specs.Tree.{Tree}
use Rattle.ternary.specs.Text.{tree_of, most_pending}

-- the number wanted, where there is one
unfoldable pub wanted_of : Option ℕ → math.Option ℕ
wanted_of (Some n) = math.some n
wanted_of None = math.none

-- what a scan says of a text: the most trees pending, where the text is one whole tree
unfoldable pub ScanSays : List ℕ → Option ℕ → Type 0
ScanSays l (Some n) = (t : Tree) × (tree_of l ≡ math.some t) × (n ≡ most_pending l)
ScanSays l None = tree_of l ≡ math.none

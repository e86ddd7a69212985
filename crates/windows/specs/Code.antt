-- What the searches find on a day, in terms of the definitions. Assumes nothing: these are definitions.
use Rattle.std.specs.Prelude.{ℕ, cond, List, [], ◌∷◌, leb, eqb, Option, Some, None}
use Rattle.std.proofs.Math.Option.{none, some}
use Rattle.std.proofs.Math.Option as math
use Rattle.week.specs.declared.Window.{Window}

-- the number found, where there is one
unfoldable pub found_of : Option ℕ → math.Option ℕ
found_of (Some n) = some n
found_of None = none

-- the first minute of the first window, before a place without a packet, that begins at the minute m or later
unfoldable pub first_from : ℕ → List Window → math.Option ℕ
first_from m [] = none
first_from m (w ∷ ws) = cond (eqb w.packet 0) none (cond (leb m w.first) (some w.first) (first_from m ws))

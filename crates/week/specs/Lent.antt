-- How a week is lent to the exported functions: 84 numbers, seven days of four places of first, end and packet. Assumes nothing: these are definitions.
use Rattle.std.specs.Prelude.{ℕ, ◌+◌, cond, List, [], ◌∷◌, ◌++◌, eqb, length, get_or, Err}
use Rattle.table.specs.declared.Refusal.TheVariants.{Week}
use Rattle.table.specs.Refusal.{Given}
use Rattle.week.specs.declared.Window.{Window}

-- the place, and the day, whose numbers begin at k
unfoldable pub place_of : List ℕ → ℕ → Window
place_of ns k = record { first = get_or ns k 0; end = get_or ns (k + 1) 0; packet = get_or ns (k + 2) 0 }

unfoldable pub day_of : List ℕ → ℕ → List Window
day_of ns k = place_of ns k ∷ place_of ns (k + 3) ∷ place_of ns (k + 6) ∷ place_of ns (k + 9) ∷ []

unfoldable pub week_of : List ℕ → List (List Window)
week_of ns = day_of ns 0 ∷ day_of ns 12 ∷ day_of ns 24 ∷ day_of ns 36 ∷ day_of ns 48 ∷ day_of ns 60 ∷ day_of ns 72 ∷ []

-- the numbers of a day's places, and of a week's days, in order
unfoldable pub day_numbers : List Window → List ℕ
day_numbers [] = []
day_numbers (w ∷ ws) = w.first ∷ w.end ∷ w.packet ∷ day_numbers ws

unfoldable pub week_numbers : List (List Window) → List ℕ
week_numbers [] = []
week_numbers (day ∷ days) = day_numbers day ++ week_numbers days

-- the answer for a week that is lent as numbers; any count but 84 is a broken week
unfoldable pub lent : (List (List Window) → ℕ → ℕ → Given) → List ℕ → ℕ → ℕ → Given
lent answer ns day minute = cond (eqb (length ns) 84) (answer (week_of ns) day minute) (Err Week)

-- A week of windows, the packet at a minute, and the minutes until the next window begins (document 02, [6]). A week is the list of its days, a day the list
-- of its places. Assumes nothing: these are definitions.
use Rattle.std.specs.Prelude.{ℕ, suc, ◌+◌, ◌-◌, ◌*◌, Bool, true, cond, ◌&&◌, List, [], ◌∷◌, ◌++◌, map, leb, ltb, eqb, length, get_or, Err}
use Rattle.std.proofs.Math.Option.{Option, none, some}
use Rattle.table.specs.declared.Refusal.TheVariants.{Week}
use Rattle.table.specs.Refusal.{Given, given_by}
use Rattle.week.specs.declared.Window.{Window}

-- "a window being a first minute, an end minute and a packet number from 1 to 28. Minutes run from 0 to 1,440, the first below the end" ([6])
unfoldable pub is_window : Window → Bool
is_window w = ltb w.first w.end && (leb w.end 1440 && (leb 1 w.packet && leb w.packet 28))

-- "An unused place is three zeros" ([6])
unfoldable pub is_unused : Window → Bool
is_unused w = eqb w.first 0 && (eqb w.end 0 && eqb w.packet 0)

unfoldable pub all_unused : List Window → Bool
all_unused [] = true
all_unused (w ∷ ws) = is_unused w && all_unused ws

-- "Windows of a day ascend and don't overlap; the end of one may be the first of the next. An unused place is three zeros and comes after the used ones." ([6]):
-- the places that follow a window that ends at the minute m; all places of a day with m = 0
unfoldable pub is_day_from : ℕ → List Window → Bool
is_day_from m [] = true
is_day_from m (w ∷ ws) = cond (is_unused w) (all_unused ws) (is_window w && (leb m w.first && is_day_from w.end ws))

-- a day of four places
unfoldable pub is_day : List Window → Bool
is_day day = eqb (length day) 4 && is_day_from 0 day

unfoldable pub all_days : List (List Window) → Bool
all_days [] = true
all_days (day ∷ days) = is_day day && all_days days

-- "A week is seven days of at most four windows each" ([6])
unfoldable pub is_week : List (List Window) → Bool
is_week week = eqb (length week) 7 && all_days week

-- "Given day (0 to 6) and minute (0 to 1,439)"; "Checks: 13, a broken week, day or minute, before all else." ([6])
unfoldable pub passes : List (List Window) → ℕ → ℕ → Bool
passes week day minute = leb day 6 && (leb minute 1439 && is_week week)

unfoldable pub checked : List (List Window) → ℕ → ℕ → Option ℕ → Given
checked week day minute answer = cond (passes week day minute) (given_by answer) (Err Week)

-- "the first belongs to the window, the end doesn't" ([6])
unfoldable pub holds : ℕ → Window → Bool
holds m w = leb w.first m && ltb m w.end

-- the packet of the window among these that holds the minute m
unfoldable pub packet_at : ℕ → List Window → Option ℕ
packet_at m [] = none
packet_at m (w ∷ ws) = cond (holds m w) (some w.packet) (packet_at m ws)

-- "Given day (0 to 6) and minute (0 to 1,439) the layer gives the packet number, or none exactly when no window holds that minute." ([6])
unfoldable pub window_at : List (List Window) → ℕ → ℕ → Given
window_at week day minute = checked week day minute (packet_at minute (get_or week day []))

-- the minute of the week that a day's minute is
unfoldable pub week_minute : ℕ → ℕ → ℕ
week_minute day minute = day * 1440 + minute

-- the minutes from one minute of the week to another, "wrapping once past the week's end" ([6]): a week has 10,080
unfoldable pub until : ℕ → ℕ → ℕ
until from to = cond (leb from to) (to - from) (to + 10080 - from)

-- the minutes of the week at which the windows of day d begin, and those of this day and the days after it
unfoldable pub day_begins : ℕ → List Window → List ℕ
day_begins d [] = []
day_begins d (w ∷ ws) = cond (is_window w) (week_minute d w.first ∷ day_begins d ws) (day_begins d ws)

unfoldable pub week_begins : ℕ → List (List Window) → List ℕ
week_begins d [] = []
week_begins d (day ∷ days) = day_begins d day ++ week_begins (suc d) days

-- the least of some numbers
unfoldable pub least_of : ℕ → Option ℕ → Option ℕ
least_of n none = some n
least_of n (some m) = some (cond (leb n m) n m)

unfoldable pub least : List ℕ → Option ℕ
least [] = none
least (n ∷ ns) = least_of n (least ns)

-- "the minutes until the next window begins, wrapping once past the week's end; a window beginning now counts as 0, and a week without windows has none" ([6])
unfoldable pub next_window : List (List Window) → ℕ → ℕ → Given
next_window week day minute = checked week day minute (least (map (until (week_minute day minute)) (week_begins 0 week)))

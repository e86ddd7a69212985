-- Worked examples: borders of windows, days that are right and days that are not, the next beginning this week and next week. Assumes nothing.
use Prim.Native.Nat.{ℕ, ◌+◌, ◌*◌}
use mathlib.Core.Path.{◌≡◌, refl}
use mathlib.Core.Bool.{true, false}
use mathlib.Core.List.{List, [], ◌∷◌, ◌++◌, map}
use lib.ListN.{length, replicate}
use Rattle.std.specs.Prelude.{Some, None, Ok, Err}
use Rattle.table.specs.declared.Refusal.TheVariants.{Week}
use Rattle.table.specs.Refusal.{given_by}
use Rattle.week.specs.declared.Window.{Window}
use Rattle.week.specs.Weeks.{is_window, is_unused, all_unused, is_day_from, is_day, all_days, is_week, passes, checked, holds, packet_at, window_at, week_minute, until, day_begins, week_begins, least, least_of, next_window}
use Rattle.week.specs.Lent.{place_of, day_of, week_of, lent}
use Rattle.week.specs.Claims.{unused}

abbrev window : ℕ → ℕ → ℕ → Window
window f e p = record { first = f; end = e; packet = p }

abbrev no_windows : List Window
no_windows = unused ∷ unused ∷ unused ∷ unused ∷ []

-- two windows that adjoin
abbrev several : List Window
several = window 360 720 1 ∷ window 720 1080 28 ∷ unused ∷ unused ∷ []

-- these on the first day, and one up to the end of the last
abbrev example : List (List Window)
example = several ∷ no_windows ∷ no_windows ∷ no_windows ∷ no_windows ∷ no_windows ∷ (window 1320 1440 7 ∷ unused ∷ unused ∷ unused ∷ []) ∷ []

-- one window, on day 3
abbrev single : List (List Window)
single = no_windows ∷ no_windows ∷ no_windows ∷ (window 600 601 2 ∷ unused ∷ unused ∷ unused ∷ []) ∷ no_windows ∷ no_windows ∷ no_windows ∷ []

abbrev empty : List (List Window)
empty = no_windows ∷ no_windows ∷ no_windows ∷ no_windows ∷ no_windows ∷ no_windows ∷ no_windows ∷ []

-- "the first belongs to the window, the end doesn't"; "the end of one may be the first of the next" ([6])
pub at_borders : map (window_at example 0) (359 ∷ 360 ∷ 719 ∷ 720 ∷ 1079 ∷ 1080 ∷ []) ≡ Ok None ∷ Ok (Some 1) ∷ Ok (Some 1) ∷ Ok (Some 28) ∷ Ok (Some 28) ∷ Ok None ∷ []
unfolding window_at checked passes is_week all_days is_day is_day_from is_window is_unused all_unused packet_at holds given_by
at_borders = refl

pub at_the_end : map (window_at example 6) (1319 ∷ 1320 ∷ 1439 ∷ 1440 ∷ []) ≡ Ok None ∷ Ok (Some 7) ∷ Ok (Some 7) ∷ Err Week ∷ []
unfolding window_at checked passes is_week all_days is_day is_day_from is_window is_unused all_unused packet_at holds given_by
at_the_end = refl

-- "a window beginning now counts as 0" ([6]); from 721 on day 0 it is 6 days and 599 minutes to day 6 at 1,320
pub ahead : map (next_window example 0) (0 ∷ 360 ∷ 361 ∷ 720 ∷ 721 ∷ []) ≡ Ok (Some 360) ∷ Ok (Some 0) ∷ Ok (Some 359) ∷ Ok (Some 0) ∷ Ok (Some (6 * 1440 + 599)) ∷ []
unfolding next_window checked passes is_week all_days is_day is_day_from is_window is_unused all_unused given_by least least_of week_begins day_begins until week_minute
ahead = refl

-- "wrapping once past the week's end" ([6]): from the last minute of the week it is one minute to the next week and 360 to its first window
pub wrapped : map (next_window example 6) (1319 ∷ 1320 ∷ 1321 ∷ 1439 ∷ []) ≡ Ok (Some 1) ∷ Ok (Some 0) ∷ Ok (Some (119 + 360)) ∷ Ok (Some 361) ∷ []
unfolding next_window checked passes is_week all_days is_day is_day_from is_window is_unused all_unused given_by least least_of week_begins day_begins until week_minute
wrapped = refl

-- an earlier window of the same day counts for next week, which is 10,080 minutes later; "a week without windows has none" ([6])
pub same_day : (map (next_window single 3) (599 ∷ 600 ∷ 601 ∷ []) ≡ Ok (Some 1) ∷ Ok (Some 0) ∷ Ok (Some 10079) ∷ []) × (next_window empty 3 600 ≡ Ok None)
unfolding next_window checked passes is_week all_days is_day is_day_from is_window is_unused all_unused given_by least least_of week_begins day_begins until week_minute
same_day = (refl, refl)

-- days that are right: windows that adjoin, that fill the day, with packets 1 and 28; and no window at all
pub right_days : map (is_day_from 0) ((window 0 1 1 ∷ window 1 2 28 ∷ window 2 3 1 ∷ window 3 1440 1 ∷ []) ∷ (window 0 1440 28 ∷ unused ∷ unused ∷ unused ∷ []) ∷ no_windows ∷ []) ≡ true ∷ true ∷ true ∷ []
unfolding is_day_from is_window is_unused all_unused
right_days = refl

abbrev alone : Window → List Window
alone w = w ∷ unused ∷ unused ∷ unused ∷ []

-- places that are neither a window nor unused: first not below end, end above 1,440, packet outside 1 to 28, one of three zeros missing
pub broken_places : map (is_day_from 0) (map alone (window 600 600 1 ∷ window 601 600 1 ∷ window 1439 1441 1 ∷ window 600 700 0 ∷ window 600 700 29 ∷ window 0 0 1 ∷ window 0 1 0 ∷ window 1 0 0 ∷ []))
    ≡ false ∷ false ∷ false ∷ false ∷ false ∷ false ∷ false ∷ false ∷ []
unfolding is_day_from is_window is_unused all_unused
broken_places = refl

-- days in which windows overlap, do not ascend, are twice there, or stand after an unused place
pub broken_days : map (is_day_from 0)
    ((window 600 700 1 ∷ window 699 800 2 ∷ unused ∷ unused ∷ []) ∷ (window 700 800 2 ∷ window 600 700 1 ∷ unused ∷ unused ∷ [])
    ∷ (window 600 700 1 ∷ window 600 700 1 ∷ unused ∷ unused ∷ []) ∷ (unused ∷ window 600 700 1 ∷ unused ∷ unused ∷ [])
    ∷ (window 600 700 1 ∷ unused ∷ unused ∷ window 700 800 1 ∷ []) ∷ [])
    ≡ false ∷ false ∷ false ∷ false ∷ false ∷ []
unfolding is_day_from is_window is_unused all_unused
broken_days = refl

-- a wrap to a day with several earlier windows is to the first of them: from 1,080 on day 0 of the week that has only this day's, 10,080 less 720
pub first_of_several : next_window (several ∷ no_windows ∷ no_windows ∷ no_windows ∷ no_windows ∷ no_windows ∷ no_windows ∷ []) 0 1080 ≡ Ok (Some 9360)
unfolding next_window checked passes is_week all_days is_day is_day_from is_window is_unused all_unused given_by least least_of week_begins day_begins until week_minute
first_of_several = refl

-- "13, a broken week, day or minute, before all else" ([6]): a day above 6, a minute above 1,439, and a day that is broken, though another is asked for
pub refusals : (map (λ (d : ℕ). window_at example d 0) (6 ∷ 7 ∷ []) ≡ Ok None ∷ Err Week ∷ []) × (map (next_window example 6) (1439 ∷ 1440 ∷ []) ≡ Ok (Some 361) ∷ Err Week ∷ [])
    × (window_at (several ∷ no_windows ∷ no_windows ∷ no_windows ∷ no_windows ∷ no_windows ∷ alone (window 0 1 29) ∷ []) 0 360 ≡ Err Week)
    × (next_window (several ∷ no_windows ∷ no_windows ∷ no_windows ∷ no_windows ∷ no_windows ∷ alone (window 0 1 29) ∷ []) 0 360 ≡ Err Week)
unfolding window_at next_window checked passes is_week all_days is_day is_day_from is_window is_unused all_unused packet_at holds given_by least least_of week_begins day_begins until week_minute
refusals = (refl, refl, refl, refl)

-- the numbers of the first week above, and one number less or more
abbrev numbers : List ℕ
numbers = (360 ∷ 720 ∷ 1 ∷ 720 ∷ 1080 ∷ 28 ∷ []) ++ (replicate 66 0 ++ (1320 ∷ 1440 ∷ 7 ∷ replicate 9 0))

pub lent_example : (week_of numbers ≡ example) × (length numbers ≡ 84)
unfolding week_of day_of place_of
lent_example = (refl, refl)

pub other_counts : map (λ (ns : List ℕ). lent window_at ns 0 0) ([] ∷ replicate 83 0 ∷ replicate 84 0 ∷ replicate 85 0 ∷ []) ≡ Err Week ∷ Err Week ∷ Ok None ∷ Err Week ∷ []
unfolding lent week_of day_of place_of window_at checked passes is_week all_days is_day is_day_from is_window is_unused all_unused packet_at holds given_by
other_counts = refl

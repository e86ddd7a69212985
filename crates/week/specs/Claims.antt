-- What is claimed of the two answers: when each of them is given. Assumes nothing: these are definitions.
use Rattle.std.specs.Prelude.{ℕ, ◌+◌, ◌≤◌, ◌<◌, ◌≡◌, length, get_or, replicate, Some, None, Ok, Err}
use mathlib.Core.List.{List, [], ◌∷◌, ◌++◌, Memᴰ}
use Rattle.table.specs.declared.Refusal.TheVariants.{Week}
use Rattle.week.specs.declared.Window.{Window}
use Rattle.table.specs.Refusal.{Given}
use Rattle.week.specs.Weeks.{week_minute}

-- "a window being a first minute, an end minute and a packet number from 1 to 28. Minutes run from 0 to 1,440, the first below the end" ([6])
pub record IsWindow (w : Window) : Type 0 where
  pub first_below_end : w.first < w.end
  pub within_day : w.end ≤ 1440
  pub from_one : 1 ≤ w.packet
  pub to_twenty_eight : w.packet ≤ 28

-- "An unused place is three zeros" ([6])
abbrev pub unused : Window
unused = record { first = 0; end = 0; packet = 0 }

-- "Windows of a day ascend and don't overlap; the end of one may be the first of the next." ([6]): windows that begin at the minute m or later
pub data Ascend : ℕ → List Window → Type 0 where
  no_more : {m : ℕ} → Ascend m []
  one_more : {m : ℕ} {w : Window} {ws : List Window} → IsWindow w → m ≤ w.first → Ascend w.end ws → Ascend m (w ∷ ws)

-- "An unused place [..] comes after the used ones." ([6]): places that hold windows from the minute m on, and then are unused
pub record Filled (m : ℕ) (places : List Window) : Type 0 where
  pub windows : List Window
  pub left : ℕ
  pub in_order : places ≡ windows ++ replicate left unused
  pub ascend : Ascend m windows

-- "at most four windows each" ([6]): a day has four places
pub record IsDay (day : List Window) : Type 0 where
  pub four : length day ≡ 4
  pub filled : Filled 0 day

-- w is a window of day d
pub record WindowOf (week : List (List Window)) (d : ℕ) (w : Window) : Type 0 where
  pub place : Memᴰ w (get_or week d [])
  pub a_window : IsWindow w

-- "A week is seven days of at most four windows each" ([6])
pub record IsWeek (week : List (List Window)) : Type 0 where
  pub seven : length week ≡ 7
  pub each_day : (day : List Window) → Memᴰ day week → IsDay day

-- "Given day (0 to 6) and minute (0 to 1,439)" ([6]), of a week that is not broken
pub record ValidInput (week : List (List Window)) (day minute : ℕ) : Type 0 where
  pub week_is : IsWeek week
  pub day_is : day ≤ 6
  pub minute_is : minute ≤ 1439

-- "a broken week, day or minute" ([6])
pub data BrokenInput (week : List (List Window)) (day minute : ℕ) : Type 0 where
  the_week : (IsWeek week → ⊥) → BrokenInput week day minute
  the_day : 6 < day → BrokenInput week day minute
  the_minute : 1439 < minute → BrokenInput week day minute

-- "Checks: 13, a broken week, day or minute, before all else." ([6]): 13 on broken input, else an answer that `Otherwise` allows
pub data Answers (week : List (List Window)) (day minute : ℕ) (Otherwise : Given → Type 0) : Given → Type 0 where
  passed : {a : Given} → ValidInput week day minute → Otherwise a → Answers week day minute Otherwise a
  refused : BrokenInput week day minute → Answers week day minute Otherwise (Err Week)

-- "the first belongs to the window, the end doesn't" ([6]): w holds the minute m
pub record Holds (m : ℕ) (w : Window) : Type 0 where
  pub from_first : w.first ≤ m
  pub below_end : m < w.end

-- The packet at a minute: "the packet number, or none exactly when no window holds that minute" ([6])
pub data At (week : List (List Window)) (day minute : ℕ) : Given → Type 0 where
  held : {w : Window} → WindowOf week day w → Holds minute w → At week day minute (Ok (Some w.packet))
  not_held : ((w : Window) → WindowOf week day w → Holds minute w → ⊥) → At week day minute (Ok None)

-- n minutes lead from one minute of the week to another, "wrapping once past the week's end" ([6])
pub data Minutes (from to n : ℕ) : Type 0 where
  this_week : from + n ≡ to → Minutes from to n
  next_week : to < from → from + n ≡ to + 10080 → Minutes from to n

-- The next beginning: "the minutes until the next window begins [..]; a week without windows has none" ([6]). They are the least that lead to a beginning.
pub data Next (week : List (List Window)) (day minute : ℕ) : Given → Type 0 where
  begins : {d n : ℕ} {w : Window} → WindowOf week d w → Minutes (week_minute day minute) (week_minute d w.first) n
      → ((e k : ℕ) (v : Window) → WindowOf week e v → Minutes (week_minute day minute) (week_minute e v.first) k → n ≤ k)
      → Next week day minute (Ok (Some n))
  no_window : ((d : ℕ) (w : Window) → WindowOf week d w → ⊥) → Next week day minute (Ok None)

-- Day by day ahead: where no window begins in the minutes passed, the first beginning found on the next day is the next of all. Assumes nothing.
use Prim.Native.Nat.{ℕ, ◌+◌, ◌-◌, ◌*◌, ◌%◌, ◌≤◌, ◌<◌}
use mathlib.Core.Path.{◌≡◌, refl, sym, subst}
use mathlib.Core.Bool.{Bool, true, false}
use mathlib.Core.List.{List, [], Memᴰ}
use mathlib.Core.Option.{none, some}
use native.Mathlib.Omega.{arith}
use lib.Dec.{leb}
use lib.ListN.{get_or}
use borrow.Author.Tests.{leb-true, leb-false}
use Rattle.std.specs.Prelude.{Some, None, Ok}
use Rattle.week.specs.declared.Window.{Window}
use Rattle.week.specs.Weeks.{week_minute, next_window}
use Rattle.week.specs.Claims.{IsDay, WindowOf, ValidInput, passed, Minutes, this_week, next_week, begins, no_window}
use Rattle.week.proofs.Days.{day_of_lem, below_seven, first_below}
use Rattle.week.proofs.Nearest.{until_is, here_in_week, begin_in_week, next_exactly}
use Rattle.windows.specs.Code.{first_from}
use Rattle.windows.proofs.Firsts.{First, first_found, first_missed}

-- a beginning less than a day after k days ahead, counted from the minute 0 of this day, is on the day that is k days ahead
record OnDay (day minute d first m k : ℕ) : Type 0 where
  day_is : d ≡ (day + k) % 7
  minute_is : m + minute ≡ k * 1440 + first

on_day : (day minute d first m k : ℕ) → day ≤ 6 → minute ≤ 1439 → first < 1440 → d < 7 → Minutes (week_minute day minute) (week_minute d first) m
    → k * 1440 ≤ m + minute → m + minute < (k + 1) * 1440 → OnDay day minute d first m k
unfolding week_minute
on_day day minute d first m k a b c e (this_week q) h l = record { day_is = omega arith; minute_is = omega arith }
on_day day minute d first m k a b c e (next_week r q) h l = record { day_is = omega arith; minute_is = omega arith }

module _ (week : List (List Window)) (day minute : ℕ) where
  -- no window begins in the k days from the minute 0 of this day on, but for minutes of this day that are past
  abbrev pub NoneWithin : ℕ → Type 0
  NoneWithin k = (d m : ℕ) (w : Window) → WindowOf week d w → Minutes (week_minute day minute) (week_minute d w.first) m → k * 1440 ≤ m + minute

  module _ (input : ValidInput week day minute) where
    stands : {d m k : ℕ} {w : Window} → WindowOf week d w → Minutes (week_minute day minute) (week_minute d w.first) m → k * 1440 ≤ m + minute
        → m + minute < (k + 1) * 1440 → OnDay day minute d w.first m k
    stands {d} {m} {k} {w} o r h l = on_day day minute d w.first m k input.day_is input.minute_is (first_below o.a_window) (below_seven input.week_is o) r h l

    day_ahead : (k : ℕ) → IsDay (get_or week ((day + k) % 7) [])
    day_ahead k = day_of_lem input.week_is ((day + k) % 7) (omega arith)

    module _ (k : ℕ) (p : NoneWithin k) where
      pub none_next : first_from (minute - k * 1440) (get_or week ((day + k) % 7) []) ≡ none → NoneWithin (k + 1)
      none_next e d m w o r = go (leb ((k + 1) * 1440) (m + minute)) refl
        where
          go : (z : Bool) → leb ((k + 1) * 1440) (m + minute) ≡ z → (k + 1) * 1440 ≤ m + minute
          go true q = leb-true _ _ q
          go false q =
              let x = stands o r (p d m w o r) (leb-false _ _ q) in
              let i = subst (λ (n : ℕ). Memᴰ w (get_or week n [])) x.day_is o.place in
              let y = x.minute_is in
              absurd (first_missed (minute - k * 1440) (day_ahead k) e w i o.a_window (omega arith))

      module _ {b : ℕ} (x : First (minute - k * 1440) (get_or week ((day + k) % 7) []) b) (few : k < 8) where
        abbrev at_first : WindowOf week ((day + k) % 7) x.begun
        at_first = record { place = x.place; a_window = x.window }

        leads : Minutes (week_minute day minute) (week_minute ((day + k) % 7) x.begun.first) (k * 1440 + b - minute)
        unfolding week_minute
        leads = go (leb (day * 1440 + minute) ((day + k) % 7 * 1440 + x.begun.first)) refl
          where
            go : (z : Bool) → leb (day * 1440 + minute) ((day + k) % 7 * 1440 + x.begun.first) ≡ z
                → Minutes (day * 1440 + minute) ((day + k) % 7 * 1440 + x.begun.first) (k * 1440 + b - minute)
            go true q =
                let l : day * 1440 + minute ≤ (day + k) % 7 * 1440 + x.begun.first = leb-true _ _ q in
                let n = x.minute_is in
                let c = x.reached in
                let f = first_below x.window in
                let u = input.day_is in
                let v = input.minute_is in
                let r : day * 1440 + minute + ((day + k) % 7 * 1440 + x.begun.first - (day * 1440 + minute)) ≡ (day + k) % 7 * 1440 + x.begun.first = omega arith in
                let h = p ((day + k) % 7) ((day + k) % 7 * 1440 + x.begun.first - (day * 1440 + minute)) x.begun at_first (this_week r) in
                this_week (omega arith)
            go false q =
                let l : (day + k) % 7 * 1440 + x.begun.first < day * 1440 + minute = leb-false _ _ q in
                let n = x.minute_is in
                let c = x.reached in
                let f = first_below x.window in
                let u = input.day_is in
                let v = input.minute_is in
                next_week l (omega arith)

        least : (e j : ℕ) (v : Window) → WindowOf week e v → Minutes (week_minute day minute) (week_minute e v.first) j → k * 1440 + b - minute ≤ j
        least e j v o r = go (leb ((k + 1) * 1440) (j + minute)) refl
          where
            go : (z : Bool) → leb ((k + 1) * 1440) (j + minute) ≡ z → k * 1440 + b - minute ≤ j
            go true q =
                let l : (k + 1) * 1440 ≤ j + minute = leb-true _ _ q in
                let n = x.minute_is in
                let f = first_below x.window in
                omega arith
            go false q =
                let y = stands o r (p e j v o r) (leb-false _ _ q) in
                let i = subst (λ (n : ℕ). Memᴰ v (get_or week n [])) y.day_is o.place in
                let n = y.minute_is in
                let l = x.below v i o.a_window (omega arith) in
                omega arith

        next_is : Ok (Some (k * 1440 + b - minute)) ≡ next_window week day minute
        next_is = sym ((next_exactly week day minute _).1 (passed input (begins at_first leads least)))

      pub found : (b : ℕ) → k < 8 → first_from (minute - k * 1440) (get_or week ((day + k) % 7) []) ≡ some b → Ok (Some (k * 1440 + b - minute)) ≡ next_window week day minute
      found b few e = next_is (first_found (minute - k * 1440) (day_ahead k) b e) few

      pub reaches : (b : ℕ) → first_from (minute - k * 1440) (get_or week ((day + k) % 7) []) ≡ some b → (minute ≤ k * 1440 + b) × (b < 1440)
      reaches b e =
          let x = first_found (minute - k * 1440) (day_ahead k) b e in
          let c = x.reached in
          let n = x.minute_is in
          let f = first_below x.window in
          (omega arith, omega arith)

    beyond : {to m : ℕ} → to < 10080 → Minutes (week_minute day minute) to m → 8 * 1440 ≤ m + minute → ⊥
    beyond h (this_week q) l = omega (arith, input.minute_is)
    beyond h (next_week r q) l = omega (arith, input.minute_is)

    never : NoneWithin 8 → (d : ℕ) (w : Window) → WindowOf week d w → ⊥
    never p d w o =
        let r = until_is (week_minute day minute) (week_minute d w.first) (here_in_week input) in
        beyond (begin_in_week input.week_is o) r (p d _ w o r)

    pub none_ahead : NoneWithin 8 → Ok None ≡ next_window week day minute
    none_ahead p = sym ((next_exactly week day minute _).1 (passed input (no_window (never p))))

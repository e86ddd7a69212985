-- The minutes until the next window begins, exactly: the least that lead to a beginning, wrapping once. Assumes nothing.
use Prim.Native.Nat.{ℕ, ◌+◌, ◌-◌, ◌≤◌, ◌<◌}
use mathlib.Core.Path.{◌≡◌, refl, sym, ap, subst, ◌∙◌}
use mathlib.Core.Bool.{Bool, true, false, cond}
use mathlib.Core.List.Memᴰ
use mathlib.Core.List.{List, map, Memᴰ}
use mathlib.Core.Logic.{◌↔◌}
use mathlib.Core.Option.{Option, none, some}
use native.Mathlib.Omega.{arith}
use lib.Dec.{leb}
use borrow.Author.Tests.{leb-true, leb-false, le-leb, lt-leb}
use Rattle.std.specs.Prelude.{Some, None, Ok, Err}
use Rattle.table.specs.declared.Refusal.TheVariants.{Week}
use Rattle.table.specs.Refusal.{Given, given_by}
use Rattle.table.proofs.Words.{zero_one}
use Rattle.week.specs.declared.Window.{Window}
use Rattle.week.specs.Weeks.{window_at, week_minute, until, week_begins, least, next_window}
use Rattle.week.specs.Claims.{IsWeek, WindowOf, ValidInput, BrokenInput, Answers, passed, Holds, held, Minutes, this_week, next_week, Next, begins, no_window}
use Rattle.week.proofs.Days.{below_seven, first_below}
use Rattle.week.proofs.Checks.{answers_exactly, refused_exactly, answered}
use Rattle.week.proofs.Held.{window_exactly}
use Rattle.week.proofs.Begins.{least_none, least_some, least_is, least_empty, of_week, in_week}

-- the minutes that are defined lead there, and no other number does
pub until_is : (from to : ℕ) → from < 10080 → Minutes from to (until from to)
unfolding until
until_is from to h = go (leb from to) refl
  where
    go : (z : Bool) → leb from to ≡ z → Minutes from to (cond z (to - from) (to + 10080 - from))
    go true p = let l = leb-true from to p in this_week (omega arith)
    go false p = let l = leb-false from to p in next_week l (omega arith)

minutes_until : {from to n : ℕ} → Minutes from to n → n ≡ until from to
unfolding until
minutes_until {from} {to} {n} (this_week e) =
    let h : from ≤ to = omega arith in
    let q : n ≡ to - from = omega arith in
    rw (le-leb from to h) q
minutes_until {from} {to} {n} (next_week h e) =
    let q : n ≡ to + 10080 - from = omega arith in
    rw (lt-leb from to h) q

-- minutes of the week
pub here_in_week : {week : List (List Window)} {day minute : ℕ} → ValidInput week day minute → week_minute day minute < 10080
unfolding week_minute
here_in_week k = omega (arith, k.day_is, k.minute_is)

pub begin_in_week : {week : List (List Window)} {d : ℕ} {w : Window} → IsWeek week → WindowOf week d w → week_minute d w.first < 10080
unfolding week_minute
begin_in_week is o = omega (arith, below_seven is o, first_below o.a_window)

begins_now : (day : ℕ) {minute first : ℕ} → first ≡ minute → week_minute day minute + 0 ≡ week_minute day first
unfolding week_minute
begins_now day e = omega arith

on_minute : {day minute d first : ℕ} → minute ≤ 1439 → first < 1440 → week_minute day minute < 10080 → Minutes (week_minute day minute) (week_minute d first) 0 → (d ≡ day) × (first ≡ minute)
unfolding week_minute
on_minute a b c (this_week q) = (omega arith, omega arith)
on_minute a b c (next_week l q) = absurd (omega arith)

-- a window, its day, and that n minutes lead from a minute of the week to where it begins
record LeadsTo (week : List (List Window)) (from n : ℕ) : Type 0 where
  of : ℕ
  window : Window
  stands : WindowOf week of window
  minutes : Minutes from (week_minute of window.first) n

module _ (week : List (List Window)) (day minute : ℕ) where
  abbrev from : ℕ
  from = week_minute day minute

  -- the minutes to each beginning
  abbrev distances : List ℕ
  distances = map (until from) (week_begins 0 week)

  in_distances : {d n : ℕ} {w : Window} → WindowOf week d w → Minutes from (week_minute d w.first) n → Memᴰ n distances
  in_distances {d} {n} {w} o m =
      let e : d ≡ 0 + d = omega arith in
      let q : until from (week_minute d w.first) ≡ until from (week_minute (0 + d) w.first) = ap (λ (k : ℕ). until from (week_minute k w.first)) e in
      Memᴰ.cast (minutes_until m ∙ q) (Memᴰ.map (until from) (in_week week 0 d w o))

  of_distances : from < 10080 → {n : ℕ} → Memᴰ n distances → LeadsTo week from n
  of_distances h {n} i =
      let x = Memᴰ.of_map (until from) (week_begins 0 week) i in
      let b = of_week 0 week x.0 x.1 in
      let d = b.day in
      let e : 0 + d ≡ d = omega arith in
      let q : until from (week_minute d b.begun.first) ≡ n = ap (until from) (sym (b.minute_is ∙ ap (λ (k : ℕ). week_minute k b.begun.first) e)) ∙ x.2 in
      record { of = d; window = b.begun; stands = b.stands; minutes = subst (Minutes from (week_minute d b.begun.first)) q (until_is from (week_minute d b.begun.first) h) }

  module _ (k : ValidInput week day minute) where
    next : (o : Option ℕ) → least distances ≡ o → Next week day minute (given_by o)
    unfolding given_by
    next none e = no_window (λ d w o. least_none distances e (until from (week_minute d w.first)) (in_distances o (until_is from (week_minute d w.first) (here_in_week k))))
    next (some n) e =
        let l = least_some distances n e in
        let x = of_distances (here_in_week k) l.among in
        begins x.stands x.minutes (λ d m v o r. l.below m (in_distances o r))

    gives : {a : Given} → Next week day minute a → given_by (least distances) ≡ a
    unfolding given_by
    gives (begins {n = n} o m all) =
        rw (least_is distances n (record { among = in_distances o m; below = λ j i. let x = of_distances (here_in_week k) i in all x.of j x.window x.stands x.minutes }))
    gives (no_window none_is) = rw (least_empty distances (λ j i. let x = of_distances (here_in_week k) i in none_is x.of x.window x.stands))

-- "the minutes until the next window begins, wrapping once past the week's end; a window beginning now counts as 0, and a week without windows has none" ([6]):
-- each answer is given exactly where the paper gives it
pub next_exactly : (week : List (List Window)) (day minute : ℕ) (a : Given) → (next_window week day minute ≡ a) ↔ Answers week day minute (Next week day minute) a
unfolding next_window
next_exactly week day minute =
    answers_exactly week day minute (least (distances week day minute)) (Next week day minute) (λ k a. (λ e. subst (Next week day minute) e (next week day minute k (least (distances week day minute)) refl), gives week day minute k))

-- 13 exactly on a broken week, day or minute
pub next_refused : (week : List (List Window)) (day minute : ℕ) → (next_window week day minute ≡ Err Week) ↔ BrokenInput week day minute
unfolding next_window
next_refused week day minute = refused_exactly week day minute (least (distances week day minute))

-- "a week without windows has none" ([6]), and no other
pub next_none : (week : List (List Window)) (day minute : ℕ) → (next_window week day minute ≡ Ok None) ↔ (ValidInput week day minute × ((d : ℕ) (w : Window) → WindowOf week d w → ⊥))
next_none week day minute = (λ e. go (answered week day minute (λ q. zero_one (cc)) ((next_exactly week day minute (Ok None)).0 e)), λ x. (next_exactly week day minute (Ok None)).1 (passed x.0 (no_window x.1)))
  where
    nothing : {a : Given} → Next week day minute a → a ≡ Ok None → (d : ℕ) (w : Window) → WindowOf week d w → ⊥
    nothing (begins o m all) e = zero_one (cc)
    nothing (no_window n) e = n

    go : ValidInput week day minute × Next week day minute (Ok None) → ValidInput week day minute × ((d : ℕ) (w : Window) → WindowOf week d w → ⊥)
    go x = (x.0, nothing x.1 refl)

module _ (week : List (List Window)) (day minute : ℕ) where
  -- the window to which the minutes lead
  led : {n : ℕ} → next_window week day minute ≡ Ok (Some n) → ValidInput week day minute × LeadsTo week (week_minute day minute) n
  led {n} e = go (answered week day minute (λ q. zero_one (cc)) ((next_exactly week day minute (Ok (Some n))).0 e))
    where
      to : {a : Given} → Next week day minute a → a ≡ Ok (Some n) → LeadsTo week (week_minute day minute) n
      to (begins {d = d} {n = m} {w = w} o r all) q =
          let p : m ≡ n = cc in
          record { of = d; window = w; stands = o; minutes = subst (Minutes (week_minute day minute) (week_minute d w.first)) p r }
      to (no_window x) q = zero_one (cc)

      go : ValidInput week day minute × Next week day minute (Ok (Some n)) → ValidInput week day minute × LeadsTo week (week_minute day minute) n
      go x = (x.0, to x.1 refl)

  -- the minutes are fewer than a week has
  pub within_a_week : {n : ℕ} → next_window week day minute ≡ Ok (Some n) → n < 10080
  within_a_week {n} e = let x = led e in go (begin_in_week x.0.week_is x.1.stands) x.1.minutes
    where
      go : {to : ℕ} → to < 10080 → Minutes (week_minute day minute) to n → n < 10080
      go h (this_week q) = omega arith
      go h (next_week l q) = omega arith

  -- "a window beginning now counts as 0" ([6]), and nothing else does
  pub zero_exactly : (next_window week day minute ≡ Ok (Some 0)) ↔ (ValidInput week day minute × (w : Window) × WindowOf week day w × (w.first ≡ minute))
  zero_exactly = (λ e. let x = led e in let p = same x.0 x.1.stands x.1.minutes in (x.0, x.1.window, p.0, p.1), back)
    where
      same : {d : ℕ} {w : Window} → ValidInput week day minute → WindowOf week d w → Minutes (week_minute day minute) (week_minute d w.first) 0 → WindowOf week day w × (w.first ≡ minute)
      same {d} {w} k o r =
          let p = on_minute {day = day} {minute = minute} {d = d} {first = w.first} k.minute_is (first_below o.a_window) (here_in_week k) r in
          (subst (λ (n : ℕ). WindowOf week n w) p.0 o, p.1)

      back : ValidInput week day minute × (w : Window) × WindowOf week day w × (w.first ≡ minute) → next_window week day minute ≡ Ok (Some 0)
      back x = (next_exactly week day minute (Ok (Some 0))).1 (passed x.0 (begins x.2 (this_week (begins_now day x.3)) (λ e k v o r. omega arith)))

  -- after these minutes a window begins, and its packet is given at that minute
  pub then_held : {n : ℕ} → next_window week day minute ≡ Ok (Some n)
      → (d : ℕ) × (w : Window) × WindowOf week d w × Minutes (week_minute day minute) (week_minute d w.first) n × (window_at week d w.first ≡ Ok (Some w.packet))
  then_held e =
      let x = (led e).1 in
      let is = (led e).0.week_is in
      let w = x.window in
      let d = below_seven is x.stands in
      let f = first_below x.stands.a_window in
      let k : ValidInput week x.of w.first = record { week_is = is; day_is = omega arith; minute_is = omega arith } in
      let h : Holds w.first w = record { from_first = omega arith; below_end = x.stands.a_window.first_below_end } in
      (x.of, w, x.stands, x.minutes, (window_exactly week x.of w.first (Ok (Some w.packet))).1 (passed k (held x.stands h)))

-- A day place by place, a week day by day, and the three tests. Assumes nothing.
use Prim.Native.Nat.{ℕ, ◌+◌, ◌≤◌, ◌<◌}
use mathlib.Core.Path.{◌≡◌, refl, sym, ap, ◌∙◌}
use mathlib.Core.Bool.{Bool, true, false, cond, ◌&&◌, ◌||◌}
use mathlib.Core.List.{List, [], ◌∷◌}
use native.Mathlib.Omega.{arith}
use lib.Dec.{leb, eqb}
use lib.ListN.{length, get_or, drop, drop_of_length-le}
use borrow.Author.Tests.{leb-true, eq-eqb}
use Rattle.std.specs.List.{list_all}
use Rattle.std.proofs.lemmas.List.Recursion.{same_from_clauses}
use Rattle.table.proofs.Words.{told_apart}
use Rattle.week.specs.declared.Window.{Window}
use Rattle.week.specs.Weeks.{is_window, is_unused, all_unused, is_day_from, is_day, all_days, is_week}
use Rattle.table.proofs.Lists.{from_place}
use Rattle.week.proofs.Days.{window_is, unused_zeros}
use Rattle.week_check.specs.Code.{fits}

and_false : (x : Bool) → false ≡ (x && false)
and_false true = refl
and_false false = refl

-- after an unused place, no window begins before the end of the day
unused_from : (ws : List Window) → is_day_from 1440 ws ≡ all_unused ws
unfolding is_day_from all_unused
unused_from [] = refl
unused_from (w ∷ ws) = go (is_unused w) (is_window w) (leb 1440 w.first) refl refl
  where
    go : (x y z : Bool) → is_window w ≡ y → leb 1440 w.first ≡ z → cond x (all_unused ws) (y && (z && is_day_from w.end ws)) ≡ (x && all_unused ws)
    go true y z p q = refl
    go false true true p q =
        let k = window_is w p in
        let a = k.first_below_end in
        let b = k.within_day in
        let c : 1440 ≤ w.first = leb-true _ _ q in
        absurd (omega arith)
    go false true false p q = refl
    go false false z p q = refl

-- a place that fits, unused or a window
step_unused : (m : ℕ) (w : Window) (ws : List Window) → fits m w ≡ true → w.packet ≡ 0 → is_day_from m (w ∷ ws) ≡ is_day_from 1440 ws
unfolding is_day_from fits
step_unused m w ws f e = go (is_unused w) (is_window w) (leb m w.first) refl f
  where
    go : (x y z : Bool) → is_window w ≡ y → (x || (y && z)) ≡ true → cond x (all_unused ws) (y && (z && is_day_from w.end ws)) ≡ is_day_from 1440 ws
    go true y z q g = sym (unused_from ws)
    go false true z q g = let k = window_is w q in let h = k.from_one in absurd (omega arith)
    go false false z q g = told_apart g refl

step_window : (m : ℕ) (w : Window) (ws : List Window) → fits m w ≡ true → (w.packet ≡ 0 → ⊥) → is_day_from m (w ∷ ws) ≡ is_day_from w.end ws
unfolding is_day_from fits
step_window m w ws f n = go (is_unused w) (is_window w) (leb m w.first) refl f
  where
    go : (x y z : Bool) → is_unused w ≡ x → (x || (y && z)) ≡ true → cond x (all_unused ws) (y && (z && is_day_from w.end ws)) ≡ is_day_from w.end ws
    go true y z p g = absurd (n (unused_zeros w p).2)
    go false true true p g = refl
    go false true false p g = told_apart g refl
    go false false z p g = told_apart g refl

day_stop : (m : ℕ) (w : Window) (ws : List Window) → fits m w ≡ false → is_day_from m (w ∷ ws) ≡ false
unfolding is_day_from fits
day_stop m w ws = go (is_unused w) (is_window w) (leb m w.first)
  where
    go : (x y z : Bool) → (x || (y && z)) ≡ false → cond x (all_unused ws) (y && (z && is_day_from w.end ws)) ≡ false
    go true y z f = told_apart refl f
    go false true true f = told_apart refl f
    go false true false f = refl
    go false false z f = refl

-- the places from i on, after a window that ends at the minute m, tell whether the day is right
module _ (day : List Window) (i m : ℕ) (kept : is_day_from 0 day ≡ is_day_from m (drop i day)) where
  module _ (z : Window) (h : i < length day) where
    pub after_unused : {n : ℕ} → fits m (get_or day i z) ≡ true → (get_or day i z).packet ≡ 0 → n ≡ 1440 → is_day_from 0 day ≡ is_day_from n (drop (i + 1) day)
    after_unused f e q = rw q (kept ∙ ap (is_day_from m) (from_place day i z h) ∙ step_unused m (get_or day i z) (drop (i + 1) day) f e)

    pub after_window : {n : ℕ} → fits m (get_or day i z) ≡ true → ((get_or day i z).packet ≡ 0 → ⊥) → n ≡ (get_or day i z).end → is_day_from 0 day ≡ is_day_from n (drop (i + 1) day)
    after_window f e q = rw q (kept ∙ ap (is_day_from m) (from_place day i z h) ∙ step_window m (get_or day i z) (drop (i + 1) day) f e)

    pub day_broken : fits m (get_or day i z) ≡ false → false ≡ is_day day
    unfolding is_day
    day_broken e = rw (kept ∙ ap (is_day_from m) (from_place day i z h) ∙ day_stop m (get_or day i z) (drop (i + 1) day) e) (and_false (eqb (length day) 4))

  pub day_right : length day ≡ 4 → 4 ≤ i → true ≡ is_day day
  unfolding is_day is_day_from
  day_right l h = let k : length day ≤ i = rw l h in rw (eq-eqb _ _ l, kept, drop_of_length-le day k)

-- seven days, each of which is right
pub seven_days : (week : List (List Window)) → length week ≡ 7 → {z : Bool} → z ≡ list_all is_day week → z ≡ is_week week
unfolding is_week all_days
seven_days week l e = rw (eq-eqb _ _ l) (e ∙ same_from_clauses (list_all is_day) all_days (λ (d : List Window) (z : Bool). is_day d && z) refl (λ _ _. refl) (λ _ _. refl) week)

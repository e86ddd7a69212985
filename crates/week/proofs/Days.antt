-- The test of a day, and of a week, is what the paper says of them, both ways. Assumes nothing.
use Prim.Native.Nat.{ℕ, zero, suc, ◌≤◌, ◌<◌}
use mathlib.Core.Path.{◌≡◌, refl, sym, ap, subst, ◌∙◌}
use mathlib.Core.Bool.{Bool, true, false, cond, ◌&&◌}
use mathlib.Core.List.Memᴰ
use mathlib.Core.List.{List, [], ◌∷◌, ◌++◌, Memᴰ}
use mathlib.Core.Logic.{◌↔◌, ◌⊎◌, inl, inr}
use native.Mathlib.Omega.{arith}
use lib.Dec.{leb, ltb, eqb}
use lib.ListN.{length, get_or, replicate, get_or-eq_default}
use borrow.Author.Tests.{ltb-true, leb-true, leb-false, eqb-true, lt-ltb, le-leb, eq-eqb}
use Rattle.table.proofs.Lists.{at_place}
use Rattle.table.proofs.Words.{and_left, and_right}
use Rattle.week.specs.declared.Window.{Window}
use Rattle.week.specs.Weeks.{is_window, is_unused, all_unused, is_day_from, is_day, all_days, is_week}
use Rattle.week.specs.Claims.{IsWindow, unused, Ascend, no_more, one_more, Filled, IsDay, WindowOf, IsWeek}

pub window_is : (w : Window) → is_window w ≡ true → IsWindow w
unfolding is_window
window_is w e =
    let f : (leb w.end 1440 && (leb 1 w.packet && leb w.packet 28)) ≡ true = and_right (ltb w.first w.end) _ e in
    let g : (leb 1 w.packet && leb w.packet 28) ≡ true = and_right (leb w.end 1440) _ f in
    record {
      first_below_end = ltb-true _ _ (and_left (ltb w.first w.end) _ e);
      within_day = leb-true _ _ (and_left (leb w.end 1440) _ f);
      from_one = leb-true _ _ (and_left (leb 1 w.packet) _ g);
      to_twenty_eight = leb-true _ _ (and_right (leb 1 w.packet) _ g);
    }

pub is_window_lem : {w : Window} → IsWindow w → is_window w ≡ true
unfolding is_window
is_window_lem k = rw (lt-ltb _ _ k.first_below_end, le-leb _ _ k.within_day, le-leb _ _ k.from_one, le-leb _ _ k.to_twenty_eight)

pub unused_zeros : (w : Window) → is_unused w ≡ true → (w.first ≡ 0) × (w.end ≡ 0) × (w.packet ≡ 0)
unfolding is_unused
unused_zeros w e =
    let g : (eqb w.end 0 && eqb w.packet 0) ≡ true = and_right (eqb w.first 0) _ e in (
      eqb-true _ _ (and_left (eqb w.first 0) _ e),
      eqb-true _ _ (and_left (eqb w.end 0) _ g),
      eqb-true _ _ (and_right (eqb w.end 0) _ g),
    )

pub zeros_unused : (w : Window) → w.first ≡ 0 → w.end ≡ 0 → w.packet ≡ 0 → is_unused w ≡ true
unfolding is_unused
zeros_unused w p q r = rw (eq-eqb _ _ p, eq-eqb _ _ q, eq-eqb _ _ r)

unused_is : (w : Window) → is_unused w ≡ true → w ≡ unused
unused_is w e = let z = unused_zeros w e in λ i. record { first = z.0 i; end = z.1 i; packet = z.2 i }

is_unused_lem : is_unused unused ≡ true
is_unused_lem = zeros_unused unused refl refl refl

pub unused_no_window : IsWindow unused → ⊥
unused_no_window k = omega (arith, k.from_one)

-- a window is no unused place
window_used : {w : Window} → IsWindow w → is_unused w ≡ false
window_used {w} k = go (is_unused w) refl
  where
    go : (z : Bool) → is_unused w ≡ z → z ≡ false
    go false p = refl
    go true p = absurd (unused_no_window (subst IsWindow (unused_is w p) k))

all_unused_lem : (ws : List Window) → all_unused ws ≡ true → ws ≡ replicate (length ws) unused
unfolding all_unused
all_unused_lem [] e = refl
all_unused_lem (w ∷ ws) e =
    ap (λ (v : Window). v ∷ ws) (unused_is w (and_left (is_unused w) (all_unused ws) e))
    ∙ ap (λ (l : List Window). unused ∷ l) (all_unused_lem ws (and_right (is_unused w) (all_unused ws) e))

unused_all : (n : ℕ) → all_unused (replicate n unused) ≡ true
unfolding all_unused
unused_all zero = refl
unused_all (suc n) = rw is_unused_lem (unused_all n)

day_from : (m : ℕ) (ws : List Window) → is_day_from m ws ≡ true → Filled m ws
unfolding is_day_from
day_from m [] e = record { windows = []; left = 0; in_order = refl; ascend = no_more }
day_from m (w ∷ ws) e = go (is_unused w) refl e (λ f. day_from w.end ws f)
  where
    go : (z : Bool) → is_unused w ≡ z → cond z (all_unused ws) (is_window w && (leb m w.first && is_day_from w.end ws)) ≡ true
        → (is_day_from w.end ws ≡ true → Filled w.end ws) → Filled m (w ∷ ws)
    go true p f r = record {
      windows = [];
      left = suc (length ws);
      in_order = ap (λ (v : Window). v ∷ ws) (unused_is w p) ∙ ap (λ (l : List Window). unused ∷ l) (all_unused_lem ws f);
      ascend = no_more;
    }
    go false p f r =
        let g : (leb m w.first && is_day_from w.end ws) ≡ true = and_right (is_window w) _ f in
        let x = r (and_right (leb m w.first) _ g) in
        record {
          windows = w ∷ x.windows;
          left = x.left;
          in_order = ap (λ (l : List Window). w ∷ l) x.in_order;
          ascend = one_more (window_is w (and_left (is_window w) _ f)) (leb-true _ _ (and_left (leb m w.first) _ g)) x.ascend;
        }

from_unused : (m n : ℕ) → is_day_from m (replicate n unused) ≡ true
unfolding is_day_from
from_unused m zero = refl
from_unused m (suc n) = rw is_unused_lem (unused_all n)

from_day : {m : ℕ} {ws : List Window} → Ascend m ws → (n : ℕ) → is_day_from m (ws ++ replicate n unused) ≡ true
unfolding is_day_from
from_day {m} no_more n = from_unused m n
from_day (one_more k h a) n = rw (window_used k, is_window_lem k, le-leb _ _ h) (from_day a n)

pub day_exactly : (day : List Window) → (is_day day ≡ true) ↔ IsDay day
unfolding is_day
day_exactly day = (there, back)
  where
    there : (eqb (length day) 4 && is_day_from 0 day) ≡ true → IsDay day
    there e = record { four = eqb-true _ _ (and_left (eqb (length day) 4) _ e); filled = day_from 0 day (and_right (eqb (length day) 4) _ e) }

    back : IsDay day → (eqb (length day) 4 && is_day_from 0 day) ≡ true
    back x = let f = x.filled in rw (eq-eqb _ _ x.four) (ap (is_day_from 0) f.in_order ∙ from_day f.ascend f.left)

days_are : (week : List (List Window)) → all_days week ≡ true → (day : List Window) → Memᴰ day week → IsDay day
unfolding all_days
days_are [] e day m = absurd (Memᴰ.not-nil m)
days_are (d ∷ ds) e day m = go (days_are ds (and_right (is_day d) (all_days ds) e) day) (Memᴰ.cases_cons m)
  where
    go : (Memᴰ day ds → IsDay day) → (day ≡ d) ⊎ Memᴰ day ds → IsDay day
    go r (inl p) = subst IsDay (sym p) ((day_exactly d).0 (and_left (is_day d) (all_days ds) e))
    go r (inr q) = r q

are_days : (week : List (List Window)) → ((day : List Window) → Memᴰ day week → IsDay day) → all_days week ≡ true
unfolding all_days
are_days [] h = refl
are_days (d ∷ ds) h = rw ((day_exactly d).1 (h d (Memᴰ.head refl))) (are_days ds (λ day m. h day (Memᴰ.tail m)))

pub week_exactly : (week : List (List Window)) → (is_week week ≡ true) ↔ IsWeek week
unfolding is_week
week_exactly week = (there, back)
  where
    there : (eqb (length week) 7 && all_days week) ≡ true → IsWeek week
    there e = record { seven = eqb-true _ _ (and_left (eqb (length week) 7) _ e); each_day = days_are week (and_right (eqb (length week) 7) _ e) }

    back : IsWeek week → (eqb (length week) 7 && all_days week) ≡ true
    back k = rw (eq-eqb _ _ k.seven) (are_days week k.each_day)

-- day d of a week, d below seven
pub day_of_lem : {week : List (List Window)} → IsWeek week → (d : ℕ) → d < 7 → IsDay (get_or week d [])
day_of_lem {week} k d h = k.each_day (get_or week d []) (at_place week d [] (rw k.seven h))

-- a window stands on one of the seven days, and begins in it
pub below_seven : {week : List (List Window)} {d : ℕ} {w : Window} → IsWeek week → WindowOf week d w → d < 7
below_seven {week} {d} {w} k o = go (leb 7 d) refl
  where
    go : (z : Bool) → leb 7 d ≡ z → d < 7
    go false p = leb-false 7 d p
    go true p =
        let h : length week ≤ d = rw k.seven (leb-true 7 d p) in
        absurd (Memᴰ.not-nil (subst (Memᴰ w) (get_or-eq_default week [] h) o.place))

pub first_below : {w : Window} → IsWindow w → w.first < 1440
first_below k = let a = k.first_below_end in let b = k.within_day in omega arith

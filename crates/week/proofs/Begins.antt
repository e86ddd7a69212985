-- The least of some numbers, and where the windows of a week begin. Assumes nothing.
use Prim.Native.Nat.{ℕ, zero, suc, ◌+◌, ◌≤◌}
use mathlib.Core.Path.{◌≡◌, refl, sym, ap, subst, ◌∙◌}
use mathlib.Core.Bool.{Bool, true, false, cond}
use mathlib.Core.List.Memᴰ
use mathlib.Core.List.{List, [], ◌∷◌, Memᴰ}
use mathlib.Core.Logic.{◌⊎◌, inl, inr}
use mathlib.Core.Option.{Option, none, some}
use native.Mathlib.Omega.{arith}
use lib.Dec.{leb}
use borrow.Author.Tests.{leb-true, leb-false}
use Rattle.table.proofs.Words.{told_apart, zero_one}
use Rattle.week.specs.declared.Window.{Window}
use Rattle.week.specs.Weeks.{is_window, week_minute, day_begins, week_begins, least, least_of}
use Rattle.week.specs.Claims.{IsWindow, WindowOf}
use Rattle.week.proofs.Days.{window_is, is_window_lem}

-- n is one of the numbers, and none of them is below it
pub record Least (ns : List ℕ) (n : ℕ) : Type 0 where
  pub among : Memᴰ n ns
  pub below : (m : ℕ) → Memᴰ m ns → n ≤ m

pub least_none : (ns : List ℕ) → least ns ≡ none → (m : ℕ) → Memᴰ m ns → ⊥
unfolding least least_of
least_none [] e m i = Memᴰ.not-nil i
least_none (n ∷ ns) e m i = go (least ns) e
  where
    go : (o : Option ℕ) → least_of n o ≡ none → ⊥
    go none f = zero_one (cc)
    go (some k) f = zero_one (cc)

pub least_some : (ns : List ℕ) (n : ℕ) → least ns ≡ some n → Least ns n
unfolding least least_of
least_some [] n e = zero_one (cc)
least_some (m ∷ ns) n e = go (least ns) refl e (least_some ns)
  where
    alone : least ns ≡ none → m ≡ n → (k : ℕ) → (k ≡ m) ⊎ Memᴰ k ns → n ≤ k
    alone p q k (inl f) = omega arith
    alone p q k (inr j) = absurd (least_none ns p k j)

    before : {k : ℕ} → Least ns k → m ≤ k → m ≡ n → (j : ℕ) → (j ≡ m) ⊎ Memᴰ j ns → n ≤ j
    before x h q j (inl f) = omega arith
    before x h q j (inr i) = let l = x.below j i in omega arith

    after : Least ns n → n ≤ m → (j : ℕ) → (j ≡ m) ⊎ Memᴰ j ns → n ≤ j
    after x h j (inl f) = omega arith
    after x h j (inr i) = x.below j i

    which : {k : ℕ} → Least ns k → (z : Bool) → leb m k ≡ z → cond z m k ≡ n → Least (m ∷ ns) n
    which x true p q = record { among = Memᴰ.head (sym q); below = λ j i. before x (leb-true _ _ p) q j (Memᴰ.cases_cons i) }
    which {k} x false p q =
        let y = subst (Least ns) q x in
        let h = leb-false m k p in
        record { among = Memᴰ.tail y.among; below = λ j i. after y (omega arith) j (Memᴰ.cases_cons i) }

    go : (o : Option ℕ) → least ns ≡ o → least_of m o ≡ some n → ((k : ℕ) → least ns ≡ some k → Least ns k) → Least (m ∷ ns) n
    go none p f r = let q : m ≡ n = cc in record { among = Memᴰ.head (sym q); below = λ j i. alone p q j (Memᴰ.cases_cons i) }
    go (some k) p f r = let q : cond (leb m k) m k ≡ n = cc in which (r k p) (leb m k) refl q

pub least_is : (ns : List ℕ) (n : ℕ) → Least ns n → least ns ≡ some n
least_is ns n l = go (least ns) refl
  where
    go : (o : Option ℕ) → least ns ≡ o → o ≡ some n
    go none p = absurd (least_none ns p n l.among)
    go (some m) p =
        let x = least_some ns m p in
        let a = x.below n l.among in
        let b = l.below m x.among in
        let e : m ≡ n = omega arith in
        ap some e

pub least_empty : (ns : List ℕ) → ((m : ℕ) → Memᴰ m ns → ⊥) → least ns ≡ none
least_empty ns h = go (least ns) refl
  where
    go : (o : Option ℕ) → least ns ≡ o → o ≡ none
    go none p = refl
    go (some m) p = absurd (h m (least_some ns m p).among)

-- a beginning is that of a window, on its day
record DayBegin (d : ℕ) (ws : List Window) (x : ℕ) : Type 0 where
  begun : Window
  place : Memᴰ begun ws
  a_window : IsWindow begun
  minute_is : x ≡ week_minute d begun.first

of_day : (d : ℕ) (ws : List Window) (x : ℕ) → Memᴰ x (day_begins d ws) → DayBegin d ws x
unfolding day_begins
of_day d [] x i = absurd (Memᴰ.not-nil i)
of_day d (w ∷ ws) x i = go (is_window w) refl i (of_day d ws x)
  where
    onward : DayBegin d ws x → DayBegin d (w ∷ ws) x
    onward b = record { begun = b.begun; place = Memᴰ.tail b.place; a_window = b.a_window; minute_is = b.minute_is }

    here : is_window w ≡ true → (Memᴰ x (day_begins d ws) → DayBegin d ws x) → (x ≡ week_minute d w.first) ⊎ Memᴰ x (day_begins d ws) → DayBegin d (w ∷ ws) x
    here p r (inl e) = record { begun = w; place = Memᴰ.head refl; a_window = window_is w p; minute_is = e }
    here p r (inr j) = onward (r j)

    go : (z : Bool) → is_window w ≡ z → Memᴰ x (cond z (week_minute d w.first ∷ day_begins d ws) (day_begins d ws)) → (Memᴰ x (day_begins d ws) → DayBegin d ws x)
        → DayBegin d (w ∷ ws) x
    go true p j r = here p r (Memᴰ.cases_cons j)
    go false p j r = onward (r j)

in_day : (d : ℕ) (ws : List Window) (w : Window) → Memᴰ w ws → IsWindow w → Memᴰ (week_minute d w.first) (day_begins d ws)
unfolding day_begins
in_day d [] w i k = absurd (Memᴰ.not-nil i)
in_day d (v ∷ vs) w i k = go (is_window v) refl (Memᴰ.cases_cons i) (λ j. in_day d vs w j k)
  where
    go : (z : Bool) → is_window v ≡ z → (w ≡ v) ⊎ Memᴰ w vs → (Memᴰ w vs → Memᴰ (week_minute d w.first) (day_begins d vs))
        → Memᴰ (week_minute d w.first) (cond z (week_minute d v.first ∷ day_begins d vs) (day_begins d vs))
    go true p (inl e) r = Memᴰ.head (ap (λ (u : Window). week_minute d u.first) e)
    go true p (inr j) r = Memᴰ.tail (r j)
    go false p (inl e) r = told_apart (is_window_lem (subst IsWindow e k)) p
    go false p (inr j) r = r j

-- of a week whose first day is day d
pub record WeekBegin (d : ℕ) (week : List (List Window)) (x : ℕ) : Type 0 where
  pub day : ℕ
  pub begun : Window
  pub stands : WindowOf week day begun
  pub minute_is : x ≡ week_minute (d + day) begun.first

pub of_week : (d : ℕ) (week : List (List Window)) (x : ℕ) → Memᴰ x (week_begins d week) → WeekBegin d week x
unfolding week_begins
of_week d [] x i = absurd (Memᴰ.not-nil i)
of_week d (ws ∷ days) x i = go (of_week (suc d) days x) (Memᴰ.append_cases (day_begins d ws) i)
  where
    first : DayBegin d ws x → WeekBegin d (ws ∷ days) x
    first b =
        let e : d ≡ d + 0 = omega arith in
        record { day = 0; begun = b.begun; stands = record { place = b.place; a_window = b.a_window }; minute_is = b.minute_is ∙ ap (λ (n : ℕ). week_minute n b.begun.first) e }

    onward : WeekBegin (suc d) days x → WeekBegin d (ws ∷ days) x
    onward b =
        let n = b.day in
        let e : suc d + n ≡ d + suc n = omega arith in
        record {
          day = suc n;
          begun = b.begun;
          stands = record { place = b.stands.place; a_window = b.stands.a_window };
          minute_is = b.minute_is ∙ ap (λ (k : ℕ). week_minute k b.begun.first) e;
        }

    go : (Memᴰ x (week_begins (suc d) days) → WeekBegin (suc d) days x) → Memᴰ x (day_begins d ws) ⊎ Memᴰ x (week_begins (suc d) days) → WeekBegin d (ws ∷ days) x
    go r (inl j) = first (of_day d ws x j)
    go r (inr j) = onward (r j)

pub in_week : (week : List (List Window)) (d e : ℕ) (w : Window) → WindowOf week e w → Memᴰ (week_minute (d + e) w.first) (week_begins d week)
unfolding week_begins
in_week [] d e w o = absurd (Memᴰ.not-nil o.place)
in_week (ws ∷ days) d zero w o =
    let e : d + 0 ≡ d = omega arith in
    Memᴰ.cast (ap (λ (n : ℕ). week_minute n w.first) e) (Memᴰ.append_left (week_begins (suc d) days) (in_day d ws w o.place o.a_window))
in_week (ws ∷ days) d (suc e) w o =
    let q : d + suc e ≡ suc d + e = omega arith in
    let r = in_week days (suc d) e w (record { place = o.place; a_window = o.a_window }) in
    Memᴰ.cast (ap (λ (n : ℕ). week_minute n w.first) q) (Memᴰ.append_right (day_begins d ws) r)

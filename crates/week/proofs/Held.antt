-- The packet at a minute, exactly. Assumes nothing.
use Prim.Native.Nat.{ℕ, zero, suc, ◌≤◌}
use mathlib.Core.Path.{◌≡◌, refl, sym, ap, subst, ◌∙◌}
use mathlib.Core.Bool.{Bool, true, false, cond}
use mathlib.Core.List.Memᴰ
use mathlib.Core.List.{List, [], ◌∷◌, Memᴰ}
use mathlib.Core.Logic.{◌↔◌, ◌⊎◌, inl, inr}
use mathlib.Core.Option.{Option, none, some}
use native.Mathlib.Omega.{arith}
use lib.Dec.{leb}
use lib.ListN.{get_or, replicate}
use borrow.Author.Tests.{ltb-true, leb-true, lt-ltb, le-leb}
use Rattle.std.specs.Prelude.{Some, None, Ok, Err}
use Rattle.table.specs.declared.Refusal.TheVariants.{Week}
use Rattle.table.specs.Refusal.{Given, given_by}
use Rattle.table.proofs.Words.{and_left, and_right, told_apart, zero_one}
use Rattle.week.specs.declared.Window.{Window}
use Rattle.week.specs.Weeks.{holds, packet_at, window_at}
use Rattle.week.specs.Claims.{IsWindow, unused, Ascend, no_more, one_more, IsDay, IsWeek, WindowOf, ValidInput, BrokenInput, Answers, passed, Holds, At, held, not_held}
use Rattle.week.proofs.Days.{unused_no_window, day_of_lem, below_seven}
use Rattle.week.proofs.Checks.{answers_exactly, refused_exactly, answered}

-- what stands among windows that ascend from the minute m is a window, and begins there or later
pub later : {m : ℕ} {ws : List Window} → Ascend m ws → (w : Window) → Memᴰ w ws → (m ≤ w.first) × IsWindow w
later no_more w i = absurd (Memᴰ.not-nil i)
later {m} (one_more {w = v} {ws = vs} k h a) w i = go (later a w) (Memᴰ.cases_cons i)
  where
    go : (Memᴰ w vs → (v.end ≤ w.first) × IsWindow w) → (w ≡ v) ⊎ Memᴰ w vs → (m ≤ w.first) × IsWindow w
    go r (inl p) = subst (λ (x : Window). (m ≤ x.first) × IsWindow x) (sym p) (h, k)
    go r (inr j) = let q = r j in (omega (arith, q.0, k.first_below_end), q.1)

-- "Windows of a day [..] don't overlap": two that hold one minute are one
one_window : {m k : ℕ} {ws : List Window} → Ascend m ws → (v w : Window) → Memᴰ v ws → Memᴰ w ws → Holds k v → Holds k w → v ≡ w
one_window no_more v w i j x y = absurd (Memᴰ.not-nil i)
one_window {k = k} (one_more {w = u} {ws = us} o h a) v w i j x y =
    go (λ s t. one_window a v w s t x y) (Memᴰ.cases_cons i) (Memᴰ.cases_cons j)
  where
    apart : (s t : Window) → s ≡ u → Memᴰ t us → Holds k s → Holds k t → ⊥
    apart s t p q b c = let l = (later a t q).0 in let e : s.end ≡ u.end = ap (λ (z : Window). z.end) p in omega (arith, b.below_end, c.from_first)

    go : (Memᴰ v us → Memᴰ w us → v ≡ w) → (v ≡ u) ⊎ Memᴰ v us → (w ≡ u) ⊎ Memᴰ w us → v ≡ w
    go r (inl p) (inl q) = p ∙ sym q
    go r (inl p) (inr q) = absurd (apart v w p q x y)
    go r (inr p) (inl q) = absurd (apart w v q p y x)
    go r (inr p) (inr q) = r p q

-- what stands in a place of a day is one of its windows, or unused
replicated : (n : ℕ) (w : Window) → Memᴰ w (replicate n unused) → w ≡ unused
replicated zero w i = absurd (Memᴰ.not-nil i)
replicated (suc n) w i = go (replicated n w) (Memᴰ.cases_cons i)
  where
    go : (Memᴰ w (replicate n unused) → w ≡ unused) → (w ≡ unused) ⊎ Memᴰ w (replicate n unused) → w ≡ unused
    go r (inl p) = p
    go r (inr j) = r j

placed : {day : List Window} (x : IsDay day) (w : Window) → Memᴰ w day → Memᴰ w x.filled.windows ⊎ (w ≡ unused)
placed {day} x w i = go (Memᴰ.append_cases x.filled.windows (subst (Memᴰ w) x.filled.in_order i))
  where
    go : Memᴰ w x.filled.windows ⊎ Memᴰ w (replicate x.filled.left unused) → Memᴰ w x.filled.windows ⊎ (w ≡ unused)
    go (inl j) = inl j
    go (inr j) = inr (replicated x.filled.left w j)

pub window_in : {day : List Window} (x : IsDay day) (w : Window) → Memᴰ w day → IsWindow w → Memᴰ w x.filled.windows
window_in x w i k = go (placed x w i)
  where
    go : Memᴰ w x.filled.windows ⊎ (w ≡ unused) → Memᴰ w x.filled.windows
    go (inl j) = j
    go (inr p) = absurd (unused_no_window (subst IsWindow p k))

holding : {day : List Window} → IsDay day → {k : ℕ} (w : Window) → Memᴰ w day → Holds k w → IsWindow w
holding x {k} w i h = go (placed x w i)
  where
    go : Memᴰ w x.filled.windows ⊎ (w ≡ unused) → IsWindow w
    go (inl j) = (later x.filled.ascend w j).1
    go (inr p) = let e : w.end ≡ 0 = ap (λ (z : Window). z.end) p in absurd (omega (arith, h.below_end))

holds_is : (k : ℕ) (w : Window) → holds k w ≡ true → Holds k w
unfolding holds
holds_is k w e = record {
  from_first = leb-true _ _ (and_left (leb w.first k) _ e);
  below_end = ltb-true _ _ (and_right (leb w.first k) _ e);
}

is_held : {k : ℕ} {w : Window} → Holds k w → holds k w ≡ true
unfolding holds
is_held h = rw (le-leb _ _ h.from_first, lt-ltb _ _ h.below_end)

-- the packet that is found
record Found (k : ℕ) (ws : List Window) (p : ℕ) : Type 0 where
  window : Window
  place : Memᴰ window ws
  it_holds : Holds k window
  packet_is : window.packet ≡ p

packet_some : (k : ℕ) (ws : List Window) (p : ℕ) → packet_at k ws ≡ some p → Found k ws p
unfolding packet_at
packet_some k [] p e = zero_one (cc)
packet_some k (w ∷ ws) p e = go (packet_some k ws p) (holds k w) refl e
  where
    go : (packet_at k ws ≡ some p → Found k ws p) → (z : Bool) → holds k w ≡ z → cond z (some w.packet) (packet_at k ws) ≡ some p → Found k (w ∷ ws) p
    go r true q f = record { window = w; place = Memᴰ.head refl; it_holds = holds_is k w q; packet_is = cc }
    go r false q f = let x = r f in record { window = x.window; place = Memᴰ.tail x.place; it_holds = x.it_holds; packet_is = x.packet_is }

packet_none : (k : ℕ) (ws : List Window) → packet_at k ws ≡ none → (w : Window) → Memᴰ w ws → Holds k w → ⊥
unfolding packet_at
packet_none k [] e w i h = Memᴰ.not-nil i
packet_none k (v ∷ vs) e w i h = go (λ f j. packet_none k vs f w j h) (holds k v) refl e (Memᴰ.cases_cons i)
  where
    go : (packet_at k vs ≡ none → Memᴰ w vs → ⊥) → (z : Bool) → holds k v ≡ z → cond z (some v.packet) (packet_at k vs) ≡ none → (w ≡ v) ⊎ Memᴰ w vs → ⊥
    go r true q f o = zero_one (cc)
    go r false q f (inl p) = told_apart (is_held (subst (Holds k) p h)) q
    go r false q f (inr j) = r f j

-- "Windows of a day [..] don't overlap" ([6]): two of one day that hold the same minute are one
pub never_two : {week : List (List Window)} {d k : ℕ} {v w : Window} → IsWeek week → WindowOf week d v → WindowOf week d w → Holds k v → Holds k w → v ≡ w
never_two {d = d} {v = v} {w = w} is o p =
    let x = day_of_lem is d (below_seven is o) in
    one_window x.filled.ascend v w (window_in x v o.place o.a_window) (window_in x w p.place p.a_window)

module _ (week : List (List Window)) (day minute : ℕ) (k : ValidInput week day minute) where
  that_day : IsDay (get_or week day [])
  that_day = let h = k.day_is in day_of_lem k.week_is day (omega arith)

  -- what is found is a window of the day
  found : {p : ℕ} (x : Found minute (get_or week day []) p) → WindowOf week day x.window
  found x = record { place = x.place; a_window = holding that_day x.window x.place x.it_holds }

  at : (o : Option ℕ) → packet_at minute (get_or week day []) ≡ o → At week day minute (given_by o)
  unfolding given_by
  at (some p) e =
      let x = packet_some minute (get_or week day []) p e in
      subst (λ (n : ℕ). At week day minute (Ok (Some n))) x.packet_is (held (found x) x.it_holds)
  at none e = not_held (λ w o h. packet_none minute (get_or week day []) e w o.place h)

  gives : {a : Given} → At week day minute a → (o : Option ℕ) → packet_at minute (get_or week day []) ≡ o → given_by o ≡ a
  unfolding given_by
  gives (held {w} o h) none e = absurd (packet_none minute (get_or week day []) e w o.place h)
  gives (held {w} o h) (some p) e =
      let x = packet_some minute (get_or week day []) p e in
      ap (λ (n : ℕ). Ok (Some n)) (sym x.packet_is ∙ ap (λ (z : Window). z.packet) (never_two k.week_is (found x) o x.it_holds h))
  gives (not_held n) none e = refl
  gives (not_held n) (some p) e = let x = packet_some minute (get_or week day []) p e in absurd (n x.window (found x) x.it_holds)

-- "the packet number, or none exactly when no window holds that minute" ([6]): each answer is given exactly where the paper gives it
pub window_exactly : (week : List (List Window)) (day minute : ℕ) (a : Given) → (window_at week day minute ≡ a) ↔ Answers week day minute (At week day minute) a
unfolding window_at
window_exactly week day minute =
    answers_exactly week day minute (packet_at minute (get_or week day [])) (At week day minute) (λ k a. (λ e. subst (At week day minute) e (at week day minute k (packet_at minute (get_or week day [])) refl), λ q. gives week day minute k q (packet_at minute (get_or week day [])) refl))

-- 13 exactly on a broken week, day or minute
pub window_refused : (week : List (List Window)) (day minute : ℕ) → (window_at week day minute ≡ Err Week) ↔ BrokenInput week day minute
unfolding window_at
window_refused week day minute = refused_exactly week day minute (packet_at minute (get_or week day []))

-- "none exactly when no window holds that minute" ([6])
pub window_none : (week : List (List Window)) (day minute : ℕ) → (window_at week day minute ≡ Ok None)
    ↔ (ValidInput week day minute × ((w : Window) → WindowOf week day w → Holds minute w → ⊥))
window_none week day minute = (λ e. go (answered week day minute (λ q. zero_one (cc)) ((window_exactly week day minute (Ok None)).0 e)), λ x. (window_exactly week day minute (Ok None)).1 (passed x.0 (not_held x.1)))
  where
    nothing : {a : Given} → At week day minute a → a ≡ Ok None → (w : Window) → WindowOf week day w → Holds minute w → ⊥
    nothing (held o h) e = zero_one (cc)
    nothing (not_held n) e = n

    go : ValidInput week day minute × At week day minute (Ok None) → ValidInput week day minute × ((w : Window) → WindowOf week day w → Holds minute w → ⊥)
    go x = (x.0, nothing x.1 refl)

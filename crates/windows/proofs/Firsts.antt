-- The first beginning that the search finds on a day is the least from the minute on. Assumes nothing.
use Prim.Native.Nat.{ℕ, zero, suc, ◌≤◌, ◌<◌}
use mathlib.Core.Path.{◌≡◌, refl, sym, ap, subst, ◌∙◌}
use mathlib.Core.Bool.{Bool, true, false, cond}
use mathlib.Core.List.Memᴰ
use mathlib.Core.List.{List, ◌∷◌, ◌++◌, Memᴰ}
use mathlib.Core.Logic.{◌⊎◌, inl, inr}
use mathlib.Core.Option.{none, some}
use native.Mathlib.Omega.{arith}
use lib.Dec.{leb}
use lib.ListN.{replicate}
use borrow.Author.Tests.{leb-true, leb-false, ne_eqb}
use Rattle.table.proofs.Words.{zero_one}
use Rattle.week.specs.declared.Window.{Window}
use Rattle.week.specs.Claims.{IsWindow, unused, Ascend, no_more, one_more, IsDay}
use Rattle.week.proofs.Held.{later, window_in}
use Rattle.windows.specs.Code.{first_from}

-- a window of these begins at the minute b, from m on, and none of them from m on begins before
pub record First (m : ℕ) (ws : List Window) (b : ℕ) : Type 0 where
  pub begun : Window
  pub place : Memᴰ begun ws
  pub window : IsWindow begun
  pub minute_is : begun.first ≡ b
  pub reached : m ≤ b
  pub below : (v : Window) → Memᴰ v ws → IsWindow v → m ≤ v.first → b ≤ v.first

-- a place with a packet, and the places after the windows
first_window : (m : ℕ) {w : Window} (ws : List Window) → IsWindow w → first_from m (w ∷ ws) ≡ cond (leb m w.first) (some w.first) (first_from m ws)
unfolding first_from
first_window m {w} ws k = rw (ne_eqb w.packet 0 (λ e. let h = k.from_one in omega arith))

unused_none : (m n : ℕ) → first_from m (replicate n unused) ≡ none
unfolding first_from
unused_none m zero = refl
unused_none m (suc n) = refl

module _ (m : ℕ) where
  first_some : {a : ℕ} {ws : List Window} → Ascend a ws → (n b : ℕ) → first_from m (ws ++ replicate n unused) ≡ some b → First m ws b
  first_some no_more n b e = let q = unused_none m n in zero_one (cc)
  first_some (one_more {w = w} {ws = ws} k h o) n b e =
      go (first_some o n b) (leb m w.first) refl (sym (first_window m (ws ++ replicate n unused) k) ∙ e)
    where
      here : w.first ≡ b → (v : Window) → (v ≡ w) ⊎ Memᴰ v ws → b ≤ v.first
      here q v (inl p) = let x : v.first ≡ w.first = ap (λ (u : Window). u.first) p in omega arith
      here q v (inr j) = let x = (later o v j).0 in let y = k.first_below_end in omega arith

      onward : First m ws b → w.first < m → (v : Window) → (v ≡ w) ⊎ Memᴰ v ws → IsWindow v → m ≤ v.first → b ≤ v.first
      onward x l v (inl p) c g = let y : v.first ≡ w.first = ap (λ (u : Window). u.first) p in absurd (omega arith)
      onward x l v (inr j) c g = x.below v j c g

      go : (first_from m (ws ++ replicate n unused) ≡ some b → First m ws b) → (z : Bool) → leb m w.first ≡ z
          → cond z (some w.first) (first_from m (ws ++ replicate n unused)) ≡ some b → First m (w ∷ ws) b
      go r true p f =
          let q : w.first ≡ b = cc in
          let l = leb-true m w.first p in
          record { begun = w; place = Memᴰ.head refl; window = k; minute_is = q; reached = omega arith; below = λ v i c g. here q v (Memᴰ.cases_cons i) }
      go r false p f =
          let x = r f in
          let l = leb-false m w.first p in
          record {
            begun = x.begun;
            place = Memᴰ.tail x.place;
            window = x.window;
            minute_is = x.minute_is;
            reached = x.reached;
            below = λ v i. onward x l v (Memᴰ.cases_cons i);
          }

  first_none : {a : ℕ} {ws : List Window} → Ascend a ws → (n : ℕ) → first_from m (ws ++ replicate n unused) ≡ none → (v : Window) → Memᴰ v ws → m ≤ v.first → ⊥
  first_none no_more n e v i g = Memᴰ.not-nil i
  first_none (one_more {w = w} {ws = ws} k h o) n e v i g =
      go (λ f j. first_none o n f v j g) (leb m w.first) refl (sym (first_window m (ws ++ replicate n unused) k) ∙ e) (Memᴰ.cases_cons i)
    where
      go : (first_from m (ws ++ replicate n unused) ≡ none → Memᴰ v ws → ⊥) → (z : Bool) → leb m w.first ≡ z
          → cond z (some w.first) (first_from m (ws ++ replicate n unused)) ≡ none → (v ≡ w) ⊎ Memᴰ v ws → ⊥
      go r true p f c = zero_one (cc)
      go r false p f (inl q) = let l = leb-false m w.first p in let y : v.first ≡ w.first = ap (λ (u : Window). u.first) q in omega arith
      go r false p f (inr j) = r f j

  module _ {day : List Window} (x : IsDay day) where
    pub first_found : (b : ℕ) → first_from m day ≡ some b → First m day b
    first_found b e =
        let y = first_some x.filled.ascend x.filled.left b (ap (first_from m) (sym x.filled.in_order) ∙ e) in
        record {
          begun = y.begun;
          place = subst (Memᴰ y.begun) (sym x.filled.in_order) (Memᴰ.append_left (replicate x.filled.left unused) y.place);
          window = y.window;
          minute_is = y.minute_is;
          reached = y.reached;
          below = λ v i c g. y.below v (window_in x v i c) c g;
        }

    pub first_missed : first_from m day ≡ none → (v : Window) → Memᴰ v day → IsWindow v → m ≤ v.first → ⊥
    first_missed e v i c g = first_none x.filled.ascend x.filled.left (ap (first_from m) (sym x.filled.in_order) ∙ e) v (window_in x v i c) g

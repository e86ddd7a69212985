-- Laws of places in a list. Assumes nothing.
use Prim.Native.Nat.{ℕ, zero, suc, ◌+◌, ◌<◌}
use mathlib.Core.Path.{◌≡◌, refl, sym, ap, ◌∙◌}
use mathlib.Core.List.Memᴰ
use mathlib.Core.List.{List, [], ◌∷◌, Memᴰ}
use mathlib.Core.Logic.{◌⊎◌, inl, inr}
use native.Mathlib.Omega.{arith}
use native.Mathlib.Numerals.{add-one}
use lib.ListN.{length, get_or, drop}
use lib.Seq.{drop-cons}

module _ {A : Type 0} where
  -- a list from place i on is place i and the list after it
  pub from_place : (l : List A) (i : ℕ) (z : A) → i < length l → drop i l ≡ get_or l i z ∷ drop (i + 1) l
  from_place l i z h = drop-cons l i z h ∙ ap (λ (n : ℕ). get_or l i z ∷ drop n l) (sym (add-one i))

  -- what is read within a list's length does not go by what is taken beyond it
  pub any_default : (l : List A) (i : ℕ) (x y : A) → i < length l → get_or l i x ≡ get_or l i y
  any_default [] i x y h = absurd (omega arith)
  any_default (a ∷ l) zero x y h = refl
  any_default (a ∷ l) (suc i) x y h = any_default l i x y (omega arith)

  -- a member of a list has a place in it
  pub member_place : (x : A) (l : List A) (z : A) → Memᴰ x l → (i : ℕ) × (i < length l) × (get_or l i z ≡ x)
  member_place x [] z m = absurd (Memᴰ.not-nil m)
  member_place x (a ∷ l) z m = go (Memᴰ.cases_cons m) (member_place x l z)
    where
      go : (x ≡ a) ⊎ Memᴰ x l → (Memᴰ x l → (i : ℕ) × (i < length l) × (get_or l i z ≡ x)) → (i : ℕ) × (i < length (a ∷ l)) × (get_or (a ∷ l) i z ≡ x)
      go (inl e) f = (0, omega arith, sym e)
      go (inr j) f = let y = f j in (suc y.0, omega (arith, y.1), y.2)

  -- what is read within a list's length is a member of it
  pub at_place : (l : List A) (i : ℕ) (z : A) → i < length l → Memᴰ (get_or l i z) l
  at_place [] i z h = absurd (omega arith)
  at_place (a ∷ l) zero z h = Memᴰ.head refl
  at_place (a ∷ l) (suc i) z h = Memᴰ.tail (at_place l i z (omega arith))

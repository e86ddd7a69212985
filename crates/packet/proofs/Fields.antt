-- The fields of a packet by their positions. Assumes nothing.
use Prim.Native.Nat.{ℕ, zero, suc, ◌+◌, ◌*◌, ◌≤◌, ◌<◌}
use mathlib.Core.Path.{◌≡◌, refl, ap, ◌∙◌}
use mathlib.Core.Bool.{Bool, true, false}
use mathlib.Core.List.{List, [], ◌∷◌}
use mathlib.Core.Option.{Option, none, some}
use native.Mathlib.Omega.{arith}
use native.Mathlib.Numerals.{add-one}
use lib.ListN.{length, get_or, drop, length-drop, drop_of_length-le}
use lib.Seq.{drop-cons, drop-drop}
use lib.Dec.{leb}
use borrow.Author.Tests.{le-leb, lt-leb, leb-true, leb-false}
use Rattle.fields.specs.Packet.{Field, before, fields}
use Rattle.packet.specs.Code.{size_at, end_at, value_at, fields_from}

-- a larger bound reads the same fields
pub fields_enough : (n m : ℕ) (l : List ℕ) → length l ≤ n → length l ≤ m → fields n l ≡ fields m l
unfolding fields
fields_enough zero zero l h k = refl
fields_enough zero (suc m) [] h k = refl
fields_enough zero (suc m) (t ∷ l) h k = absurd (omega arith)
fields_enough (suc n) zero [] h k = refl
fields_enough (suc n) zero (t ∷ l) h k = absurd (omega arith)
fields_enough (suc n) (suc m) [] h k = refl
fields_enough (suc n) (suc m) (t ∷ []) h k = refl
fields_enough (suc n) (suc m) (t ∷ (a ∷ [])) h k = refl
fields_enough (suc n) (suc m) (t ∷ (a ∷ (b ∷ l))) h k =
    let d = length-drop (a * 256 + b) l in
    rw (fields_enough n m (drop (a * 256 + b) l) (omega arith) (omega arith))

one_more : (l : List ℕ) (at : ℕ) → at < length l → drop at l ≡ get_or l at 0 ∷ drop (at + 1) l
one_more l at h = rw (add-one, drop-cons l at 0)

-- nothing is left at the end
pub fields_end : (l : List ℕ) (at : ℕ) → length l ≤ at → fields_from l at ≡ some []
unfolding fields
fields_end l at h = rw (drop_of_length-le l h) (go (length l))
  where
    go : (n : ℕ) → fields n [] ≡ some []
    go zero = refl
    go (suc n) = refl

-- a field's first three bytes, and what follows
pub three : (l : List ℕ) (at : ℕ) → at + 3 ≤ length l → drop at l ≡ get_or l at 0 ∷ (get_or l (at + 1) 0 ∷ (get_or l (at + 2) 0 ∷ drop (at + 3) l))
three l at h =
    let a : at + 1 + 1 ≡ at + 2 = omega arith in
    let b : at + 2 + 1 ≡ at + 3 = omega arith in
    one_more l at (omega arith)
    ∙ ap (λ (x : List ℕ). get_or l at 0 ∷ x) (one_more l (at + 1) (omega arith) ∙ ap (λ (n : ℕ). get_or l (at + 1) 0 ∷ drop n l) a)
    ∙ ap (λ (x : List ℕ). get_or l at 0 ∷ (get_or l (at + 1) 0 ∷ x)) (one_more l (at + 2) (omega arith) ∙ ap (λ (n : ℕ). get_or l (at + 2) 0 ∷ drop n l) b)

-- a field that does not end within the packet
pub fields_broken : (l : List ℕ) (at : ℕ) → at < length l → length l < end_at l at → fields_from l at ≡ none
unfolding fields
fields_broken l at h k = go (length l) refl (leb (at + 3) (length l)) refl
  where
    short : (n : ℕ) (m : List ℕ) → 0 < length m → length m < 3 → fields (suc n) m ≡ none
    short n [] a b = absurd (omega arith)
    short n (x ∷ []) a b = refl
    short n (x ∷ (y ∷ [])) a b = refl
    short n (x ∷ (y ∷ (z ∷ m))) a b = absurd (omega arith)

    go : (n : ℕ) → length l ≡ n → (x : Bool) → leb (at + 3) (length l) ≡ x → fields n (drop at l) ≡ none
    go zero e x f = absurd (omega arith)
    go (suc n) e true f =
        let g = leb-true (at + 3) (length l) f in
        rw (three l at g, lt-leb (size_at l at) (length (drop (at + 3) l)) (omega (arith, length-drop (at + 3) l)))
    go (suc n) e false f = short n (drop at l) (omega (arith, length-drop at l)) (omega (arith, length-drop at l, leb-false (at + 3) (length l) f))

-- a field that does
pub fields_next : (l : List ℕ) (at : ℕ) → end_at l at ≤ length l
    → fields_from l at ≡ before (record { tag = get_or l at 0; value = value_at l at }) (fields_from l (end_at l at))
unfolding fields
fields_next l at h = go (length l) refl
  where
    go : (n : ℕ) → length l ≡ n → fields n (drop at l) ≡ before (record { tag = get_or l at 0; value = value_at l at }) (fields_from l (end_at l at))
    go zero e = absurd (omega arith)
    go (suc n) e =
        let d = length-drop (at + 3) l in
        rw (three l at (omega arith), le-leb (size_at l at) (length (drop (at + 3) l)) (omega arith), drop-drop (size_at l at) (at + 3) l)
        (ap (before (record { tag = get_or l at 0; value = value_at l at }))
        (fields_enough n (length l) (drop (end_at l at) l) (omega (arith, length-drop (end_at l at) l)) (omega (arith, length-drop (end_at l at) l))))

-- where bytes are left, there is a field or none that is whole
pub fields_some : (l : List ℕ) (at : ℕ) → at < length l → fields_from l at ≡ some [] → ⊥
unfolding fields before
fields_some l at h e = go (leb (end_at l at) (length l)) refl (fields_from l (end_at l at)) refl
  where
    no : {x : Option (List Field)} → fields_from l at ≡ x → x ≡ none → ⊥
    no p q = let z : ◌≡◌ {A = ℕ} 0 1 = cc in omega arith

    go : (z : Bool) → leb (end_at l at) (length l) ≡ z → (x : Option (List Field)) → fields_from l (end_at l at) ≡ x → ⊥
    go true f none p = no (fields_next l at (leb-true _ _ f) ∙ rw p) refl
    go true f (some fs) p = let q = fields_next l at (leb-true _ _ f) in let z : ◌≡◌ {A = ℕ} 0 1 = cc in omega arith
    go false f x p = no (fields_broken l at h (leb-false _ _ f)) refl

-- What is read of the fields from a position on goes by what stands there: nothing, a field that does not end within the packet, or one that does.
pub each_case : (l : List ℕ) (at : ℕ) (P : Option (List Field) → Type 0) → (length l ≤ at → P (some [])) → P none
    → (end_at l at ≤ length l → P (before (record { tag = get_or l at 0; value = value_at l at }) (fields_from l (end_at l at)))) → P (fields_from l at)
each_case l at P ended broken field = start (leb (length l) at) refl
  where
    inside : (z : Bool) → leb (end_at l at) (length l) ≡ z → at < length l → P (fields_from l at)
    inside true e h = let i = leb-true (end_at l at) (length l) e in rw (fields_next l at i) (field i)
    inside false e h = rw (fields_broken l at h (leb-false (end_at l at) (length l) e)) broken

    start : (z : Bool) → leb (length l) at ≡ z → P (fields_from l at)
    start true e = let h = leb-true (length l) at e in rw (fields_end l at h) (ended h)
    start false e = inside (leb (end_at l at) (length l)) refl (leb-false (length l) at e)

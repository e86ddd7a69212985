-- A load has its number of digits, is a whole text, and is the one that the paper's sentences describe. Assumes nothing.
use Prim.Native.Nat.{ℕ, zero, suc, ◌+◌, ◌%◌, ◌≤◌, ◌<◌}
use mathlib.Core.Path.{◌≡◌, refl, sym, ap, subst, ◌∙◌}
use mathlib.Core.Bool.{Bool, true, false, cond}
use mathlib.Core.List.{List, [], ◌∷◌, ◌++◌, append-nil, append_assoc}
use mathlib.Core.Logic.{◌↔◌}
use mathlib.Core.Option.{Option, some}
use native.Mathlib.Omega.{arith}
use lib.ListN.{length, get_or, take, length-append}
use lib.Seq.{take-suc, take-length}
use lib.Dec.{leb}
use borrow.Author.Tests.{leb-true, le-leb}
use Rattle.calculus.specs.Tree.{Tree}
use Rattle.table.proofs.Ascending.{one_list}
use Rattle.table.proofs.Words.{and_left, and_right, told_apart}
use Rattle.ternary.specs.Text.{tree_of}
use Rattle.ternary.specs.Wanted.{wanted_after, wanted_from, wanted}
use Rattle.ternary.proofs.Wanted.{wanted_append, wanted_whole}
use Rattle.loads.specs.Loads.{next_state, drawn, can_end, allowed, pick, Drawing, digit_at, next_drawing, digits_from, first_drawing, is_count, load}
use Rattle.loads.specs.Claims.{AllowedAre, TakenFor, state_after, Draws, IsCount, IsLoad}
use Rattle.loads.specs.Claims.IsLoad.{outside, inside}
use Rattle.loads.proofs.Allowed.{UsedUp, can_end_exactly, some_allowed, pick_ends, allowed_are}

-- "draws once a digit" ([10]): the state is advanced once for every digit
pub one_draw : (left : ℕ) (p : Drawing) → (next_drawing left p).state ≡ next_state p.state
unfolding next_drawing
one_draw left p = refl

from_many : (n : ℕ) (p : Drawing) → length (digits_from n p) ≡ n
unfolding digits_from
from_many zero p = refl
from_many (suc n) p = ap suc (from_many n (next_drawing n p))

-- where so many digits can use up the trees wanted, they still can after the digit that is taken
pub after_ends : (n : ℕ) (p : Drawing) → can_end (suc n) p.wanted ≡ true → can_end n (next_drawing n p).wanted ≡ true
unfolding next_drawing digit_at
after_ends n p h = pick_ends n p.wanted (drawn p.state) h

-- and the digits of a load do use them up
from_ends : (n : ℕ) (p : Drawing) → can_end n p.wanted ≡ true → wanted_from p.wanted (digits_from n p) ≡ some 0
unfolding digits_from wanted_from next_drawing
from_ends zero p h = go ((can_end_exactly zero p.wanted).0 h)
  where
    go : UsedUp zero p.wanted → p.wanted ≡ some 0
    go ([], k, e) = e
    go (c ∷ r, k, e) = absurd (omega arith)
from_ends (suc n) p h = from_ends n (next_drawing n p) (after_ends n p h)

-- one tree can be used up by any number of digits from 1 on
pub start_ends : (seed n : ℕ) → 1 ≤ n → can_end n (first_drawing seed).wanted ≡ true
unfolding can_end first_drawing
start_ends seed n h = le-leb 1 n h

-- the number that the next digit goes by is the one after the text with this digit
wanted_next : (l : List ℕ) (left : ℕ) (p : Drawing) → wanted l ≡ p.wanted → wanted (l ++ (digit_at left p ∷ [])) ≡ (next_drawing left p).wanted
unfolding wanted wanted_from next_drawing
wanted_next l left p e = wanted_append (some 1) l (digit_at left p ∷ []) ∙ ap (wanted_after (digit_at left p)) e

module _ (n : ℕ) where
  -- the digits after a beginning are taken one by one
  from_takes : (left : ℕ) (p : Drawing) (l : List ℕ) → wanted l ≡ p.wanted → length l + left ≡ n → can_end left p.wanted ≡ true
      → (i : ℕ) → i < left → TakenFor n (l ++ take i (digits_from left p)) (drawn (state_after i p.state)) (get_or (digits_from left p) i 0)
  unfolding digits_from next_drawing digit_at state_after pick
  from_takes zero p l e k h i b = absurd (omega arith)
  from_takes (suc left) p l e k h zero b =
      subst (λ (m : List ℕ). TakenFor n m (drawn p.state) (digit_at left p)) (sym (append-nil l))
      (record {
        digits = allowed left p.wanted;
        all_allowed = subst (λ (o : Option ℕ). AllowedAre n l (allowed left o)) e (allowed_are n l left k);
        not_empty = some_allowed left p.wanted h;
        taken = refl;
      })
  from_takes (suc left) p l e k h (suc i) b =
      subst (λ (m : List ℕ). TakenFor n m (drawn (state_after i (next_state p.state))) (get_or (digits_from left (next_drawing left p)) i 0))
      (append_assoc l (digit_at left p ∷ []) (take i (digits_from left (next_drawing left p))))
      (from_takes left (next_drawing left p) (l ++ (digit_at left p ∷ [])) (wanted_next l left p e) (omega (arith, length-append l (digit_at left p ∷ []))) (after_ends left p h) i (omega arith))

  -- of what is drawn after a beginning one digit is taken
  one_taken : {l : List ℕ} {draw c d : ℕ} → TakenFor n l draw c → TakenFor n l draw d → c ≡ d
  one_taken {l} {draw} {c} {d} x y =
      let e : x.digits ≡ y.digits =
      one_list x.all_allowed.ascending y.all_allowed.ascending (λ z i. (y.all_allowed.exactly z).1 ((x.all_allowed.exactly z).0 i))
      (λ z i. (x.all_allowed.exactly z).1 ((y.all_allowed.exactly z).0 i)) in
      x.taken ∙ ap (λ (cs : List ℕ). get_or cs (draw % length cs) 0) e ∙ sym y.taken

from_draws : (seed n : ℕ) → 1 ≤ n → Draws seed n (digits_from n (first_drawing seed))
unfolding first_drawing wanted wanted_from
from_draws seed n h = record { many = from_many n (first_drawing seed); each = from_takes n n (first_drawing seed) [] refl (omega arith) (start_ends seed n h) }

-- a seed and a number of digits draw one text
one_drawing : (seed n : ℕ) (l m : List ℕ) → Draws seed n l → Draws seed n m → l ≡ m
one_drawing seed n l m x y = sym (all x.many) ∙ same n (omega arith) ∙ all y.many
  where
    all : {k : List ℕ} → length k ≡ n → take n k ≡ k
    all {k} e = ap (λ (j : ℕ). take j k) (sym e) ∙ take-length k

    same : (i : ℕ) → i ≤ n → take i l ≡ take i m
    same zero h = refl
    same (suc i) h =
        let p = same i (omega arith) in
        let q : get_or l i 0 ≡ get_or m i 0 = one_taken n (x.each i (omega arith)) (subst (λ (k : List ℕ). TakenFor n k (drawn (state_after i seed)) (get_or m i 0)) (sym p) (y.each i (omega arith))) in
        take-suc l i 0 (omega (arith, x.many)) ∙ ap (λ (k : List ℕ). k ++ (get_or l i 0 ∷ [])) p ∙ ap (λ (c : ℕ). take i m ++ (c ∷ [])) q ∙ sym (take-suc m i 0 (omega (arith, y.many)))

-- the test of n is what the paper says of it
count_is : (n : ℕ) → is_count n ≡ true → IsCount n
unfolding is_count
count_is n e = record { from_one = leb-true 1 n (and_left (leb 1 n) (leb n 4095) e); to_most = leb-true n 4095 (and_right (leb 1 n) (leb n 4095) e) }

is_count_lem : (n : ℕ) → IsCount n → is_count n ≡ true
unfolding is_count
is_count_lem n k = rw (le-leb 1 n k.from_one, le-leb n 4095 k.to_most)

-- a number of digits is from 1 to 4,095, or outside
pub count_case : (n : ℕ) → Dec (IsCount n)
count_case n = go (is_count n) refl
  where
    go : (z : Bool) → is_count n ≡ z → Dec (IsCount n)
    go true p = yes (count_is n p)
    go false p = no (λ k. told_apart (is_count_lem n k) p)

module _ (seed n : ℕ) where
  -- the load by its two cases
  pub load_inside : IsCount n → load seed n ≡ digits_from n (first_drawing seed)
  unfolding load
  load_inside k = rw (is_count_lem n k)

  pub load_outside : (IsCount n → ⊥) → load seed n ≡ []
  unfolding load
  load_outside h = go (is_count n) refl
    where
      go : (z : Bool) → is_count n ≡ z → cond z (digits_from n (first_drawing seed)) [] ≡ []
      go true p = absurd (h (count_is n p))
      go false p = refl

  -- "A load of n digits" ([10]) has n,
  pub load_many : IsCount n → length (load seed n) ≡ n
  load_many k = ap length (load_inside k) ∙ from_many n (first_drawing seed)

  -- and is empty exactly for n outside 1 to 4,095.
  pub load_empty : (load seed n ≡ []) ↔ (IsCount n → ⊥)
  load_empty = (λ e k. absurd (omega (arith, k.from_one, load_many k, ap length e)), load_outside)

  -- "Every nonempty load" ([10]): those of n from 1 to 4,095
  pub load_nonempty : (load seed n ≡ [] → ⊥) ↔ IsCount n
  load_nonempty = (λ h. case h (count_case n), λ k e. load_empty.0 e k)
    where
      case : (load seed n ≡ [] → ⊥) → Dec (IsCount n) → IsCount n
      case h (yes k) = k
      case h (no g) = absurd (h (load_outside g))

  -- "is a whole text" ([10])
  pub load_whole : IsCount n → (t : Tree) × (tree_of (load seed n) ≡ some t)
  unfolding wanted first_drawing
  load_whole k = (wanted_whole (load seed n)).0 (ap (wanted_from (some 1)) (load_inside k) ∙ from_ends n (first_drawing seed) (start_ends seed n k.from_one))

  pub load_draws : IsCount n → Draws seed n (load seed n)
  load_draws k = subst (Draws seed n) (sym (load_inside k)) (from_draws seed n k.from_one)

  pub draws_load : IsCount n → (l : List ℕ) → Draws seed n l → load seed n ≡ l
  draws_load k l x = one_drawing seed n (load seed n) l (load_draws k) x

  -- The load of the definition is that of the paper's sentences, and no other text is.
  pub load_exactly : (l : List ℕ) → (load seed n ≡ l) ↔ IsLoad seed n l
  load_exactly l = (λ e. subst (IsLoad seed n) e (case (count_case n)), only l)
    where
      case : Dec (IsCount n) → IsLoad seed n (load seed n)
      case (yes k) = inside k (load_draws k)
      case (no h) = subst (IsLoad seed n) (sym (load_outside h)) (outside h)

      only : (l : List ℕ) → IsLoad seed n l → load seed n ≡ l
      only l (outside h) = load_outside h
      only l (inside k x) = draws_load k l x

-- "the same packets on every site" ([10]): a seed and a number have one load.
pub one_load : (seed n : ℕ) (l m : List ℕ) → IsLoad seed n l → IsLoad seed n m → l ≡ m
one_load seed n l m x y = sym ((load_exactly seed n l).1 x) ∙ (load_exactly seed n m).1 y

-- The digits allowed are exactly those after which a continuation of the right length makes a whole text. Assumes nothing.
use Prim.Native.Nat.{ℕ, zero, suc, ◌+◌, ◌-◌, ◌≤◌, ◌<◌}
use mathlib.Core.Path.{◌≡◌, refl, sym, ◌∙◌}
use mathlib.Core.Bool.{Bool, true, false, cond}
use mathlib.Core.List.{List, [], ◌∷◌, ◌++◌, Memᴰ}
use mathlib.Core.Logic.{◌↔◌}
use mathlib.Core.Option.{Option, none, some}
use native.Mathlib.Omega.{arith}
use lib.ListN.{length, replicate, length-append, length-replicate}
use lib.Dec.{eqb}
use borrow.Author.Tests.{leb-true, eqb-true, le-leb, eq-eqb}
use Rattle.table.specs.Ascending.{NumbersAscend}
use Rattle.table.proofs.Words.{zero_one}
use Rattle.ternary.specs.Wanted.{wanted_after, wanted_from, wanted}
use Rattle.ternary.proofs.Wanted.{none_wanted, leaves_wanted, wanted_append, wanted_whole, digits_within}
use Rattle.loads.specs.Loads.{can_end, three_digits, allowed, pick}
use Rattle.loads.specs.Claims.{Allowed, AllowedAre}
use Rattle.loads.proofs.Lists.{some_member, pick_member, those_hold, hold_those, those_ascend, three_ascend}

-- stems leave the number of trees wanted
stems_wanted : (k n : ℕ) (l : List ℕ) → wanted_from (some (suc n)) (replicate k 49 ++ l) ≡ wanted_from (some (suc n)) l
unfolding wanted_from wanted_after
stems_wanted zero n l = refl
stems_wanted (suc k) n l = stems_wanted k n l

-- so many digits that use up the trees wanted
abbrev pub UsedUp : ℕ → Option ℕ → Type 0
UsedUp left o = (r : List ℕ) × (length r ≡ left) × (wanted_from o r ≡ some 0)

used_up : (left : ℕ) (o : Option ℕ) → can_end left o ≡ true → UsedUp left o
unfolding can_end wanted_from
used_up left none e = zero_one (cc)
used_up left (some zero) e = ([], sym (eqb-true left 0 e), refl)
used_up left (some (suc n)) e =
    let h : suc n ≤ left = leb-true (suc n) left e in
    let l : List ℕ = replicate (left - suc n) 49 in
    let r : List ℕ = replicate (suc n) 48 in
    let k : length (l ++ r) ≡ left = omega (arith, length-append l r, length-replicate {A = ℕ} (left - suc n) 49, length-replicate {A = ℕ} (suc n) 48) in
    (l ++ r, k, stems_wanted (left - suc n) n r ∙ leaves_wanted (suc n))

ends : (left : ℕ) (o : Option ℕ) → UsedUp left o → can_end left o ≡ true
unfolding can_end wanted_from wanted_after
ends left none (r, k, e) = zero_one (cc (none_wanted r))
ends left (some zero) ([], k, e) = eq-eqb left 0 (sym k)
ends left (some zero) (c ∷ r, k, e) = zero_one (cc (none_wanted r))
ends left (some (suc n)) (r, k, e) = le-leb (suc n) left (omega (arith, (digits_within r (suc n) 0 e).0))

-- Exactly so many digits can use up the trees wanted exactly where the test says so.
pub can_end_exactly : (left : ℕ) (o : Option ℕ) → (can_end left o ≡ true) ↔ UsedUp left o
can_end_exactly left o = (used_up left o, ends left o)

-- the three digits ascend
digits_ascend : NumbersAscend 0 three_digits
unfolding three_digits
digits_ascend = three_ascend three_digits refl (omega arith) (omega arith)

-- only a digit leaves a number wanted
one_digit : (c left : ℕ) (o : Option ℕ) → can_end left (wanted_after c o) ≡ true → Memᴰ c three_digits
unfolding three_digits can_end wanted_after
one_digit c left none e = zero_one (cc)
one_digit c left (some zero) e = zero_one (cc)
one_digit c left (some (suc n)) e = go (eqb c 48) (eqb c 49) (eqb c 50) refl refl refl e
  where
    go : (x y z : Bool) → eqb c 48 ≡ x → eqb c 49 ≡ y → eqb c 50 ≡ z → can_end left (cond x (some n) (cond y (some (suc n)) (cond z (some (suc (suc n))) none))) ≡ true → Memᴰ c three_digits
    go true y z p q r e = Memᴰ.head (eqb-true c 48 p)
    go false true z p q r e = Memᴰ.tail (Memᴰ.head (eqb-true c 49 q))
    go false false true p q r e = Memᴰ.tail (Memᴰ.tail (Memᴰ.head (eqb-true c 50 r)))
    go false false false p q r e = zero_one (cc)

module _ (left : ℕ) (o : Option ℕ) where
  abbrev test : ℕ → Bool
  test c = can_end left (wanted_after c o)

  allowed_test : (c : ℕ) → Memᴰ c (allowed left o) → test c ≡ true
  unfolding allowed
  allowed_test c i = (those_hold test three_digits c i).1

  test_allowed : (c : ℕ) → test c ≡ true → Memᴰ c (allowed left o)
  unfolding allowed
  test_allowed c e = hold_those test three_digits c (one_digit c left o e) e

  -- Where the trees wanted can be used up by one digit and those left after it, a digit is allowed,
  pub some_allowed : can_end (suc left) o ≡ true → 0 < length (allowed left o)
  unfolding wanted_from
  some_allowed h = go (used_up (suc left) o h)
    where
      go : UsedUp (suc left) o → 0 < length (allowed left o)
      go ([], k, e) = absurd (omega arith)
      go (c ∷ r, k, e) = some_member c (allowed left o) (test_allowed c (ends left (wanted_after c o) (r, omega arith, e)))

  -- and after the digit that is picked the digits left can use up what is then wanted.
  pub pick_ends : (draw : ℕ) → can_end (suc left) o ≡ true → can_end left (wanted_after (pick (allowed left o) draw) o) ≡ true
  pick_ends draw h = allowed_test (pick (allowed left o) draw) (pick_member (allowed left o) draw (some_allowed h))

module _ (n : ℕ) (l : List ℕ) (left : ℕ) (h : length l + suc left ≡ n) where
  test_claim : (c : ℕ) → can_end left (wanted_after c (wanted l)) ≡ true → Allowed n l c
  unfolding wanted wanted_from
  test_claim c e = go (used_up left (wanted_after c (wanted_from (some 1) l)) e)
    where
      go : UsedUp left (wanted_after c (wanted_from (some 1) l)) → Allowed n l c
      go (r, k, u) = (r, (wanted_whole (l ++ (c ∷ r))).0 (wanted_append (some 1) l (c ∷ r) ∙ u), omega (arith, length-append l (c ∷ r)))

  claim_test : (c : ℕ) → Allowed n l c → can_end left (wanted_after c (wanted l)) ≡ true
  unfolding wanted wanted_from
  claim_test c (r, w, k) =
      ends left (wanted_after c (wanted_from (some 1) l)) (r, omega (arith, length-append l (c ∷ r)), sym (wanted_append (some 1) l (c ∷ r)) ∙ (wanted_whole (l ++ (c ∷ r))).1 w)

  -- "A digit is allowed if the text can still become a whole tree of exactly n digits." ([10]): exactly those digits are, after any beginning.
  pub allowed_exactly : (c : ℕ) → Memᴰ c (allowed left (wanted l)) ↔ Allowed n l c
  allowed_exactly c = (λ i. test_claim c (allowed_test left (wanted l) c i), λ a. test_allowed left (wanted l) c (claim_test c a))

  pub allowed_are : AllowedAre n l (allowed left (wanted l))
  unfolding allowed
  allowed_are =
      record {
        exactly = allowed_exactly;
        ascending = those_ascend (test left (wanted l)) digits_ascend;
      }

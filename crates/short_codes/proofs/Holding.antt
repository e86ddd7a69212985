-- The table of values: it holds the values of all trees of at most ten nodes and nothing else, ascending, it is the only such table, and a test over the
-- whole of a list tells whether it is the table. Assumes nothing.
use Prim.Native.Nat.{ℕ, zero, suc, ◌+◌, ◌≤◌, ◌<◌}
use mathlib.Core.Path.{◌≡◌, refl, sym, ap, ap₂, subst, ◌∙◌}
use mathlib.Core.Bool.{Bool, true, false}
use mathlib.Core.List.Memᴰ
use mathlib.Core.List.{List, [], ◌∷◌, ◌++◌, Memᴰ}
use mathlib.Core.Logic.{◌⊎◌, inl, inr}
use mathlib.Core.Option.{some}
use native.Mathlib.Omega.{arith}
use lib.ListN.{length, get_or, get_or-eq_default}
use lib.Dec.{leb, ltb, eqb}
use borrow.Author.Tests.{leb-true, leb-false, ltb-true, ltb-false, eqb-true}
use Rattle.calculus.specs.Tree.{Tree, size}
use Rattle.table.specs.Ascending.{NumbersAscend}
use Rattle.table.specs.Ascending.NumbersAscend.{no_more}
use Rattle.table.proofs.Ascending.{one_list, append_ascends, place_below, same_place}
use Rattle.table.proofs.Lists.{member_place, at_place}
use Rattle.table.proofs.Making.{size_pos}
use Rattle.table.proofs.Words.{zero_one, and_left, and_right}
use Rattle.ternary.specs.Text.{text, tree_of}
use Rattle.ternary.specs.Wanted.{wanted}
use Rattle.ternary.proofs.OneText.{text_read, whole_text, length_text}
use Rattle.ternary.proofs.Wanted.{wanted_whole}
use Rattle.short_codes.specs.Values.{value_after, value, values_from, values_to, values, each_same, is_values, padded}
use Rattle.short_codes.specs.Claims.{HoldsValues, EachPlace}
use Rattle.short_codes.proofs.Numerals.{padded_more}
use Rattle.short_codes.proofs.Listed.{ValueOf, listed_value, value_listed, from_ascends, longer_from, shorter_to}

-- x is the value of a tree of at most n nodes
abbrev ValueWithin : ℕ → ℕ → Type 0
ValueWithin n x = (t : Tree) × (size t ≤ n) × (x ≡ value (text t))

-- the texts of n digits that use up one tree wanted are those of the trees of n nodes
tree_value : (n x : ℕ) → ValueOf n 1 0 x → (t : Tree) × (size t ≡ n) × (x ≡ value (text t))
unfolding value wanted
tree_value n x (l, k, u, p) = go ((wanted_whole l).0 u)
  where
    go : (t : Tree) × (tree_of l ≡ some t) → (t : Tree) × (size t ≡ n) × (x ≡ value (text t))
    go (t, e) = let q = whole_text l t e in (t, sym (length_text t) ∙ ap length (sym q) ∙ k, p ∙ ap value q)

value_tree : (t : Tree) → ValueOf (size t) 1 0 (value (text t))
unfolding value wanted
value_tree t = (text t, length_text t, (wanted_whole (text t)).1 (t, text_read t), refl)

to_within : (n x : ℕ) → Memᴰ x (values_to n) → ValueWithin n x
unfolding values_to
to_within zero x i = absurd (Memᴰ.not-nil i)
to_within (suc n) x i = go (Memᴰ.append_cases (values_to n) i) (to_within n x)
  where
    go : Memᴰ x (values_to n) ⊎ Memᴰ x (values_from (suc n) 1 0) → (Memᴰ x (values_to n) → ValueWithin n x) → ValueWithin (suc n) x
    go (inl j) f = let y = f j in (y.0, omega (arith, y.1), y.2)
    go (inr j) f = let y = tree_value (suc n) x (listed_value (suc n) 1 0 x j) in (y.0, omega (arith, y.1), y.2)

within_to : (n : ℕ) (t : Tree) → size t ≤ n → Memᴰ (value (text t)) (values_to n)
unfolding values_to
within_to zero t h = absurd (omega (arith, size_pos t))
within_to (suc n) t h = go (leb (size t) n) refl (within_to n t)
  where
    go : (z : Bool) → leb (size t) n ≡ z → (size t ≤ n → Memᴰ (value (text t)) (values_to n)) → Memᴰ (value (text t)) (values_to n ++ values_from (suc n) 1 0)
    go true p f = Memᴰ.append_left _ (f (leb-true (size t) n p))
    go false p f =
        let e : size t ≡ suc n = omega (arith, leb-false (size t) n p) in
        Memᴰ.append_right (values_to n) (value_listed (suc n) 1 0 (value (text t)) (subst (λ (k : ℕ). ValueOf k 1 0 (value (text t))) e (value_tree t)))

-- every value of n digits at most is below 1 with n digits 0 after it
to_below : (n x : ℕ) → Memᴰ x (values_to n) → x < padded n 1
unfolding values_to
to_below zero x i = absurd (Memᴰ.not-nil i)
to_below (suc n) x i = go (Memᴰ.append_cases (values_to n) i) (to_below n x)
  where
    go : Memᴰ x (values_to n) ⊎ Memᴰ x (values_from (suc n) 1 0) → (Memᴰ x (values_to n) → x < padded n 1) → x < padded (suc n) 1
    go (inl j) f = omega (arith, f j, padded_more n)
    go (inr j) f = shorter_to (suc n) x j

to_ascends : (n : ℕ) → NumbersAscend 0 (values_to n)
unfolding values_to
to_ascends zero = no_more
to_ascends (suc zero) = from_ascends 1 1 0
to_ascends (suc (suc n)) =
    append_ascends (to_ascends (suc n)) (from_ascends (suc (suc n)) 1 0) (λ x y i j. omega (arith, to_below (suc n) x i, longer_from n y j))

-- "1,374 of them" ([12])
pub values_many : length values ≡ 1374
unfolding values values_to values_from value_after
values_many = refl

-- "A table holds the values of all trees of at most ten nodes, ascending, 1,374 of them" ([12])
pub values_hold : HoldsValues values
unfolding values
values_hold =
    record {
      exactly = λ x. (to_within 10 x, λ (h : ValueWithin 10 x). rw h.2 (within_to 10 h.0 h.1));
      ascending = to_ascends 10;
      many = values_many;
    }

-- and no other list is that table
pub one_table : (l : List ℕ) → HoldsValues l → l ≡ values
one_table l h = one_list h.ascending values_hold.ascending (λ x i. (values_hold.exactly x).1 ((h.exactly x).0 i)) (λ x i. (h.exactly x).1 ((values_hold.exactly x).0 i))

-- what holds of the whole of a list holds at each of its places
pub each_place : (l : List ℕ) → HoldsValues l → EachPlace l
each_place l h =
    record {
      of_tree = λ i k. (h.exactly (get_or l i 0)).0 (at_place l i 0 k);
      of_each = λ t k. let y = member_place (value (text t)) l 0 ((h.exactly (value (text t))).1 (t, k, refl)) in (y.0, (y.1, y.2));
      one = λ x i j a b. same_place h.ascending i j a.0 b.0 (a.1 ∙ sym b.1);
      next = λ i k. place_below h.ascending i (i + 1) (omega arith) k;
    }

-- a list that passes the test is the table
each_same_lem : (l m : List ℕ) → each_same l m ≡ true → l ≡ m
unfolding each_same
each_same_lem [] [] e = refl
each_same_lem [] (y ∷ m) e = zero_one (cc)
each_same_lem (x ∷ l) [] e = zero_one (cc)
each_same_lem (x ∷ l) (y ∷ m) e = ap₂ (λ (a : ℕ) (r : List ℕ). a ∷ r) (eqb-true x y (and_left (eqb x y) (each_same l m) e)) (each_same_lem l m (and_right (eqb x y) (each_same l m) e))

-- The lemma that turns the test into the rule: a list that passes is the table, it holds the values and nothing else, ascending, and so at each place.
pub tested_values : (l : List ℕ) → is_values l ≡ true → l ≡ values
unfolding is_values
tested_values l e = each_same_lem l values e

pub tested_holds : (l : List ℕ) → is_values l ≡ true → HoldsValues l
tested_holds l e = rw (tested_values l e) values_hold

pub tested_places : (l : List ℕ) → is_values l ≡ true → EachPlace l
tested_places l e = each_place l (tested_holds l e)

-- every value has ten digits at most
pub value_small : (i : ℕ) → get_or values i 0 < 59049
unfolding values padded
value_small i = go (ltb i (length values)) refl
  where
    go : (z : Bool) → ltb i (length values) ≡ z → get_or values i 0 < 59049
    go true p = to_below 10 (get_or values i 0) (at_place values i 0 (ltb-true i (length values) p))
    go false p = rw (get_or-eq_default values 0 (ltb-false i (length values) p)) (omega arith)

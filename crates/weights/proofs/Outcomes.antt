-- The answers of the four operations, each exactly on its condition, and the total in trees. Assumes nothing.
use Prim.Native.Nat.{ℕ, ◌+◌, ◌≤◌, ◌<◌}
use mathlib.Core.Path.{◌≡◌, refl, sym, ap, subst, ◌∙◌}
use mathlib.Core.Bool.{Bool, true, false, cond, ◌&&◌}
use mathlib.Core.List.{List, []}
use mathlib.Core.Logic.{◌↔◌}
use mathlib.Core.Option.{Option, none, some}
use native.Mathlib.Omega.{arith}
use lib.Dec.{leb, ltb}
use Rattle.std.specs.Prelude.{Result, Ok, Err}
use Rattle.std.specs.Ordering.{nat_cmp, MatchOrdering}
use Rattle.std.specs.declared.cmp.Ordering.{Ordering}
use Rattle.std.specs.declared.cmp.Ordering.TheVariants.{Less, Equal, Greater}
use borrow.Author.Tests.{lt-ltb, le-ltb, ltb-true, ltb-false, leb-true, leb-false}
use Rattle.calculus.specs.Tree.{Tree}
use Rattle.table.specs.Nodes.{Making, got, full, Sound, tree_at, lay}
use Rattle.table.specs.Outcome.{Outcome, whole, at_entry, unless, laid}
use Rattle.table.specs.Claims.{Lays}
use Rattle.table.specs.Refusal.{made, not_made}
use Rattle.table.specs.Same.{Comparable}
use Rattle.table.specs.declared.Refusal.{Refusal}
use Rattle.table.specs.declared.Refusal.TheVariants.{Node, Weight}
use Rattle.table.specs.declared.Made.{Made}
use Rattle.table.proofs.Making.{lay_full, lay_fills}
use Rattle.table.proofs.Entry.{entered, enters, entry_lacks, lacks_entry}
use Rattle.table.proofs.Laid.{laid_got, laid_full, full_outcome, placed_gives}
use Rattle.weights.specs.Digits.{grams_of, digits_of, weight_tree, gram_digits, digits_of_weight, sum_digits}
use Rattle.weights.specs.Weights.{laid_digits, checked_digits, weight, add_weights, weigh, grams, compare_both, compare_weights}
use Rattle.weights.specs.Claims.{IsWeight, AreWeights, LaidOut, WeightMade, WeightsAdded, Weighs, Compares}
use Rattle.std.specs.Cmp.{nat_cmp_is, ranks}
use Rattle.weights.proofs.Weights.{every_weight, weight_exactly, digits_weight, weight_digits, one_number_of, no_weight, gram_digits_lem, no_gram_digits, sum_digits_lem, sum_above, digits_order, no_sum}

-- two trees are weights, or they are not both
data Both (x y : Tree) : Type 0 where
  are : {g h : ℕ} → IsWeight x g → IsWeight y h → Both x y
  are_not : ((g h : ℕ) → IsWeight x g → IsWeight y h → ⊥) → Both x y

both : (x y : Tree) → Both x y
both x y = go (digits_of_weight x) (digits_of_weight y) refl refl
  where
    go : (a b : Option (List ℕ)) → digits_of_weight x ≡ a → digits_of_weight y ≡ b → Both x y
    go (some l) (some m) p q = are (digits_weight x p) (digits_weight y q)
    go none b p q = are_not (λ g h i j. (no_weight x).0 p g i)
    go (some l) none p q = are_not (λ g h i j. (no_weight y).0 q h j)

-- not both node numbers are in use
module _ {u a b : ℕ} where
  pub out_of_use : (a < u → b < u → ⊥) → (ltb a u && ltb b u) ≡ false
  out_of_use n = go (ltb a u) (ltb b u) refl refl
    where
      go : (p q : Bool) → ltb a u ≡ p → ltb b u ≡ q → (p && q) ≡ false
      go true true e f = absurd (n (ltb-true a u e) (ltb-true b u f))
      go true false e f = refl
      go false q e f = refl

-- a tree laid out, where 1 and 2 are passed
module _ (w : List ℕ) (u : ℕ) (x : Tree) (s : Sound (record { words = w; used = u })) where
  laid_case : LaidOut w u x (laid w u [] x)
  laid_case = go (lay (record { words = w; used = u }) x) refl
    where
      go : (m : Making) → lay (record { words = w; used = u }) x ≡ m → LaidOut w u x (laid w u [] x)
      go (got m) e = LaidOut.enough e (laid_got w u [] x e)
      go (full z) e = LaidOut.no_nodes ((lay_full (record { words = w; used = u }) x z).0 e) (laid_full w u [] x e ∙ full_outcome w u [] (lay_fills s x e))

  laid_only : {o : Outcome (Result Made Refusal)} → LaidOut w u x o → laid w u [] x ≡ o
  laid_only (LaidOut.no_nodes {z = z} k e) = let f = (lay_full (record { words = w; used = u }) x z).1 k in laid_full w u [] x f ∙ full_outcome w u [] (lay_fills s x f) ∙ sym e
  laid_only (LaidOut.enough k e) = laid_got w u [] x k ∙ sym e

  -- the node that is given
  laid_node : {o : Outcome (Result Made Refusal)} → LaidOut w u x o → {v u' : ℕ} → o.answer ≡ made v u' → Lays w u x o v u'
  laid_node (LaidOut.no_nodes k e) {v} {u'} q = cc
  laid_node (LaidOut.enough k e) {v} {u'} q = placed_gives w u [] x v u' s k e q

-- digits that are those of g grams are laid out as the weight of g grams; none are 14
laid_weight : (w : List ℕ) (u : ℕ) {x : Tree} {g : ℕ} → IsWeight x g → laid_digits w u (some (digits_of 9 g)) ≡ laid w u [] x
unfolding laid_digits weight_tree
laid_weight w u {x} {g} i = ap (laid w u []) (sym ((weight_exactly x g).0 i).1)

laid_none : (w : List ℕ) (u : ℕ) → laid_digits w u none ≡ whole (not_made Weight) w []
unfolding laid_digits
laid_none w u = refl

sound_table : (w : List ℕ) (u : ℕ) → at_entry true w u [] ≡ none → Sound (record { words = w; used = u })
sound_table w u p = (entered true w u [] p).table

-- digits laid out after 1 and 2
module _ (w : List ℕ) (u : ℕ) (o : Option (List ℕ)) where
  pub checked_refused : {e : Refusal} → at_entry true w u [] ≡ some e → checked_digits w u o ≡ whole (not_made e) w []
  unfolding checked_digits
  checked_refused p = rw p

  pub checked_entered : at_entry true w u [] ≡ none → checked_digits w u o ≡ laid_digits w u o
  unfolding checked_digits
  checked_entered p = rw p

-- "The library turns grams to trees" ([9]): 1, 2, 14 and 8, each exactly on its condition, and else the node of the weight
module _ (w : List ℕ) (u g : ℕ) where
  pub weight_checked : {o : Option (List ℕ)} → gram_digits g ≡ o → checked_digits w u o ≡ weight w u g
  unfolding weight
  weight_checked e = ap (checked_digits w u) (sym e)

  weight_refused : {e : Refusal} → at_entry true w u [] ≡ some e → weight w u g ≡ whole (not_made e) w []
  weight_refused p = sym (weight_checked refl) ∙ checked_refused w u (gram_digits g) p

  weight_above : at_entry true w u [] ≡ none → 999999999 < g → weight w u g ≡ whole (not_made Weight) w []
  weight_above p h = sym (weight_checked (no_gram_digits g h)) ∙ checked_entered w u none p ∙ laid_none w u

  weight_laid : at_entry true w u [] ≡ none → {x : Tree} → IsWeight x g → weight w u g ≡ laid w u [] x
  weight_laid p {x} i = sym (weight_checked (gram_digits_lem g ((weight_exactly x g).0 i).0)) ∙ checked_entered w u (some (digits_of 9 g)) p ∙ laid_weight w u i

  weight_case : WeightMade w u g (weight w u g)
  weight_case = go (at_entry true w u []) (leb g 999999999) refl refl
    where
      go : (o : Option Refusal) (z : Bool) → at_entry true w u [] ≡ o → leb g 999999999 ≡ z → WeightMade w u g (weight w u g)
      go (some e) z p q = WeightMade.of_entry (entry_lacks true w u [] p) (weight_refused p)
      go none true p q =
          let i = every_weight g (leb-true g 999999999 q) in
          WeightMade.laid_out p i (subst (LaidOut w u (weight_tree g)) (sym (weight_laid p i)) (laid_case w u (weight_tree g) (sound_table w u p)))
      go none false p q = let h = leb-false g 999999999 q in WeightMade.above_top p h (weight_above p h)

  pub weight_made_exactly : (o : Outcome (Result Made Refusal)) → (weight w u g ≡ o) ↔ WeightMade w u g o
  weight_made_exactly o = (λ e. subst (WeightMade w u g) e weight_case, only)
    where
      only : WeightMade w u g o → weight w u g ≡ o
      only (WeightMade.of_entry l e) = weight_refused (lacks_entry l) ∙ sym e
      only (WeightMade.above_top p h e) = weight_above p h ∙ sym e
      only (WeightMade.laid_out p {x = x} i k) = weight_laid p i ∙ laid_only w u x (sound_table w u p) k

  -- the node that is given is the weight's
  pub weight_gives : {v u' : ℕ} → (weight w u g).answer ≡ made v u' → (g ≤ 999999999) × Lays w u (weight_tree g) (weight w u g) v u'
  weight_gives {v} {u'} q = go weight_case
    where
      go : WeightMade w u g (weight w u g) → (g ≤ 999999999) × Lays w u (weight_tree g) (weight w u g) v u'
      go (WeightMade.of_entry l e) = cc
      go (WeightMade.above_top p h e) = cc
      go (WeightMade.laid_out p {x = x} i k) =
          let b = (weight_exactly x g).0 i in
          (b.0, subst (λ (t : Tree). Lays w u t (weight w u g) v u') b.1 (laid_node w u x (sound_table w u p) k q))

-- "adds two weights" ([9]): 1, 2, 3, 14 and 8, each exactly on its condition, and else the node of the sum
module _ (w : List ℕ) (u a b : ℕ) where
  pub add_refused : {e : Refusal} → at_entry true w u [] ≡ some e → add_weights w u a b ≡ whole (not_made e) w []
  unfolding add_weights
  add_refused p = rw p

  pub add_no_node : at_entry true w u [] ≡ none → (a < u → b < u → ⊥) → add_weights w u a b ≡ whole (not_made Node) w []
  unfolding add_weights
  add_no_node p n = rw (p, out_of_use n)

  pub add_in_use : Comparable w u a b → add_weights w u a b ≡ laid_digits w u (sum_digits (digits_of_weight (tree_at w a)) (digits_of_weight (tree_at w b)))
  unfolding add_weights
  add_in_use c = rw (c.entered, lt-ltb a u c.first_in, lt-ltb b u c.second_in)

  pub add_no_digits : Comparable w u a b → sum_digits (digits_of_weight (tree_at w a)) (digits_of_weight (tree_at w b)) ≡ none → add_weights w u a b ≡ whole (not_made Weight) w []
  add_no_digits c e = add_in_use c ∙ ap (laid_digits w u) e ∙ laid_none w u

  -- digits that are those of the sum, once the table has passed 1 and 2
  pub add_checked : a < u → b < u → {o : Option (List ℕ)} → (at_entry true w u [] ≡ none → sum_digits (digits_of_weight (tree_at w a)) (digits_of_weight (tree_at w b)) ≡ o)
      → checked_digits w u o ≡ add_weights w u a b
  add_checked h k {o} f = go (at_entry true w u []) refl
    where
      go : (r : Option Refusal) → at_entry true w u [] ≡ r → checked_digits w u o ≡ add_weights w u a b
      go (some e) p = checked_refused w u o p ∙ sym (add_refused p)
      go none p = checked_entered w u o p ∙ ap (laid_digits w u) (sym (f p)) ∙ sym (add_in_use (record { entered = p; first_in = h; second_in = k }))

  add_laid : Comparable w u a b → {g h : ℕ} → AreWeights w a b g h → {x : Tree} → IsWeight x (g + h) → add_weights w u a b ≡ laid w u [] x
  add_laid c {g} {h} r {x} i = add_in_use c ∙ ap (laid_digits w u) (sum_digits_lem r.one r.two ((weight_exactly x (g + h)).0 i).0) ∙ laid_weight w u i

  add_case : WeightsAdded w u a b (add_weights w u a b)
  add_case = go (at_entry true w u []) (ltb a u) (ltb b u) refl refl refl
    where
      sum : Comparable w u a b → {g h : ℕ} → AreWeights w a b g h → (z : Bool) → leb (g + h) 999999999 ≡ z → WeightsAdded w u a b (add_weights w u a b)
      sum c {g} {h} r true q =
          let i = every_weight (g + h) (leb-true (g + h) 999999999 q) in
          WeightsAdded.laid_out c r i (subst (LaidOut w u (weight_tree (g + h))) (sym (add_laid c r i)) (laid_case w u (weight_tree (g + h)) (sound_table w u c.entered)))
      sum c {g} {h} r false q = let k = leb-false (g + h) 999999999 q in WeightsAdded.above_top c r k (add_no_digits c (sum_above r.one r.two k))

      weights : Comparable w u a b → Both (tree_at w a) (tree_at w b) → WeightsAdded w u a b (add_weights w u a b)
      weights c (are {g} {h} i j) = sum c (record { one = i; two = j }) (leb (g + h) 999999999) refl
      weights c (are_not n) = WeightsAdded.not_weights c (λ g h r. n g h r.one r.two) (add_no_digits c (no_sum (tree_at w a) (tree_at w b) n))

      out : at_entry true w u [] ≡ none → (a < u → b < u → ⊥) → WeightsAdded w u a b (add_weights w u a b)
      out p n = WeightsAdded.not_in_use p n (add_no_node p n)

      go : (o : Option Refusal) (x y : Bool) → at_entry true w u [] ≡ o → ltb a u ≡ x → ltb b u ≡ y → WeightsAdded w u a b (add_weights w u a b)
      go (some e) x y p q r = WeightsAdded.of_entry (entry_lacks true w u [] p) (add_refused p)
      go none false y p q r = out p (λ h k. omega (arith, ltb-false a u q))
      go none true false p q r = out p (λ h k. omega (arith, ltb-false b u r))
      go none true true p q r = weights (record { entered = p; first_in = ltb-true a u q; second_in = ltb-true b u r }) (both (tree_at w a) (tree_at w b))

  pub add_exactly : (o : Outcome (Result Made Refusal)) → (add_weights w u a b ≡ o) ↔ WeightsAdded w u a b o
  add_exactly o = (λ e. subst (WeightsAdded w u a b) e add_case, only)
    where
      only : WeightsAdded w u a b o → add_weights w u a b ≡ o
      only (WeightsAdded.of_entry l e) = add_refused (lacks_entry l) ∙ sym e
      only (WeightsAdded.not_in_use p n e) = add_no_node p n ∙ sym e
      only (WeightsAdded.not_weights c n e) = add_no_digits c (no_sum (tree_at w a) (tree_at w b) (λ g h i j. n g h (record { one = i; two = j }))) ∙ sym e
      only (WeightsAdded.above_top c r k e) = add_no_digits c (sum_above r.one r.two k) ∙ sym e
      only (WeightsAdded.laid_out c r {x = x} i k) = add_laid c r i ∙ laid_only w u x (sound_table w u c.entered) k

  -- the node that is given is that of the sum
  pub add_gives : {v u' g h : ℕ} → (add_weights w u a b).answer ≡ made v u' → AreWeights w a b g h
      → (g + h ≤ 999999999) × Lays w u (weight_tree (g + h)) (add_weights w u a b) v u'
  add_gives {v} {u'} {g} {h} q r = go add_case
    where
      go : WeightsAdded w u a b (add_weights w u a b) → (g + h ≤ 999999999) × Lays w u (weight_tree (g + h)) (add_weights w u a b) v u'
      go (WeightsAdded.of_entry l e) = cc
      go (WeightsAdded.not_in_use p n e) = cc
      go (WeightsAdded.not_weights c n e) = cc
      go (WeightsAdded.above_top c k m e) = cc
      go (WeightsAdded.laid_out c {g = g₂} {h = h₂} k {x = x} i m) =
          let y : g₂ ≡ g = one_number_of k.one r.one in
          let z : h₂ ≡ h = one_number_of k.two r.two in
          let d = (weight_exactly x (g + h)).0 (rw (y, z) at i) in
          (d.0, subst (λ (t : Tree). Lays w u t (add_weights w u a b) v u') d.1 (laid_node w u x (sound_table w u c.entered) m q))

-- "and back" ([9]): 1, 2, 3 and 14, each exactly on its condition, and else the grams
module _ (w : List ℕ) (u v : ℕ) where
  grams_case : Weighs w u v (grams w u v)
  unfolding grams weigh
  grams_case = go (at_entry true w u []) (ltb v u) (digits_of_weight (tree_at w v)) refl refl refl
    where
      go : (o : Option Refusal) (x : Bool) (y : Option (List ℕ)) → at_entry true w u [] ≡ o → ltb v u ≡ x → digits_of_weight (tree_at w v) ≡ y
          → Weighs w u v (unless o Err (cond x (weigh y) (Err Node)))
      go (some e) x y p q r = Weighs.of_entry (entry_lacks true w u [] p)
      go none false y p q r = Weighs.not_in_use p (ltb-false v u q)
      go none true none p q r = Weighs.not_weight p (ltb-true v u q) ((no_weight (tree_at w v)).0 r)
      go none true (some l) p q r = Weighs.weighs p (ltb-true v u q) (digits_weight (tree_at w v) r)

  pub grams_gives : {a : Result ℕ Refusal} → Weighs w u v a → grams w u v ≡ a
  unfolding grams weigh
  grams_gives (Weighs.of_entry l) = rw (lacks_entry l)
  grams_gives (Weighs.not_in_use p h) = rw (p, le-ltb v u h)
  grams_gives (Weighs.not_weight p h n) = rw (p, lt-ltb v u h, (no_weight (tree_at w v)).1 n)
  grams_gives (Weighs.weighs p h i) = rw (p, lt-ltb v u h, weight_digits i, i.grams)

  pub grams_exactly : (a : Result ℕ Refusal) → (grams w u v ≡ a) ↔ Weighs w u v a
  grams_exactly a = (λ e. subst (Weighs w u v) e grams_case, grams_gives)

  -- where grams are given, the tree is the weight of so many
  pub grams_weight : {g : ℕ} → grams w u v ≡ Ok g → (at_entry true w u [] ≡ none) × (v < u) × IsWeight (tree_at w v) g
  grams_weight {g} e = go ((grams_exactly (Ok g)).0 e) refl
    where
      go : {a : Result ℕ Refusal} → Weighs w u v a → a ≡ Ok g → (at_entry true w u [] ≡ none) × (v < u) × IsWeight (tree_at w v) g
      go (Weighs.of_entry l) q = cc
      go (Weighs.not_in_use p h) q = cc
      go (Weighs.not_weight p h n) q = cc
      go (Weighs.weighs p h {g = k} i) q = let y : k ≡ g = cc in (p, h, rw y at i)

-- "and compares them" ([9]): 1, 2, 3 and 14, each exactly on its condition, and else what the one number of grams is beside the other
module _ (w : List ℕ) (u a b : ℕ) where
  compare_in_use : Comparable w u a b → compare_weights w u a b ≡ compare_both (digits_of_weight (tree_at w a)) (digits_of_weight (tree_at w b))
  unfolding compare_weights
  compare_in_use c = rw (c.entered, lt-ltb a u c.first_in, lt-ltb b u c.second_in)

  compare_order : Comparable w u a b → {g h : ℕ} → AreWeights w a b g h → compare_weights w u a b ≡ Ok (nat_cmp g h)
  unfolding compare_both
  compare_order c r = compare_in_use c ∙ (rw (weight_digits r.one, weight_digits r.two) (ap Ok (digits_order r.one r.two)))

  compare_none : Comparable w u a b → ((g h : ℕ) → IsWeight (tree_at w a) g → IsWeight (tree_at w b) h → ⊥) → compare_weights w u a b ≡ Err Weight
  unfolding compare_both
  compare_none c n = compare_in_use c ∙ go (digits_of_weight (tree_at w a)) (digits_of_weight (tree_at w b)) refl refl
    where
      go : (x y : Option (List ℕ)) → digits_of_weight (tree_at w a) ≡ x → digits_of_weight (tree_at w b) ≡ y → compare_both x y ≡ Err Weight
      go none y p q = refl
      go (some l) none p q = refl
      go (some l) (some m) p q = absurd (n (grams_of l) (grams_of m) (digits_weight (tree_at w a) p) (digits_weight (tree_at w b) q))

  compare_gives : {o : Result Ordering Refusal} → Compares w u a b o → compare_weights w u a b ≡ o
  unfolding compare_weights
  compare_gives (Compares.of_entry l) = rw (lacks_entry l)
  compare_gives (Compares.not_in_use p n) = rw (p, out_of_use n)
  compare_gives (Compares.not_weights c n) = compare_none c (λ g h i j. n g h (record { one = i; two = j }))
  compare_gives (Compares.less c r k) = compare_order c r ∙ ap Ok (sym (nat_cmp_is _ _ Less k))
  compare_gives (Compares.equal c r k) = compare_order c r ∙ ap Ok (sym (nat_cmp_is _ _ Equal k))
  compare_gives (Compares.greater c r k) = compare_order c r ∙ ap Ok (sym (nat_cmp_is _ _ Greater k))

  some_case : (o : Result Ordering Refusal) × Compares w u a b o
  some_case = go (at_entry true w u []) (ltb a u) (ltb b u) refl refl refl
    where
      by : Comparable w u a b → {g h : ℕ} → AreWeights w a b g h → (o : Ordering) → MatchOrdering o (g < h) (g ≡ h) (h < g) → Compares w u a b (Ok o)
      by c r Less k = Compares.less c r k
      by c r Equal k = Compares.equal c r k
      by c r Greater k = Compares.greater c r k

      weights : Comparable w u a b → Both (tree_at w a) (tree_at w b) → (o : Result Ordering Refusal) × Compares w u a b o
      weights c (are {g} {h} i j) = (Ok (nat_cmp g h), by c (record { one = i; two = j }) (nat_cmp g h) (ranks g h))
      weights c (are_not n) = (Err Weight, Compares.not_weights c (λ g h r. n g h r.one r.two))

      go : (o : Option Refusal) (x y : Bool) → at_entry true w u [] ≡ o → ltb a u ≡ x → ltb b u ≡ y → (o : Result Ordering Refusal) × Compares w u a b o
      go (some e) x y p q r = (Err e, Compares.of_entry (entry_lacks true w u [] p))
      go none false y p q r = (Err Node, Compares.not_in_use p (λ h k. omega (arith, ltb-false a u q)))
      go none true false p q r = (Err Node, Compares.not_in_use p (λ h k. omega (arith, ltb-false b u r)))
      go none true true p q r = weights (record { entered = p; first_in = ltb-true a u q; second_in = ltb-true b u r }) (both (tree_at w a) (tree_at w b))

  pub compare_exactly : (o : Result Ordering Refusal) → (compare_weights w u a b ≡ o) ↔ Compares w u a b o
  compare_exactly o = (λ e. subst (Compares w u a b) (sym (compare_gives some_case.1) ∙ e) some_case.1, compare_gives)

-- the grams of a node that was laid out as a weight
laid_grams : {w : List ℕ} {u v u' g : ℕ} {x : Tree} {o : Outcome (Result Made Refusal)} → Lays w u x o v u' → IsWeight x g → grams o.table u' v ≡ Ok g
laid_grams {w} {u} {v} {u'} {g} {x} {o} l i =
    let p = enters {s = []} (record { table = l.places.fine; stack = omega arith; limits_kept = refl }) in
    grams_gives o.table u' v (Weighs.weighs p l.places.inside (subst (λ (t : Tree). IsWeight t g) (sym l.places.tree) i))

-- "turns grams to trees and back" ([9])
pub weight_then_grams : (w : List ℕ) (u g : ℕ) {v u' : ℕ} → (weight w u g).answer ≡ made v u' → grams (weight w u g).table u' v ≡ Ok g
weight_then_grams w u g q = let y = weight_gives w u g q in laid_grams y.1 (every_weight g y.0)

-- "so that a customer's total in trees is the total on the invoice" ([9])
pub total_in_grams : (w : List ℕ) (u a b : ℕ) {v u' g h : ℕ} → grams w u a ≡ Ok g → grams w u b ≡ Ok h → (add_weights w u a b).answer ≡ made v u'
    → grams (add_weights w u a b).table u' v ≡ Ok (g + h)
total_in_grams w u a b {v} {u'} {g} {h} p q r =
    let y = add_gives w u a b r (record { one = (grams_weight w u a p).2; two = (grams_weight w u b q).2 }) in
    laid_grams y.1 (every_weight (g + h) y.0)

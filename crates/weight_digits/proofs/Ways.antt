-- Digits and items by the words of a node in use, and digits one after another. Assumes nothing.
use Prim.Native.Nat.{ℕ, zero, suc, ◌+◌, ◌-◌, ◌≤◌, ◌<◌}
use mathlib.Core.Path.{◌≡◌, refl, sym, ap, subst, ◌∙◌}
use mathlib.Core.List.{List, append-nil}
use mathlib.Core.Option.{Option, none, some}
use native.Mathlib.Omega.{arith}
use lib.ListN.{length, take, set}
use lib.Seq.{take_all}
use borrow.Author.Tests.{le-leb}
use Rattle.calculus.specs.Tree.{Tree, leaf, stem, fork}
use Rattle.table.specs.Nodes.{first, second, tree_at}
use Rattle.table.specs.Branches.{InUse}
use Rattle.table.proofs.Words.{sound_node}
use Rattle.table.proofs.Once.{one_number}
use Rattle.table.proofs.Branches.{leaf_by, stem_by, fork_by}
use Rattle.weights.specs.Digits.{digit_after, digit_of, before, digits_in}
use Rattle.weights.proofs.Places.{after, after_put}
use Rattle.weight_digits.specs.Code.{NoItem, FirstItem}

-- the leaf of a sound table is node 0, and no other
pub zero_leaf : {w : List ℕ} → InUse w 0 → tree_at w 0 ≡ leaf
zero_leaf {w} i = leaf_by i refl (let e : first w 0 ≡ 0 = omega (arith, (sound_node w i.used 0 i.inside i.fine.unbroken).first_in) in e)

not_leaf : {w : List ℕ} {v : ℕ} → InUse w v → (v ≡ 0 → ⊥) → tree_at w v ≡ leaf → ⊥
not_leaf {w} {v} i n e =
    let z : InUse w 0 = record { used = i.used; fine = i.fine; inside = omega (arith, i.inside) } in
    n ((one_number i.fine v 0 i.inside z.inside).1 (e ∙ sym (zero_leaf z)))

no_k : (d : ℕ) (x y : Tree) → (x ≡ leaf → ⊥) → digit_after d (fork x y) ≡ none
unfolding digit_after
no_k d leaf y n = absurd (n refl)
no_k d (stem p) y n = refl
no_k d (fork p q) y n = refl

-- the digit at a node after d Ks, one law for each way that it is found
module _ {w : List ℕ} {v : ℕ} (d : ℕ) (i : InUse w v) where
  pub digit_leaf : v ≡ 0 → d ≤ 9 → some d ≡ digit_after d (tree_at w v)
  unfolding digit_after
  digit_leaf e h = rw (ap (tree_at w) e ∙ zero_leaf (subst (InUse w) e i), le-leb d 9 h)

  module _ {a : ℕ} (p : a ≡ first w v) where
    pub digit_other : (v ≡ 0 → ⊥) → (a ≡ 1 → ⊥) → none ≡ digit_after d (tree_at w v)
    unfolding digit_after
    digit_other n m = go a (second w v) p refl m
      where
        go : (x y : ℕ) → x ≡ first w v → y ≡ second w v → (x ≡ 1 → ⊥) → none ≡ digit_after d (tree_at w v)
        go zero y q r m = absurd (not_leaf i n (leaf_by i q refl))
        go (suc x) zero q r m = rw (stem_by i q r (λ z. omega arith) refl).tree
        go (suc x) (suc y) q r m =
            let k = fork_by i q r (λ z. omega arith) (λ z. omega arith) in
            rw k.tree (sym (no_k d (tree_at w (suc x - 1)) (tree_at w (suc y - 1)) (not_leaf k.one (λ z. m (omega arith)))))

    module _ (o : a ≡ 1) {b : ℕ} (q : b ≡ second w v) where
      pub digit_stem : b ≡ 0 → none ≡ digit_after d (tree_at w v)
      unfolding digit_after
      digit_stem h = rw (stem_by i p q (λ z. omega arith) h).tree

      pub digit_more : (b ≡ 0 → ⊥) → InUse w (b - 1) × (digit_after d (tree_at w v) ≡ digit_after (d + 1) (tree_at w (b - 1)))
      unfolding digit_after
      digit_more h =
          let k = fork_by i p q (λ z. omega arith) h in
          let z : a - 1 ≡ 0 = omega arith in
          (k.two, rw (k.tree, ap (tree_at w) z ∙ zero_leaf (subst (InUse w) z k.one)))

-- the first item of a list
module _ {w : List ℕ} {v : ℕ} (i : InUse w v) {a : ℕ} (p : a ≡ first w v) where
  pub item_leaf : a ≡ 0 → NoItem w v
  unfolding digits_in
  item_leaf h = λ n. rw (leaf_by i p h)

  module _ (l : a ≡ 0 → ⊥) {b : ℕ} (q : b ≡ second w v) where
    pub item_stem : b ≡ 0 → NoItem w v
    unfolding digits_in
    item_stem h = λ n. rw (stem_by i p q l h).tree

    module _ (m : b ≡ 0 → ⊥) where
      pub item_in : InUse w (a - 1)
      item_in = (fork_by i p q l m).one

      pub item_none : none ≡ digit_of (tree_at w (a - 1)) → NoItem w v
      unfolding digits_in before
      item_none e = λ n. rw ((fork_by i p q l m).tree, ← e)

      pub item_fork : {d : ℕ} → some d ≡ digit_of (tree_at w (a - 1)) → FirstItem w v d (b - 1)
      unfolding digits_in
      item_fork e = let k = fork_by i p q l m in record { digits = λ n. rw (k.tree, ← e); rest_in = k.two }

-- The nine digits X of a list, of which i are read and the rest are those of the list at a node: one law for each way that reading goes on.
module _ {X : Option (List ℕ)} (w l : List ℕ) (v i : ℕ) (n : length l ≡ 9) (e : X ≡ after (take i l) (digits_in (9 - i) (tree_at w v))) where
  first_of : i < 9 → X ≡ after (take i l) (digits_in (suc (9 - (i + 1))) (tree_at w v))
  first_of h = let k : 9 - i ≡ suc (9 - (i + 1)) = omega arith in e ∙ ap (λ (m : ℕ). after (take i l) (digits_in m (tree_at w v))) k

  pub next_digit : i < 9 → {d rest : ℕ} → FirstItem w v d rest → X ≡ after (take (i + 1) (set l i d)) (digits_in (9 - (i + 1)) (tree_at w rest))
  next_digit h {d} f = first_of h ∙ ap (after (take i l)) (f.digits (9 - (i + 1))) ∙ after_put l i d (omega arith) _

  pub no_digit : i < 9 → NoItem w v → none ≡ X
  unfolding after
  no_digit h f = sym (first_of h ∙ ap (after (take i l)) (f (9 - (i + 1))))

  ended : 9 ≤ i → X ≡ after l (digits_in 0 (tree_at w v))
  ended h =
      let z : 9 - i ≡ 0 = omega arith in
      e ∙ ap (λ (m : List ℕ). after m (digits_in (9 - i) (tree_at w v))) (take_all i l (omega arith)) ∙ ap (λ (k : ℕ). after l (digits_in k (tree_at w v))) z

  pub list_end : 9 ≤ i → InUse w v → v ≡ 0 → some l ≡ X
  unfolding digits_in after
  list_end h u z = sym (ended h ∙ rw (ap (tree_at w) z ∙ zero_leaf (subst (InUse w) z u), append-nil l))

  pub list_more : 9 ≤ i → InUse w v → (v ≡ 0 → ⊥) → none ≡ X
  unfolding digits_in after
  list_more h u m = go (tree_at w v) (not_leaf u m) ∙ sym (ended h)
    where
      go : (t : Tree) → (t ≡ leaf → ⊥) → none ≡ after l (digits_in 0 t)
      go leaf m = absurd (m refl)
      go (stem p) m = refl
      go (fork p q) m = refl

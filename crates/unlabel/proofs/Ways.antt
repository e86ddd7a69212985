-- Laws of the tests and of the answer, one for each way that the code goes. Assumes nothing.
use Prim.Native.Nat.{ℕ, ◌≤◌, ◌<◌}
use mathlib.Core.Path.{◌≡◌, refl, sym, ◌∙◌}
use mathlib.Core.Bool.{Bool, true, false, cond}
use mathlib.Core.List.{List, []}
use mathlib.Core.Option.{none}
use borrow.Author.Tests.{lt-ltb, le-ltb}
use Rattle.std.specs.Prelude.{Option, Some, None, Result, Err, ⊤, ok_or}
use Rattle.std.specs.Bool.{then_some}
use Rattle.std.proofs.lemmas.Option.{cond_some}
use Rattle.calculus.specs.Tree.{Tree, leaf}
use Rattle.table.specs.Nodes.{tree_at}
use Rattle.table.specs.Branches.{IsStem, IsFork}
use Rattle.table.specs.Outcome.{at_entry}
use Rattle.table.specs.declared.Refusal.{Refusal}
use Rattle.table.specs.declared.Refusal.TheVariants.{Node, Label}
use Rattle.table.proofs.Entry.{check_refuses}
use Rattle.checks.specs.Code.{refusal_of}
use Rattle.table.proofs.Words.{zero_one}
use Rattle.labelled.specs.declared.Parts.{Parts}
use Rattle.labelled.specs.Unlabel.{Unlabelled, is_leaf, is_stem, is_k, is_kk, is_k_of, is_label_branch, is_rule_branch, is_labelled, label_under, rule_under, label_node, rule_node, parts, no_parts, unlabel_node, unlabel}
use Rattle.unlabel.specs.Code.{Shaped, where_form}
use Rattle.unlabel.specs.declared.Shape.{Shape}
use Rattle.unlabel.specs.declared.Shape.TheVariants.{Leaf, Stem, Fork}

pub leaf_passes : {x : Tree} → x ≡ leaf → is_leaf x ≡ true
unfolding is_leaf
leaf_passes h = rw h

-- which tests a tree fails whose node has another shape
module _ (w : List ℕ) (v : ℕ) where
  pub no_leaf : (s : Shape) → Shaped w v s → (s ≡ Leaf → ⊥) → is_leaf (tree_at w v) ≡ false
  unfolding is_leaf
  no_leaf Leaf h o = absurd (o refl)
  no_leaf (Stem p) h o = rw h.tree
  no_leaf (Fork p q) h o = rw h.tree

  pub no_stem : (s : Shape) → Shaped w v s → ((p : ℕ) → s ≡ Stem p → ⊥)
      → (is_stem (tree_at w v) ≡ false) × (is_k (tree_at w v) ≡ false) × (is_label_branch (tree_at w v) ≡ false)
  unfolding is_stem is_k is_label_branch
  no_stem Leaf h o = rw h (refl, refl, refl)
  no_stem (Stem p) h o = absurd (o _ refl)
  no_stem (Fork p q) h o = rw h.tree (refl, refl, refl)

  pub no_fork : (s : Shape) → Shaped w v s → ((p q : ℕ) → s ≡ Fork p q → ⊥)
      → (is_kk (tree_at w v) ≡ false) × (is_k_of (tree_at w v) ≡ false) × (is_rule_branch (tree_at w v) ≡ false) × (is_labelled (tree_at w v) ≡ false)
  unfolding is_kk is_k_of is_rule_branch is_labelled
  no_fork Leaf h o = rw h (refl, refl, refl, refl)
  no_fork (Stem p) h o = rw h.tree (refl, refl, refl, refl)
  no_fork (Fork p q) h o = absurd (o _ _ refl)

-- the test of the stem of a node p
pub label_branch : {w : List ℕ} {v p : ℕ} {z : Bool} → IsStem w v p → is_k_of (tree_at w p) ≡ z → is_label_branch (tree_at w v) ≡ z
unfolding is_label_branch
label_branch s h = rw s.tree h

-- the tests of a fork of nodes p and q
module _ {w : List ℕ} {v p q : ℕ} (k : IsFork w v p q) where
  pub kk_first : is_leaf (tree_at w p) ≡ false → is_kk (tree_at w v) ≡ false
  unfolding is_kk
  kk_first h = rw (k.tree, h)

  module _ (e : tree_at w p ≡ leaf) where
    pub kk_second : {z : Bool} → is_k (tree_at w q) ≡ z → is_kk (tree_at w v) ≡ z
    unfolding is_kk is_leaf
    kk_second h = rw (k.tree, e) h

    pub kk_last : {x : ℕ} {z : Bool} → IsStem w q x → is_leaf (tree_at w x) ≡ z → is_kk (tree_at w v) ≡ z
    unfolding is_k
    kk_last s h = kk_second (rw s.tree h)

  pub k_of : {z : Bool} → is_leaf (tree_at w p) ≡ z → is_k_of (tree_at w v) ≡ z
  unfolding is_k_of
  k_of h = rw k.tree h

  pub rule_first : is_stem (tree_at w p) ≡ false → is_rule_branch (tree_at w v) ≡ false
  unfolding is_rule_branch
  rule_first h = rw (k.tree, h)

  pub rule_second : {f : ℕ} {z : Bool} → IsStem w p f → is_kk (tree_at w q) ≡ z → is_rule_branch (tree_at w v) ≡ z
  unfolding is_rule_branch is_stem
  rule_second s h = rw (k.tree, s.tree) h

-- the node under a branch, by the branch's form
pub of_form : {b : Bool} {i j : ℕ} → b ≡ true → j ≡ i → Some j ≡ where_form b i
of_form h e = rw (h, e)

pub not_of_form : {b : Bool} (i : ℕ) → b ≡ false → None ≡ where_form b i
not_of_form i h = rw h

pub kept : {b d : Bool} {i j : ℕ} → d ≡ b → j ≡ i → then_some d j ≡ where_form b i
kept {b} {i = i} h e = rw (h, e) (go b)
  where
    go : (z : Bool) → then_some z i ≡ where_form z i
    go true = refl
    go false = refl

pub told_node : (b : Bool) (i : ℕ) {r : Option ℕ} {j : ℕ} → r ≡ where_form b i → r ≡ Some j → (b ≡ true) × (j ≡ i)
told_node b i {j = j} p q = let c = cond_some b i j (sym p ∙ q) in (c.0, sym c.1)

pub told_none : (b : Bool) (i : ℕ) {r : Option ℕ} → r ≡ where_form b i → r ≡ None → b ≡ false
told_none b i p q = go b (sym p ∙ q)
  where
    go : (z : Bool) → cond z (Some i) None ≡ None → z ≡ false
    go true e = zero_one (cc)
    go false e = refl

-- 11, or the nodes
pub refused : {o : Option Parts} {u : Unlabelled} → o ≡ None → no_parts Label ≡ u → ok_or o Label ≡ u
refused p e = rw p e

pub no_labelled : (w : List ℕ) (v : ℕ) → is_labelled (tree_at w v) ≡ false → no_parts Label ≡ unlabel_node w v
unfolding unlabel_node
no_labelled w v h = rw h

module _ {w : List ℕ} {v p q : ℕ} (k : IsFork w v p q) where
  pub no_label_branch : is_label_branch (tree_at w p) ≡ false → no_parts Label ≡ unlabel_node w v
  unfolding is_labelled
  no_label_branch h = no_labelled w v (rw (k.tree, h))

  module _ (l : is_label_branch (tree_at w p) ≡ true) where
    both : {z : Bool} → is_rule_branch (tree_at w q) ≡ z → is_labelled (tree_at w v) ≡ z
    unfolding is_labelled
    both h = rw (k.tree, l) h

    pub no_rule_branch : is_rule_branch (tree_at w q) ≡ false → no_parts Label ≡ unlabel_node w v
    no_rule_branch h = no_labelled w v (both h)

    pub both_branches : {f t : ℕ} → is_rule_branch (tree_at w q) ≡ true → f ≡ rule_under w q → t ≡ label_under w p → parts f t ≡ unlabel_node w v
    unfolding unlabel_node rule_node label_node
    both_branches h x y = rw (both h, x, y, k.one_is, k.two_is)

-- 1 or 2
pub refused_at_entry : (w : List ℕ) (u v : ℕ) {k : Result ⊤ Refusal} {e : Refusal} {r : Unlabelled} → refusal_of k ≡ at_entry true w u [] → k ≡ Err e → r ≡ Err e
    → r ≡ unlabel w u v
unfolding unlabel
refused_at_entry w u v q p a = a ∙ check_refuses no_parts _ (rw p at q)

-- the node number, where neither 1 nor 2 is met
module _ (w : List ℕ) (u v : ℕ) (q : none ≡ at_entry true w u []) where
  pub no_node : u ≤ v → no_parts Node ≡ unlabel w u v
  unfolding unlabel
  no_node h = rw (← q, le-ltb v u h)

  pub in_use : v < u → unlabel_node w v ≡ unlabel w u v
  unfolding unlabel
  in_use h = rw (← q, lt-ltb v u h)

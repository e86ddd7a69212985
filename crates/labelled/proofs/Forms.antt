-- A tree passes the test for the labelled form exactly where it is a labelled tree. Assumes nothing.
use mathlib.Core.Path.{◌≡◌, refl, ap, ap₂}
use mathlib.Core.Bool.{Bool, true, false}
use mathlib.Core.Logic.{◌↔◌}
use Rattle.calculus.specs.Tree.{Tree, leaf, stem, fork}
use Rattle.table.proofs.Words.{zero_one, and_left, and_right}
use Rattle.labelled.specs.Unlabel.{is_leaf, is_stem, is_k, is_kk, is_k_of, is_label_branch, is_rule_branch, is_labelled}
use Rattle.labelled.specs.UnlabelClaims.{IsLabelled, labelled_earlier, IsKOf}

-- what each test says of a tree that passes it
is_leaf_lem : (x : Tree) → is_leaf x ≡ true → x ≡ leaf
unfolding is_leaf
is_leaf_lem leaf e = refl
is_leaf_lem (stem p) e = zero_one (cc)
is_leaf_lem (fork p q) e = zero_one (cc)

is_stem_lem : (x : Tree) → is_stem x ≡ true → (p : Tree) × (x ≡ stem p)
unfolding is_stem
is_stem_lem leaf e = zero_one (cc)
is_stem_lem (stem p) e = (p, refl)
is_stem_lem (fork p q) e = zero_one (cc)

is_k_lem : (x : Tree) → is_k x ≡ true → x ≡ stem leaf
unfolding is_k
is_k_lem leaf e = zero_one (cc)
is_k_lem (stem p) e = ap stem (is_leaf_lem p e)
is_k_lem (fork p q) e = zero_one (cc)

is_kk_lem : (x : Tree) → is_kk x ≡ true → x ≡ fork leaf (stem leaf)
unfolding is_kk
is_kk_lem leaf e = zero_one (cc)
is_kk_lem (stem p) e = zero_one (cc)
is_kk_lem (fork p q) e = ap₂ fork (is_leaf_lem p (and_left (is_leaf p) (is_k q) e)) (is_k_lem q (and_right (is_leaf p) (is_k q) e))

is_k_of_lem : (x : Tree) → is_k_of x ≡ true → IsKOf x
unfolding is_k_of
is_k_of_lem leaf e = zero_one (cc)
is_k_of_lem (stem p) e = zero_one (cc)
is_k_of_lem (fork p q) e = record { inner = q; form = ap (λ (z : Tree). fork z q) (is_leaf_lem p e) }

is_label_branch_lem : (x : Tree) → is_label_branch x ≡ true → (t : Tree) × (x ≡ stem (fork leaf t))
unfolding is_label_branch
is_label_branch_lem leaf e = zero_one (cc)
is_label_branch_lem (stem p) e = let k = is_k_of_lem p e in (k.inner, ap stem k.form)
is_label_branch_lem (fork p q) e = zero_one (cc)

is_rule_branch_lem : (x : Tree) → is_rule_branch x ≡ true → (f : Tree) × (x ≡ fork (stem f) (fork leaf (stem leaf)))
unfolding is_rule_branch
is_rule_branch_lem leaf e = zero_one (cc)
is_rule_branch_lem (stem p) e = zero_one (cc)
is_rule_branch_lem (fork p q) e =
    let s = is_stem_lem p (and_left (is_stem p) (is_kk q) e) in
    (s.0, ap₂ fork s.1 (is_kk_lem q (and_right (is_stem p) (is_kk q) e)))

is_labelled_lem : (x : Tree) → is_labelled x ≡ true → IsLabelled x
unfolding is_labelled
is_labelled_lem leaf e = zero_one (cc)
is_labelled_lem (stem p) e = zero_one (cc)
is_labelled_lem (fork p q) e =
    let l = is_label_branch_lem p (and_left (is_label_branch p) (is_rule_branch q) e) in
    let r = is_rule_branch_lem q (and_right (is_label_branch p) (is_rule_branch q) e) in
    record { rule = r.0; label = l.0; form = ap₂ fork l.1 r.1 }

-- "the labelled form" ([1]): the test is passed by the labelled trees, and by no others
pub is_labelled_exact : (x : Tree) → (is_labelled x ≡ true) ↔ IsLabelled x
unfolding is_labelled is_label_branch is_k_of is_rule_branch is_stem is_kk is_k is_leaf
is_labelled_exact x = (is_labelled_lem x, λ h. rw h.form)

-- a tree that is not labelled fails it
pub not_labelled_fails : (x : Tree) → (IsLabelled x → ⊥) → is_labelled x ≡ false
not_labelled_fails x n = go (is_labelled x) refl
  where
    go : (z : Bool) → is_labelled x ≡ z → z ≡ false
    go true e = absurd (n (is_labelled_lem x e))
    go false e = refl

-- "trees labelled earlier are made again from their packets" ([4]): such a tree is of the form only where its label is itself a K of something
pub earlier_exact : (f t : Tree) → IsLabelled (labelled_earlier f t) ↔ IsKOf t
earlier_exact f t =
    (λ h. let e = h.form in record { inner = h.label; form = cc }, λ h. record { rule = f; label = h.inner; form = rw h.form })

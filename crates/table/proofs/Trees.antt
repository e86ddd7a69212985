-- The trees of a sound table's nodes, and what a later table keeps of an earlier one. Assumes nothing.
use Prim.Native.Nat.{ℕ, zero, suc, ◌+◌, ◌*◌, ◌<◌}
use mathlib.Core.Path.{◌≡◌, refl, ap, ap₂, ◌∙◌}
use mathlib.Core.Bool.{true}
use mathlib.Core.List.{List}
use native.Mathlib.Omega.{arith}
use native.Mathlib.Numerals.{add-one}
use lib.ListN.{get_or}
use Rattle.calculus.specs.Tree.{Tree, leaf, stem, fork}
use Rattle.table.specs.Nodes.{Table, first, second, sound, Sound, branches, tree_to, tree_at}
use Rattle.table.specs.Claims.{Kept, Extends, Unbroken}
use Rattle.table.proofs.Words.{sound_node}

-- the tree of a node depends on the trees of its branches alone
pub same_branches : (f g : ℕ → Tree) (i a b : ℕ) → Unbroken i a b → ((j : ℕ) → j < i → f j ≡ g j) → branches f a b ≡ branches g a b
unfolding branches
same_branches f g i zero b o r = refl
same_branches f g i (suc p) zero o r = ap stem (r p o.first_in)
same_branches f g i (suc p) (suc q) o r = ap₂ fork (r p o.first_in) (r q o.second_in)

-- the depth does not matter where it is above the node's number
pub deep : (w : List ℕ) (u : ℕ) → sound w u ≡ true → (k m i : ℕ) → i < u → i < k → i < m → tree_to k w i ≡ tree_to m w i
unfolding tree_to
deep w u e zero m i h a b = absurd (omega arith)
deep w u e (suc k) zero i h a b = absurd (omega arith)
deep w u e (suc k) (suc m) i h a b =
    same_branches (tree_to k w) (tree_to m w) i (first w i) (second w i) (sound_node w u i h e)
    (λ (j : ℕ) (l : j < i). deep w u e k m j (omega arith) (omega arith) (omega arith))

pub tree_node : (w : List ℕ) (u i : ℕ) → sound w u ≡ true → i < u → tree_at w i ≡ branches (tree_at w) (first w i) (second w i)
unfolding tree_to
tree_node w u i e h =
    same_branches (tree_to i w) (tree_at w) i (first w i) (second w i) (sound_node w u i h e)
    (λ (j : ℕ) (l : j < i). deep w u e i (suc j) j (omega arith) l (omega arith))

-- a node's tree by its words
module _ (w : List ℕ) (u i : ℕ) (e : sound w u ≡ true) (h : i < u) where
  pub tree_leaf : first w i ≡ 0 → tree_at w i ≡ leaf
  unfolding branches
  tree_leaf a = tree_node w u i e h ∙ rw a

  pub tree_stem : (p : ℕ) → first w i ≡ p + 1 → second w i ≡ 0 → tree_at w i ≡ stem (tree_at w p)
  unfolding branches
  tree_stem p a b = tree_node w u i e h ∙ rw (a, b, add-one p)

  pub tree_fork : (p q : ℕ) → first w i ≡ p + 1 → second w i ≡ q + 1 → tree_at w i ≡ fork (tree_at w p) (tree_at w q)
  unfolding branches
  tree_fork p q a b = tree_node w u i e h ∙ rw (a, b, add-one p, add-one q)

pub kept_refl : (t : Table) → Kept t t
kept_refl t = record { up = omega arith; same_length = refl; below = λ i h. refl }

pub kept_trans : {t z y : Table} → Kept t z → Kept z y → Kept t y
kept_trans k l =
    record {
      up = omega arith;
      same_length = l.same_length ∙ k.same_length;
      below = λ i h. l.below i (omega (arith, k.up)) ∙ k.below i h;
    }

pub extends_refl : (t : Table) → Extends t t
extends_refl t = record { kept = kept_refl t; beyond = λ i h. refl }

pub extends_trans : {t z y : Table} → Extends t z → Extends z y → Extends t y
extends_trans k l =
    record {
      kept = kept_trans k.kept l.kept;
      beyond = λ i h. l.beyond i h ∙ k.beyond i (omega (arith, l.kept.up));
    }

same_tree_lem : (w z : List ℕ) (u : ℕ) → sound w u ≡ true → ((i : ℕ) → i < u * 2 → get_or z i 0 ≡ get_or w i 0) → (k i : ℕ) → i < u → tree_to k z i ≡ tree_to k w i
unfolding tree_to
same_tree_lem w z u e h zero i l = refl
same_tree_lem w z u e h (suc k) i l =
    rw (h (i * 2) (omega arith), h (i * 2 + 1) (omega arith))
    (same_branches (tree_to k z) (tree_to k w) i (first w i) (second w i) (sound_node w u i l e) (λ (j : ℕ) (m : j < i). same_tree_lem w z u e h k j (omega arith)))

-- "old nodes keep their trees"
pub kept_tree : {t z : Table} → Sound t → Kept t z → (i : ℕ) → i < t.used → tree_at z.words i ≡ tree_at t.words i
kept_tree {t} {z} s k i h = same_tree_lem t.words z.words t.used s.unbroken k.below (suc i) i h

-- A node in use by its words, and by its tree: which nodes are its branches. Assumes nothing.
use Prim.Native.Nat.{ℕ, zero, suc, ◌-◌, ◌<◌}
use mathlib.Core.Path.{◌≡◌, refl, sym, ◌∙◌, subst}
use mathlib.Core.List.{List}
use native.Mathlib.Omega.{arith}
use Rattle.calculus.specs.Tree.{Tree, leaf, stem, fork}
use Rattle.table.specs.Nodes.{first, second, tree_at}
use Rattle.table.specs.Claims.{Unbroken}
use Rattle.table.proofs.Words.{zero_one, sound_node}
use Rattle.table.proofs.Trees.{tree_leaf, tree_stem, tree_fork}
use Rattle.table.specs.Branches.{left, right, InUse, IsStem, IsFork}

module _ {w : List ℕ} {v : ℕ} (i : InUse w v) where
  unbroken : Unbroken v (first w v) (second w v)
  unbroken = sound_node w i.used v i.inside i.fine.unbroken

  below : (p : ℕ) → p < v → InUse w p
  below p h = record { used = i.used; fine = i.fine; inside = omega (arith, i.inside) }

  -- a leaf, a stem or a fork, by the words a and b
  pub leaf_by : {a : ℕ} → a ≡ first w v → a ≡ 0 → tree_at w v ≡ leaf
  leaf_by e h = tree_leaf w i.used v i.fine.unbroken i.inside (sym e ∙ h)

  pub stem_by : {a b : ℕ} → a ≡ first w v → b ≡ second w v → (a ≡ 0 → ⊥) → b ≡ 0 → IsStem w v (a - 1)
  stem_by {a} e k h l =
      let o : a - 1 < v = omega (arith, unbroken.first_in) in
      record {
        branch = below (a - 1) o;
        branch_is = omega arith;
        branch_before = o;
        tree = tree_stem w i.used v i.fine.unbroken i.inside (a - 1) (omega arith) (sym k ∙ l);
      }

  pub fork_by : {a b : ℕ} → a ≡ first w v → b ≡ second w v → (a ≡ 0 → ⊥) → (b ≡ 0 → ⊥) → IsFork w v (a - 1) (b - 1)
  fork_by {a} {b} e k h l =
      let o : a - 1 < v = omega (arith, unbroken.first_in) in
      let m : b - 1 < v = omega (arith, unbroken.second_in) in
      record {
        one = below (a - 1) o;
        two = below (b - 1) m;
        one_is = omega arith;
        two_is = omega arith;
        one_before = o;
        two_before = m;
        tree = tree_fork w i.used v i.fine.unbroken i.inside (a - 1) (b - 1) (omega arith) (omega arith);
      }

  -- the branches of a node by its tree
  pub branch_of : {x : Tree} → tree_at w v ≡ stem x → IsStem w v (left w v)
  branch_of {x} e = go (first w v) refl (second w v) refl
    where
      go : (a : ℕ) → a ≡ first w v → (b : ℕ) → b ≡ second w v → IsStem w v (left w v)
      go zero p b q = zero_one (cc (leaf_by p refl))
      go (suc a) p zero q = let h = stem_by p q (λ z. omega arith) refl in subst (IsStem w v) h.branch_is h
      go (suc a) p (suc b) q = zero_one (cc (fork_by p q (λ z. omega arith) (λ z. omega arith)).tree)

  pub branches_of : {x y : Tree} → tree_at w v ≡ fork x y → IsFork w v (left w v) (right w v)
  branches_of {x} {y} e = go (first w v) refl (second w v) refl
    where
      go : (a : ℕ) → a ≡ first w v → (b : ℕ) → b ≡ second w v → IsFork w v (left w v) (right w v)
      go zero p b q = zero_one (cc (leaf_by p refl))
      go (suc a) p zero q = zero_one (cc (stem_by p q (λ z. omega arith) refl).tree)
      go (suc a) p (suc b) q =
          let h = fork_by p q (λ z. omega arith) (λ z. omega arith) in
          subst (λ (z : ℕ). IsFork w v z (right w v)) h.one_is (subst (IsFork w v (suc a - 1)) h.two_is h)

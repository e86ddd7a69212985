-- Laws of a table of which some nodes are entered, and of what `fill` says of it. Assumes nothing.
use Prim.Native.Nat.{ℕ, zero, suc, ◌+◌, ◌≤◌, ◌<◌}
use mathlib.Core.Path.{◌≡◌, refl, sym, ap, ◌∙◌}
use mathlib.Core.Bool.{Bool, true, false, not, ◌&&◌}
use mathlib.Core.List.{List}
use mathlib.Core.Option.{some}
use native.Mathlib.Omega.{arith}
use native.Mathlib.Numerals.{add-one}
use lib.Dec.{eqb}
use borrow.Author.Tests.{eqb-true, eqb-false}
use Rattle.table.specs.Nodes.{first, second, broken, find, is_none, sound}
use Rattle.table.proofs.Words.{told_apart}
use Rattle.index.specs.Index.{Ready}
use Rattle.index.specs.Code.{Sought}
use Rattle.index.specs.declared.Found.{Found}
use Rattle.index.specs.declared.Found.TheVariants as found
use Rattle.index.proofs.Indexing.{node_sought}

-- a table in which a node is not sound stays so
pub unsound_stays : (w : List ℕ) (u i : ℕ) → i ≤ u → sound w i ≡ false → sound w u ≡ false
unfolding sound
unsound_stays w zero i h e = let q : i ≡ 0 = omega arith in ap (sound w) (sym q) ∙ e
unsound_stays w (suc k) i h e = go (eqb i (suc k)) refl (λ l. unsound_stays w k i l e)
  where
    and_false : (x y z : Bool) → z ≡ false → (x && (y && z)) ≡ false
    and_false true true z f = f
    and_false true false z f = refl
    and_false false y z f = refl

    go : (z : Bool) → eqb i (suc k) ≡ z → (i ≤ k → sound w k ≡ false) → sound w (suc k) ≡ false
    go true z r = ap (sound w) (sym (eqb-true i (suc k) z)) ∙ e
    go false z r =
        let n : (i ≡ suc k → ⊥) = eqb-false i (suc k) z in
        and_false (not (broken k (first w k) (second w k))) (is_none (find w k (first w k) (second w k))) (sound w k) (r (omega arith))

module _ (w : List ℕ) (u : ℕ) where
  broken_more : broken u (first w u) (second w u) ≡ true → sound w (u + 1) ≡ false
  unfolding sound
  broken_more e = rw (add-one u, e)

  equal_more : {n : ℕ} → find w u (first w u) (second w u) ≡ some n → sound w (u + 1) ≡ false
  unfolding sound is_none
  equal_more e = rw (add-one u, e) (go (not (broken u (first w u) (second w u))))
    where
      go : (x : Bool) → (x && (false && sound w u)) ≡ false
      go true = refl
      go false = refl

-- What `fill` says of a table before all its nodes are entered.
module _ (w : List ℕ) (u v s : ℕ) (ix : List ℕ) (a b : ℕ) (l : u < v) (f : a ≡ first w u) (g : b ≡ second w u) where
  no_more : sound w (u + 1) ≡ false → (false ≡ sound w v) × (false ≡ true → Ready w v s ix)
  no_more e = (sym (unsound_stays w v (u + 1) (omega arith) e), λ q. told_apart q refl)

  pub filled_broken : true ≡ broken u a b → (false ≡ sound w v) × (false ≡ true → Ready w v s ix)
  filled_broken e = no_more (broken_more w u (rw (f, g) at (sym e)))

  pub filled_equal : (n : ℕ) (r : Found) → Sought w u s ix a b r → r ≡ found.Node n → (false ≡ sound w v) × (false ≡ true → Ready w v s ix)
  filled_equal n r t e = no_more (equal_more w u (rw (f, g) at (node_sought w u s ix a b n r t e)))

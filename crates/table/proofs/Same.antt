-- What `same` answers, exactly, and that it is whether the numbers are equal. Assumes nothing.
use Prim.Native.Nat.{ℕ, ◌<◌}
use mathlib.Core.Path.{◌≡◌, refl, sym, ap, ap₂, ◌∙◌, subst}
use mathlib.Core.Bool.{Bool, true, false, cond, ◌&&◌}
use mathlib.Core.List.{List, []}
use mathlib.Core.Logic.{◌↔◌}
use mathlib.Core.Option.{Option, none, some}
use native.Mathlib.Omega.{arith}
use lib.Dec.{ltb, eqb}
use borrow.Author.Tests.{eqb-true, eqb-false, lt-ltb, le-ltb, ltb-true, ltb-false}
use Rattle.std.specs.Prelude.{Result, Ok, Err}
use Rattle.calculus.specs.Tree.{Tree, leaf, stem, fork}
use Rattle.table.specs.Nodes.{Table, Sound, tree_at}
use Rattle.table.specs.Outcome.{at_entry, unless}
use Rattle.table.specs.Same.{same_tree, same, Comparable, SameLacks, of_entry, first_not_in_use, second_not_in_use}
use Rattle.table.specs.declared.Refusal.{Refusal}
use Rattle.table.specs.declared.Refusal.TheVariants.{Node}
use Rattle.table.proofs.Words.{zero_one, told_apart, and_left, and_right}
use Rattle.table.proofs.Entry.{entered, entry_lacks, lacks_entry}
use Rattle.table.proofs.Once.{one_number}

-- the test of two trees is their equality
tree_same : (x : Tree) → same_tree x x ≡ true
unfolding same_tree
tree_same leaf = refl
tree_same (stem p) = tree_same p
tree_same (fork p q) = rw (tree_same p) (tree_same q)

same_tree_lem : (x y : Tree) → same_tree x y ≡ true → x ≡ y
unfolding same_tree
same_tree_lem leaf leaf e = refl
same_tree_lem leaf (stem r) e = zero_one (cc)
same_tree_lem leaf (fork r s) e = zero_one (cc)
same_tree_lem (stem p) leaf e = zero_one (cc)
same_tree_lem (stem p) (stem r) e = ap stem (same_tree_lem p r e)
same_tree_lem (stem p) (fork r s) e = zero_one (cc)
same_tree_lem (fork p q) leaf e = zero_one (cc)
same_tree_lem (fork p q) (stem r) e = zero_one (cc)
same_tree_lem (fork p q) (fork r s) e = ap₂ fork (same_tree_lem p r (and_left (same_tree p r) (same_tree q s) e)) (same_tree_lem q s (and_right (same_tree p r) (same_tree q s) e))

pub same_tree_exactly : (x y : Tree) → (same_tree x y ≡ true) ↔ (x ≡ y)
same_tree_exactly x y = (same_tree_lem x y, λ e. rw (← e) (tree_same x))

-- "Two node numbers are equal exactly when their trees are" ([8]): the test of the trees is that of the numbers
pub same_number : {t : Table} → Sound t → (a b : ℕ) → a < t.used → b < t.used → same_tree (tree_at t.words a) (tree_at t.words b) ≡ eqb a b
same_number {t} s a b h k = go (eqb a b) refl (same_tree (tree_at t.words a) (tree_at t.words b)) refl
  where
    go : (x : Bool) → eqb a b ≡ x → (y : Bool) → same_tree (tree_at t.words a) (tree_at t.words b) ≡ y → y ≡ x
    go true p true q = refl
    go true p false q = told_apart ((same_tree_exactly (tree_at t.words a) (tree_at t.words b)).1 ((one_number s a b h k).0 (eqb-true a b p))) q
    go false p true q = absurd (eqb-false a b p ((one_number s a b h k).1 (same_tree_lem (tree_at t.words a) (tree_at t.words b) q)))
    go false p false q = refl

-- the answer, case by case
data Case (w : List ℕ) (u a b : ℕ) : Result Bool Refusal → Type 0 where
  refuses : {e : Refusal} → SameLacks w u a b e → Case w u a b (Err e)
  alike : Comparable w u a b → tree_at w a ≡ tree_at w b → Case w u a b (Ok true)
  unlike : Comparable w u a b → (tree_at w a ≡ tree_at w b → ⊥) → Case w u a b (Ok false)

module _ (w : List ℕ) (u a b : ℕ) where
  by_case : Case w u a b (same w u a b)
  unfolding same
  by_case = go (at_entry true w u []) (ltb a u) (ltb b u) (same_tree (tree_at w a) (tree_at w b)) refl refl refl refl
    where
      go : (o : Option Refusal) (x y z : Bool) → at_entry true w u [] ≡ o → ltb a u ≡ x → ltb b u ≡ y → same_tree (tree_at w a) (tree_at w b) ≡ z
          → Case w u a b (unless o Err (cond (x && y) (Ok z) (Err Node)))
      go (some e) x y z p q r c = refuses (of_entry (entry_lacks true w u [] p))
      go none false y z p q r c = refuses (first_not_in_use p (ltb-false a u q))
      go none true false z p q r c = refuses (second_not_in_use p (ltb-false b u r))
      go none true true true p q r c =
          alike (record { entered = p; first_in = ltb-true a u q; second_in = ltb-true b u r }) (same_tree_lem (tree_at w a) (tree_at w b) c)
      go none true true false p q r c =
          unlike (record { entered = p; first_in = ltb-true a u q; second_in = ltb-true b u r })
          (λ e. told_apart ((same_tree_exactly (tree_at w a) (tree_at w b)).1 e) c)

  -- what is compared is whether the numbers are equal
  pub compared : Comparable w u a b → Ok (eqb a b) ≡ same w u a b
  unfolding same
  compared h =
      let s = (entered true w u [] h.entered).table in
      rw (h.entered, lt-ltb a u h.first_in, lt-ltb b u h.second_in, same_number s a b h.first_in h.second_in)

  stops : {e : Refusal} → SameLacks w u a b e → same w u a b ≡ Err e
  unfolding same
  stops (of_entry l) = rw (lacks_entry l)
  stops (first_not_in_use p h) = rw (p, le-ltb a u h)
  stops (second_not_in_use p h) = rw (p, le-ltb b u h) (go (ltb a u))
    where
      go : (x : Bool) → cond (x && false) (Ok (same_tree (tree_at w a) (tree_at w b))) (Err Node) ≡ Err Node
      go true = refl
      go false = refl

  -- "a new operation answers that after 1, 2 and 3" ([8]): equal exactly where these are passed and the trees are equal
  pub same_exactly : (same w u a b ≡ Ok true) ↔ (Comparable w u a b × (tree_at w a ≡ tree_at w b))
  same_exactly = (λ q. go by_case q, λ h. sym (compared h.0) ∙ equal h.0 h.1)
    where
      go : {o : Result Bool Refusal} → Case w u a b o → o ≡ Ok true → Comparable w u a b × (tree_at w a ≡ tree_at w b)
      go (refuses l) q = zero_one (cc)
      go (alike h e) q = (h, e)
      go (unlike h e) q = zero_one (cc)

      equal : Comparable w u a b → tree_at w a ≡ tree_at w b → ◌≡◌ {A = Result Bool Refusal} (Ok (eqb a b)) (Ok true)
      equal h e =
          let s = (entered true w u [] h.entered).table in
          let n : same_tree (tree_at w a) (tree_at w b) ≡ true = (same_tree_exactly (tree_at w a) (tree_at w b)).1 e in
          let m : eqb a b ≡ true = sym (same_number s a b h.first_in h.second_in) ∙ n in
          rw m

  pub different_exactly : (same w u a b ≡ Ok false) ↔ (Comparable w u a b × (tree_at w a ≡ tree_at w b → ⊥))
  different_exactly = (λ q. go by_case q, λ h. back by_case h.0 h.1)
    where
      go : {o : Result Bool Refusal} → Case w u a b o → o ≡ Ok false → Comparable w u a b × (tree_at w a ≡ tree_at w b → ⊥)
      go (refuses l) q = zero_one (cc)
      go (alike h e) q = zero_one (cc)
      go (unlike h n) q = (h, n)

      passed : {e : Refusal} → SameLacks w u a b e → Comparable w u a b → ⊥
      passed (of_entry l) h = zero_one (cc (h.entered, lacks_entry l))
      passed (first_not_in_use p k) h = omega (arith, h.first_in)
      passed (second_not_in_use p k) h = omega (arith, h.second_in)

      back : {o : Result Bool Refusal} → Case w u a b o → Comparable w u a b → (tree_at w a ≡ tree_at w b → ⊥) → o ≡ Ok false
      back (refuses l) h n = absurd (passed l h)
      back (alike k e) h n = absurd (n e)
      back (unlike k e) h n = refl

  -- 1, 2 and 3, each exactly on its condition, and no other refusal
  pub same_lacks : (e : Refusal) → (same w u a b ≡ Err e) ↔ SameLacks w u a b e
  same_lacks e = (λ q. go by_case q, stops)
    where
      go : {o : Result Bool Refusal} → Case w u a b o → o ≡ Err e → SameLacks w u a b e
      go (refuses {e = c} l) q = let p : c ≡ e = cc in subst (SameLacks w u a b) p l
      go (alike h d) q = zero_one (cc)
      go (unlike h d) q = zero_one (cc)

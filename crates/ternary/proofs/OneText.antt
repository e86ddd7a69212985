-- One text a tree: a tree's text is whole and reads back as the tree, and every whole text is the text of its tree. Assumes nothing.
use Prim.Native.Nat.{ℕ}
use mathlib.Core.Path.{◌≡◌, refl, sym, ap, ◌∙◌}
use mathlib.Core.Bool.{Bool, true, false, cond}
use mathlib.Core.List.{List, [], ◌∷◌, ◌++◌, append_assoc, append-nil}
use mathlib.Core.Option.{Option, none, some}
use native.Mathlib.Omega.{arith}
use lib.ListN.{length, length-append}
use lib.Dec.{eqb}
use borrow.Author.Tests.{eqb-true}
use Rattle.calculus.specs.Tree.{Tree, leaf, stem, fork, size}
use Rattle.table.proofs.Words.{zero_one}
use Rattle.ternary.specs.Text.{texts}
use Rattle.ternary.specs.Text.{text, take_leaf, take_stem, take_fork, take_digit, pending, single, tree_of}

-- "Its text is one ASCII digit a node, parent before branches, first branch before second": taken last to first, the digits of a tree's text leave
-- that tree before the trees that were pending.
pub pending_text : (t : Tree) (l : List ℕ) {ts : List Tree} → pending l ≡ some ts → pending (text t ++ l) ≡ some (t ∷ ts)
unfolding text pending take_digit take_leaf take_stem take_fork
pending_text leaf l e = rw e
pending_text (stem p) l e = rw (pending_text p l e)
pending_text (fork p q) l e = ap (λ (r : List ℕ). take_digit 50 (pending r)) (append_assoc (text p) (text q) l) ∙ rw (pending_text p (text q ++ l) (pending_text q l e))

-- A tree's text is whole, and reading it gives the tree back.
pub text_read : (t : Tree) → tree_of (text t) ≡ some t
unfolding tree_of pending single
text_read t = ap (λ (l : List ℕ). single (pending l)) (sym (append-nil (text t))) ∙ ap single (pending_text t [] refl)

-- No two trees have one text.
pub text_unique : (t u : Tree) → text t ≡ text u → t ≡ u
text_unique t u e = cc (text_read t, text_read u)

-- what each digit leaves has the digit and the texts before
module _ {ts : List Tree} where
  same : {us : List Tree} → some us ≡ some ts → texts us ≡ texts ts
  same e = cc

  took_stem : (us : List Tree) → take_stem us ≡ some ts → 49 ∷ texts us ≡ texts ts
  unfolding take_stem texts text
  took_stem [] e = zero_one (cc)
  took_stem (p ∷ us) e = same e

  took_fork : (us : List Tree) → take_fork us ≡ some ts → 50 ∷ texts us ≡ texts ts
  unfolding take_fork texts text
  took_fork [] e = zero_one (cc)
  took_fork (p ∷ []) e = zero_one (cc)
  took_fork (p ∷ (q ∷ us)) e = ap (λ (l : List ℕ). 50 ∷ l) (sym (append_assoc (text p) (text q) (texts us))) ∙ same e

  took : (c : ℕ) (us : List Tree) → take_digit c (some us) ≡ some ts → c ∷ texts us ≡ texts ts
  unfolding take_digit take_leaf texts text
  took c us = go (eqb c 48) (eqb c 49) (eqb c 50) refl refl refl
    where
      go : (x y z : Bool) → eqb c 48 ≡ x → eqb c 49 ≡ y → eqb c 50 ≡ z
          → cond x (take_leaf us) (cond y (take_stem us) (cond z (take_fork us) none)) ≡ some ts → c ∷ texts us ≡ texts ts
      go true y z p q r e = rw (eqb-true c 48 p) (same e)
      go false true z p q r e = rw (eqb-true c 49 q) (took_stem us e)
      go false false true p q r e = rw (eqb-true c 50 r) (took_fork us e)
      go false false false p q r e = zero_one (cc)

-- "the digits are taken last to first": where they leave the trees ts pending, they are the texts of ts.
pub pending_texts : (l : List ℕ) {ts : List Tree} → pending l ≡ some ts → l ≡ texts ts
unfolding pending texts take_digit
pending_texts [] e = cc
pending_texts (c ∷ l) {ts} e = go (pending l) refl e (λ us. pending_texts l {ts = us})
  where
    go : (o : Option (List Tree)) → pending l ≡ o → take_digit c o ≡ some ts → ((us : List Tree) → pending l ≡ some us → l ≡ texts us) → c ∷ l ≡ texts ts
    go none p e r = zero_one (cc)
    go (some us) p e r = ap (λ (k : List ℕ). c ∷ k) (r us p) ∙ took c us e

-- the one tree of a whole text
pub whole_pending : (l : List ℕ) {t : Tree} → tree_of l ≡ some t → pending l ≡ some (t ∷ [])
unfolding tree_of single
whole_pending l {t} = go (pending l)
  where
    go : (o : Option (List Tree)) → single o ≡ some t → o ≡ some (t ∷ [])
    go none e = zero_one (cc)
    go (some []) e = zero_one (cc)
    go (some (x ∷ [])) e = cc
    go (some (x ∷ (y ∷ xs))) e = zero_one (cc)

-- "text not one whole tree" is refused: a text that is whole is the text of the tree that is read.
pub whole_text : (l : List ℕ) (t : Tree) → tree_of l ≡ some t → l ≡ text t
unfolding texts
whole_text l t e = pending_texts l (whole_pending l e) ∙ append-nil (text t)

-- "Its text is one ASCII digit a node": as many digits as the tree has nodes.
pub length_text : (t : Tree) → length (text t) ≡ size t
unfolding text size
length_text leaf = refl
length_text (stem p) = omega (arith, length_text p)
length_text (fork p q) = simp length-append (omega (arith, length_text p, length_text q))

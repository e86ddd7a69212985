-- The number of trees wanted: it is 0 exactly where a text is whole, it is the number of trees pending from there on, and it is the fewest digits
-- that complete a beginning. Assumes nothing.
use Prim.Native.Nat.{ℕ, zero, suc, ◌+◌, ◌-◌, ◌≤◌}
use mathlib.Core.Path.{◌≡◌, refl, sym, ap, ◌∙◌}
use mathlib.Core.Bool.{Bool, true, false, cond}
use mathlib.Core.List.{List, [], ◌∷◌, ◌++◌, append_assoc}
use mathlib.Core.Logic.{◌↔◌}
use mathlib.Core.Option.{Option, none, some}
use native.Mathlib.Omega.{arith}
use lib.ListN.{length, replicate, length-replicate}
use lib.Dec.{eqb}
use borrow.Author.Tests.{eq-eqb, ne_eqb}
use Rattle.calculus.specs.Tree.{Tree, leaf, stem, fork}
use Rattle.table.proofs.Words.{zero_one}
use Rattle.ternary.specs.Text.{text, texts, take_leaf, take_stem, take_fork, take_digit, pending, single, tree_of, many_pending, most_pending}
use Rattle.ternary.specs.Wanted.{wanted_after, wanted_from, wanted, many_wanted, most_wanted, Completes, CanBecomeWhole, Fewest}
use Rattle.ternary.proofs.OneText.{pending_texts, whole_pending}

-- what cannot become whole cannot with more digits
pub none_wanted : (l : List ℕ) → wanted_from none l ≡ none
unfolding wanted_from wanted_after
none_wanted [] = refl
none_wanted (c ∷ l) = none_wanted l

-- a digit's node is one of the trees wanted, and wants its own branches
pub after_digit : (c n b : ℕ) → (n ≡ 0 → ⊥) → c ≡ 48 + b → b ≤ 2 → some (n - 1 + b) ≡ wanted_after c (some n)
unfolding wanted_after
after_digit c zero b z e h = absurd (z refl)
after_digit c (suc n) zero z e h = rw (eq-eqb c 48 (omega arith)) (ap some (omega arith))
after_digit c (suc n) (suc zero) z e h = rw (ne_eqb c 48 (λ q. omega arith), eq-eqb c 49 (omega arith)) (ap some (omega arith))
after_digit c (suc n) (suc (suc zero)) z e h = rw (ne_eqb c 48 (λ q. omega arith), ne_eqb c 49 (λ q. omega arith), eq-eqb c 50 (omega arith)) (ap some (omega arith))
after_digit c (suc n) (suc (suc (suc b))) z e h = absurd (omega arith)

-- the number wanted after more digits goes by the number before them
pub wanted_append : (o : Option ℕ) (l r : List ℕ) → wanted_from o (l ++ r) ≡ wanted_from (wanted_from o l) r
unfolding wanted_from
wanted_append o [] r = refl
wanted_append o (c ∷ l) r = wanted_append (wanted_after c o) l r

-- the text of a tree is one of the trees wanted
wanted_text : (t : Tree) (n : ℕ) (l : List ℕ) → wanted_from (some (suc n)) (text t ++ l) ≡ wanted_from (some n) l
unfolding text wanted_from wanted_after
wanted_text leaf n l = refl
wanted_text (stem p) n l = wanted_text p n l
wanted_text (fork p q) n l = ap (wanted_from (some (suc (suc n)))) (append_assoc (text p) (text q) l) ∙ wanted_text p (suc n) (text q ++ l) ∙ wanted_text q n l

-- and the texts of several are as many of them
wanted_texts : (ts : List Tree) → wanted_from (some (length ts)) (texts ts) ≡ some 0
unfolding texts wanted_from
wanted_texts [] = refl
wanted_texts (t ∷ ts) = wanted_text t (length ts) (texts ts) ∙ wanted_texts ts

-- so many trees are pending once the digits are taken last to first
abbrev Pends : List ℕ → ℕ → Type 0
Pends l n = (ts : List Tree) × (pending l ≡ some ts) × (length ts ≡ n)

module _ (c : ℕ) (l : List ℕ) (n : ℕ) where
  pends_leaf : eqb c 48 ≡ true → Pends l n → Pends (c ∷ l) (suc n)
  unfolding pending take_digit take_leaf
  pends_leaf e (ts, p, k) = (leaf ∷ ts, rw (p, e), ap suc k)

  pends_stem : eqb c 48 ≡ false → eqb c 49 ≡ true → Pends l (suc n) → Pends (c ∷ l) (suc n)
  unfolding pending take_digit take_stem
  pends_stem d e ([], p, k) = absurd (omega arith)
  pends_stem d e (t ∷ ts, p, k) = (stem t ∷ ts, rw (p, d, e), k)

  pends_fork : eqb c 48 ≡ false → eqb c 49 ≡ false → eqb c 50 ≡ true → Pends l (suc (suc n)) → Pends (c ∷ l) (suc n)
  unfolding pending take_digit take_fork
  pends_fork b d e ([], p, k) = absurd (omega arith)
  pends_fork b d e (t ∷ [], p, k) = absurd (omega arith)
  pends_fork b d e (t ∷ (u ∷ ts), p, k) = (fork t u ∷ ts, rw (p, b, d, e), omega arith)

wanted_pends : (l : List ℕ) (n : ℕ) → wanted_from (some n) l ≡ some 0 → Pends l n
unfolding wanted_from wanted_after pending
wanted_pends [] n e = ([], refl, cc)
wanted_pends (c ∷ l) zero e = zero_one (cc (none_wanted l))
wanted_pends (c ∷ l) (suc n) e = go (eqb c 48) (eqb c 49) (eqb c 50) refl refl refl e (wanted_pends l)
  where
    go : (x y z : Bool) → eqb c 48 ≡ x → eqb c 49 ≡ y → eqb c 50 ≡ z
        → wanted_from (cond x (some n) (cond y (some (suc n)) (cond z (some (suc (suc n))) none))) l ≡ some 0 → ((k : ℕ) → wanted_from (some k) l ≡ some 0 → Pends l k) → Pends (c ∷ l) (suc n)
    go true y z p q r e f = pends_leaf c l n p (f n e)
    go false true z p q r e f = pends_stem c l n p q (f (suc n) e)
    go false false true p q r e f = pends_fork c l n p q r (f (suc (suc n)) e)
    go false false false p q r e f = zero_one (cc (none_wanted l))

pends_wanted : (l : List ℕ) (n : ℕ) → Pends l n → wanted_from (some n) l ≡ some 0
pends_wanted l n (ts, p, k) = rw (← k, pending_texts l p) (wanted_texts ts)

-- A whole text wants no tree more, and only a whole text does.
pub wanted_whole : (l : List ℕ) → (wanted l ≡ some 0) ↔ ((t : Tree) × (tree_of l ≡ some t))
unfolding wanted tree_of single
wanted_whole l = (λ e. one (wanted_pends l 1 e), λ w. pends_wanted l 1 (w.0 ∷ [], whole_pending l w.1, refl))
  where
    one : Pends l 1 → (t : Tree) × (single (pending l) ≡ some t)
    one ([], p, k) = absurd (omega arith)
    one (t ∷ [], p, k) = (t, rw p)
    one (t ∷ (u ∷ ts), p, k) = absurd (omega arith)

-- what wants another number, or has none, is not whole
pub wanted_broken : (l : List ℕ) → (wanted l ≡ some 0 → ⊥) → tree_of l ≡ none
wanted_broken l n = go (tree_of l) refl
  where
    go : (o : Option Tree) → tree_of l ≡ o → o ≡ none
    go none p = refl
    go (some t) p = absurd (n ((wanted_whole l).1 (t, p)))

-- digits that use up n trees wanted leave n trees pending
pending_many : (l : List ℕ) (n : ℕ) → wanted_from (some n) l ≡ some 0 → many_pending (pending l) ≡ n
unfolding many_pending
pending_many l n e = let d = wanted_pends l n e in rw d.1 d.2

-- of a whole text, the number wanted before its last digits is what leaves no tree wanted after them
rest_wanted : (l r : List ℕ) → Completes l r → (n : ℕ) × ((wanted l ≡ some n) × (wanted_from (some n) r ≡ some 0))
unfolding wanted
rest_wanted l r w = go (wanted_from (some 1) l) refl (sym (wanted_append (some 1) l r) ∙ (wanted_whole (l ++ r)).1 w)
  where
    go : (o : Option ℕ) → wanted_from (some 1) l ≡ o → wanted_from o r ≡ some 0 → (n : ℕ) × ((wanted_from (some 1) l ≡ some n) × (wanted_from (some n) r ≡ some 0))
    go none p e = zero_one (cc (none_wanted r))
    go (some n) p e = (n, (p, e))

-- For a whole text the number wanted after its first digits is the number of trees pending once the digits from there on are taken, last to first.
pub wanted_pending : (l r : List ℕ) → Completes l r → wanted l ≡ some (many_pending (pending r))
wanted_pending l r w = let d = rest_wanted l r w in d.1.0 ∙ ap some (sym (pending_many r d.0 d.1.1))

-- so that of digits that use up the trees wanted, the most trees pending is the most trees wanted before a digit
most_from : (l : List ℕ) (o : Option ℕ) → wanted_from o l ≡ some 0 → most_pending l ≡ most_wanted o l
unfolding wanted_from most_pending most_wanted many_wanted
most_from [] o e = refl
most_from (c ∷ l) none e = zero_one (cc (none_wanted (c ∷ l)))
most_from (c ∷ l) (some n) e = rw (pending_many (c ∷ l) n e, most_from l (wanted_after c (some n)) e)

-- "the most trees pending while the digits are taken last to first" of a whole text is the most trees wanted before a digit, first to last.
pub most_wanted_lem : (l : List ℕ) (t : Tree) → tree_of l ≡ some t → most_pending l ≡ most_wanted (some 1) l
unfolding wanted
most_wanted_lem l t e = most_from l (some 1) ((wanted_whole l).1 (t, e))

-- A text in which a digit comes where no tree is wanted, or another byte, is not whole.
pub wanted_ends : (l : List ℕ) (c : ℕ) (r : List ℕ) → wanted_after c (wanted l) ≡ none → tree_of (l ++ (c ∷ r)) ≡ none
unfolding wanted wanted_from
wanted_ends l c r e = wanted_broken (l ++ (c ∷ r)) (λ q. zero_one (cc (wanted_append (some 1) l (c ∷ r), none_wanted r)))

-- so many leaves leave no tree wanted
pub leaves_wanted : (n : ℕ) → wanted_from (some n) (replicate n 48) ≡ some 0
unfolding wanted_from wanted_after
leaves_wanted zero = refl
leaves_wanted (suc n) = leaves_wanted n

-- a digit takes one of the trees wanted at the most, and adds one at the most
digit_within : (c n m : ℕ) → wanted_after c (some n) ≡ some m → (n ≤ m + 1) × (m ≤ n + 1)
unfolding wanted_after
digit_within c zero m e = zero_one (cc)
digit_within c (suc n) m e = go (eqb c 48) (eqb c 49) (eqb c 50) e
  where
    go : (x y z : Bool) → cond x (some n) (cond y (some (suc n)) (cond z (some (suc (suc n))) none)) ≡ some m → (suc n ≤ m + 1) × (m ≤ suc n + 1)
    go true y z e = let q : n ≡ m = cc in (omega arith, omega arith)
    go false true z e = let q : suc n ≡ m = cc in (omega arith, omega arith)
    go false false true e = let q : suc (suc n) ≡ m = cc in (omega arith, omega arith)
    go false false false e = zero_one (cc)

-- and digits take and add as many at the most as they are
pub digits_within : (l : List ℕ) (n m : ℕ) → wanted_from (some n) l ≡ some m → (n ≤ m + length l) × (m ≤ n + length l)
unfolding wanted_from
digits_within [] n m e = let q : n ≡ m = cc in (omega arith, omega arith)
digits_within (c ∷ l) n m e = go (wanted_after c (some n)) refl e (λ k. digits_within l k m)
  where
    go : (o : Option ℕ) → wanted_after c (some n) ≡ o → wanted_from o l ≡ some m
        → ((k : ℕ) → wanted_from (some k) l ≡ some m → (k ≤ m + length l) × (m ≤ k + length l)) → (n ≤ m + length (c ∷ l)) × (m ≤ n + length (c ∷ l))
    go none p e f = zero_one (cc (none_wanted l))
    go (some k) p e f = let a = digit_within c n k p in let b = f k e in (omega (arith, a.0, b.0), omega (arith, a.1, b.1))

wanted_fewest : (l : List ℕ) (n : ℕ) → wanted l ≡ some n → Fewest l n
unfolding wanted
wanted_fewest l n e =
    record {
      leaves = (wanted_whole (l ++ replicate n 48)).0 (wanted_append (some 1) l (replicate n 48) ∙ rw e (leaves_wanted n));
      least = λ r w. let d = rest_wanted l r w in let q : n ≡ d.0 = cc in omega (arith, (digits_within r d.0 0 d.1.1).0);
    }

fewest_wanted : (l : List ℕ) (n : ℕ) → Fewest l n → wanted l ≡ some n
fewest_wanted l n f =
    let d = rest_wanted l (replicate n 48) f.leaves in
    let g = wanted_fewest l d.0 d.1.0 in
    let a = f.least (replicate d.0 48) g.leaves in
    let b = g.least (replicate n 48) f.leaves in
    let q : d.0 ≡ n = omega (arith, length-replicate {A = ℕ} n 48, length-replicate {A = ℕ} d.0 48) in
    d.1.0 ∙ ap some q

-- "that number is shown to be the fewest digits that complete it" ([7]): the number wanted is the fewest, and the fewest is the number wanted.
pub fewest_exact : (l : List ℕ) (n : ℕ) → (wanted l ≡ some n) ↔ Fewest l n
fewest_exact l n = (wanted_fewest l n, fewest_wanted l n)

-- A number is wanted after exactly the beginnings that can still become whole.
pub continues_exact : (l : List ℕ) → ((n : ℕ) × (wanted l ≡ some n)) ↔ CanBecomeWhole l
continues_exact l = (λ d. (replicate d.0 48, (wanted_fewest l d.0 d.1).leaves), λ d. let e = rest_wanted l d.0 d.1 in (e.0, e.1.0))

-- "After any beginning that can still become whole, length aside, that number is shown to be the fewest digits that complete it." ([7])
pub fewest_digits : (l : List ℕ) → CanBecomeWhole l → (n : ℕ) × ((wanted l ≡ some n) × Fewest l n)
fewest_digits l d = let e = (continues_exact l).1 d in (e.0, (e.1, wanted_fewest l e.0 e.1))

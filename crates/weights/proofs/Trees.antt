-- Digits and lists of digits as trees: what is read out of a tree is what it was made of. Assumes nothing.
use Prim.Native.Nat.{ℕ, zero, suc, ◌+◌, ◌*◌, ◌≤◌}
use mathlib.Core.Path.{◌≡◌, refl, ap, subst, ◌∙◌}
use mathlib.Core.Bool.{Bool, true, false, cond}
use mathlib.Core.List.{List, [], ◌∷◌}
use mathlib.Core.Option.{Option, none, some}
use native.Mathlib.Omega.{arith}
use lib.ListN.{length}
use lib.Dec.{leb}
use borrow.Author.Tests.{le-leb, lt-leb, leb-true}
use Rattle.calculus.specs.Tree.{Tree, leaf, stem, fork, size}
use Rattle.calculus.specs.Uses.{one_stem}
use Rattle.calculus.specs.Rules.{Apply, by_stem}
use Rattle.weights.specs.Digits.{digit_tree, list_tree, digit_after, digit_of, before, digits_in}
use Rattle.weights.specs.Claims.{Decimal}

-- "digit d is K applied d times starting at Δ" ([9]), by the five rules
pub digit_applied : (d : ℕ) → Apply (stem leaf) (digit_tree d) (digit_tree (suc d)) one_stem
unfolding digit_tree
digit_applied d = by_stem

-- a tree that is the digit n after d Ks
record Digit (d : ℕ) (t : Tree) (n : ℕ) : Type 0 where
  more : ℕ
  tree : t ≡ digit_tree more
  number : n ≡ d + more
  decimal : n ≤ 9

digit_after_lem : (d : ℕ) (t : Tree) {n : ℕ} → digit_after d t ≡ some n → Digit d t n
unfolding digit_after digit_tree
digit_after_lem d leaf {n} e = go (leb d 9) refl e
  where
    go : (z : Bool) → leb d 9 ≡ z → cond z (some d) none ≡ some n → Digit d leaf n
    go true p e = let q : d ≡ n = cc in record { more = 0; tree = refl; number = omega arith; decimal = omega (arith, leb-true d 9 p) }
    go false p e = cc
digit_after_lem d (stem p) e = cc
digit_after_lem d (fork leaf q) e = let r = digit_after_lem (d + 1) q e in record { more = suc r.more; tree = ap (fork leaf) r.tree; number = omega (arith, r.number); decimal = r.decimal }
digit_after_lem d (fork (stem p) q) e = cc
digit_after_lem d (fork (fork p r) q) e = cc

after_digit : (k d : ℕ) → d + k ≤ 9 → digit_after d (digit_tree k) ≡ some (d + k)
unfolding digit_after digit_tree
after_digit zero d h = rw (le-leb d 9 (omega arith)) (ap some (let q : d ≡ d + 0 = omega arith in q))
after_digit (suc k) d h = after_digit k (d + 1) (omega arith) ∙ ap some (let q : d + 1 + k ≡ d + suc k = omega arith in q)

-- after ten Ks there is no decimal digit
pub too_many : (t : Tree) (d : ℕ) → 10 ≤ d → digit_after d t ≡ none
unfolding digit_after
too_many leaf d h = rw (lt-leb d 9 (omega arith))
too_many (stem p) d h = refl
too_many (fork leaf q) d h = too_many q (d + 1) (omega arith)
too_many (fork (stem p) q) d h = refl
too_many (fork (fork p r) q) d h = refl

-- a decimal digit is read out of its tree, and out of no other
pub digit_read : (d : ℕ) → d ≤ 9 → digit_of (digit_tree d) ≡ some d
unfolding digit_of
digit_read d h = after_digit d 0 (omega arith) ∙ ap some (let q : 0 + d ≡ d = omega arith in q)

pub digit_only : (t : Tree) {d : ℕ} → digit_of t ≡ some d → (t ≡ digit_tree d) × (d ≤ 9)
unfolding digit_of
digit_only t {d} e = let r = digit_after_lem 0 t e in let q : r.more ≡ d = omega (arith, r.number) in (r.tree ∙ ap digit_tree q, r.decimal)

-- the digits are read out of their list, and out of no other tree
pub list_read : (l : List ℕ) → Decimal l → digits_in (length l) (list_tree l) ≡ some l
unfolding digits_in list_tree before
list_read [] h = refl
list_read (d ∷ l) h = rw (digit_read d (h 0), list_read l (λ i. h (suc i)))

pub record IsList (n : ℕ) (t : Tree) (l : List ℕ) : Type 0 where
  pub tree : t ≡ list_tree l
  pub many : length l ≡ n
  pub decimal : Decimal l

no_items : {l : List ℕ} → [] ≡ l → IsList zero leaf l
unfolding list_tree
no_items e = subst (IsList zero leaf) e (record { tree = refl; many = refl; decimal = λ i. omega arith })

one_more : {n d : ℕ} {p q : Tree} {l m : List ℕ} → (p ≡ digit_tree d) × (d ≤ 9) → IsList n q l → d ∷ l ≡ m → IsList (suc n) (fork p q) m
unfolding list_tree
one_more {n} {d} {p} {q} {l} h r e = subst (IsList (suc n) (fork p q)) e (record { tree = rw (h.0, r.tree); many = ap suc r.many; decimal = each })
  where
    each : Decimal (d ∷ l)
    each zero = h.1
    each (suc i) = r.decimal i

pub list_only : (n : ℕ) (t : Tree) {l : List ℕ} → digits_in n t ≡ some l → IsList n t l
unfolding digits_in before
list_only zero leaf e = no_items (cc)
list_only zero (stem p) e = cc
list_only zero (fork p q) e = cc
list_only (suc n) leaf e = cc
list_only (suc n) (stem p) e = cc
list_only (suc n) (fork p q) {l = m} e = go (digit_of p) (digits_in n q) refl refl e (λ l k. list_only n q k)
  where
    go : (a : Option ℕ) (b : Option (List ℕ)) → digit_of p ≡ a → digits_in n q ≡ b → before a b ≡ some m → ((l : List ℕ) → digits_in n q ≡ some l → IsList n q l) → IsList (suc n) (fork p q) m
    go none b x y k r = cc
    go (some d) none x y k r = cc
    go (some d) (some l) x y k r = one_more (digit_only p x) (r l y) (cc)

-- a list's tree has a node for itself and at most twenty for each digit
digit_size : (d : ℕ) → size (digit_tree d) ≡ d + d + 1
unfolding size digit_tree
digit_size zero = refl
digit_size (suc d) = rw (digit_size d) (let e : 1 + (d + d + 1) + 1 ≡ suc d + suc d + 1 = omega arith in e)

pub list_size : (l : List ℕ) → Decimal l → size (list_tree l) ≤ length l * 20 + 1
unfolding size list_tree
list_size [] h = omega arith
list_size (d ∷ l) h = omega (arith, h 0, digit_size d, list_size l (λ i. h (suc i)))

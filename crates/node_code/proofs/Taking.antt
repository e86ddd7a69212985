-- What the text of a tree comes to, by its branches, and the value's bound. Assumes nothing.
use Prim.Native.Nat.{ℕ, ◌+◌, ◌*◌, ◌≤◌, ◌<◌}
use mathlib.Core.Path.{◌≡◌, refl, sym, ap, subst, ◌∙◌}
use mathlib.Core.Bool.{Bool, true, false, cond}
use mathlib.Core.List.{◌++◌}
use native.Mathlib.Omega.{arith}
use native.Mathlib.Numerals.{add-one}
use lib.ListN.{length}
use lib.Dec.{leb}
use borrow.Author.Tests.{le-leb, lt-leb, leb-true, leb-false}
use Rattle.calculus.specs.Tree.{Tree, leaf, stem, fork, size}
use Rattle.table.proofs.Making.{size_pos}
use Rattle.table.proofs.Words.{zero_one}
use Rattle.ternary.specs.Text.{text}
use Rattle.ternary.proofs.OneText.{length_text}
use Rattle.short_codes.specs.Values.{value_after, value_from, padded}
use Rattle.short_codes.proofs.Numerals.{text_digits, value_append, padded_ten, digit_below, value_below}
use Rattle.std.specs.Prelude.{Some, None}
use Rattle.node_code.specs.Code.{digits, taken_text}
use Rattle.node_code.specs.declared.Digits.{Digits}

-- a value of at most ten digits is below 59,049
pub value_few : (v many : ℕ) → v < padded many 1 → many ≤ 10 → v < 59049
value_few v many h k = omega (arith, padded_ten many k)

pub digit_fits : (v many b : ℕ) → v < padded many 1 → b ≤ 2 → v * 3 + b < padded (many + 1) 1
unfolding padded
digit_fits v many b h k = rw (add-one many) (digit_below many v 1 b h k)

-- one law for each way that the text of a tree is taken
module _ (many v : ℕ) where
  -- the digits of a tree, where they are not too many
  pub record TakesAll (t : Tree) (m x : ℕ) : Type 0 where
    pub few : m ≤ 10
    pub many_is : m ≡ many + size t
    pub value_is : x ≡ value_from v (text t)

  pub takes_all : (t : Tree) {m x : ℕ} → taken_text many v t ≡ Some (digits m x) → TakesAll t m x
  unfolding taken_text
  takes_all t {m} {x} = go (leb (many + size t) 10) refl
    where
      go : (z : Bool) → leb (many + size t) 10 ≡ z → cond z (Some (digits (many + size t) (value_from v (text t)))) None ≡ Some (digits m x) → TakesAll t m x
      go true p e =
          let d : digits m x ≡ digits (many + size t) (value_from v (text t)) = cc in
          record { few = omega (arith, leb-true (many + size t) 10 p, ap (λ (k : Digits). k.many) d); many_is = ap (λ (k : Digits). k.many) d; value_is = ap (λ (k : Digits). k.value) d }
      go false p e = zero_one (cc)

  pub takes_too_many : (t : Tree) → taken_text many v t ≡ None → 10 < many + size t
  unfolding taken_text
  takes_too_many t = go (leb (many + size t) 10) refl
    where
      go : (z : Bool) → leb (many + size t) 10 ≡ z → cond z (Some (digits (many + size t) (value_from v (text t)))) None ≡ None → 10 < many + size t
      go true p e = zero_one (cc)
      go false p e = leb-false (many + size t) 10 p

  pub long_taken : (t : Tree) → 10 < many + size t → None ≡ taken_text many v t
  unfolding taken_text
  long_taken t h = rw (lt-leb (many + size t) 10 h)

  pub full_taken : (t : Tree) → many ≡ 10 → None ≡ taken_text many v t
  full_taken t e = long_taken t (omega (arith, size_pos t))

  pub leaf_taken : {t : Tree} → t ≡ leaf → many ≤ 10 → (many ≡ 10 → ⊥) → Some (digits (many + 1) (v * 3 + 0)) ≡ taken_text many v t
  unfolding taken_text size text value_from value_after
  leaf_taken e h n = rw (e, le-leb (many + 1) 10 (omega arith)) refl

  pub stem_taken : {t p : Tree} → t ≡ stem p → taken_text (many + 1) (v * 3 + 1) p ≡ taken_text many v t
  unfolding taken_text size text value_from value_after
  stem_taken {t} {p} e = rw e (ap (λ (n : ℕ). cond (leb n 10) (Some (digits n (value_from (v * 3 + 1) (text p)))) None) (let q : many + 1 + size p ≡ many + (size p + 1) = omega arith in q))

-- a fork's first branch is taken before its second
module _ (many v : ℕ) {t p q : Tree} (e : t ≡ fork p q) where
  pub fork_long : taken_text (many + 1) (v * 3 + 2) p ≡ None → None ≡ taken_text many v t
  unfolding size
  fork_long h = rw e (long_taken many v (fork p q) (omega (arith, takes_too_many (many + 1) (v * 3 + 2) p h)))

  pub fork_taken : {m x : ℕ} → taken_text (many + 1) (v * 3 + 2) p ≡ Some (digits m x) → taken_text m x q ≡ taken_text many v t
  unfolding taken_text size text value_from value_after
  fork_taken {m} {x} h =
      let a = takes_all (many + 1) (v * 3 + 2) p h in
      let n : m + size q ≡ many + (size p + size q + 1) = omega (arith, a.many_is) in
      let y : value_from x (text q) ≡ value_from (v * 3 + 2) (text p ++ text q) = ap (λ (k : ℕ). value_from k (text q)) a.value_is ∙ sym (value_append (v * 3 + 2) (text p) (text q)) in
      rw (e, n, y)

-- the digits taken have a value below 1 with so many digits 0 after it
pub taken_fits : (many v : ℕ) (t : Tree) {m x : ℕ} → v < padded many 1 → taken_text many v t ≡ Some (digits m x) → x < padded m 1
taken_fits many v t {m} {x} h e =
    let a = takes_all many v t e in
    let n : many + length (text t) ≡ m = omega (arith, a.many_is, length_text t) in
    subst (λ (k : ℕ). x < padded k 1) n (rw a.value_is (value_below (text t) v many h (text_digits t)))

-- The digits of a text's value are the text, so that a value is one tree's. Assumes nothing.
use Prim.Native.Nat.{ℕ, zero, suc, ◌+◌, ◌-◌, ◌*◌, ◌/◌, ◌%◌, ◌≤◌, ◌<◌}
use mathlib.Core.Path.{◌≡◌, refl, sym, ap, ap₂, subst, ◌∙◌}
use mathlib.Core.Bool.{Bool, true, false, cond}
use mathlib.Core.List.{List, [], ◌∷◌, ◌++◌, append-nil, append_assoc}
use native.Mathlib.Omega.{arith}
use lib.ListN.{length}
use lib.Dec.{ltb}
use borrow.Author.Tests.{ltb-false, lt-ltb, le-ltb}
use Rattle.calculus.specs.Tree.{Tree, leaf, stem, fork}
use Rattle.ternary.specs.Text.{text}
use Rattle.ternary.proofs.OneText.{text_unique}
use Rattle.short_codes.specs.Values.{value_after, value_from, value, padded, numeral_to, numeral}

-- any bound above the number is enough
enough : (k m v : ℕ) → v < k → v < m → numeral_to k v ≡ numeral_to m v
unfolding numeral_to
enough zero m v h l = absurd (omega arith)
enough (suc k) zero v h l = absurd (omega arith)
enough (suc k) (suc m) v h l = go (ltb v 3) refl (enough k m (v / 3))
  where
    go : (z : Bool) → ltb v 3 ≡ z → (v / 3 < k → v / 3 < m → numeral_to k (v / 3) ≡ numeral_to m (v / 3))
        → cond z ((48 + v) ∷ []) (numeral_to k (v / 3) ++ ((48 + v % 3) ∷ [])) ≡ cond z ((48 + v) ∷ []) (numeral_to m (v / 3) ++ ((48 + v % 3) ∷ []))
    go true p f = refl
    go false p f = ap (λ (r : List ℕ). r ++ ((48 + v % 3) ∷ [])) (f (omega (arith, ltb-false v 3 p)) (omega (arith, ltb-false v 3 p)))

-- a number below 3 has one digit, and any other those of its third and one more
pub numeral_one : (v : ℕ) → v < 3 → numeral v ≡ (48 + v) ∷ []
unfolding numeral numeral_to
numeral_one v h = rw (lt-ltb v 3 h)

by_third : (v : ℕ) → 3 ≤ v → numeral v ≡ numeral_to v (v / 3) ++ ((48 + v % 3) ∷ [])
unfolding numeral numeral_to
by_third v h = rw (le-ltb v 3 h)

bounded : (v : ℕ) → 3 ≤ v → numeral_to v (v / 3) ≡ numeral (v / 3)
unfolding numeral
bounded v h = enough v (suc (v / 3)) (v / 3) (omega arith) (omega arith)

pub numeral_more : (v : ℕ) → 3 ≤ v → numeral v ≡ numeral (v / 3) ++ ((48 + v % 3) ∷ [])
numeral_more v h = by_third v h ∙ ap (λ (r : List ℕ). r ++ ((48 + v % 3) ∷ [])) (bounded v h)

-- each byte is the digit of a leaf, a stem or a fork
abbrev pub AllDigits : List ℕ → Type 0
AllDigits [] = Unit {0}
AllDigits (c ∷ l) = (48 ≤ c) × (c ≤ 50) × AllDigits l

digits_append : (l r : List ℕ) → AllDigits l → AllDigits r → AllDigits (l ++ r)
digits_append [] r d e = e
digits_append (c ∷ l) r d e = (d.0, d.1, digits_append l r d.2 e)

pub text_digits : (t : Tree) → AllDigits (text t)
unfolding text
text_digits leaf = (omega arith, omega arith, tt)
text_digits (stem p) = (omega arith, omega arith, text_digits p)
text_digits (fork p q) = (omega arith, omega arith, digits_append (text p) (text q) (text_digits p) (text_digits q))

-- one digit after a number that does not begin with 0
digit_after_lem : (v c : ℕ) → 1 ≤ v → 48 ≤ c → c ≤ 50 → numeral (value_after v c) ≡ numeral v ++ (c ∷ [])
unfolding value_after
digit_after_lem v c h a b =
    let p : (v * 3 + (c - 48)) / 3 ≡ v = omega arith in
    let q : 48 + (v * 3 + (c - 48)) % 3 ≡ c = omega arith in
    numeral_more (v * 3 + (c - 48)) (omega arith) ∙ ap₂ (λ (n d : ℕ). numeral n ++ (d ∷ [])) p q

above_zero : (v c : ℕ) → 1 ≤ v → 1 ≤ value_after v c
unfolding value_after
above_zero v c h = omega arith

digits_after : (l : List ℕ) (v : ℕ) → 1 ≤ v → AllDigits l → numeral (value_from v l) ≡ numeral v ++ l
unfolding value_from
digits_after [] v h d = sym (append-nil (numeral v))
digits_after (c ∷ l) v h d =
    digits_after l (value_after v c) (above_zero v c h) d.2 ∙ ap (λ (r : List ℕ). r ++ l) (digit_after_lem v c h d.0 d.1) ∙ append_assoc (numeral v) (c ∷ []) l

-- "only the leaf begins with 0" ([12])
pub zero_leaf : (t : Tree) (l : List ℕ) → text t ≡ 48 ∷ l → t ≡ leaf
unfolding text
zero_leaf leaf l e = refl
zero_leaf (stem p) l e = let k : ◌≡◌ {A = ℕ} 49 48 = cc in absurd (omega arith)
zero_leaf (fork p q) l e = let k : ◌≡◌ {A = ℕ} 50 48 = cc in absurd (omega arith)

-- the digits of a text's value are the text
pub text_numeral : (t : Tree) → numeral (value (text t)) ≡ text t
unfolding value value_from value_after text
text_numeral leaf = numeral_one 0 (omega arith)
text_numeral (stem p) = digits_after (text p) 1 (omega arith) (text_digits p) ∙ ap (λ (r : List ℕ). r ++ text p) (numeral_one 1 (omega arith))
text_numeral (fork p q) =
    digits_after (text p ++ text q) 2 (omega arith) (digits_append (text p) (text q) (text_digits p) (text_digits q)) ∙ ap (λ (r : List ℕ). r ++ (text p ++ text q)) (numeral_one 2 (omega arith))

-- Two trees of one value are equal, whatever their size.
pub value_unique : (t u : Tree) → value (text t) ≡ value (text u) → t ≡ u
value_unique t u e = text_unique t u (sym (text_numeral t) ∙ ap numeral e ∙ text_numeral u)

-- the value of one text after another
pub value_append : (v : ℕ) (l r : List ℕ) → value_from v (l ++ r) ≡ value_from (value_from v l) r
unfolding value_from
value_append v [] r = refl
value_append v (c ∷ l) r = value_append (value_after v c) l r

-- a number with digits 0 after it is no smaller, and with more of them or after a greater number greater
pub padded_up : (n v u : ℕ) → v ≤ u → padded n v ≤ padded n u
unfolding padded
padded_up zero v u h = h
padded_up (suc n) v u h = padded_up n (v * 3) (u * 3) (omega arith)

pub padded_least : (n v : ℕ) → v ≤ padded n v
unfolding padded
padded_least zero v = omega arith
padded_least (suc n) v = omega (arith, padded_least n (v * 3))

pub padded_more : (n : ℕ) → padded n 1 ≤ padded (suc n) 1
unfolding padded
padded_more n = padded_up n 1 3 (omega arith)

padded_longer : (m k n : ℕ) → m + k ≡ n → padded m 1 ≤ padded n 1
padded_longer m zero n e = subst (λ (j : ℕ). padded m 1 ≤ padded j 1) (let q : m ≡ n = omega arith in q) (omega arith)
padded_longer m (suc k) zero e = absurd (omega arith)
padded_longer m (suc k) (suc n) e = omega (arith, padded_longer m k n (omega arith), padded_more n)

pub padded_ten : (m : ℕ) → m ≤ 10 → padded m 1 ≤ 59049
unfolding padded
padded_ten m h = padded_longer m (10 - m) 10 (omega arith)

-- k digits have a value below 1 with k digits 0 after it
pub digit_below : (k v u b : ℕ) → v < padded k u → b ≤ 2 → v * 3 + b < padded k (u * 3)
unfolding padded
digit_below zero v u b h l = omega arith
digit_below (suc k) v u b h l = digit_below k v (u * 3) b h l

pub value_below : (l : List ℕ) (v k : ℕ) → v < padded k 1 → AllDigits l → value_from v l < padded (k + length l) 1
unfolding value_from value_after padded
value_below [] v k h d = subst (λ (n : ℕ). v < padded n 1) (let e : k ≡ k + 0 = omega arith in e) h
value_below (c ∷ l) v k h d =
    subst (λ (n : ℕ). value_from (value_after v c) l < padded n 1) (let e : suc k + length l ≡ k + suc (length l) = omega arith in e)
    (value_below l (value_after v c) (suc k) (digit_below k v 1 (c - 48) h (omega (arith, d.1))) d.2)

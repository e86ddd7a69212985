-- A name is known by its number. Assumes nothing.
use Prim.Native.Nat.{ℕ, ◌+◌, ◌*◌, ◌≤◌, ◌<◌}
use mathlib.Core.Path.{◌≡◌, refl, ap, ◌∙◌}
use mathlib.Core.Bool.{Bool, true, false}
use mathlib.Core.List.{List, [], ◌∷◌}
use native.Mathlib.Omega.{arith}
use lib.ListN.{length}
use lib.Dec.{ltb, eqb}
use borrow.Author.Tests.{ltb-true, ltb-false, eqb-true, eqb-false}
use Rattle.grammar.specs.Tokens.{Letter, LetterRun, no_more, a_letter, name_number}

abbrev Letters : List ℕ → Type 0
Letters [] = Unit {0}
Letters (b ∷ x) = Letter b × Letters x

letters : {m x r : List ℕ} → LetterRun m x r → Letters x
letters (no_more n) = tt
letters (a_letter t q) = (t, letters q)

equal : (x y : List ℕ) (n m : ℕ) → length x ≡ length y → Letters x → Letters y → name_number n x ≡ name_number m y → (n ≡ m) × (x ≡ y)
unfolding name_number
equal [] [] n m l p q e = (e, refl)
equal [] (c ∷ y) n m l p q e = absurd (omega arith)
equal (b ∷ x) [] n m l p q e = absurd (omega arith)
equal (b ∷ x) (c ∷ y) n m l p q e =
    let g = equal x y (n * 256 + b) (m * 256 + c) (omega arith) p.1 q.1 e in
    let h = p.0 in
    let k = q.0 in
    let i : n ≡ m = omega (arith, g.0) in
    let j : b ≡ c = omega (arith, g.0) in
    (i, ap (λ (v : ℕ). v ∷ x) j ∙ ap (λ (v : List ℕ). c ∷ v) g.1)

less : (x y : List ℕ) (n m : ℕ) → length x ≡ length y → Letters x → Letters y → n < m → name_number n x < name_number m y
unfolding name_number
less [] [] n m l p q h = h
less [] (c ∷ y) n m l p q h = absurd (omega arith)
less (b ∷ x) [] n m l p q h = absurd (omega arith)
less (b ∷ x) (c ∷ y) n m l p q h = let g = p.0 in less x y (n * 256 + b) (m * 256 + c) (omega arith) p.1 q.1 (omega arith)

longer : (y x : List ℕ) (n m : ℕ) → length x < length y → Letters x → Letters y → n ≤ m → name_number n x < name_number m y
unfolding name_number
longer [] x n m l p q h = absurd (omega arith)
longer (c ∷ y) x n m l p q h = go (λ k. longer y x n (m * 256 + c) k p q.1 (omega arith)) (eqb (length x) (length y)) refl
  where
    go : (length x < length y → name_number n x < name_number (m * 256 + c) y) → (z : Bool) → eqb (length x) (length y) ≡ z → name_number n x < name_number (m * 256 + c) y
    go f true e = let g = q.0 in less x y n (m * 256 + c) (eqb-true _ _ e) p q.1 (omega arith)
    go f false e = let g = eqb-false (length x) (length y) e in f (omega arith)

-- "A name": two runs of letters with the same number are the same run
pub names_apart : {m x r l y s : List ℕ} → LetterRun m x r → LetterRun l y s → name_number 0 x ≡ name_number 0 y → x ≡ y
names_apart {x = x} {y = y} u v e = go (ltb (length x) (length y)) refl (ltb (length y) (length x)) refl
  where
    go : (i : Bool) → ltb (length x) (length y) ≡ i → (j : Bool) → ltb (length y) (length x) ≡ j → x ≡ y
    go true a j b = absurd (omega (arith, longer y x 0 0 (ltb-true (length x) (length y) a) (letters u) (letters v) (omega arith)))
    go false a true b = absurd (omega (arith, longer x y 0 0 (ltb-true (length y) (length x) b) (letters v) (letters u) (omega arith)))
    go false a false b = (equal x y 0 0 (omega (arith, ltb-false (length x) (length y) a, ltb-false (length y) (length x) b)) (letters u) (letters v) e).1

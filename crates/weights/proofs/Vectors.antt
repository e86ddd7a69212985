-- Worked examples: texts of weights, trees that are almost weights, sums and comparisons at their borders, and the numbers of the answers, which no theorem
-- pins. Assumes nothing.
use Prim.Native.Nat.{ℕ}
use mathlib.Core.Path.{◌≡◌, refl}
use mathlib.Core.List.{[], ◌∷◌, ◌++◌, map}
use mathlib.Core.Option.{none, some}
use lib.ListN.{replicate}
use Rattle.std.specs.Prelude.{Ok, Err}
use Rattle.std.specs.declared.cmp.Ordering.TheVariants.{Less, Equal, Greater}
use Rattle.calculus.specs.Tree.{leaf, stem, fork}
use Rattle.table.specs.Refusal.{number}
use Rattle.table.specs.declared.Refusal.TheVariants.{Weight}
use Rattle.ternary.specs.Text.{text}
use Rattle.weights.specs.Digits.{digit_tree, list_tree, digits_of, weight_tree, gram_digits, digit_after, digit_of, before, digits_in, digits_of_weight, add_digits, compare_digits}
use Rattle.weights.specs.Weights.{weighed_numbers, ordered_numbers}

-- the digits 0, 1 and 2: Δ, KΔ and K(KΔ)
pub digits : map (λ (d : ℕ). text (digit_tree d)) (0 ∷ 1 ∷ 2 ∷ []) ≡ (48 ∷ []) ∷ (50 ∷ 48 ∷ 48 ∷ []) ∷ (50 ∷ 48 ∷ 50 ∷ 48 ∷ 48 ∷ []) ∷ []
unfolding text digit_tree
digits = refl

-- 21 grams: the digit 1, the digit 2, and seven times the digit 0
pub twenty_one : text (weight_tree 21)
    ≡ (50 ∷ 50 ∷ 48 ∷ 48 ∷ []) ++ ((50 ∷ 50 ∷ 48 ∷ 50 ∷ 48 ∷ 48 ∷ []) ++ (50 ∷ 48 ∷ 50 ∷ 48 ∷ 50 ∷ 48 ∷ 50 ∷ 48 ∷ 50 ∷ 48 ∷ 50 ∷ 48 ∷ 50 ∷ 48 ∷ 48 ∷ []))
unfolding text weight_tree list_tree digit_tree digits_of
twenty_one = refl

-- 999,999,999 is the top
pub borders : map gram_digits (0 ∷ 120 ∷ 999999999 ∷ 1000000000 ∷ []) ≡ some (replicate 9 0) ∷ some (0 ∷ 2 ∷ 1 ∷ replicate 6 0) ∷ some (replicate 9 9) ∷ none ∷ []
unfolding gram_digits digits_of
borders = refl

-- nine digits; eight, ten, one of ten Ks, one that is a stem, and a list that ends in a stem
pub almost : map digits_of_weight (
    list_tree (replicate 9 9) ∷ list_tree (replicate 8 0) ∷ list_tree (replicate 10 0) ∷ list_tree (10 ∷ replicate 8 0) ∷ fork (stem leaf) (list_tree (replicate 8 0)) ∷ stem (list_tree (replicate 9 0)) ∷ [])
    ≡ some (replicate 9 9) ∷ none ∷ none ∷ none ∷ none ∷ none ∷ []
unfolding digits_of_weight digits_in digit_of digit_after before list_tree digit_tree
almost = refl

-- 95 + 17 carries twice; 999,999,998 + 1 is the top, and 999,999,999 + 1 is above it
pub sums : (add_digits (5 ∷ 9 ∷ 0 ∷ []) (7 ∷ 1 ∷ 0 ∷ []) 0 ≡ some (2 ∷ 1 ∷ 1 ∷ []))
    × (add_digits (8 ∷ replicate 8 9) (1 ∷ replicate 8 0) 0 ≡ some (replicate 9 9))
    × (add_digits (replicate 9 9) (1 ∷ replicate 8 0) 0 ≡ none)
unfolding add_digits before
sums = (refl, refl, refl)

-- 19 is less than 21, 21 greater than 19, and 12 equal to itself
pub orders : (compare_digits (9 ∷ 1 ∷ []) (1 ∷ 2 ∷ []) ≡ Less) × (compare_digits (1 ∷ 2 ∷ []) (9 ∷ 1 ∷ []) ≡ Greater) × (compare_digits (2 ∷ 1 ∷ []) (2 ∷ 1 ∷ []) ≡ Equal)
unfolding compare_digits
orders = (refl, refl, refl)

-- the numbers of the answers
pub answers : (map weighed_numbers (Ok 1250 ∷ Err Weight ∷ []) ≡ (0 ∷ 1250 ∷ []) ∷ (14 ∷ 0 ∷ []) ∷ [])
    × (map ordered_numbers (Ok Less ∷ Ok Equal ∷ Ok Greater ∷ Err Weight ∷ []) ≡ (0 ∷ 0 ∷ []) ∷ (0 ∷ 1 ∷ []) ∷ (0 ∷ 2 ∷ []) ∷ (14 ∷ 0 ∷ []) ∷ [])
unfolding weighed_numbers ordered_numbers number
answers = (refl, refl)

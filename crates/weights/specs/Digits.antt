-- Decimal digits and their trees ([9]): the tree of a number of grams, the digits out of a tree, and adding and comparing digit by digit. Assumes nothing:
-- these are definitions.
use Rattle.std.specs.Prelude.{ℕ, zero, suc, ◌+◌, ◌*◌, ◌/◌, ◌%◌, cond, List, [], ◌∷◌, leb}
use Rattle.std.specs.Ordering.{ordering_then, nat_cmp}
use Rattle.std.specs.declared.cmp.Ordering.{Ordering}
use Rattle.std.specs.declared.cmp.Ordering.TheVariants.{Equal}
use Rattle.std.proofs.Math.Option.{Option, none, some}
use Rattle.calculus.specs.Tree.{Tree, leaf, stem, fork}

-- "digit d is K applied d times starting at Δ" ([9]): K is ΔΔ, and Kx is ΔΔx; the theorem `digit_applied` says so by the five rules. A digit is the paper's
-- term for such a tree.
unfoldable pub digit_tree : ℕ → Tree
digit_tree zero = leaf
digit_tree (suc d) = fork leaf (digit_tree d)

-- "The empty list is Δ, an item before a list is their fork" ([9]): the list of these digits
unfoldable pub list_tree : List ℕ → Tree
list_tree [] = leaf
list_tree (d ∷ l) = fork (digit_tree d) (list_tree l)

-- the number that decimal digits are, "lowest first" ([9])
unfoldable pub grams_of : List ℕ → ℕ
grams_of [] = 0
grams_of (d ∷ l) = d + grams_of l * 10

-- the lowest n decimal digits of a number, lowest first
unfoldable pub digits_of : ℕ → ℕ → List ℕ
digits_of zero g = []
digits_of (suc n) g = g % 10 ∷ digits_of n (g / 10)

-- "A weight is 0 to 999,999.999 kilograms in whole grams, written as a tree list of exactly nine decimal digits, lowest first." ([9])
unfoldable pub weight_tree : ℕ → Tree
weight_tree g = list_tree (digits_of 9 g)

-- the digits of a number of grams, or none above the top
unfoldable pub gram_digits : ℕ → Option (List ℕ)
gram_digits g = cond (leb g 999999999) (some (digits_of 9 g)) none

-- the decimal digit that d Ks before a tree are, or none
unfoldable pub digit_after : ℕ → Tree → Option ℕ
digit_after d leaf = cond (leb d 9) (some d) none
digit_after d (stem p) = none
digit_after d (fork leaf q) = digit_after (d + 1) q
digit_after d (fork (stem p) q) = none
digit_after d (fork (fork p r) q) = none

-- the decimal digit that a tree is, or none
unfoldable pub digit_of : Tree → Option ℕ
digit_of t = digit_after 0 t

-- a digit before digits, where there are both
unfoldable pub before : Option ℕ → Option (List ℕ) → Option (List ℕ)
before none l = none
before (some d) none = none
before (some d) (some l) = some (d ∷ l)

-- the n decimal digits of which a tree is the list, or none
unfoldable pub digits_in : ℕ → Tree → Option (List ℕ)
digits_in zero leaf = some []
digits_in zero (stem p) = none
digits_in zero (fork p q) = none
digits_in (suc n) leaf = none
digits_in (suc n) (stem p) = none
digits_in (suc n) (fork p q) = before (digit_of p) (digits_in n q)

-- "exactly nine decimal digits" ([9]): those of a weight, or none where a tree is not a weight
unfoldable pub digits_of_weight : Tree → Option (List ℕ)
digits_of_weight t = digits_in 9 t

-- the digits of the sum of two lists of digits and a carry, from the lowest on; none where a carry is left at the end
unfoldable pub add_digits : List ℕ → List ℕ → ℕ → Option (List ℕ)
add_digits [] ys zero = some []
add_digits [] ys (suc c) = none
add_digits (x ∷ xs) [] c = none
add_digits (x ∷ xs) (y ∷ ys) c = before (some ((c + x + y) % 10)) (add_digits xs ys ((c + x + y) / 10))

-- the sum of two weights' digits; none where there are not two weights, or where their sum has more digits
unfoldable pub sum_digits : Option (List ℕ) → Option (List ℕ) → Option (List ℕ)
sum_digits none m = none
sum_digits (some l) none = none
sum_digits (some l) (some m) = add_digits l m 0

-- two lists of digits, lowest first, compared: the highest that differs decides
unfoldable pub compare_digits : List ℕ → List ℕ → Ordering
compare_digits [] ys = Equal
compare_digits (x ∷ xs) [] = Equal
compare_digits (x ∷ xs) (y ∷ ys) = ordering_then (compare_digits xs ys) (nat_cmp x y)

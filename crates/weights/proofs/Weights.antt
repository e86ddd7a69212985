-- Which trees are weights, and of how many grams. Assumes nothing.
use Prim.Native.Nat.{ℕ, ◌+◌, ◌≤◌, ◌<◌}
use mathlib.Core.Path.{◌≡◌, refl, sym, ap, subst, ◌∙◌}
use mathlib.Core.List.{List}
use mathlib.Core.Logic.{◌↔◌}
use mathlib.Core.Option.{Option, none, some}
use native.Mathlib.Omega.{arith}
use lib.ListN.{length}
use Rattle.std.specs.Ordering.{nat_cmp}
use borrow.Author.Tests.{le-leb, lt-leb}
use Rattle.calculus.specs.Tree.{Tree, size}
use Rattle.weights.specs.Digits.{list_tree, grams_of, digits_of, weight_tree, gram_digits, digits_in, digits_of_weight, sum_digits, compare_digits}
use Rattle.weights.specs.Claims.{NineDigits, IsWeight}
use Rattle.weights.proofs.Numbers.{tens, grams_below, digits_back, grams_back, digits_many, digits_decimal, adds, adds_above, compares}
use Rattle.weights.proofs.Trees.{list_read, list_only, list_size}

pub grams_top : {l : List ℕ} → NineDigits l → grams_of l ≤ 999999999
unfolding tens
grams_top {l} n = let h = subst (λ (k : ℕ). grams_of l < tens k) n.nine (grams_below l n.decimal) in omega arith

pub nine_of : (g : ℕ) → NineDigits (digits_of 9 g)
nine_of g = record { nine = digits_many 9 g; decimal = digits_decimal 9 g }

pub grams_nine : (g : ℕ) → g ≤ 999999999 → grams_of (digits_of 9 g) ≡ g
unfolding tens
grams_nine g h = grams_back 9 g (omega arith)

pub nine_back : {l : List ℕ} → NineDigits l → digits_of 9 (grams_of l) ≡ l
nine_back {l} n = rw n.nine at (digits_back l n.decimal)

-- "turns grams to trees" ([9]): each number up to the top has a weight
pub every_weight : (g : ℕ) → g ≤ 999999999 → IsWeight (weight_tree g) g
unfolding weight_tree
every_weight g h = record { digits = digits_of 9 g; nine_digits = nine_of g; tree = refl; grams = sym (grams_nine g h) }

-- A tree is a weight exactly if it is some number's,
pub weight_exactly : (x : Tree) (g : ℕ) → IsWeight x g ↔ ((g ≤ 999999999) × (x ≡ weight_tree g))
unfolding weight_tree
weight_exactly x g = (
  λ i. (omega (arith, i.grams, grams_top i.nine_digits), i.tree ∙ ap list_tree (sym (nine_back i.nine_digits) ∙ ap (digits_of 9) (sym i.grams))),
  λ h. subst (λ (t : Tree). IsWeight t g) (sym h.1) (every_weight g h.0),
)

-- the digits that are read out of a tree are those of a weight
pub digits_weight : (x : Tree) {l : List ℕ} → digits_of_weight x ≡ some l → IsWeight x (grams_of l)
unfolding digits_of_weight
digits_weight x {l} e = let r = list_only 9 x e in record { digits = l; nine_digits = record { nine = r.many; decimal = r.decimal }; tree = r.tree; grams = refl }

pub weight_digits : {x : Tree} {g : ℕ} (i : IsWeight x g) → digits_of_weight x ≡ some i.digits
unfolding digits_of_weight
weight_digits {x} i = rw i.tree (subst (λ (n : ℕ). digits_in n (list_tree i.digits) ≡ some i.digits) i.nine_digits.nine (list_read i.digits i.nine_digits.decimal))

-- and of one only; and one number has one tree.
pub one_number_of : {x : Tree} {g h : ℕ} → IsWeight x g → IsWeight x h → g ≡ h
one_number_of i j = let e : i.digits ≡ j.digits = cc (weight_digits i, weight_digits j) in i.grams ∙ ap grams_of e ∙ sym j.grams

pub one_weight : {x y : Tree} {g : ℕ} → IsWeight x g → IsWeight y g → x ≡ y
one_weight {x} {y} {g} i j = ((weight_exactly x g).0 i).1 ∙ sym ((weight_exactly y g).0 j).1

-- no digits are read exactly where a tree is not a weight
pub no_weight : (x : Tree) → (digits_of_weight x ≡ none) ↔ ((g : ℕ) → IsWeight x g → ⊥)
no_weight x = (λ e g i. cc (weight_digits i), λ n. go (digits_of_weight x) refl n)
  where
    go : (o : Option (List ℕ)) → digits_of_weight x ≡ o → ((g : ℕ) → IsWeight x g → ⊥) → o ≡ none
    go none e n = refl
    go (some l) e n = absurd (n (grams_of l) (digits_weight x e))

-- the digits of a number of grams, and none above the top
pub gram_digits_lem : (g : ℕ) → g ≤ 999999999 → gram_digits g ≡ some (digits_of 9 g)
unfolding gram_digits
gram_digits_lem g h = rw (le-leb g 999999999 h)

pub no_gram_digits : (g : ℕ) → 999999999 < g → gram_digits g ≡ none
unfolding gram_digits
no_gram_digits g h = rw (lt-leb g 999999999 h)

-- the digits of two weights added: those of the sum, or none above the top
module _ {x y : Tree} {g h : ℕ} (i : IsWeight x g) (j : IsWeight y h) where
  same_length : length i.digits ≡ length j.digits
  same_length = i.nine_digits.nine ∙ sym j.nine_digits.nine

  pub sum_digits_lem : g + h ≤ 999999999 → sum_digits (digits_of_weight x) (digits_of_weight y) ≡ some (digits_of 9 (g + h))
  unfolding sum_digits tens
  sum_digits_lem k =
      let e : grams_of i.digits + grams_of j.digits + 0 ≡ g + h = omega (arith, i.grams, j.grams) in
      let b : grams_of i.digits + grams_of j.digits + 0 < tens (length i.digits) = rw i.nine_digits.nine (omega arith) in
      rw (weight_digits i, weight_digits j, adds i.digits j.digits same_length 0 b, i.nine_digits.nine, e)

  pub sum_above : 999999999 < g + h → sum_digits (digits_of_weight x) (digits_of_weight y) ≡ none
  unfolding sum_digits tens
  sum_above k =
      let b : tens (length i.digits) ≤ grams_of i.digits + grams_of j.digits + 0 = rw i.nine_digits.nine (omega (arith, i.grams, j.grams)) in
      rw (weight_digits i, weight_digits j, adds_above i.digits j.digits same_length 0 b)

  -- and compared
  pub digits_order : compare_digits i.digits j.digits ≡ nat_cmp g h
  digits_order = rw (i.grams, j.grams) (compares i.digits j.digits same_length i.nine_digits.decimal j.nine_digits.decimal)

-- where one of two trees is not a weight
pub no_sum : (x y : Tree) → ((g h : ℕ) → IsWeight x g → IsWeight y h → ⊥) → sum_digits (digits_of_weight x) (digits_of_weight y) ≡ none
unfolding sum_digits
no_sum x y n = go (digits_of_weight x) (digits_of_weight y) refl refl
  where
    go : (a b : Option (List ℕ)) → digits_of_weight x ≡ a → digits_of_weight y ≡ b → sum_digits a b ≡ none
    go none b p q = refl
    go (some l) none p q = refl
    go (some l) (some m) p q = absurd (n (grams_of l) (grams_of m) (digits_weight x p) (digits_weight y q))

-- "at most 181 digits of text"
pub weight_size : {l : List ℕ} → NineDigits l → size (list_tree l) ≤ 181
weight_size {l} n = omega (arith, n.nine, list_size l n.decimal)

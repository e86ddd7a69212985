-- Laws of counting abstractions: no more nest in a term than there are. Assumes nothing.
use Prim.Native.Nat.{ℕ, suc, ◌+◌, ◌≤◌, ◌<◌}
use mathlib.Core.Path.{◌≡◌}
use mathlib.Core.Bool.{Bool, true, false, cond}
use mathlib.Core.List.{List, [], ◌∷◌, ◌++◌}
use native.Mathlib.Omega.{arith}
use native.Mathlib.Numerals.{add-one}
use lib.ListN.{get_or, take, length}
use lib.Seq.{take-suc}
use lib.Dec.{eqb}
use borrow.Author.Tests.{eq-eqb, ne_eqb}
use Rattle.calculus.specs.Term.{nesting}
use Rattle.grammar.specs.Expression.{Expression, leaf, var, app, abs, not, and, or, implies}
use Rattle.grammar.specs.Meaning.{term_of, K, I, stem_of_stem, and_tree, or_tree, implies_tree, not_tree}
use Rattle.grammar.specs.Postfix.{postfix, abstractions}

count_append : (xs ys : List ℕ) → abstractions (xs ++ ys) ≡ abstractions xs + abstractions ys
unfolding abstractions
count_append [] ys = omega arith
count_append (s ∷ xs) ys = go (eqb s 4) (count_append xs ys)
  where
    go : (z : Bool) → abstractions (xs ++ ys) ≡ abstractions xs + abstractions ys
        → cond z (suc (abstractions (xs ++ ys))) (abstractions (xs ++ ys)) ≡ cond z (suc (abstractions xs)) (abstractions xs) + abstractions ys
    go true e = omega arith
    go false e = e

count_two : (xs ys zs : List ℕ) → abstractions (xs ++ (ys ++ zs)) ≡ abstractions xs + abstractions ys + abstractions zs
count_two xs ys zs = omega (arith, count_append xs (ys ++ zs), count_append ys zs)

pub count_abstraction : (l : List ℕ) (i : ℕ) → i < length l → get_or l i 0 ≡ 4 → abstractions (take (i + 1) l) ≡ abstractions (take i l) + 1
unfolding abstractions
count_abstraction l i h e = rw (add-one, take-suc l i 0 h, count_append (take i l) (get_or l i 0 ∷ []), eq-eqb (get_or l i 0) 4 e)

pub count_other : (l : List ℕ) (i : ℕ) → i < length l → (get_or l i 0 ≡ 4 → ⊥) → abstractions (take (i + 1) l) ≡ abstractions (take i l)
unfolding abstractions
count_other l i h n =
    rw (add-one, take-suc l i 0 h, count_append (take i l) (get_or l i 0 ∷ []), ne_eqb (get_or l i 0) 4 n) (omega arith)

-- no more abstractions nest than there are
pub nests_few : (e : Expression) → nesting (term_of e) ≤ abstractions (postfix e)
unfolding nesting term_of postfix abstractions K I stem_of_stem and_tree or_tree implies_tree not_tree
nests_few leaf = omega arith
nests_few (var i) = omega arith
nests_few (app f a) = omega (arith, nests_few f, nests_few a, count_two (postfix f) (postfix a) (0 ∷ []))
nests_few (abs b) = omega (arith, nests_few b, count_append (postfix b) (4 ∷ []))
nests_few (not a) = omega (arith, nests_few a, count_append (postfix a) (5 ∷ []))
nests_few (and a b) = omega (arith, nests_few a, nests_few b, count_two (postfix a) (postfix b) (1 ∷ []))
nests_few (or a b) = omega (arith, nests_few a, nests_few b, count_two (postfix a) (postfix b) (2 ∷ []))
nests_few (implies a b) = omega (arith, nests_few a, nests_few b, count_two (postfix a) (postfix b) (3 ∷ []))

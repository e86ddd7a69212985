-- Worked examples: ways on paper for document 01's rule, and equations named or misprinted in source 001 that do not hold. Assumes nothing.
use Prim.Native.Nat.{ℕ}
use mathlib.Core.Path.{◌≡◌, refl}
use mathlib.Core.List.{[], ◌∷◌}
use native.Mathlib.Omega.{arith}
use Rattle.calculus.specs.Tree.{Tree, stem, fork}
use Rattle.calculus.specs.Uses.{counts}
use Rattle.calculus.specs.Abstraction.{leaf, app, term}
use Rattle.calculus.specs.Equations.{the_drop, the_spread, of_drop, of_spread, Equal, turned, joined, equated}
use Rattle.calculus.proofs.Endless.{ω}
use Rattle.rewriting.specs.Ways.{at_root, in_function, in_argument, Way, arrived, goes_by, use_of, uses_of, paper_uses}
use Rattle.rewriting.proofs.Normal.{equal_trees}

-- "212101021010; on 0 it gives 10 in 10 steps" (Depot examples): of these leaf 3 and stem 2 are none on paper, and drop 2 and spread 3 are five equations
pub five : Way (app (term ω) leaf) (the_spread ∷ the_spread ∷ the_drop ∷ the_spread ∷ the_drop ∷ []) (app leaf leaf)
unfolding term
five =
    goes_by (at_root of_spread) (goes_by (in_function (at_root of_spread)) (goes_by (in_function (at_root of_drop))
    (goes_by (in_argument (at_root of_spread)) (goes_by (in_argument (at_root of_drop)) arrived))))

pub five_counts : uses_of (the_spread ∷ the_spread ∷ the_drop ∷ the_spread ∷ the_drop ∷ []) ≡ paper_uses (counts 3 2 2 3 0)
unfolding uses_of use_of
five_counts = refl

-- Δ(ΔI)I on Δ in another order: the argument part before the function part
pub other_order : Way (app (term ω) leaf) (the_spread ∷ the_spread ∷ the_spread ∷ the_drop ∷ the_drop ∷ []) (app leaf leaf)
unfolding term
other_order =
    goes_by (at_root of_spread) (goes_by (in_argument (at_root of_spread)) (goes_by (in_function (at_root of_spread))
    (goes_by (in_argument (at_root of_drop)) (goes_by (in_function (at_root of_drop)) arrived))))

-- a fork is no stem
apart : {p q r : Tree} → fork p q ≡ stem r → ⊥
apart d = let z : ◌≡◌ {A = ℕ} 0 1 = cc in omega arith

-- "if we were to add the equation ΔΔΔ = ΔΔ" (001, section 7.1): its sides are two trees
pub section_7_1 : Equal (app (app leaf leaf) leaf) (app leaf leaf) → ⊥
unfolding term
section_7_1 e = apart (equal_trees (fork Tree.leaf Tree.leaf) (stem Tree.leaf) e)

-- 001, section 7.3, has Δ(Δu)ΔΔ reduce to ΔΔ(uΔ)Δ, where the second equation gives ΔΔ(uΔ). With Δ for u the left one has the tree 2010 and the right one 10.
pub section_7_3 : Equal (app (app (app leaf (app leaf leaf)) leaf) leaf) (app (app (app leaf leaf) (app leaf leaf)) leaf) → ⊥
unfolding term
section_7_3 e = apart (equal_trees (fork Tree.leaf (stem Tree.leaf)) (stem Tree.leaf) (joined (turned (equated of_spread)) (joined e (equated of_drop))))

-- 001, section 8.3, has Δ(Δvu) where section 4.2 has Δ(Δv)u; with Δ for both these are two trees
pub section_8_3 : Equal (app (app leaf (app leaf leaf)) leaf) (app leaf (app (app leaf leaf) leaf)) → ⊥
unfolding term
section_8_3 e = apart (equal_trees (fork (stem Tree.leaf) Tree.leaf) (stem (fork Tree.leaf Tree.leaf)) e)

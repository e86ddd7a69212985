-- The closed terms in which no equation can be used are the terms of trees, so that all ways from a closed term that end, end in one tree. Assumes nothing.
use Prim.Native.Nat.{ℕ}
use mathlib.Core.Path.{◌≡◌, refl, sym, ap, ap₂, ◌∙◌}
use mathlib.Core.Logic.{◌↔◌}
use mathlib.Core.List.{List}
use native.Mathlib.Omega.{arith}
use Rattle.calculus.specs.Tree.{Tree, stem, fork}
use Rattle.calculus.specs.Abstraction.{Combination, leaf, app, var, ClosedOver, term, tree_of}
use Rattle.calculus.specs.Equations.{Equation, the_drop, the_spread, the_triage, of_drop, of_spread, of_triage, Equal}
use Rattle.calculus.proofs.Size.{tree_of_term}
use Rattle.rewriting.specs.Ways.{Reduces, at_root, in_function, in_argument, Way, arrived, goes_by, Irreducible}
use Rattle.rewriting.specs.Claims.{SameTree}
use Rattle.rewriting.proofs.Confluence.{stays_there, one_end, equal_meets}

-- a tree's term is no other's
pub term_only : (a b : Tree) → term a ≡ term b → a ≡ b
term_only a b e = sym (tree_of_term a) ∙ ap tree_of e ∙ tree_of_term b

-- a tree's term has no variable
pub term_closed : (t : Tree) → ClosedOver 0 (term t)
unfolding term
term_closed Tree.leaf = tt
term_closed (stem p) = (tt, term_closed p)
term_closed (fork p q) = ((tt, term_closed p), term_closed q)

-- no equation can be used in a leaf, and so in no tree's term
leaf_irreducible : Irreducible leaf
leaf_irreducible e v (at_root q) = elim q [ ]

pub tree_irreducible : (t : Tree) → Irreducible (term t)
unfolding term
tree_irreducible Tree.leaf e v r = leaf_irreducible e v r
tree_irreducible (stem p) e v (at_root x3) = elim x3 [ ]
tree_irreducible (stem p) e v (in_function r) = leaf_irreducible e _ r
tree_irreducible (stem p) e v (in_argument r) = tree_irreducible p e _ r
tree_irreducible (fork p q) e v (at_root x4) = elim x4 [ ]
tree_irreducible (fork p q) e _ (in_function {v = v} (at_root x9)) = elim x9 [ ]
tree_irreducible (fork p q) e v (in_function (in_function r)) = leaf_irreducible e _ r
tree_irreducible (fork p q) e v (in_function (in_argument r)) = tree_irreducible p e _ r
tree_irreducible (fork p q) e v (in_argument r) = tree_irreducible q e _ r

-- what a tree's term applied to another is: a tree's term with one branch more, or the left side of an equation
grows : (f q : Tree) {u v : Combination} → u ≡ term f → v ≡ term q → Irreducible (app u v) → (t : Tree) × (app u v ≡ term t)
unfolding term
grows f q d e h = let i = go f (rw (d, e) at h) in (i.0, ap₂ app d e ∙ i.1)
  where
    go : (f : Tree) → Irreducible (app (term f) (term q)) → (t : Tree) × (app (term f) (term q) ≡ term t)
    go Tree.leaf h = (stem q, refl)
    go (stem p) h = (fork p q, refl)
    go (fork Tree.leaf y) h = absurd (h the_drop _ (at_root of_drop))
    go (fork (stem x) y) h = absurd (h the_spread _ (at_root of_spread))
    go (fork (fork w x) y) h = absurd (h the_triage _ (at_root of_triage))

-- a closed term in which none can be used is a tree's
irreducible_tree : (u : Combination) → ClosedOver 0 u → Irreducible u → (t : Tree) × (u ≡ term t)
unfolding term
irreducible_tree leaf c h = (Tree.leaf, refl)
irreducible_tree (app u v) c h =
    let f = irreducible_tree u c.0 (λ e w r. h e (app w v) (in_function r)) in
    let q = irreducible_tree v c.1 (λ e w r. h e (app u w) (in_argument r)) in
    grows f.0 q.0 f.1 q.1 h
irreducible_tree (var i) c h = absurd (omega arith)

-- "the irreducible combinations are exactly the programs" (001, section 7.3), which here are the trees.
pub irreducible_exactly : (u : Combination) → ClosedOver 0 u → Irreducible u ↔ ((t : Tree) × (u ≡ term t))
irreducible_exactly u c = (irreducible_tree u c, λ t. rw t.1 (tree_irreducible t.0))

-- a closed term stays closed
reduces_closed : {e : Equation} {u v : Combination} (d : ℕ) → Reduces e u v → ClosedOver d u → ClosedOver d v
reduces_closed d (at_root of_drop) c = c.0.1
reduces_closed d (at_root of_spread) c = ((c.0.1, c.1), (c.0.0.1.1, c.1))
reduces_closed d (at_root of_triage) c = ((c.1, c.0.0.1.0.1), c.0.0.1.1)
reduces_closed d (in_function r) c = (reduces_closed d r c.0, c.1)
reduces_closed d (in_argument r) c = (c.0, reduces_closed d r c.1)

pub way_closed : {es : List Equation} {u v : Combination} (d : ℕ) → Way u es v → ClosedOver d u → ClosedOver d v
way_closed d arrived c = c
way_closed d (goes_by r p) c = way_closed d p (reduces_closed d r c)

-- "two such ways that both end, from one closed term without abstractions, end in the same tree" ([11])
pub only_result : {es fs : List Equation} {u v w : Combination} → ClosedOver 0 u → Way u es v → Irreducible v → Way u fs w → Irreducible w → SameTree v w
only_result {v = v} c p h q k =
    let t = irreducible_tree v (way_closed 0 p c) h in
    record { tree = t.0; first_ends = t.1; second_ends = sym (one_end p h q k) ∙ t.1 }

-- No use of the equations, in either direction, makes two different trees equal: "stems are never equal to forks" (001, section 7.1).
pub equal_trees : (a b : Tree) → Equal (term a) (term b) → a ≡ b
equal_trees a b e =
    let j = equal_meets e in
    term_only a b (sym (stays_there (tree_irreducible a) j.left.way) ∙ stays_there (tree_irreducible b) j.right.way)

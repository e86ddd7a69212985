-- What bracket abstraction does to a term's size, and that a translated rule is the term of a tree. Assumes nothing.
use Prim.Native.Nat.{ℕ, zero, suc, ◌+◌, ◌*◌, ◌≤◌}
use mathlib.Core.Path.{◌≡◌, refl, sym, ap, ap₂, ◌∙◌}
use mathlib.Core.List.{List}
use native.Mathlib.Omega.{arith}
use Rattle.calculus.specs.Tree.{Tree, stem, fork, size}
use Rattle.calculus.specs.Term.{Term, abs, ClosedUnder}
use Rattle.calculus.specs.Bytes.{IsRule}
use Rattle.calculus.specs.Abstraction.{Combination, leaf, app, var, ClosedOver, bracket, translate, term, grown, tree_of, rule_tree, nearest, width}

-- A term has a leaf or a variable.
pub width_pos : (c : Combination) → 1 ≤ width c
unfolding width
width_pos leaf = omega arith
width_pos (app u v) = omega (arith, width_pos u)
width_pos (var i) = omega arith

-- "A term of k leaves and variables, m of them x, becomes one of 5k − 2 + 2m." (Translation)
pub bracket_width : (c : Combination) → width (bracket c) + 2 ≡ 5 * width c + 2 * nearest c
unfolding width nearest bracket
bracket_width leaf = refl
bracket_width (app u v) = omega (arith, bracket_width u, bracket_width v)
bracket_width (var zero) = refl
bracket_width (var (suc i)) = refl

bracket_within : (c : Combination) (d : ℕ) → ClosedOver (suc d) c → ClosedOver d (bracket c)
unfolding bracket
bracket_within leaf d h = ((tt, tt), tt)
bracket_within (app u v) d h = ((tt, (tt, bracket_within v d h.1)), bracket_within u d h.0)
bracket_within (var zero) d h = ((tt, (tt, tt)), (tt, tt))
bracket_within (var (suc i)) d h = ((tt, tt), omega arith)

-- A translation has no further variables than its term has.
pub translate_within : (t : Term) (d : ℕ) → ClosedUnder d t → ClosedOver d (translate t)
unfolding translate
translate_within Term.leaf d h = tt
translate_within (Term.app f a) d h = (translate_within f d h.0, translate_within a d h.1)
translate_within (abs b) d h = bracket_within (translate b) d (translate_within b (suc d) h)
translate_within (Term.var i) d h = h

-- The tree that a tree's term makes is that tree.
pub tree_of_term : (t : Tree) → tree_of (term t) ≡ t
unfolding tree_of term grown
tree_of_term Tree.leaf = refl
tree_of_term (stem p) = ap stem (tree_of_term p)
tree_of_term (fork p q) = ap₂ fork (tree_of_term p) (tree_of_term q)

-- An abstraction of a term without other variables is the term of the tree that it makes.
bracket_tree : (c : Combination) → ClosedOver 1 c → bracket c ≡ term (tree_of (bracket c))
unfolding bracket term tree_of grown
bracket_tree leaf h = refl
bracket_tree (app u v) h = ap₂ (λ (x y : Combination). app (app leaf (app leaf y)) x) (bracket_tree u h.0) (bracket_tree v h.1)
bracket_tree (var zero) h = refl
bracket_tree (var (suc i)) h = absurd (omega arith)

-- "The outcome is a tree with nothing left to evaluate" (Translation), for every abstraction without variables from outside.
pub closed_tree : (b : Term) → ClosedUnder 0 (abs b) → translate (abs b) ≡ term (rule_tree (abs b))
unfolding translate rule_tree
closed_tree b h = bracket_tree (translate b) (translate_within b 1 h)

-- "The outcome is a tree with nothing left to evaluate." (Translation)
pub rule_tree_lem : {l : List ℕ} {t : Term} → IsRule l t → translate t ≡ term (rule_tree t)
rule_tree_lem h = rw h.begins (closed_tree h.body (rw h.begins at h.closed))

-- A tree has as many nodes as its term has leaves.
pub term_width : (t : Tree) → width (term t) ≡ size t
unfolding width term size
term_width Tree.leaf = refl
term_width (stem p) = omega (arith, term_width p)
term_width (fork p q) = omega (arith, term_width p, term_width q)

-- The tree has a node for each leaf of the translation, for every abstraction without variables from outside.
pub closed_size : (b : Term) → ClosedUnder 0 (abs b) → size (rule_tree (abs b)) ≡ width (translate (abs b))
closed_size b h = sym (term_width (rule_tree (abs b))) ∙ ap width (sym (closed_tree b h))

-- The translated rule's tree has a node for each leaf of the translation, so that the count of "5k − 2 + 2m" (Translation) is its size.
pub rule_size_lem : {l : List ℕ} {t : Term} → IsRule l t → size (rule_tree t) ≡ width (translate t)
rule_size_lem h = rw h.begins (closed_size h.body (rw h.begins at h.closed))

-- The two runs of demand 3, without limits. Assumes nothing: these are definitions.
use Rattle.std.specs.Prelude.{ℕ, ◌+◌, ◌*◌, ◌-◌, List, reverse, length, get_or}
use Rattle.calculus.specs.Tree.{Tree}
use Rattle.calculus.specs.Uses.{InSteps}
use Rattle.calculus.specs.Rules.{Closed, tree, Eval, ApplyAll}
use Rattle.calculus.specs.Term.{Term, body_under}
use Rattle.calculus.specs.Abstraction.{Combination, leaf, app, var, translate, rule_tree, leaves, nearest}

-- "It takes the body under the first n parameters and puts for each abstraction in it, inner ones first, its translation, as a term of leaves,
-- variables and applications with nothing evaluated." (The two runs of demand 3)
unfoldable pub body : ℕ → Term → Combination
body n t = translate (body_under n t)

-- "Then each variable of the i-th parameter becomes argument tree i." The nearest parameter's tree stands first in ρ.
unfoldable pub fill : List Tree → Combination → Closed
fill ρ leaf = tree Tree.leaf
fill ρ (app u v) = Closed.app (fill ρ u) (fill ρ v)
fill ρ (var i) = tree (get_or ρ i Tree.leaf)

-- The direct run (document 01: the planner's run) of a rule on one tree for each of its first parameters: it ends in r after k uses.
-- The last argument is the nearest parameter's.
unfoldable pub Direct : Term → List Tree → Tree → ℕ → Type 0
Direct t args r k = InSteps (Eval (fill (reverse args) (body (length args) t)) r) k

-- The translated run (document 01: the engine's run without limits): "applies the translated rule's tree to the first argument by the five
-- rules, that outcome to the second, and so on."
unfoldable pub Translated : Term → List Tree → Tree → ℕ → Type 0
Translated t args r k = InSteps (ApplyAll (rule_tree t) args r) k

-- L and X of the body under one parameter, and the difference of the two runs' steps, 2L + 5X - 1
unfoldable pub L : Term → ℕ
L t = leaves (body 1 t)

unfoldable pub X : Term → ℕ
X t = nearest (body 1 t)

unfoldable pub difference : Term → ℕ
difference t = 2 * L t + 5 * X t - 1

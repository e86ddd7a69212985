-- An application that never ends: λx.xx on itself. Assumes nothing.
use mathlib.Core.Path.{◌≡◌, refl}
use mathlib.Core.List.{[], ◌∷◌}
use mathlib.Core.Option.{some}
use Rattle.calculus.specs.Tree.{Tree, leaf, stem, fork}
use Rattle.calculus.specs.declared.Uses.{Uses}
use Rattle.calculus.specs.Rules.{Apply, by_leaf, by_stem, by_drop, by_spread}
use Rattle.calculus.specs.Term.{app, abs, var}
use Rattle.calculus.specs.Bytes.{bytes, abstraction, application, argument, parse, whole, rule}
use Rattle.calculus.specs.Abstraction.{bracket, translate, grown, tree_of, rule_tree}

-- the tree of the text 212101021010
abbrev pub ω : Tree
ω = fork (stem (fork (stem leaf) (stem leaf))) (fork (stem leaf) (stem leaf))

-- "Rule 02 01 03 00 03 00 is 212101021010" (Depot examples): its term is λx.xx, and its tree is ω.
pub ω_rule : rule (2 ∷ 1 ∷ 3 ∷ 0 ∷ 3 ∷ 0 ∷ []) ≡ some (abs (app (var 0) (var 0)))
unfolding rule whole parse argument application abstraction bytes
ω_rule = refl

pub ω_tree : rule_tree (abs (app (var 0) (var 0))) ≡ ω
unfolding rule_tree translate bracket tree_of grown
ω_tree = refl

-- "212101021010 on itself never ends" (Depot examples): there is no tree and no count of uses. Spread gives ω twice and applies the one to the
-- other, so that each such application holds a smaller one.
pub endless : (r : Tree) (k : Uses) → Apply ω ω r k → ⊥
endless r k (by_spread (by_spread by_stem by_leaf by_drop) (by_spread by_stem by_leaf by_drop) a) = endless r _ a

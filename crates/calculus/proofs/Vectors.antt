-- Worked examples of the definitions: what no theorem pins, and the example of document 01's section on the two runs. Assumes nothing.
use mathlib.Core.Path.{◌≡◌, refl}
use mathlib.Core.List.{[], ◌∷◌}
use mathlib.Core.Option.{some}
use Rattle.calculus.specs.Tree.{leaf, stem, fork}
use Rattle.calculus.specs.Uses.{counts, no_uses, steps, new_nodes}
use Rattle.calculus.specs.Rules.{Apply, by_leaf, by_stem, by_drop, by_spread, by_triage, of_tree, of_app, at_end, and_next}
use Rattle.calculus.specs.Term.{Term, app, abs, var, parameters, body_under}
use Rattle.calculus.specs.Bytes.{bytes, abstraction, application, argument, parse, whole, rule}
use Rattle.calculus.specs.Abstraction.{bracket, translate, grown, tree_of, rule_tree, leaves, nearest}
use Rattle.calculus.specs.Runs.{body, fill, Direct, Translated, L, X, difference}

-- triage hands N its first branch first: 220100 on 0 gives 2010, which the other order would not
pub triage_order : Apply (fork (fork leaf (stem leaf)) leaf) leaf (fork leaf (stem leaf)) (counts 1 1 0 0 1)
triage_order = by_triage by_leaf by_stem

-- spread applies the outcome of y to the outcome of p: 21100 on 10 gives 2102010
pub spread_order : Apply (fork (stem (stem leaf)) leaf) (stem leaf) (fork (stem leaf) (fork leaf (stem leaf))) (counts 1 2 0 1 0)
spread_order = by_spread by_leaf by_stem by_stem

-- "212101021010; on 0 it gives 10 in 10 steps, 5 new nodes" (Depot examples), which [8] makes an upper bound
pub doubled : Apply (fork (stem (fork (stem leaf) (stem leaf))) (fork (stem leaf) (stem leaf))) leaf (stem leaf) (counts 3 2 2 3 0)
doubled = by_spread (by_spread by_stem by_leaf by_drop) (by_spread by_stem by_leaf by_drop) by_leaf

pub doubled_counts : (steps (counts 3 2 2 3 0) ≡ 10) × (new_nodes (counts 3 2 2 3 0) ≡ 5)
doubled_counts = (refl, refl)

-- "Their sum is the steps" ([5]): every rule is counted, and nothing where none is used
pub sums : (steps (counts 10000 2000 300 40 5) ≡ 12345) × (new_nodes (counts 10000 2000 300 40 5) ≡ 12000) × (steps no_uses ≡ 0)
sums = (refl, refl, refl)

-- 02 01 00 03 00, λx.Δx: the function part of an application stands before its argument
pub stem_rule : rule (2 ∷ 1 ∷ 0 ∷ 3 ∷ 0 ∷ []) ≡ some (abs (app Term.leaf (var 0)))
unfolding rule whole parse argument application abstraction bytes
stem_rule = refl

pub stem_tree : rule_tree (abs (app Term.leaf (var 0))) ≡ fork (stem (fork (stem leaf) (stem leaf))) (fork leaf leaf)
unfolding rule_tree translate bracket tree_of grown
stem_tree = refl

-- "For rule 02 02 03 01 with 0 alone the body is ΔΔx, L = 2, X = 1: the planner takes 2 steps to 200, the engine 10."
abbrev first : Term
first = abs (abs (var 1))

pub first_rule : rule (2 ∷ 2 ∷ 3 ∷ 1 ∷ []) ≡ some first
unfolding rule whole parse argument application abstraction bytes
first_rule = refl

pub first_counts : (parameters first ≡ 2) × (L first ≡ 2) × (X first ≡ 1) × (difference first ≡ 8)
unfolding parameters L X difference body body_under translate bracket leaves nearest
first_counts = (refl, refl, refl, refl)

pub first_direct : Direct first (leaf ∷ []) (fork leaf leaf) 2
unfolding Direct fill body body_under translate bracket
first_direct = record { uses = counts 1 1 0 0 0; gives = of_app (of_app of_tree of_tree by_leaf) of_tree by_stem; counted = refl }

pub first_translated : Translated first (leaf ∷ []) (fork leaf leaf) 10
unfolding Translated rule_tree tree_of grown translate bracket
first_translated =
    record {
      uses = counts 2 2 3 3 0;
      gives = and_next (by_spread (by_spread by_drop by_drop by_leaf) (by_spread by_stem by_leaf by_drop) by_stem) at_end;
      counted = refl;
    }

-- Demand 3 without limits: a rule's translated run and its direct run end in the same tree, and with one argument their steps differ by
-- 2L + 5X − 1. Assumes nothing.
use Prim.Native.Nat.{ℕ, zero, suc, ◌+◌, ◌*◌, ◌≤◌}
use mathlib.Core.Path.{◌≡◌, refl, sym, ap, ap₂, subst}
use mathlib.Core.Logic.{◌↔◌}
use mathlib.Core.List.{List, [], ◌∷◌, reverse_aux}
use mathlib.Core.Option.{some}
use native.Mathlib.Nat.{zero-add, add-zero}
use native.Mathlib.Omega.{arith}
use lib.ListN.{length, get_or}
use Rattle.calculus.specs.Tree.{Tree, stem, fork}
use Rattle.calculus.specs.declared.Uses.{Uses}
use Rattle.calculus.specs.Uses.{counts, no_uses, one_drop, one_spread, ◌⊕◌, steps, InSteps}
use Rattle.calculus.specs.Rules.{Apply, by_leaf, by_stem, by_drop, by_spread, Eval, of_tree, of_app, ApplyAll, at_end, and_next}
use Rattle.calculus.specs.Term.{Term, abs, ClosedUnder, parameters, body_under}
use Rattle.calculus.specs.Bytes.{IsRule, rule}
use Rattle.calculus.specs.Abstraction.{Combination, leaf, app, var, ClosedOver, bracket, translate, grown, tree_of, rule_tree, leaves, nearest, width}
use Rattle.calculus.specs.Runs.{fill, body, Direct, Translated, L, X, difference}
use Rattle.calculus.proofs.Counts.{same_uses, uses_none}
use Rattle.calculus.proofs.Unique.{eval_unique, apply_all_unique}
use Rattle.calculus.proofs.Size.{translate_within}
use Rattle.calculus.proofs.Rule.{rule_exact}

-- The tree of a term's abstraction, once the other variables' trees are put in.
unfoldable pub abstracted : List Tree → Combination → Tree
abstracted ρ leaf = fork Tree.leaf Tree.leaf
abstracted ρ (app u v) = fork (stem (abstracted ρ v)) (abstracted ρ u)
abstracted ρ (var zero) = fork (stem Tree.leaf) (stem Tree.leaf)
abstracted ρ (var (suc i)) = fork Tree.leaf (get_or ρ i Tree.leaf)

-- The uses of the rules that putting in the nearest parameter's tree takes.
unfoldable pub cost : Combination → Uses
cost leaf = one_drop
cost (app u v) = one_spread ⊕ cost u ⊕ cost v
cost (var zero) = counts 1 1 1 1 0
cost (var (suc i)) = one_drop

-- Two for a leaf and for another variable, five for one of the nearest parameter, less one.
pub cost_width : (c : Combination) → steps (cost c) + 1 ≡ 2 * width c + 3 * nearest c
unfolding cost width nearest
cost_width leaf = refl
cost_width (app u v) = omega (arith, cost_width u, cost_width v)
cost_width (var zero) = refl
cost_width (var (suc i)) = refl

-- A term with one parameter has leaves and that parameter's variables alone.
width_one : (c : Combination) → ClosedOver 1 c → width c ≡ leaves c + nearest c
unfolding width leaves nearest
width_one leaf h = refl
width_one (app u v) h = omega (arith, width_one u h.0, width_one v h.1)
width_one (var zero) h = refl
width_one (var (suc i)) h = absurd (omega arith)

-- An abstraction, as a term, evaluates to its tree.
pub bracket_eval : (ρ : List Tree) (c : Combination) → (k : Uses) × Eval (fill ρ (bracket c)) (abstracted ρ c) k
unfolding fill bracket abstracted
bracket_eval ρ leaf = (_, of_app (of_app of_tree of_tree by_leaf) of_tree by_stem)
bracket_eval ρ (app u v) =
    (_, of_app (of_app of_tree (of_app of_tree (bracket_eval ρ v).1 by_leaf) by_leaf) (bracket_eval ρ u).1 by_stem)
bracket_eval ρ (var zero) = (_, of_app (of_app of_tree (of_app of_tree of_tree by_leaf) by_leaf) (of_app of_tree of_tree by_leaf) by_stem)
bracket_eval ρ (var (suc i)) = (_, of_app (of_app of_tree of_tree by_leaf) of_tree by_stem)

-- And to no other.
pub bracket_value : (ρ : List Tree) (c : Combination) {r : Tree} {k : Uses} → Eval (fill ρ (bracket c)) r k → r ≡ abstracted ρ c
bracket_value ρ c x = (eval_unique x (bracket_eval ρ c).1).0

-- the uses of a spread whose first two applications put a tree in, at the costs d and e
spread_cost : {a b : Uses} (i j c d e : Uses) → a ≡ i ⊕ d → b ≡ j ⊕ e → one_spread ⊕ a ⊕ b ⊕ c ≡ i ⊕ j ⊕ c ⊕ (one_spread ⊕ d ⊕ e)
spread_cost i j c d e p q = rw (p, q) (same_uses (omega arith) (omega arith) (omega arith) (omega arith) (omega arith))

-- Where the term with an argument put in has an outcome, the abstraction's tree applied to the argument has it too, in its cost more uses.
pub abstracted_apply : (ρ : List Tree) (c : Combination) {a r : Tree} {k : Uses} → Eval (fill (a ∷ ρ) c) r k
    → Apply (abstracted ρ c) a r (k ⊕ cost c)
unfolding fill abstracted cost
abstracted_apply ρ leaf of_tree = by_drop
abstracted_apply ρ (app u v) (of_app {a = i} {b = j} {c = c} x y z) =
    subst (Apply _ _ _) (spread_cost i j c (cost u) (cost v) refl refl) (by_spread (abstracted_apply ρ u x) (abstracted_apply ρ v y) z)
abstracted_apply ρ (var zero) of_tree = by_spread by_stem by_leaf by_drop
abstracted_apply ρ (var (suc i)) of_tree = by_drop

-- And only there: what that tree gives on an argument, the term with the argument put in gives, in the cost fewer uses.
pub abstracted_eval : (ρ : List Tree) (c : Combination) {a r : Tree} {s : Uses} → Apply (abstracted ρ c) a r s
    → (k : Uses) × Eval (fill (a ∷ ρ) c) r k × (s ≡ k ⊕ cost c)
unfolding fill abstracted cost
abstracted_eval ρ leaf by_drop = (no_uses, of_tree, refl)
abstracted_eval ρ (app u v) (by_spread {c = c} x y z) =
    let i = abstracted_eval ρ u x in
    let j = abstracted_eval ρ v y in
    (_, of_app i.1 j.1 z, spread_cost i.0 j.0 c (cost u) (cost v) i.2 j.2)
abstracted_eval ρ (var zero) (by_spread by_stem by_leaf by_drop) = (no_uses, of_tree, refl)
abstracted_eval ρ (var (suc i)) by_drop = (no_uses, of_tree, refl)

-- A rule's tree is that of its first abstraction.
pub rule_abstracted : (b : Term) → rule_tree (abs b) ≡ abstracted [] (translate b)
unfolding rule_tree translate bracket tree_of grown abstracted
rule_abstracted b = go (translate b)
  where
    go : (c : Combination) → tree_of (bracket c) ≡ abstracted [] c
    go leaf = refl
    go (app u v) = ap₂ (λ (x y : Tree). fork (stem y) x) (go u) (go v)
    go (var zero) = refl
    go (var (suc i)) = refl

-- "2L + 5X − 1" is the cost of a body with one parameter.
difference_cost : (b : Term) → ClosedUnder 0 (abs b) → difference (abs b) ≡ steps (cost (translate b))
unfolding difference L X body body_under
difference_cost b h = omega (arith, cost_width (translate b), width_one (translate b) (translate_within b 1 h))

-- to apply to a list of one tree is to apply
all_one : {f a r : Tree} {s : Uses} → ApplyAll f (a ∷ []) r s → Apply f a r s
all_one (and_next {a = s} x at_end) = subst (Apply _ _ _) (sym (uses_none s)) x

one_all : {f a r : Tree} {s : Uses} → Apply f a r s → ApplyAll f (a ∷ []) r s
one_all {s = s} x = subst (ApplyAll _ _ _) (uses_none s) (and_next x at_end)

-- an abstraction of an abstraction takes its first argument into the trees put in
first_in : (ρ : List Tree) (c : Combination) {a r : Tree} {Ns : List Tree} {s : Uses} → ApplyAll (abstracted ρ (bracket c)) (a ∷ Ns) r s
    → (k : Uses) × ApplyAll (abstracted (a ∷ ρ) c) Ns r k
first_in ρ c {a} (and_next x y) = (_, rw (bracket_value (a ∷ ρ) c (abstracted_eval ρ (bracket c) x).1) at y)

-- the two runs on one tree for each of the first parameters, where ρ has the trees of the parameters around
runs : (Ns : List Tree) (b : Term) (ρ : List Tree) (a r : Tree) → length Ns ≤ parameters b
    → ((s : Uses) × ApplyAll (abstracted ρ (translate b)) (a ∷ Ns) r s)
    ↔ ((k : Uses) × Eval (fill (reverse_aux Ns (a ∷ ρ)) (translate (body_under (length Ns) b))) r k)
unfolding translate body_under parameters
runs [] b ρ a r h = (
  λ x. let i = abstracted_eval ρ (translate b) (all_one x.1) in (i.0, i.1),
  λ x. (_, one_all (abstracted_apply ρ (translate b) x.1)),
)
runs (n ∷ Ns) (abs b) ρ a r h =
    let i = runs Ns b (a ∷ ρ) n r (omega arith) in (
      λ x. i.0 (first_in ρ (translate b) x.1),
      λ x. (_, and_next (abstracted_apply ρ (bracket (translate b)) (bracket_eval (a ∷ ρ) (translate b)).1) (i.1 x).1),
    )
runs (n ∷ Ns) Term.leaf ρ a r h = absurd (omega arith)
runs (n ∷ Ns) (Term.app f x) ρ a r h = absurd (omega arith)
runs (n ∷ Ns) (Term.var i) ρ a r h = absurd (omega arith)

-- a body under n leading parameters has n abstractions more around it
under_closed : (n d : ℕ) (t : Term) → ClosedUnder d t → n ≤ parameters t → ClosedUnder (n + d) (body_under n t)
unfolding body_under parameters
under_closed zero d t h e = rw zero-add h
under_closed (suc n) d (abs b) h e = subst (λ (k : ℕ). ClosedUnder k (body_under n b)) (omega arith) (under_closed n (suc d) b h (omega arith))
under_closed (suc n) d Term.leaf h e = absurd (omega arith)
under_closed (suc n) d (Term.app f a) h e = absurd (omega arith)
under_closed (suc n) d (Term.var i) h e = absurd (omega arith)

-- "Then each variable of the i-th parameter becomes argument tree i": the body has no other variables, so that a tree is put in for each.
pub body_within : {l : List ℕ} {t : Term} → IsRule l t → (n : ℕ) → n ≤ parameters t → ClosedOver n (body n t)
unfolding body
body_within {t = t} h n e = translate_within (body_under n t) n (rw add-zero at (under_closed n 0 t h.closed e))

-- what holds of some uses, in as many steps as they are
in_some : {P : Uses → Type 0} → (u : Uses) × P u → (k : ℕ) × InSteps P k
in_some x = (steps x.0, record { uses = x.0; gives = x.1; counted = refl })

-- "The planner's run then has a tree, and it is this one" (The two runs of demand 3): the translated run ends in a tree exactly when the
-- direct run does, and in the same tree.
pub same_tree_lem : {l : List ℕ} {t : Term} → IsRule l t → (args : List Tree) → 1 ≤ length args → length args ≤ parameters t → (r : Tree)
    → ((k : ℕ) × Translated t args r k) ↔ ((k : ℕ) × Direct t args r k)
unfolding Translated Direct body body_under parameters
same_tree_lem h [] low high r = absurd (omega arith)
same_tree_lem h (a ∷ Ns) low high r =
    let i = runs Ns h.body [] a r (omega (arith, ap parameters h.begins)) in
    rw (h.begins, rule_abstracted h.body)
    (λ x. in_some (i.0 (x.1.uses, x.1.gives)), λ x. in_some (i.1 (x.1.uses, x.1.gives)))

-- "for n = 1 the steps that Apply returned are the planner's plus 2L + 5X − 1" (The two runs of demand 3)
pub one_argument : {l : List ℕ} {t : Term} → IsRule l t → (a r : Tree)
    → ((k : ℕ) → Direct t (a ∷ []) r k → Translated t (a ∷ []) r (k + difference t))
    × ((s : ℕ) → Translated t (a ∷ []) r s → (k : ℕ) × Direct t (a ∷ []) r k × (s ≡ k + difference t))
unfolding Translated Direct body body_under
one_argument h a r =
    let c = translate h.body in
    rw (h.begins, rule_abstracted h.body, difference_cost h.body (rw h.begins at h.closed)) (
      λ k x. record { uses = x.uses ⊕ cost c; gives = one_all (abstracted_apply [] c x.gives); counted = omega (arith, x.counted) },
      λ s x. let i = abstracted_eval [] c (all_one x.gives) in
          (steps i.0, record { uses = i.0; gives = i.1; counted = refl }, omega (arith, x.counted, ap steps i.2)),
    )

-- "The planner's run then has a tree, and it is this one; for n = 1 the steps that Apply returned are the planner's plus 2L + 5X − 1": of the
-- rule that any bytes are, on one tree for each of its first parameters.
pub demand_3 : (l : List ℕ) (t : Term) → rule l ≡ some t → (args : List Tree) → 1 ≤ length args → length args ≤ parameters t → (r : Tree)
    → (((s : ℕ) × Translated t args r s) ↔ ((k : ℕ) × Direct t args r k))
    × ((s k : ℕ) → length args ≡ 1 → Translated t args r s → Direct t args r k → s ≡ k + difference t)
unfolding Translated
demand_3 l t e args low high r = (same_tree_lem h args low high r, differ args)
  where
    h : IsRule l t
    h = (rule_exact l t).0 e

    differ : (args : List Tree) (s k : ℕ) → length args ≡ 1 → Translated t args r s → Direct t args r k → s ≡ k + difference t
    differ [] s k one x y = absurd (omega arith)
    differ (a ∷ []) s k one x y =
        let z = (one_argument h a r).0 k y in
        omega (arith, x.counted, z.counted, ap steps (apply_all_unique x.gives z.gives).1)
    differ (a ∷ b ∷ Ns) s k one x y = absurd (omega arith)

-- The five rules on paper: an application that gives a tree is a way to it, with one equation for each use of drop, spread and triage. Assumes nothing.
use mathlib.Core.Path.{◌≡◌, refl, sym, ap, ap₂, ◌∙◌, subst}
use mathlib.Core.List.{List, [], ◌∷◌, ◌++◌}
use native.Mathlib.Omega.{arith}
use lib.ListN.{length}
use Rattle.calculus.specs.Tree.{Tree}
use Rattle.calculus.specs.declared.Uses.{Uses}
use Rattle.calculus.specs.Uses.{no_uses, one_drop, one_spread, one_triage, ◌⊕◌, steps}
use Rattle.calculus.specs.Rules.{Apply, by_leaf, by_stem, by_drop, by_spread, by_triage, Closed, tree, Eval, of_tree, of_app, ApplyAll, at_end, and_next}
use Rattle.calculus.specs.Abstraction.{Combination, app, ClosedOver, term}
use Rattle.calculus.specs.Equations.{Equation, the_drop, the_spread, the_triage, of_drop, of_spread, of_triage}
use Rattle.calculus.proofs.Counts.{none_uses, uses_assoc}
use Rattle.rewriting.specs.Ways.{Reduces, at_root, Way, arrived, use_of, uses_of, paper_uses, applied, closed_term}
use Rattle.rewriting.specs.Claims.{Reaches, WayBy, OnlyResult}
use Rattle.rewriting.proofs.Confluence.{way_one, way_joined, way_function, way_argument, confluent, stays_there, one_end}
use Rattle.rewriting.proofs.Normal.{term_closed, tree_irreducible}

uses_append : (es fs : List Equation) → uses_of (es ++ fs) ≡ uses_of es ⊕ uses_of fs
unfolding uses_of
uses_append [] fs = sym (none_uses (uses_of fs))
uses_append (e ∷ es) fs = ap (λ (k : Uses). use_of e ⊕ k) (uses_append es fs) ∙ sym (uses_assoc (use_of e) (uses_of es) (uses_of fs))

-- one step for each equation
one_step : (e : Equation) → steps (use_of e) ≡ 1
unfolding use_of
one_step the_drop = refl
one_step the_spread = refl
one_step the_triage = refl

uses_number : (es : List Equation) → steps (uses_of es) ≡ length es
unfolding uses_of
uses_number [] = refl
uses_number (e ∷ es) = omega (arith, one_step e, uses_number es)

-- Uses are a way: by the equations that are listed, by none, by one, by a way and one after it, and by a way within a larger term.
pub way_by : {u v : Combination} (es : List Equation) (k : Uses) → Way u es v → uses_of es ≡ paper_uses k → WayBy u v k
way_by es k p e = record { equations = es; way = p; each = e; number = omega (arith, uses_number es, ap steps e) }

pub none_by : {k : Uses} → paper_uses k ≡ no_uses → (u : Combination) → WayBy u u k
unfolding uses_of
none_by {k} e u = way_by [] k arrived (sym e)

pub one_by : {e : Equation} {u v : Combination} → Reduces e u v → WayBy u v (use_of e)
unfolding uses_of use_of
one_by {e = the_drop} r = way_by (the_drop ∷ []) one_drop (way_one r) refl
one_by {e = the_spread} r = way_by (the_spread ∷ []) one_spread (way_one r) refl
one_by {e = the_triage} r = way_by (the_triage ∷ []) one_triage (way_one r) refl

pub then_by : {u v w : Combination} {a b : Uses} → WayBy u v a → WayBy v w b → WayBy u w (a ⊕ b)
then_by {a = a} {b = b} p q =
    way_by (p.equations ++ q.equations) (a ⊕ b) (way_joined p.way q.way) (uses_append p.equations q.equations ∙ ap₂ ◌⊕◌ p.each q.each)

within_by : {u v s t : Combination} {a : Uses} → ((es : List Equation) → Way u es v → Way s es t) → WayBy u v a → WayBy s t a
within_by {a = a} into p = way_by p.equations a (into p.equations p.way) p.each

-- "Each use of drop, spread and triage is shown to be one equation on paper, and of leaf and stem none." ([11])
pub apply_way : {f N r : Tree} {k : Uses} → Apply f N r k → WayBy (app (term f) (term N)) (term r) k
unfolding term use_of
apply_way by_leaf = none_by refl _
apply_way by_stem = none_by refl _
apply_way by_drop = one_by (at_root of_drop)
apply_way (by_spread a b c) = then_by (then_by (then_by (one_by (at_root of_spread)) (within_by (λ es. way_function) (apply_way a))) (within_by (λ es. way_argument) (apply_way b))) (apply_way c)
apply_way (by_triage a b) = then_by (then_by (one_by (at_root of_triage)) (within_by (λ es. way_function) (apply_way a))) (apply_way b)

-- the same of a program on several trees, and of a closed term that is evaluated
way_applied : {es : List Equation} {u v : Combination} (Ns : List Tree) → Way u es v → Way (applied u Ns) es (applied v Ns)
unfolding applied
way_applied [] p = p
way_applied {u = u} {v = v} (N ∷ Ns) p = way_applied {u = app u (term N)} {v = app v (term N)} Ns (way_function p)

pub apply_all_way : {f r : Tree} {Ns : List Tree} {k : Uses} → ApplyAll f Ns r k → WayBy (applied (term f) Ns) (term r) k
unfolding applied
apply_all_way {f} at_end = none_by refl (term f)
apply_all_way {Ns = N ∷ Ns} (and_next a b) = then_by (within_by (λ es. way_applied Ns) (apply_way a)) (apply_all_way b)

pub eval_way : {c : Closed} {r : Tree} {k : Uses} → Eval c r k → WayBy (closed_term c) (term r) k
unfolding closed_term
eval_way {r = r} of_tree = none_by refl (term r)
eval_way (of_app a b c) = then_by (then_by (within_by (λ es. way_function) (eval_way a)) (within_by (λ es. way_argument) (eval_way b))) (apply_way c)

-- the terms from which these lead are closed
pub applied_closed : (u : Combination) (Ns : List Tree) → ClosedOver 0 u → ClosedOver 0 (applied u Ns)
unfolding applied
applied_closed u [] c = c
applied_closed u (N ∷ Ns) c = applied_closed (app u (term N)) Ns (c, term_closed N)

pub closed_term_closed : (c : Closed) → ClosedOver 0 (closed_term c)
unfolding closed_term
closed_term_closed (tree t) = term_closed t
closed_term_closed (Closed.app u v) = (closed_term_closed u, closed_term_closed v)

-- A tree to which uses of the rules lead from a closed term is the only one in which ways from there can end.
pub result_by : {u : Combination} (r : Tree) {k : Uses} → ClosedOver 0 u → WayBy u (term r) k → OnlyResult u r k
result_by r c p =
    let there = tree_irreducible r in
    record {
      closed = c;
      way = p;
      ends = there;
      only = λ q h. one_end q h p.way there;
      comes = λ {es} {v} q. let m = confluent q p.way in subst (Reaches v) (stays_there there m.right.way) m.left;
    }

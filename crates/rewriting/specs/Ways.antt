-- Ways on paper ([11]) and the terms from which they lead. Assumes nothing: these are definitions.
use Rattle.std.specs.Prelude.{List, [], ◌∷◌}
use Rattle.calculus.specs.Tree.{Tree}
use Rattle.calculus.specs.declared.Uses.{Uses}
use Rattle.calculus.specs.Uses.{counts, no_uses, one_drop, one_spread, one_triage, ◌⊕◌}
use Rattle.calculus.specs.Rules.{Closed, tree}
use Rattle.calculus.specs.Abstraction.{Combination, app, term}
use Rattle.calculus.specs.Equations.{Equation, the_drop, the_spread, the_triage, Equates}

-- One use of an equation, "left to right, anywhere in a term" ([11]).
pub data Reduces (e : Equation) : Combination → Combination → Type 0 where
  -- the term is the equation's left side
  at_root : {u v : Combination} → Equates e u v → Reduces e u v
  -- or its function part is reduced
  in_function : {u v t : Combination} → Reduces e u v → Reduces e (app u t) (app v t)
  -- or its argument part
  in_argument : {u v t : Combination} → Reduces e u v → Reduces e (app t u) (app t v)

-- A way on paper ([11]) from one term to another: the equations used, one after another.
pub data Way : Combination → List Equation → Combination → Type 0 where
  arrived : {u : Combination} → Way u [] u
  goes_by : {e : Equation} {es : List Equation} {u v w : Combination} → Reduces e u v → Way v es w → Way u (e ∷ es) w

-- A way ends where no equation can be used: "A term r is irreducible if it cannot be reduced" (001, section 7.3).
abbrev pub Irreducible : Combination → Type 0
Irreducible u = (e : Equation) (v : Combination) → Reduces e u v → ⊥

-- one use of its rule for each equation
unfoldable pub use_of : Equation → Uses
use_of the_drop = one_drop
use_of the_spread = one_spread
use_of the_triage = one_triage

unfoldable pub uses_of : List Equation → Uses
uses_of [] = no_uses
uses_of (e ∷ es) = use_of e ⊕ uses_of es

-- the uses that are equations on paper: "Each use of drop, spread and triage is shown to be one equation on paper, and of leaf and stem none." ([11])
abbrev pub paper_uses : Uses → Uses
paper_uses k = counts 0 0 k.drop k.spread k.triage

-- a term applied to the first of several trees, that to the second, and so on, with nothing evaluated
unfoldable pub applied : Combination → List Tree → Combination
applied u [] = u
applied u (N ∷ Ns) = applied (app u (term N)) Ns

-- a closed term in which trees were put, each as its own term
unfoldable pub closed_term : Closed → Combination
closed_term (tree t) = term t
closed_term (Closed.app u v) = app (closed_term u) (closed_term v)

-- What is claimed of ways on paper. Assumes nothing: these are definitions.
use Rattle.std.specs.Prelude.{◌+◌, ◌≡◌, List, length}
use Rattle.calculus.specs.Tree.{Tree}
use Rattle.calculus.specs.declared.Uses.{Uses}
use Rattle.calculus.specs.Abstraction.{Combination, ClosedOver, term}
use Rattle.calculus.specs.Equations.{Equation}
use Rattle.rewriting.specs.Ways.{Way, Irreducible, uses_of, paper_uses}

-- "two such ways that both end [..] end in the same tree" ([11]): v and w are the term of one tree
pub record SameTree (v w : Combination) : Type 0 where
  pub tree : Tree
  pub first_ends : v ≡ term tree
  pub second_ends : w ≡ term tree

-- there is a way from u to v
pub record Reaches (u v : Combination) : Type 0 where
  pub equations : List Equation
  pub way : Way u equations v

-- The uses k are a way from u to v: "Each use of drop, spread and triage is shown to be one equation on paper, and of leaf and stem none." ([11])
pub record WayBy (u v : Combination) (k : Uses) : Type 0 where
  pub equations : List Equation
  pub way : Way u equations v
  pub each : uses_of equations ≡ paper_uses k
  pub number : length equations ≡ k.drop + k.spread + k.triage

-- From the closed term u the uses k are a way to the tree r, and r is "the only one they can end in" ([11]).
pub record OnlyResult (u : Combination) (r : Tree) (k : Uses) : Type 0 where
  pub closed : ClosedOver 0 u
  pub way : WayBy u (term r) k
  pub ends : Irreducible (term r)
  -- every way that ends, ends there, and every other can still be led there
  pub only : {es : List Equation} {v : Combination} → Way u es v → Irreducible v → v ≡ term r
  pub comes : {es : List Equation} {v : Combination} → Way u es v → Reaches v (term r)

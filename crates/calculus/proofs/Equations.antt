-- The five rules follow the equations. Assumes nothing.
use Rattle.calculus.specs.Tree.{Tree}
use Rattle.calculus.specs.declared.Uses.{Uses}
use Rattle.calculus.specs.Rules.{Apply, by_leaf, by_stem, by_drop, by_spread, by_triage}
use Rattle.calculus.specs.Abstraction.{app, term}
use Rattle.calculus.specs.Equations.{of_drop, of_spread, of_triage, Equal, same, joined, inside, equated}

-- Where f applied to N gives r, that is so by the equations.
pub apply_equal : {f N r : Tree} {k : Uses} → Apply f N r k → Equal (app (term f) (term N)) (term r)
unfolding term
apply_equal by_leaf = same
apply_equal by_stem = same
apply_equal by_drop = equated of_drop
apply_equal (by_spread a b c) = joined (equated of_spread) (joined (inside (apply_equal a) (apply_equal b)) (apply_equal c))
apply_equal (by_triage a b) = joined (equated of_triage) (joined (inside (apply_equal a) same) (apply_equal b))

-- The equations of tree calculus, on terms without abstraction. Assumes nothing: these are definitions.
use Rattle.calculus.specs.Abstraction.{Combination, leaf, app}

-- The three equations of source 001, section 1.2, by the names of the rules that use them.
pub data Equation : Type 0 where
  the_drop : Equation
  the_spread : Equation
  the_triage : Equation

-- the left side of an equation, and its right side
pub data Equates : Equation → Combination → Combination → Type 0 where
  -- ΔΔyz = y
  of_drop : {y z : Combination} → Equates the_drop (app (app (app leaf leaf) y) z) y
  -- Δ(Δx)yz = (yz)(xz)
  of_spread : {x y z : Combination} → Equates the_spread (app (app (app leaf (app leaf x)) y) z) (app (app y z) (app x z))
  -- Δ(Δwx)yz = zwx
  of_triage : {w x y z : Combination} → Equates the_triage (app (app (app leaf (app (app leaf w) x)) y) z) (app (app z w) x)

-- Equality of terms by the three equations, used anywhere in a term, in either direction and any number of times. No order of evaluation enters, so a part
-- without a tree may be dropped.
pub data Equal : Combination → Combination → Type 0 where
  same : {u : Combination} → Equal u u
  turned : {u v : Combination} → Equal u v → Equal v u
  joined : {u v w : Combination} → Equal u v → Equal v w → Equal u w
  inside : {u v s t : Combination} → Equal u v → Equal s t → Equal (app u s) (app v t)
  equated : {e : Equation} {u v : Combination} → Equates e u v → Equal u v

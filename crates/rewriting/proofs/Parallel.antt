-- Simultaneous reduction (001, section 7.5), by which the ways on paper come together again: the equations' left sides have each variable once and do not
-- overlap. Assumes nothing.
use Prim.Native.Nat.{ℕ}
use Rattle.calculus.specs.Abstraction.{Combination, leaf, app, var}
use Rattle.calculus.specs.Equations.{Equation, of_drop, of_spread, of_triage}
use Rattle.rewriting.specs.Ways.{Reduces, at_root, in_function, in_argument}

-- equations used at several places of a term at the same time, one inside another too
pub data Parallel : Combination → Combination → Type 0 where
  leaf_stays : Parallel leaf leaf
  var_stays : {i : ℕ} → Parallel (var i) (var i)
  both : {u v s t : Combination} → Parallel u v → Parallel s t → Parallel (app u s) (app v t)
  drops : {y z y' : Combination} → Parallel y y' → Parallel (app (app (app leaf leaf) y) z) y'
  spreads : {x y z x' y' z' : Combination} → Parallel x x' → Parallel y y' → Parallel z z'
      → Parallel (app (app (app leaf (app leaf x)) y) z) (app (app y' z') (app x' z'))
  triages : {w x y z w' x' z' : Combination} → Parallel w w' → Parallel x x' → Parallel z z'
      → Parallel (app (app (app leaf (app (app leaf w) x)) y) z) (app (app z' w') x')

pub stays : (u : Combination) → Parallel u u
stays leaf = leaf_stays
stays (app u v) = both (stays u) (stays v)
stays (var i) = var_stays

-- one use of an equation is such a step
pub one_parallel : {e : Equation} {u v : Combination} → Reduces e u v → Parallel u v
one_parallel (at_root of_drop) = drops (stays _)
one_parallel (at_root of_spread) = spreads (stays _) (stays _) (stays _)
one_parallel (at_root of_triage) = triages (stays _) (stays _) (stays _)
one_parallel (in_function r) = both (one_parallel r) (stays _)
one_parallel (in_argument r) = both (stays _) (one_parallel r)

-- Two terms come together in a third, the one by P and the other by Q.
pub record Meets (P Q : Combination → Combination → Type 0) (v w : Combination) : Type 0 where
  pub at : Combination
  pub left : P v at
  pub right : Q w at

pub mirrored : {P Q : Combination → Combination → Type 0} {v w : Combination} → Meets P Q v w → Meets Q P w v
mirrored m = record { at = m.at; left = m.right; right = m.left }

abbrev Met : Combination → Combination → Type 0
Met = Meets Parallel Parallel

-- an equation used in a term whose parts were reduced, and these parts reduced in the equation's right side
drop_meets : {y y' z : Combination} → Met y y' → Met (app (app (app leaf leaf) y) z) y'
drop_meets y = record { at = y.at; left = drops y.left; right = y.right }

spread_meets : {x y z x' y' z' : Combination} → Met x x' → Met y y' → Met z z'
    → Met (app (app (app leaf (app leaf x)) y) z) (app (app y' z') (app x' z'))
spread_meets x y z =
    record {
      at = app (app y.at z.at) (app x.at z.at);
      left = spreads x.left y.left z.left;
      right = both (both y.right z.right) (both x.right z.right);
    }

triage_meets : {w x y z w' x' z' : Combination} → Met w w' → Met x x' → Met z z'
    → Met (app (app (app leaf (app (app leaf w) x)) y) z) (app (app z' w') x')
triage_meets w x z =
    record {
      at = app (app z.at w.at) x.at;
      left = triages w.left x.left z.left;
      right = both (both z.right w.right) x.right;
    }

both_meet : {u v s t : Combination} → Met u v → Met s t → Met (app u s) (app v t)
both_meet m n = record { at = app m.at n.at; left = both m.left n.left; right = both m.right n.right }

-- "Simultaneous reduction has the diamond property." (001, theorem 7.7)
pub diamond : {u v w : Combination} → Parallel u v → Parallel u w → Meets Parallel Parallel v w
diamond leaf_stays leaf_stays = record { at = leaf; left = leaf_stays; right = leaf_stays }
diamond (var_stays {i}) var_stays = record { at = var i; left = var_stays; right = var_stays }
diamond (both a b) (both c d) = both_meet (diamond a c) (diamond b d)
diamond (both (both (both leaf_stays leaf_stays) y) z) (drops b) = drop_meets (diamond y b)
diamond (both (both (both leaf_stays (both leaf_stays x)) y) z) (spreads a b c) = spread_meets (diamond x a) (diamond y b) (diamond z c)
diamond (both (both (both leaf_stays (both (both leaf_stays w) x)) y) z) (triages a b c) = triage_meets (diamond w a) (diamond x b) (diamond z c)
diamond (drops b) (both (both (both leaf_stays leaf_stays) y) z) = mirrored (drop_meets (mirrored (diamond b y)))
diamond (drops y) (drops b) = diamond y b
diamond (spreads a b c) (both (both (both leaf_stays (both leaf_stays x)) y) z) = mirrored (spread_meets (mirrored (diamond a x)) (mirrored (diamond b y)) (mirrored (diamond c z)))
diamond (spreads x y z) (spreads a b c) = both_meet (both_meet (diamond y b) (diamond z c)) (both_meet (diamond x a) (diamond z c))
diamond (triages a b c) (both (both (both leaf_stays (both (both leaf_stays w) x)) y) z) = mirrored (triage_meets (mirrored (diamond a w)) (mirrored (diamond b x)) (mirrored (diamond c z)))
diamond (triages w x z) (triages a b c) = both_meet (both_meet (diamond z c) (diamond w a)) (diamond x b)

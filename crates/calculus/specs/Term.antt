-- Terms of rules. Assumes nothing: these are definitions.
use Rattle.std.specs.Prelude.{ℕ, zero, suc, ◌<◌, max}

-- A rule's term: a leaf, an application of a function to an argument, an abstraction with its body, and a variable by the count of the
-- abstractions between it and its own (Translation).
pub data Term : Type 0 where
  leaf : Term
  app : Term → Term → Term
  abs : Term → Term
  var : ℕ → Term

-- "has no variable whose abstraction lies outside it": every variable's abstraction is in the term or among d around it
abbrev pub ClosedUnder : ℕ → Term → Type 0
ClosedUnder d leaf = Unit {0}
ClosedUnder d (app f a) = ClosedUnder d f × ClosedUnder d a
ClosedUnder d (abs b) = ClosedUnder (suc d) b
ClosedUnder d (var i) = i < d

-- how many abstractions are nested
unfoldable pub nesting : Term → ℕ
nesting leaf = 0
nesting (app f a) = max (nesting f) (nesting a)
nesting (abs b) = suc (nesting b)
nesting (var i) = 0

-- "A rule's leading parameters are those of the abstraction it begins with and of each abstraction that is the whole body of a leading one."
-- (The two runs of demand 3)
unfoldable pub parameters : Term → ℕ
parameters leaf = 0
parameters (app f a) = 0
parameters (abs b) = suc (parameters b)
parameters (var i) = 0

-- the body under the first n leading parameters
unfoldable pub body_under : ℕ → Term → Term
body_under zero t = t
body_under (suc n) leaf = leaf
body_under (suc n) (app f a) = app f a
body_under (suc n) (abs b) = body_under n b
body_under (suc n) (var i) = var i

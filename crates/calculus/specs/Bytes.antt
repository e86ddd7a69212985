-- A term's bytes, and which bytes are a rule. Assumes nothing: these are definitions.
use Rattle.std.specs.Prelude.{ℕ, zero, suc, ◌≤◌, ◌≡◌, cond, List, [], ◌∷◌, ◌++◌, length, drop, ltb, leb, eqb}
use Rattle.std.proofs.Math.Option.{Option, none, some}
use Rattle.calculus.specs.Term.{Term, leaf, app, abs, var, ClosedUnder, nesting}

-- "A term in bytes: 0 is a leaf; 1 an application, followed by function and argument; 2 an abstraction, followed by its body; 3 a variable,
-- followed by one byte counting the abstractions between it and its own" (Translation)
unfoldable pub bytes : Term → List ℕ
bytes leaf = 0 ∷ []
bytes (app f a) = 1 ∷ (bytes f ++ bytes a)
bytes (abs b) = 2 ∷ bytes b
bytes (var i) = 3 ∷ i ∷ []

-- "A rule is a whole term that begins with 2, has no variable whose abstraction lies outside it, has at most 4,096 bytes and no more than 16
-- abstractions nested." The term is given by its first body.
pub record IsRule (l : List ℕ) (t : Term) : Type 0 where
  pub body : Term
  pub begins : t ≡ abs body
  pub whole : bytes t ≡ l
  pub closed : ClosedUnder 0 t
  pub short : length l ≤ 4096
  pub shallow : nesting t ≤ 16

-- What follows finds a rule's term; the theorem `rule_exact` says that it finds it exactly where IsRule holds.

unfoldable pub abstraction : Option Term → Option Term
abstraction none = none
abstraction (some b) = some (abs b)

unfoldable pub application : Term → Option Term → Option Term
application f none = none
application f (some a) = some (app f a)

-- the argument is read after the function part
unfoldable pub argument : (List ℕ → Option Term) → List ℕ → Option Term → Option Term
argument read l none = none
argument read l (some f) = application f (read (drop (length (bytes f)) l))

-- The term that a list begins with, under d abstractions of which no more than 16 may be nested. The first argument bounds the depth of the
-- recursion; the list's length is enough.
unfoldable pub parse : ℕ → ℕ → List ℕ → Option Term
parse zero d l = none
parse (suc n) d [] = none
parse (suc n) d (zero ∷ l) = some leaf
parse (suc n) d (suc zero ∷ l) = argument (parse n d) l (parse n d l)
parse (suc n) d (suc (suc zero) ∷ l) = cond (ltb d 16) (abstraction (parse n (suc d) l)) none
parse (suc n) d (suc (suc (suc zero)) ∷ []) = none
parse (suc n) d (suc (suc (suc zero)) ∷ (i ∷ l)) = cond (ltb i d) (some (var i)) none
parse (suc n) d (suc (suc (suc (suc k))) ∷ l) = none

-- an abstraction that takes all n bytes
unfoldable pub whole : ℕ → Option Term → Option Term
whole n none = none
whole n (some leaf) = none
whole n (some (app f a)) = none
whole n (some (abs b)) = cond (eqb (length (bytes (abs b))) n) (some (abs b)) none
whole n (some (var i)) = none

-- the rule that the bytes are
unfoldable pub rule : List ℕ → Option Term
rule l = cond (leb (length l) 4096) (whole (length l) (parse (length l) 0 l)) none

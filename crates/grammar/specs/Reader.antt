-- The reader of tokens, which finds the reading of a text. The theorem `exact` says that it finds e exactly where Reads holds of e, so nothing of it
-- is to be believed. Assumes nothing: these are definitions.
use Rattle.std.specs.Prelude.{ℕ, zero, suc, cond, List, [], ◌∷◌, length, eqb}
use Rattle.std.proofs.Math.Option.{Option, none, some}
use Rattle.grammar.specs.Expression.{Expression, leaf, var, app, abs, not, and, or, implies}
use Rattle.grammar.specs.Tokens.{Token, caret, name, opening, closing, backslash, stop, bang, ampersand, bar, arrow}

-- what is read: nothing, or an expression and the tokens after it
pub data Read : Type 0 where
  nothing : Read
  read : Expression → List Token → Read

-- What waits for an operand on its right: left operands of >, nearest first, then of |, of &, and how many !.
pub record Unclosed : Type 0 where
  pub implies : List Expression
  pub or : Option Expression
  pub and : Option Expression
  pub nots : ℕ

abbrev pub unclosed : List Expression → Option Expression → Option Expression → ℕ → Unclosed
unclosed js o c k = record { implies = js; or = o; and = c; nots = k }

abbrev pub empty : Unclosed
empty = unclosed [] none none 0

unfoldable pub negated : ℕ → Expression → Expression
negated zero e = e
negated (suc k) e = negated k (not e)

unfoldable pub conjoined : Option Expression → Expression → Expression
conjoined none e = e
conjoined (some a) e = and a e

unfoldable pub disjoined : Option Expression → Expression → Expression
disjoined none e = e
disjoined (some a) e = or a e

unfoldable pub implied : List Expression → Expression → Expression
implied [] e = e
implied (a ∷ js) e = implied js (implies a e)

-- the conjunction, the disjunction and the expression that an application completes
abbrev pub conjunct : Unclosed → Expression → Expression
conjunct p e = conjoined p.and (negated p.nots e)

abbrev pub disjunct : Unclosed → Expression → Expression
disjunct p e = disjoined p.or (conjunct p e)

abbrev pub closed : Unclosed → Expression → Expression
closed p e = implied p.implies (disjunct p e)

-- what waits after a !, after an application and &, | or >
abbrev pub noted : Unclosed → Unclosed
noted p = unclosed p.implies p.or p.and (suc p.nots)

abbrev pub after_and : Unclosed → Expression → Unclosed
after_and p e = unclosed p.implies p.or (some (conjunct p e)) 0

abbrev pub after_or : Unclosed → Expression → Unclosed
after_or p e = unclosed p.implies (some (disjunct p e)) none 0

abbrev pub after_implies : Unclosed → Expression → Unclosed
after_implies p e = unclosed (disjunct p e ∷ p.implies) none none 0

unfoldable pub up : Option ℕ → Option ℕ
up none = none
up (some i) = some (suc i)

unfoldable pub lookup : List ℕ → ℕ → Option ℕ
lookup [] x = none
lookup (y ∷ Γ) x = cond (eqb x y) (some 0) (up (lookup Γ x))

unfoldable pub variable : Option ℕ → List Token → Read
variable none ts = nothing
variable (some i) ts = read (var i) ts

unfoldable pub follow : Read → (Expression → List Token → Read) → Read
follow nothing k = nothing
follow (read e r) k = k e r

unfoldable pub abstracted : Read → Read
abstracted nothing = nothing
abstracted (read e r) = read (abs e) r

-- the closing parenthesis after an expression
unfoldable pub enclosed : Expression → List Token → Read
enclosed e [] = nothing
enclosed e (caret ∷ r) = nothing
enclosed e (name x ∷ r) = nothing
enclosed e (opening ∷ r) = nothing
enclosed e (closing ∷ r) = read e r
enclosed e (backslash ∷ r) = nothing
enclosed e (stop ∷ r) = nothing
enclosed e (bang ∷ r) = nothing
enclosed e (ampersand ∷ r) = nothing
enclosed e (bar ∷ r) = nothing
enclosed e (arrow ∷ r) = nothing

-- a full stop, and what f reads after it
unfoldable pub body : (List Token → Read) → List Token → Read
body f [] = nothing
body f (caret ∷ r) = nothing
body f (name x ∷ r) = nothing
body f (opening ∷ r) = nothing
body f (closing ∷ r) = nothing
body f (backslash ∷ r) = nothing
body f (stop ∷ r) = abstracted (f r)
body f (bang ∷ r) = nothing
body f (ampersand ∷ r) = nothing
body f (bar ∷ r) = nothing
body f (arrow ∷ r) = nothing

-- a name, a full stop and a body
unfoldable pub binder : (ℕ → List Token → Read) → List Token → Read
binder f [] = nothing
binder f (caret ∷ r) = nothing
binder f (name x ∷ r) = body (f x) r
binder f (opening ∷ r) = nothing
binder f (closing ∷ r) = nothing
binder f (backslash ∷ r) = nothing
binder f (stop ∷ r) = nothing
binder f (bang ∷ r) = nothing
binder f (ampersand ∷ r) = nothing
binder f (bar ∷ r) = nothing
binder f (arrow ∷ r) = nothing

-- what stands in parentheses, if one more may be opened
unfoldable pub inside : (ℕ → List Token → Read) → ℕ → List Token → Read
inside f zero ts = nothing
inside f (suc d) ts = follow (f d ts) enclosed

-- an operand; expressions in it are read by f
unfoldable pub operand_by : (ℕ → List ℕ → List Token → Read) → ℕ → List ℕ → List Token → Read
operand_by f d Γ [] = nothing
operand_by f d Γ (caret ∷ r) = read leaf r
operand_by f d Γ (name x ∷ r) = variable (lookup Γ x) r
operand_by f d Γ (opening ∷ r) = inside (λ k. f k Γ) d r
operand_by f d Γ (closing ∷ r) = nothing
operand_by f d Γ (backslash ∷ r) = binder (λ x. f d (x ∷ Γ)) r
operand_by f d Γ (stop ∷ r) = nothing
operand_by f d Γ (bang ∷ r) = nothing
operand_by f d Γ (ampersand ∷ r) = nothing
operand_by f d Γ (bar ∷ r) = nothing
operand_by f d Γ (arrow ∷ r) = nothing

-- The expression that tokens begin with, after what waits; and the same after an application. The first argument bounds the depth of the
-- recursion; one more than the number of tokens is enough.
unfoldable mutual
  pub start : ℕ → ℕ → List ℕ → Unclosed → List Token → Read
  start zero d Γ p ts = nothing
  start (suc n) d Γ p [] = nothing
  start (suc n) d Γ p (caret ∷ r) = follow (operand_by (λ k Δ ts. start n k Δ empty ts) d Γ (caret ∷ r)) (λ a s. next n d Γ p a s)
  start (suc n) d Γ p (name x ∷ r) = follow (operand_by (λ k Δ ts. start n k Δ empty ts) d Γ (name x ∷ r)) (λ a s. next n d Γ p a s)
  start (suc n) d Γ p (opening ∷ r) = follow (operand_by (λ k Δ ts. start n k Δ empty ts) d Γ (opening ∷ r)) (λ a s. next n d Γ p a s)
  start (suc n) d Γ p (closing ∷ r) = nothing
  start (suc n) d Γ p (backslash ∷ r) = follow (operand_by (λ k Δ ts. start n k Δ empty ts) d Γ (backslash ∷ r)) (λ a s. next n d Γ p a s)
  start (suc n) d Γ p (stop ∷ r) = nothing
  start (suc n) d Γ p (bang ∷ r) = start n d Γ (noted p) r
  start (suc n) d Γ p (ampersand ∷ r) = nothing
  start (suc n) d Γ p (bar ∷ r) = nothing
  start (suc n) d Γ p (arrow ∷ r) = nothing

  pub next : ℕ → ℕ → List ℕ → Unclosed → Expression → List Token → Read
  next zero d Γ p e ts = nothing
  next (suc n) d Γ p e [] = read (closed p e) []
  next (suc n) d Γ p e (caret ∷ r) = follow (operand_by (λ k Δ ts. start n k Δ empty ts) d Γ (caret ∷ r)) (λ a s. next n d Γ p (app e a) s)
  next (suc n) d Γ p e (name x ∷ r) = follow (operand_by (λ k Δ ts. start n k Δ empty ts) d Γ (name x ∷ r)) (λ a s. next n d Γ p (app e a) s)
  next (suc n) d Γ p e (opening ∷ r) = follow (operand_by (λ k Δ ts. start n k Δ empty ts) d Γ (opening ∷ r)) (λ a s. next n d Γ p (app e a) s)
  next (suc n) d Γ p e (closing ∷ r) = read (closed p e) (closing ∷ r)
  next (suc n) d Γ p e (backslash ∷ r) = follow (operand_by (λ k Δ ts. start n k Δ empty ts) d Γ (backslash ∷ r)) (λ a s. next n d Γ p (app e a) s)
  next (suc n) d Γ p e (stop ∷ r) = nothing
  next (suc n) d Γ p e (bang ∷ r) = nothing
  next (suc n) d Γ p e (ampersand ∷ r) = start n d Γ (after_and p e) r
  next (suc n) d Γ p e (bar ∷ r) = start n d Γ (after_or p e) r
  next (suc n) d Γ p e (arrow ∷ r) = start n d Γ (after_implies p e) r

-- what tokens read as: enough of the recursion
unfoldable pub parse : ℕ → List ℕ → Unclosed → List Token → Read
parse d Γ p ts = start (suc (length ts)) d Γ p ts

unfoldable pub more : ℕ → List ℕ → Unclosed → Expression → List Token → Read
more d Γ p e ts = next (suc (length ts)) d Γ p e ts

unfoldable pub operand : ℕ → List ℕ → List Token → Read
operand d Γ ts = operand_by (λ k Δ. parse k Δ empty) d Γ ts

-- the tokens begin an operand
abbrev pub Starts : List Token → Type 0
Starts [] = ⊥
Starts (caret ∷ r) = Unit {0}
Starts (name x ∷ r) = Unit {0}
Starts (opening ∷ r) = Unit {0}
Starts (closing ∷ r) = ⊥
Starts (backslash ∷ r) = Unit {0}
Starts (stop ∷ r) = ⊥
Starts (bang ∷ r) = ⊥
Starts (ampersand ∷ r) = ⊥
Starts (bar ∷ r) = ⊥
Starts (arrow ∷ r) = ⊥

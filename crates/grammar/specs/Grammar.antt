-- The grammar of rule text, without a parser ([3]). Assumes nothing: these are definitions.
use Rattle.std.specs.Prelude.{ℕ, suc, ◌≡◌, List, [], ◌∷◌}
use Rattle.grammar.specs.Tokens.{Token, caret, name, opening, closing, backslash, stop, bang, ampersand, bar, arrow}
use Rattle.grammar.specs.Expression.{Expression, leaf, var, app, abs, not, and, or, implies}

-- "bound by the nearest abstraction of that name": x is the i-th of the names around, counted from 0 and from the nearest, and none nearer is x
pub data Bound : List ℕ → ℕ → ℕ → Type 0 where
  nearest : {x : ℕ} {Γ : List ℕ} → Bound (x ∷ Γ) x 0
  farther : {x y i : ℕ} {Γ : List ℕ} → (x ≡ y → ⊥) → Bound Γ x i → Bound (y ∷ Γ) x (suc i)

-- "reaches as far right as it can": what follows an abstraction is the end of the text, or of the parentheses around it
pub data Ends : List Token → Type 0 where
  of_text : Ends []
  of_group : {r : List Token} → Ends (closing ∷ r)

-- "Operators from tightest: application [..]; `!` (not) [..]; `&` (and) [..]; `|` (or) [..]; `>` (implies)", and what they join
pub data Level : Type 0 where
  operand application negation conjunction disjunction expression : Level

-- Reads Γ d l ts e r: under the names Γ, nearest first, and with parentheses nested at most d deep, the tokens ts are a phrase of level l that says
-- e, and then r.
pub data Reads : List ℕ → ℕ → Level → List Token → Expression → List Token → Type 0 where
  the_name : {Γ : List ℕ} {d x i : ℕ} {r : List Token} → Bound Γ x i → Reads Γ d operand (name x ∷ r) (var i) r
  -- "A backslash, a name and a full stop open an abstraction that reaches as far right as it can." "An abstraction may stand as a last operand."
  abstraction : {Γ : List ℕ} {d x : ℕ} {ts r : List Token} {b : Expression}
      → Reads (x ∷ Γ) d expression ts b r → Ends r → Reads Γ d operand (backslash ∷ (name x ∷ (stop ∷ ts))) (abs b) r
  -- "application, grouping left"
  one_operand : {Γ : List ℕ} {d : ℕ} {ts r : List Token} {e : Expression} → Reads Γ d operand ts e r → Reads Γ d application ts e r
  applied : {Γ : List ℕ} {d : ℕ} {ts m r : List Token} {f a : Expression}
      → Reads Γ d application ts f m → Reads Γ d operand m a r → Reads Γ d application ts (app f a) r
  -- "`!` (not), repeatable"
  one_application : {Γ : List ℕ} {d : ℕ} {ts r : List Token} {e : Expression} → Reads Γ d application ts e r → Reads Γ d negation ts e r
  negated : {Γ : List ℕ} {d : ℕ} {ts r : List Token} {e : Expression} → Reads Γ d negation ts e r → Reads Γ d negation (bang ∷ ts) (not e) r
  -- "`&` (and), left"
  one_negation : {Γ : List ℕ} {d : ℕ} {ts r : List Token} {e : Expression} → Reads Γ d negation ts e r → Reads Γ d conjunction ts e r
  both : {Γ : List ℕ} {d : ℕ} {ts m r : List Token} {a b : Expression}
      → Reads Γ d conjunction ts a (ampersand ∷ m) → Reads Γ d negation m b r → Reads Γ d conjunction ts (and a b) r
  -- "`|` (or), left"
  one_conjunction : {Γ : List ℕ} {d : ℕ} {ts r : List Token} {e : Expression} → Reads Γ d conjunction ts e r → Reads Γ d disjunction ts e r
  either : {Γ : List ℕ} {d : ℕ} {ts m r : List Token} {a b : Expression}
      → Reads Γ d disjunction ts a (bar ∷ m) → Reads Γ d conjunction m b r → Reads Γ d disjunction ts (or a b) r
  -- "`>` (implies), right"
  one_disjunction : {Γ : List ℕ} {d : ℕ} {ts r : List Token} {e : Expression} → Reads Γ d disjunction ts e r → Reads Γ d expression ts e r
  follows : {Γ : List ℕ} {d : ℕ} {ts m r : List Token} {a b : Expression}
      → Reads Γ d disjunction ts a (arrow ∷ m) → Reads Γ d expression m b r → Reads Γ d expression ts (implies a b) r
  -- "`^` is the leaf, and parentheses group." "An expression contains operands, and an operand in parentheses contains an expression."
  the_leaf : {Γ : List ℕ} {d : ℕ} {r : List Token} → Reads Γ d operand (caret ∷ r) leaf r
  group : {Γ : List ℕ} {d : ℕ} {ts r : List Token} {e : Expression}
      → Reads Γ d expression ts e (closing ∷ r) → Reads Γ (suc d) operand (opening ∷ ts) e r

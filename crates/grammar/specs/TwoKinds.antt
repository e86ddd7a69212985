-- The same grammar in two kinds ([3]). Assumes nothing: these are definitions.
use Rattle.std.specs.Prelude.{ℕ, suc, List, ◌∷◌}
use Rattle.grammar.specs.Tokens.{Token, caret, name, opening, closing, backslash, stop, bang, ampersand, bar, arrow}
use Rattle.grammar.specs.Expression.{Expression, leaf, var, app, abs, not, and, or, implies}
use Rattle.grammar.specs.Grammar.{Bound, Level, operand, application, negation, conjunction, disjunction, expression}

-- A phrase is closed, or reaching: then its last operand is an abstraction.
pub data Kind : Type 0 where
  closed reaching : Kind

-- A reaching phrase stands only at the end of what encloses it, so nothing is said of what follows an abstraction; in parentheses it is closed. The
-- theorem `kinds_agree` says that a whole text has the same readings as by Reads.
pub data Phrase : List ℕ → ℕ → Level → Kind → List Token → Expression → List Token → Type 0 where
  the_leaf : {Γ : List ℕ} {d : ℕ} {r : List Token} → Phrase Γ d operand closed (caret ∷ r) leaf r
  the_name : {Γ : List ℕ} {d x i : ℕ} {r : List Token} → Bound Γ x i → Phrase Γ d operand closed (name x ∷ r) (var i) r
  group : {Γ : List ℕ} {d : ℕ} {k : Kind} {ts r : List Token} {e : Expression}
      → Phrase Γ d expression k ts e (closing ∷ r) → Phrase Γ (suc d) operand closed (opening ∷ ts) e r
  abstraction : {Γ : List ℕ} {d x : ℕ} {k : Kind} {ts r : List Token} {b : Expression}
      → Phrase (x ∷ Γ) d expression k ts b r → Phrase Γ d operand reaching (backslash ∷ (name x ∷ (stop ∷ ts))) (abs b) r
  one_operand : {Γ : List ℕ} {d : ℕ} {k : Kind} {ts r : List Token} {e : Expression} → Phrase Γ d operand k ts e r → Phrase Γ d application k ts e r
  one_application : {Γ : List ℕ} {d : ℕ} {k : Kind} {ts r : List Token} {e : Expression} → Phrase Γ d application k ts e r → Phrase Γ d negation k ts e r
  one_negation : {Γ : List ℕ} {d : ℕ} {k : Kind} {ts r : List Token} {e : Expression} → Phrase Γ d negation k ts e r → Phrase Γ d conjunction k ts e r
  one_conjunction : {Γ : List ℕ} {d : ℕ} {k : Kind} {ts r : List Token} {e : Expression} → Phrase Γ d conjunction k ts e r → Phrase Γ d disjunction k ts e r
  one_disjunction : {Γ : List ℕ} {d : ℕ} {k : Kind} {ts r : List Token} {e : Expression} → Phrase Γ d disjunction k ts e r → Phrase Γ d expression k ts e r
  applied : {Γ : List ℕ} {d : ℕ} {k : Kind} {ts m r : List Token} {f a : Expression}
      → Phrase Γ d application closed ts f m → Phrase Γ d operand k m a r → Phrase Γ d application k ts (app f a) r
  negated : {Γ : List ℕ} {d : ℕ} {k : Kind} {ts r : List Token} {e : Expression} → Phrase Γ d negation k ts e r → Phrase Γ d negation k (bang ∷ ts) (not e) r
  both : {Γ : List ℕ} {d : ℕ} {k : Kind} {ts m r : List Token} {a b : Expression}
      → Phrase Γ d conjunction closed ts a (ampersand ∷ m) → Phrase Γ d negation k m b r → Phrase Γ d conjunction k ts (and a b) r
  either : {Γ : List ℕ} {d : ℕ} {k : Kind} {ts m r : List Token} {a b : Expression}
      → Phrase Γ d disjunction closed ts a (bar ∷ m) → Phrase Γ d conjunction k m b r → Phrase Γ d disjunction k ts (or a b) r
  follows : {Γ : List ℕ} {d : ℕ} {k : Kind} {ts m r : List Token} {a b : Expression}
      → Phrase Γ d disjunction closed ts a (arrow ∷ m) → Phrase Γ d expression k m b r → Phrase Γ d expression k ts (implies a b) r

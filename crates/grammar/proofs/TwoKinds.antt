-- The grammar in two kinds gives a whole text the same readings. Assumes nothing.
use Prim.Native.Nat.{ℕ}
use mathlib.Core.Logic.{◌↔◌}
use mathlib.Core.List.{List, [], ◌∷◌}
use Rattle.grammar.specs.Expression.{Expression}
use Rattle.grammar.specs.Tokens.{Token, caret, name, opening, closing, backslash, stop, bang, ampersand, bar, arrow}
use Rattle.grammar.specs.Grammar.{Ends, of_text, of_group, Level, operand, expression, Reads}
use Rattle.grammar.specs.Grammar as grammar
use Rattle.grammar.specs.TwoKinds.{Kind, closed, reaching, Phrase, the_leaf, the_name, group, abstraction, one_operand, one_application, one_negation, one_conjunction, one_disjunction, applied, negated, both, either, follows}

-- a reaching phrase's end
abbrev EndsIf : Kind → List Token → Type 0
EndsIf closed r = Unit {0}
EndsIf reaching r = Ends r

any : (k : Kind) {r : List Token} → Ends r → EndsIf k r
any closed n = tt
any reaching n = n

to : {Γ : List ℕ} {d : ℕ} {l : Level} {k : Kind} {ts r : List Token} {e : Expression} → Phrase Γ d l k ts e r → EndsIf k r → Reads Γ d l ts e r
to the_leaf n = grammar.the_leaf
to (the_name b) n = grammar.the_name b
to (group {k = k} h) n = grammar.group (to h (any k of_group))
to (abstraction {k = k} h) n = grammar.abstraction (to h (any k n)) n
to (one_operand h) n = grammar.one_operand (to h n)
to (one_application h) n = grammar.one_application (to h n)
to (one_negation h) n = grammar.one_negation (to h n)
to (one_conjunction h) n = grammar.one_conjunction (to h n)
to (one_disjunction h) n = grammar.one_disjunction (to h n)
to (applied h g) n = grammar.applied (to h tt) (to g n)
to (negated h) n = grammar.negated (to h n)
to (both h g) n = grammar.both (to h tt) (to g n)
to (either h g) n = grammar.either (to h tt) (to g n)
to (follows h g) n = grammar.follows (to h tt) (to g n)

record Some (Γ : List ℕ) (d : ℕ) (l : Level) (ts : List Token) (e : Expression) (r : List Token) : Type 0 where
  pub kind : Kind
  pub is : Phrase Γ d l kind ts e r
  pub ends : EndsIf kind r

-- what has more after it is closed
abbrev More : List Token → Type 0
More [] = ⊥
More (caret ∷ r) = Unit {0}
More (name x ∷ r) = Unit {0}
More (opening ∷ r) = Unit {0}
More (closing ∷ r) = ⊥
More (backslash ∷ r) = Unit {0}
More (stop ∷ r) = Unit {0}
More (bang ∷ r) = Unit {0}
More (ampersand ∷ r) = Unit {0}
More (bar ∷ r) = Unit {0}
More (arrow ∷ r) = Unit {0}

more_ends : {r : List Token} → Ends r → More r → ⊥
more_ends of_text h = h
more_ends of_group h = h

closed_by : {Γ : List ℕ} {d : ℕ} {l : Level} {ts r : List Token} {e : Expression} (k : Kind) → Phrase Γ d l k ts e r → EndsIf k r → More r → Phrase Γ d l closed ts e r
closed_by closed h n m = h
closed_by reaching h n m = absurd (more_ends n m)

begins : {Γ : List ℕ} {d : ℕ} {ts r : List Token} {e : Expression} → Reads Γ d operand ts e r → More ts
begins grammar.the_leaf = tt
begins (grammar.the_name b) = tt
begins (grammar.group h) = tt
begins (grammar.abstraction h n) = tt

back : {Γ : List ℕ} {d : ℕ} {l : Level} {ts r : List Token} {e : Expression} → Reads Γ d l ts e r → Some Γ d l ts e r
back grammar.the_leaf = record { kind = closed; is = the_leaf; ends = tt }
back (grammar.the_name b) = record { kind = closed; is = the_name b; ends = tt }
back (grammar.group h) = let x = back h in record { kind = closed; is = group x.is; ends = tt }
back (grammar.abstraction h n) = let x = back h in record { kind = reaching; is = abstraction x.is; ends = n }
back (grammar.one_operand h) = let x = back h in record { kind = x.kind; is = one_operand x.is; ends = x.ends }
back (grammar.one_application h) = let x = back h in record { kind = x.kind; is = one_application x.is; ends = x.ends }
back (grammar.one_negation h) = let x = back h in record { kind = x.kind; is = one_negation x.is; ends = x.ends }
back (grammar.one_conjunction h) = let x = back h in record { kind = x.kind; is = one_conjunction x.is; ends = x.ends }
back (grammar.one_disjunction h) = let x = back h in record { kind = x.kind; is = one_disjunction x.is; ends = x.ends }
back (grammar.applied h g) =
    let x = back h in
    let y = back g in
    record { kind = y.kind; is = applied (closed_by x.kind x.is x.ends (begins g)) y.is; ends = y.ends }
back (grammar.negated h) = let x = back h in record { kind = x.kind; is = negated x.is; ends = x.ends }
back (grammar.both h g) = let x = back h in let y = back g in record { kind = y.kind; is = both (closed_by x.kind x.is x.ends tt) y.is; ends = y.ends }
back (grammar.either h g) = let x = back h in let y = back g in record { kind = y.kind; is = either (closed_by x.kind x.is x.ends tt) y.is; ends = y.ends }
back (grammar.follows h g) = let x = back h in let y = back g in record { kind = y.kind; is = follows (closed_by x.kind x.is x.ends tt) y.is; ends = y.ends }

-- a whole text has the same readings by either grammar
pub kinds_agree : (Γ : List ℕ) (d : ℕ) (ts : List Token) (e : Expression)
    → ((k : Kind) × Phrase Γ d expression k ts e []) ↔ Reads Γ d expression ts e []
kinds_agree Γ d ts e = (λ p. to p.1 (any p.0 of_text), λ h. let x = back h in (x.kind, x.is))

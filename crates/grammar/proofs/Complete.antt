-- What the grammar allows, the reader reads: so a text has at most one reading. Assumes nothing.
use Prim.Native.Nat.{ℕ}
use mathlib.Core.Path.{◌≡◌, refl, ap, ◌∙◌}
use mathlib.Core.List.{List, [], ◌∷◌}
use mathlib.Core.Option.{Option, none, some}
use borrow.Author.Tests.{eq-eqb, ne_eqb}
use Rattle.grammar.specs.Expression.{Expression, app, not, and, or, implies}
use Rattle.grammar.specs.Tokens.{Token, caret, name, opening, closing, backslash, stop, bang, ampersand, bar, arrow}
use Rattle.grammar.specs.Grammar.{Bound, nearest, farther, Ends, of_text, of_group, Level, Reads, the_leaf, the_name, group, abstraction, one_operand, applied, one_application, negated, one_negation, both, one_conjunction, either, one_disjunction, follows}
use Rattle.grammar.specs.Reader as reader
use Rattle.grammar.specs.Reader.{Read, read, Unclosed, unclosed, empty, noted, conjoined, disjoined, implied, up, lookup, variable, follow, abstracted, enclosed, body, binder, inside, operand_by, next, parse, more, operand, Starts}
use Rattle.grammar.proofs.Enough.{parse_bang, parse_operand, more_operand, more_closing, more_ampersand, more_bar, more_arrow}

-- what may follow a negation or a conjunction, a disjunction, an expression
abbrev pub AfterAnd : List Token → Type 0
AfterAnd [] = Unit {0}
AfterAnd (caret ∷ r) = ⊥
AfterAnd (name x ∷ r) = ⊥
AfterAnd (opening ∷ r) = ⊥
AfterAnd (closing ∷ r) = Unit {0}
AfterAnd (backslash ∷ r) = ⊥
AfterAnd (stop ∷ r) = ⊥
AfterAnd (bang ∷ r) = ⊥
AfterAnd (ampersand ∷ r) = Unit {0}
AfterAnd (bar ∷ r) = Unit {0}
AfterAnd (arrow ∷ r) = Unit {0}

abbrev pub AfterOr : List Token → Type 0
AfterOr [] = Unit {0}
AfterOr (caret ∷ r) = ⊥
AfterOr (name x ∷ r) = ⊥
AfterOr (opening ∷ r) = ⊥
AfterOr (closing ∷ r) = Unit {0}
AfterOr (backslash ∷ r) = ⊥
AfterOr (stop ∷ r) = ⊥
AfterOr (bang ∷ r) = ⊥
AfterOr (ampersand ∷ r) = ⊥
AfterOr (bar ∷ r) = Unit {0}
AfterOr (arrow ∷ r) = Unit {0}

abbrev pub AfterAll : List Token → Type 0
AfterAll [] = Unit {0}
AfterAll (caret ∷ r) = ⊥
AfterAll (name x ∷ r) = ⊥
AfterAll (opening ∷ r) = ⊥
AfterAll (closing ∷ r) = Unit {0}
AfterAll (backslash ∷ r) = ⊥
AfterAll (stop ∷ r) = ⊥
AfterAll (bang ∷ r) = ⊥
AfterAll (ampersand ∷ r) = ⊥
AfterAll (bar ∷ r) = ⊥
AfterAll (arrow ∷ r) = ⊥

or_and : (r : List Token) → AfterOr r → AfterAnd r
or_and [] h = tt
or_and (caret ∷ r) h = absurd h
or_and (name x ∷ r) h = absurd h
or_and (opening ∷ r) h = absurd h
or_and (closing ∷ r) h = tt
or_and (backslash ∷ r) h = absurd h
or_and (stop ∷ r) h = absurd h
or_and (bang ∷ r) h = absurd h
or_and (ampersand ∷ r) h = absurd h
or_and (bar ∷ r) h = tt
or_and (arrow ∷ r) h = tt

all_or : (r : List Token) → AfterAll r → AfterOr r
all_or [] h = tt
all_or (caret ∷ r) h = absurd h
all_or (name x ∷ r) h = absurd h
all_or (opening ∷ r) h = absurd h
all_or (closing ∷ r) h = tt
all_or (backslash ∷ r) h = absurd h
all_or (stop ∷ r) h = absurd h
all_or (bang ∷ r) h = absurd h
all_or (ampersand ∷ r) h = absurd h
all_or (bar ∷ r) h = absurd h
all_or (arrow ∷ r) h = absurd h

module _ (d : ℕ) (Γ : List ℕ) where
  pub more_not : (p : Unclosed) (e : Expression) (r : List Token) → AfterAnd r → more d Γ (noted p) e r ≡ more d Γ p (not e) r
  unfolding more next reader.negated conjoined disjoined implied
  more_not p e [] h = refl
  more_not p e (caret ∷ r) h = absurd h
  more_not p e (name x ∷ r) h = absurd h
  more_not p e (opening ∷ r) h = absurd h
  more_not p e (closing ∷ r) h = refl
  more_not p e (backslash ∷ r) h = absurd h
  more_not p e (stop ∷ r) h = absurd h
  more_not p e (bang ∷ r) h = absurd h
  more_not p e (ampersand ∷ r) h = refl
  more_not p e (bar ∷ r) h = refl
  more_not p e (arrow ∷ r) h = refl

  pub more_and : (js : List Expression) (o : Option Expression) (a b : Expression) (r : List Token) → AfterAnd r → more d Γ (unclosed js o (some a) 0) b r ≡ more d Γ (unclosed js o none 0) (and a b) r
  unfolding more next reader.negated conjoined disjoined implied
  more_and js o a b [] h = refl
  more_and js o a b (caret ∷ r) h = absurd h
  more_and js o a b (name x ∷ r) h = absurd h
  more_and js o a b (opening ∷ r) h = absurd h
  more_and js o a b (closing ∷ r) h = refl
  more_and js o a b (backslash ∷ r) h = absurd h
  more_and js o a b (stop ∷ r) h = absurd h
  more_and js o a b (bang ∷ r) h = absurd h
  more_and js o a b (ampersand ∷ r) h = refl
  more_and js o a b (bar ∷ r) h = refl
  more_and js o a b (arrow ∷ r) h = refl

  pub more_or : (js : List Expression) (a b : Expression) (r : List Token) → AfterOr r → more d Γ (unclosed js (some a) none 0) b r ≡ more d Γ (unclosed js none none 0) (or a b) r
  unfolding more next reader.negated conjoined disjoined implied
  more_or js a b [] h = refl
  more_or js a b (caret ∷ r) h = absurd h
  more_or js a b (name x ∷ r) h = absurd h
  more_or js a b (opening ∷ r) h = absurd h
  more_or js a b (closing ∷ r) h = refl
  more_or js a b (backslash ∷ r) h = absurd h
  more_or js a b (stop ∷ r) h = absurd h
  more_or js a b (bang ∷ r) h = absurd h
  more_or js a b (ampersand ∷ r) h = absurd h
  more_or js a b (bar ∷ r) h = refl
  more_or js a b (arrow ∷ r) h = refl

  pub more_implies : (js : List Expression) (a b : Expression) (r : List Token) → AfterAll r → more d Γ (unclosed (a ∷ js) none none 0) b r ≡ more d Γ (unclosed js none none 0) (implies a b) r
  unfolding more next reader.negated conjoined disjoined implied
  more_implies js a b [] h = refl
  more_implies js a b (caret ∷ r) h = absurd h
  more_implies js a b (name x ∷ r) h = absurd h
  more_implies js a b (opening ∷ r) h = absurd h
  more_implies js a b (closing ∷ r) h = refl
  more_implies js a b (backslash ∷ r) h = absurd h
  more_implies js a b (stop ∷ r) h = absurd h
  more_implies js a b (bang ∷ r) h = absurd h
  more_implies js a b (ampersand ∷ r) h = absurd h
  more_implies js a b (bar ∷ r) h = absurd h
  more_implies js a b (arrow ∷ r) h = absurd h

lookup_bound : {Γ : List ℕ} {x i : ℕ} → Bound Γ x i → lookup Γ x ≡ some i
unfolding lookup up
lookup_bound (nearest {x = x}) = rw (eq-eqb x x refl)
lookup_bound (farther {x = x} {y = y} n b) = rw (ne_eqb x y n, lookup_bound b)

pub ends_more : (d : ℕ) (Γ : List ℕ) (b : Expression) {r : List Token} → Ends r → more d Γ empty b r ≡ read b r
unfolding more next reader.negated conjoined disjoined implied
ends_more d Γ b of_text = refl
ends_more d Γ b of_group = refl

ends_all : {r : List Token} → Ends r → AfterAll r
ends_all of_text = tt
ends_all of_group = tt

-- what the reader makes of a phrase, whatever waits for it
abbrev Says : Level → ℕ → List ℕ → List Token → Expression → List Token → Type 0
Says Level.operand d Γ ts e r = (operand d Γ ts ≡ read e r) × Starts ts
Says Level.application d Γ ts e r = (p : Unclosed) → parse d Γ p ts ≡ more d Γ p e r
Says Level.negation d Γ ts e r = (p : Unclosed) → AfterAnd r → parse d Γ p ts ≡ more d Γ p e r
Says Level.conjunction d Γ ts e r =
    (js : List Expression) (o : Option Expression) → AfterAnd r → parse d Γ (unclosed js o none 0) ts ≡ more d Γ (unclosed js o none 0) e r
Says Level.disjunction d Γ ts e r = (js : List Expression) → AfterOr r → parse d Γ (unclosed js none none 0) ts ≡ more d Γ (unclosed js none none 0) e r
Says Level.expression d Γ ts e r = (js : List Expression) → AfterAll r → parse d Γ (unclosed js none none 0) ts ≡ more d Γ (unclosed js none none 0) e r

says : {Γ : List ℕ} {d : ℕ} {l : Level} {ts r : List Token} {e : Expression} → Reads Γ d l ts e r → Says l d Γ ts e r
unfolding operand operand_by variable inside binder body follow abstracted enclosed reader.negated conjoined disjoined implied
says the_leaf = (refl, tt)
says (the_name {r = r} b) = (ap (λ (o : Option ℕ). variable o r) (lookup_bound b), tt)
says (group {Γ = Γ} {d = d} {ts = ts} {r = r} {e = e} h) = (ap (λ (x : Read). follow x enclosed) (says h [] tt ∙ more_closing d Γ empty e r), tt)
says (abstraction {Γ = Γ} {d = d} {x = x} {b = b} h n) = (ap abstracted (says h [] (ends_all n) ∙ ends_more d (x ∷ Γ) b n), tt)
says (one_operand {Γ = Γ} {d = d} {ts = ts} {r = r} {e = e} h) = λ p.
    parse_operand d Γ p ts (says h).1 ∙ ap (λ (x : Read). follow x (λ a s. more d Γ p a s)) (says h).0
says (applied {Γ = Γ} {d = d} {ts = ts} {m = m} {r = r} {f = f} {a = a} h g) = λ p.
    says h p ∙ more_operand d Γ p f m (says g).1 ∙ ap (λ (x : Read). follow x (λ c s. more d Γ p (app f c) s)) (says g).0
says (one_application h) = λ p q. says h p
says (negated {Γ = Γ} {d = d} {ts = ts} {r = r} {e = e} h) = λ p q. parse_bang d Γ p ts ∙ says h (noted p) q ∙ more_not d Γ p e r q
says (one_negation h) = λ js o q. says h (unclosed js o none 0) q
says (both {Γ = Γ} {d = d} {m = m} {r = r} {a = a} {b = b} h g) = λ js o q.
    says h js o tt ∙ more_ampersand d Γ (unclosed js o none 0) a m ∙ says g (unclosed js o (some a) 0) q ∙ more_and d Γ js o a b r q
says (one_conjunction {r = r} h) = λ js q. says h js none (or_and r q)
says (either {Γ = Γ} {d = d} {m = m} {r = r} {a = a} {b = b} h g) = λ js q.
    says h js tt ∙ more_bar d Γ (unclosed js none none 0) a m ∙ says g js (some a) (or_and r q) ∙ more_or d Γ js a b r q
says (one_disjunction {r = r} h) = λ js q. says h js (all_or r q)
says (follows {Γ = Γ} {d = d} {m = m} {r = r} {a = a} {b = b} h g) = λ js q.
    says h js tt ∙ more_arrow d Γ (unclosed js none none 0) a m ∙ says g (a ∷ js) q ∙ more_implies d Γ js a b r q

-- a whole text that the grammar allows is read
pub complete : {Γ : List ℕ} {d : ℕ} {ts r : List Token} {e : Expression} → Reads Γ d Level.expression ts e r → Ends r → parse d Γ empty ts ≡ read e r
complete {Γ} {d} {e = e} h n = says h [] (ends_all n) ∙ ends_more d Γ e n

-- "Every text has at most one reading"
pub unique : {Γ : List ℕ} {d : ℕ} {ts : List Token} {e f : Expression}
    → Reads Γ d Level.expression ts e [] → Reads Γ d Level.expression ts f [] → e ≡ f
unique h g = let x = complete h of_text in let y = complete g of_text in cc

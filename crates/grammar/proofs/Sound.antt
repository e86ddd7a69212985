-- What the reader reads, the grammar allows. Assumes nothing.
use Prim.Native.Nat.{ℕ, zero, suc}
use mathlib.Core.Path.{◌≡◌, refl}
use mathlib.Core.Logic.{◌↔◌}
use mathlib.Core.Bool.{Bool, true, false, cond}
use mathlib.Core.List.{List, [], ◌∷◌}
use mathlib.Core.Option.{Option, none, some}
use lib.ListN.{length}
use lib.Dec.{eqb}
use borrow.Author.Tests.{eqb-true, eqb-false}
use Rattle.grammar.specs.Expression.{Expression, app}
use Rattle.grammar.specs.Tokens.{Token, caret, name, opening, closing, backslash, stop, bang, ampersand, bar, arrow}
use Rattle.grammar.specs.Grammar.{Bound, nearest, farther, Ends, of_text, of_group, Level, Reads, the_leaf, the_name, group, abstraction, one_operand, applied, one_application, negated, one_negation, both, one_conjunction, either, one_disjunction, follows}
use Rattle.grammar.specs.Reader as reader
use Rattle.grammar.specs.Reader.{Read, nothing, read, Unclosed, empty, noted, conjunct, disjunct, closed, after_and, after_or, after_implies, conjoined, disjoined, implied, up, lookup, variable, follow, abstracted, enclosed, body, binder, inside, operand_by, start, next, parse, operand}
use Rattle.grammar.proofs.Complete.{complete}

-- what waits was read from ts up to where the second list begins
data Noted : ℕ → List Token → List Token → Type 0 where
  no_bang : {ts : List Token} → Noted 0 ts ts
  a_bang : {k : ℕ} {ts m : List Token} → Noted k ts (bang ∷ m) → Noted (suc k) ts m

data Anded (Γ : List ℕ) (d : ℕ) : Option Expression → List Token → List Token → Type 0 where
  no_and : {ts : List Token} → Anded Γ d none ts ts
  an_and : {ts m : List Token} {a : Expression} → Reads Γ d Level.conjunction ts a (ampersand ∷ m) → Anded Γ d (some a) ts m

data Ored (Γ : List ℕ) (d : ℕ) : Option Expression → List Token → List Token → Type 0 where
  no_or : {ts : List Token} → Ored Γ d none ts ts
  an_or : {ts m : List Token} {a : Expression} → Reads Γ d Level.disjunction ts a (bar ∷ m) → Ored Γ d (some a) ts m

data Implied (Γ : List ℕ) (d : ℕ) : List Expression → List Token → List Token → Type 0 where
  no_arrow : {ts : List Token} → Implied Γ d [] ts ts
  an_arrow : {js : List Expression} {ts m s : List Token} {a : Expression}
      → Implied Γ d js ts m → Reads Γ d Level.disjunction m a (arrow ∷ s) → Implied Γ d (a ∷ js) ts s

record Waits (Γ : List ℕ) (d : ℕ) (p : Unclosed) (ts m : List Token) : Type 0 where
  pub at_or : List Token
  pub at_and : List Token
  pub at_not : List Token
  pub implied : Implied Γ d p.implies ts at_or
  pub ored : Ored Γ d p.or at_or at_and
  pub anded : Anded Γ d p.and at_and at_not
  pub noted : Noted p.nots at_not m

nothing_waits : (Γ : List ℕ) (d : ℕ) (ts : List Token) → Waits Γ d empty ts ts
nothing_waits Γ d ts = record { at_or = ts; at_and = ts; at_not = ts; implied = no_arrow; ored = no_or; anded = no_and; noted = no_bang }

module _ {Γ : List ℕ} {d : ℕ} where
  noted_reads : {k : ℕ} {ts m r : List Token} {e : Expression} → Noted k ts m → Reads Γ d Level.negation m e r
      → Reads Γ d Level.negation ts (reader.negated k e) r
  unfolding reader.negated
  noted_reads no_bang h = h
  noted_reads (a_bang n) h = noted_reads n (negated h)

  anded_reads : {o : Option Expression} {ts m r : List Token} {e : Expression} → Anded Γ d o ts m → Reads Γ d Level.negation m e r
      → Reads Γ d Level.conjunction ts (conjoined o e) r
  unfolding conjoined
  anded_reads no_and h = one_negation h
  anded_reads (an_and a) h = both a h

  ored_reads : {o : Option Expression} {ts m r : List Token} {e : Expression} → Ored Γ d o ts m → Reads Γ d Level.conjunction m e r
      → Reads Γ d Level.disjunction ts (disjoined o e) r
  unfolding disjoined
  ored_reads no_or h = one_conjunction h
  ored_reads (an_or a) h = either a h

  implied_reads : {js : List Expression} {ts m r : List Token} {e : Expression} → Implied Γ d js ts m → Reads Γ d Level.expression m e r
      → Reads Γ d Level.expression ts (implied js e) r
  unfolding implied
  implied_reads no_arrow h = h
  implied_reads (an_arrow i a) h = implied_reads i (follows a h)

module _ (Γ : List ℕ) (d : ℕ) (p : Unclosed) {ts m r : List Token} {e : Expression} (q : Waits Γ d p ts m) (h : Reads Γ d Level.application m e r) where
  conjunct_reads : Reads Γ d Level.conjunction q.at_and (conjunct p e) r
  conjunct_reads = anded_reads q.anded (noted_reads q.noted (one_application h))

  disjunct_reads : Reads Γ d Level.disjunction q.at_or (disjunct p e) r
  disjunct_reads = ored_reads q.ored conjunct_reads

  closed_reads : Reads Γ d Level.expression ts (closed p e) r
  closed_reads = implied_reads q.implied (one_disjunction disjunct_reads)

-- what is read is so by the grammar
abbrev Good : List ℕ → ℕ → List Token → Read → Type 0
Good Γ d ts nothing = Unit {0}
Good Γ d ts (read e r) = Reads Γ d Level.expression ts e r × Ends r

abbrev GoodOperand : List ℕ → ℕ → List Token → Read → Type 0
GoodOperand Γ d ts nothing = Unit {0}
GoodOperand Γ d ts (read e r) = Reads Γ d Level.operand ts e r

good_follow : (Γ : List ℕ) (d : ℕ) (ts m : List Token) (x : Read) (k : Expression → List Token → Read) → GoodOperand Γ d m x
    → ((a : Expression) (r : List Token) → Reads Γ d Level.operand m a r → Good Γ d ts (k a r)) → Good Γ d ts (follow x k)
unfolding follow
good_follow Γ d ts m nothing k g h = tt
good_follow Γ d ts m (read a r) k g h = h a r g

good_enclosed : (Γ : List ℕ) (d : ℕ) (ts : List Token) (e : Expression) (r : List Token) → Reads Γ d Level.expression ts e r
    → GoodOperand Γ (suc d) (opening ∷ ts) (enclosed e r)
unfolding enclosed
good_enclosed Γ d ts e [] h = tt
good_enclosed Γ d ts e (caret ∷ r) h = tt
good_enclosed Γ d ts e (name x ∷ r) h = tt
good_enclosed Γ d ts e (opening ∷ r) h = tt
good_enclosed Γ d ts e (closing ∷ r) h = group h
good_enclosed Γ d ts e (backslash ∷ r) h = tt
good_enclosed Γ d ts e (stop ∷ r) h = tt
good_enclosed Γ d ts e (bang ∷ r) h = tt
good_enclosed Γ d ts e (ampersand ∷ r) h = tt
good_enclosed Γ d ts e (bar ∷ r) h = tt
good_enclosed Γ d ts e (arrow ∷ r) h = tt

good_inside : (Γ : List ℕ) (f : ℕ → List Token → Read) → ((k : ℕ) (s : List Token) → Good Γ k s (f k s)) → (d : ℕ) (ts : List Token)
    → GoodOperand Γ d (opening ∷ ts) (inside f d ts)
unfolding inside follow
good_inside Γ f h zero ts = tt
good_inside Γ f h (suc d) ts = go (f d ts) (h d ts)
  where
    go : (x : Read) → Good Γ d ts x → GoodOperand Γ (suc d) (opening ∷ ts) (follow x enclosed)
    go nothing g = tt
    go (read e r) g = good_enclosed Γ d ts e r g.0

good_abstracted : (Γ : List ℕ) (d x : ℕ) (ts : List Token) (b : Read) → Good (x ∷ Γ) d ts b
    → GoodOperand Γ d (backslash ∷ (name x ∷ (stop ∷ ts))) (abstracted b)
unfolding abstracted
good_abstracted Γ d x ts nothing g = tt
good_abstracted Γ d x ts (read e r) g = abstraction g.0 g.1

good_body : (Γ : List ℕ) (d x : ℕ) (f : List Token → Read) → ((s : List Token) → Good (x ∷ Γ) d s (f s)) → (ts : List Token)
    → GoodOperand Γ d (backslash ∷ (name x ∷ ts)) (body f ts)
unfolding body
good_body Γ d x f h [] = tt
good_body Γ d x f h (caret ∷ r) = tt
good_body Γ d x f h (name y ∷ r) = tt
good_body Γ d x f h (opening ∷ r) = tt
good_body Γ d x f h (closing ∷ r) = tt
good_body Γ d x f h (backslash ∷ r) = tt
good_body Γ d x f h (stop ∷ r) = good_abstracted Γ d x r (f r) (h r)
good_body Γ d x f h (bang ∷ r) = tt
good_body Γ d x f h (ampersand ∷ r) = tt
good_body Γ d x f h (bar ∷ r) = tt
good_body Γ d x f h (arrow ∷ r) = tt

good_binder : (Γ : List ℕ) (d : ℕ) (f : ℕ → List Token → Read) → ((x : ℕ) (s : List Token) → Good (x ∷ Γ) d s (f x s)) → (ts : List Token)
    → GoodOperand Γ d (backslash ∷ ts) (binder f ts)
unfolding binder
good_binder Γ d f h [] = tt
good_binder Γ d f h (caret ∷ r) = tt
good_binder Γ d f h (name x ∷ r) = good_body Γ d x (f x) (h x) r
good_binder Γ d f h (opening ∷ r) = tt
good_binder Γ d f h (closing ∷ r) = tt
good_binder Γ d f h (backslash ∷ r) = tt
good_binder Γ d f h (stop ∷ r) = tt
good_binder Γ d f h (bang ∷ r) = tt
good_binder Γ d f h (ampersand ∷ r) = tt
good_binder Γ d f h (bar ∷ r) = tt
good_binder Γ d f h (arrow ∷ r) = tt

-- what is found is where the name is bound
abbrev Finds : List ℕ → ℕ → Option ℕ → Type 0
Finds Γ x none = Unit {0}
Finds Γ x (some i) = Bound Γ x i

finds_up : (Γ : List ℕ) (x y : ℕ) (o : Option ℕ) → (x ≡ y → ⊥) → Finds Γ x o → Finds (y ∷ Γ) x (up o)
unfolding up
finds_up Γ x y none n h = tt
finds_up Γ x y (some i) n h = farther n h

finds : (Γ : List ℕ) (x : ℕ) → Finds Γ x (lookup Γ x)
unfolding lookup
finds [] x = tt
finds (y ∷ Γ) x = go (finds Γ x) (eqb x y) refl
  where
    go : Finds Γ x (lookup Γ x) → (z : Bool) → eqb x y ≡ z → Finds (y ∷ Γ) x (cond z (some 0) (up (lookup Γ x)))
    go h true e = rw (eqb-true x y e) nearest
    go h false e = finds_up Γ x y (lookup Γ x) (eqb-false x y e) h

good_variable : (Γ : List ℕ) (d x : ℕ) (o : Option ℕ) (r : List Token) → Finds Γ x o → GoodOperand Γ d (name x ∷ r) (variable o r)
unfolding variable
good_variable Γ d x none r h = tt
good_variable Γ d x (some i) r h = the_name h

good_operand : (f : ℕ → List ℕ → List Token → Read) → ((k : ℕ) (Δ : List ℕ) (s : List Token) → Good Δ k s (f k Δ s))
    → (d : ℕ) (Γ : List ℕ) (ts : List Token) → GoodOperand Γ d ts (operand_by f d Γ ts)
unfolding operand_by
good_operand f h d Γ [] = tt
good_operand f h d Γ (caret ∷ r) = the_leaf
good_operand f h d Γ (name x ∷ r) = good_variable Γ d x (lookup Γ x) r (finds Γ x)
good_operand f h d Γ (opening ∷ r) = good_inside Γ (λ k. f k Γ) (λ k. h k Γ) d r
good_operand f h d Γ (closing ∷ r) = tt
good_operand f h d Γ (backslash ∷ r) = good_binder Γ d (λ x. f d (x ∷ Γ)) (λ x. h d (x ∷ Γ)) r
good_operand f h d Γ (stop ∷ r) = tt
good_operand f h d Γ (bang ∷ r) = tt
good_operand f h d Γ (ampersand ∷ r) = tt
good_operand f h d Γ (bar ∷ r) = tt
good_operand f h d Γ (arrow ∷ r) = tt

mutual
  unfolding start next

  good_start : (n d : ℕ) (Γ : List ℕ) (p : Unclosed) (m ts : List Token) → Waits Γ d p ts m → Good Γ d ts (start n d Γ p m)
  good_start zero d Γ p m ts q = tt
  good_start (suc n) d Γ p [] ts q = tt
  good_start (suc n) d Γ p (caret ∷ r) ts q = good_follow Γ d ts (caret ∷ r) (operand_by (λ k Δ s. start n k Δ empty s) d Γ (caret ∷ r)) (λ a s. next n d Γ p a s) (good_operand (λ k Δ s. start n k Δ empty s) (λ k Δ s. good_start n k Δ empty s s (nothing_waits Δ k s)) d Γ (caret ∷ r)) (λ a s g. good_next n d Γ p a s ts (caret ∷ r) q (one_operand g))
  good_start (suc n) d Γ p (name x ∷ r) ts q = good_follow Γ d ts (name x ∷ r) (operand_by (λ k Δ s. start n k Δ empty s) d Γ (name x ∷ r)) (λ a s. next n d Γ p a s) (good_operand (λ k Δ s. start n k Δ empty s) (λ k Δ s. good_start n k Δ empty s s (nothing_waits Δ k s)) d Γ (name x ∷ r)) (λ a s g. good_next n d Γ p a s ts (name x ∷ r) q (one_operand g))
  good_start (suc n) d Γ p (opening ∷ r) ts q = good_follow Γ d ts (opening ∷ r) (operand_by (λ k Δ s. start n k Δ empty s) d Γ (opening ∷ r)) (λ a s. next n d Γ p a s) (good_operand (λ k Δ s. start n k Δ empty s) (λ k Δ s. good_start n k Δ empty s s (nothing_waits Δ k s)) d Γ (opening ∷ r)) (λ a s g. good_next n d Γ p a s ts (opening ∷ r) q (one_operand g))
  good_start (suc n) d Γ p (closing ∷ r) ts q = tt
  good_start (suc n) d Γ p (backslash ∷ r) ts q = good_follow Γ d ts (backslash ∷ r) (operand_by (λ k Δ s. start n k Δ empty s) d Γ (backslash ∷ r)) (λ a s. next n d Γ p a s) (good_operand (λ k Δ s. start n k Δ empty s) (λ k Δ s. good_start n k Δ empty s s (nothing_waits Δ k s)) d Γ (backslash ∷ r)) (λ a s g. good_next n d Γ p a s ts (backslash ∷ r) q (one_operand g))
  good_start (suc n) d Γ p (stop ∷ r) ts q = tt
  good_start (suc n) d Γ p (bang ∷ r) ts q = good_start n d Γ (noted p) r ts (record { at_or = q.at_or; at_and = q.at_and; at_not = q.at_not; implied = q.implied; ored = q.ored; anded = q.anded; noted = a_bang q.noted })
  good_start (suc n) d Γ p (ampersand ∷ r) ts q = tt
  good_start (suc n) d Γ p (bar ∷ r) ts q = tt
  good_start (suc n) d Γ p (arrow ∷ r) ts q = tt

  good_next : (n d : ℕ) (Γ : List ℕ) (p : Unclosed) (e : Expression) (r ts m : List Token) → Waits Γ d p ts m → Reads Γ d Level.application m e r
      → Good Γ d ts (next n d Γ p e r)
  good_next zero d Γ p e r ts m q h = tt
  good_next (suc n) d Γ p e [] ts m q h = (closed_reads Γ d p q h, of_text)
  good_next (suc n) d Γ p e (caret ∷ r) ts m q h = good_follow Γ d ts (caret ∷ r) (operand_by (λ k Δ s. start n k Δ empty s) d Γ (caret ∷ r)) (λ a s. next n d Γ p (app e a) s) (good_operand (λ k Δ s. start n k Δ empty s) (λ k Δ s. good_start n k Δ empty s s (nothing_waits Δ k s)) d Γ (caret ∷ r)) (λ a s g. good_next n d Γ p (app e a) s ts m q (applied h g))
  good_next (suc n) d Γ p e (name x ∷ r) ts m q h = good_follow Γ d ts (name x ∷ r) (operand_by (λ k Δ s. start n k Δ empty s) d Γ (name x ∷ r)) (λ a s. next n d Γ p (app e a) s) (good_operand (λ k Δ s. start n k Δ empty s) (λ k Δ s. good_start n k Δ empty s s (nothing_waits Δ k s)) d Γ (name x ∷ r)) (λ a s g. good_next n d Γ p (app e a) s ts m q (applied h g))
  good_next (suc n) d Γ p e (opening ∷ r) ts m q h = good_follow Γ d ts (opening ∷ r) (operand_by (λ k Δ s. start n k Δ empty s) d Γ (opening ∷ r)) (λ a s. next n d Γ p (app e a) s) (good_operand (λ k Δ s. start n k Δ empty s) (λ k Δ s. good_start n k Δ empty s s (nothing_waits Δ k s)) d Γ (opening ∷ r)) (λ a s g. good_next n d Γ p (app e a) s ts m q (applied h g))
  good_next (suc n) d Γ p e (closing ∷ r) ts m q h = (closed_reads Γ d p q h, of_group)
  good_next (suc n) d Γ p e (backslash ∷ r) ts m q h = good_follow Γ d ts (backslash ∷ r) (operand_by (λ k Δ s. start n k Δ empty s) d Γ (backslash ∷ r)) (λ a s. next n d Γ p (app e a) s) (good_operand (λ k Δ s. start n k Δ empty s) (λ k Δ s. good_start n k Δ empty s s (nothing_waits Δ k s)) d Γ (backslash ∷ r)) (λ a s g. good_next n d Γ p (app e a) s ts m q (applied h g))
  good_next (suc n) d Γ p e (stop ∷ r) ts m q h = tt
  good_next (suc n) d Γ p e (bang ∷ r) ts m q h = tt
  good_next (suc n) d Γ p e (ampersand ∷ r) ts m q h = good_start n d Γ (after_and p e) r ts (record { at_or = q.at_or; at_and = q.at_and; at_not = r; implied = q.implied; ored = q.ored; anded = an_and (conjunct_reads Γ d p q h); noted = no_bang })
  good_next (suc n) d Γ p e (bar ∷ r) ts m q h = good_start n d Γ (after_or p e) r ts (record { at_or = q.at_or; at_and = r; at_not = r; implied = q.implied; ored = an_or (disjunct_reads Γ d p q h); anded = no_and; noted = no_bang })
  good_next (suc n) d Γ p e (arrow ∷ r) ts m q h = good_start n d Γ (after_implies p e) r ts (record { at_or = r; at_and = r; at_not = r; implied = an_arrow q.implied (disjunct_reads Γ d p q h); ored = no_or; anded = no_and; noted = no_bang })

-- what is read is what the grammar allows
pub sound : (d : ℕ) (Γ : List ℕ) (ts : List Token) (e : Expression) (r : List Token) → parse d Γ empty ts ≡ read e r
    → Reads Γ d Level.expression ts e r × Ends r
unfolding parse
sound d Γ ts e r h = rw h at (good_start (suc (length ts)) d Γ empty ts ts (nothing_waits Γ d ts))

pub sound_operand : (d : ℕ) (Γ : List ℕ) (ts : List Token) (e : Expression) (r : List Token) → operand d Γ ts ≡ read e r
    → Reads Γ d Level.operand ts e r
unfolding operand parse
sound_operand d Γ ts e r h = rw h at (good_operand (λ k Δ. parse k Δ empty) (λ k Δ s. good_start (suc (length s)) k Δ empty s s (nothing_waits Δ k s)) d Γ ts)

-- the reader accepts exactly what the grammar allows
pub exact : (d : ℕ) (Γ : List ℕ) (ts : List Token) (e : Expression) → (parse d Γ empty ts ≡ read e []) ↔ Reads Γ d Level.expression ts e []
exact d Γ ts e = (λ h. (sound d Γ ts e [] h).0, λ h. complete h of_text)

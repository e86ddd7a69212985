-- The reader's recursion has enough, and its equations without a bound. Assumes nothing.
use Prim.Native.Nat.{ℕ, zero, suc, ◌≤◌, ◌<◌}
use mathlib.Core.Path.{◌≡◌, refl, ap}
use mathlib.Core.List.{List, [], ◌∷◌}
use mathlib.Core.Option.{Option, none, some}
use native.Mathlib.Omega.{arith}
use lib.ListN.{length}
use Rattle.grammar.specs.Expression.{Expression, app}
use Rattle.grammar.specs.Tokens.{Token, caret, name, opening, closing, backslash, stop, bang, ampersand, bar, arrow}
use Rattle.grammar.specs.Reader.{Read, nothing, read, Unclosed, empty, noted, after_and, after_or, after_implies, closed, lookup, variable, follow, abstracted, enclosed, body, binder, inside, operand_by, start, next, parse, more, operand, Starts}

-- fewer than n tokens are left
abbrev Short : ℕ → Read → Type 0
Short n nothing = Unit {0}
Short n (read e r) = length r < n

longer : (m n : ℕ) (x : Read) → m ≤ n → Short m x → Short n x
longer m n nothing h s = tt
longer m n (read e r) h s = omega arith

follow_short : (m n : ℕ) (x : Read) (k : Expression → List Token → Read) → Short m x
    → ((e : Expression) (r : List Token) → length r < m → Short n (k e r)) → Short n (follow x k)
unfolding follow
follow_short m n nothing k s h = tt
follow_short m n (read e r) k s h = h e r s

enclosed_short : (e : Expression) (r : List Token) → Short (length r) (enclosed e r)
unfolding enclosed
enclosed_short e [] = tt
enclosed_short e (caret ∷ r) = tt
enclosed_short e (name x ∷ r) = tt
enclosed_short e (opening ∷ r) = tt
enclosed_short e (closing ∷ r) = omega arith
enclosed_short e (backslash ∷ r) = tt
enclosed_short e (stop ∷ r) = tt
enclosed_short e (bang ∷ r) = tt
enclosed_short e (ampersand ∷ r) = tt
enclosed_short e (bar ∷ r) = tt
enclosed_short e (arrow ∷ r) = tt

abstracted_short : (n : ℕ) (x : Read) → Short n x → Short n (abstracted x)
unfolding abstracted
abstracted_short n nothing s = tt
abstracted_short n (read e r) s = s

body_short : (f : List Token → Read) → ((ts : List Token) → Short (length ts) (f ts)) → (ts : List Token) → Short (length ts) (body f ts)
unfolding body
body_short f h [] = tt
body_short f h (caret ∷ r) = tt
body_short f h (name x ∷ r) = tt
body_short f h (opening ∷ r) = tt
body_short f h (closing ∷ r) = tt
body_short f h (backslash ∷ r) = tt
body_short f h (stop ∷ r) = abstracted_short _ (f r) (longer _ _ (f r) (omega arith) (h r))
body_short f h (bang ∷ r) = tt
body_short f h (ampersand ∷ r) = tt
body_short f h (bar ∷ r) = tt
body_short f h (arrow ∷ r) = tt

binder_short : (f : ℕ → List Token → Read) → ((x : ℕ) (ts : List Token) → Short (length ts) (f x ts)) → (ts : List Token) → Short (length ts) (binder f ts)
unfolding binder
binder_short f h [] = tt
binder_short f h (caret ∷ r) = tt
binder_short f h (name x ∷ r) = longer _ _ (body (f x) r) (omega arith) (body_short (f x) (h x) r)
binder_short f h (opening ∷ r) = tt
binder_short f h (closing ∷ r) = tt
binder_short f h (backslash ∷ r) = tt
binder_short f h (stop ∷ r) = tt
binder_short f h (bang ∷ r) = tt
binder_short f h (ampersand ∷ r) = tt
binder_short f h (bar ∷ r) = tt
binder_short f h (arrow ∷ r) = tt

inside_short : (f : ℕ → List Token → Read) → ((x : ℕ) (ts : List Token) → Short (length ts) (f x ts)) → (d : ℕ) (ts : List Token) → Short (length ts) (inside f d ts)
unfolding inside
inside_short f h zero ts = tt
inside_short f h (suc d) ts = follow_short (length ts) (length ts) (f d ts) enclosed (h d ts) (λ e r l. longer _ _ (enclosed e r) (omega arith) (enclosed_short e r))

variable_short : (o : Option ℕ) (r : List Token) (n : ℕ) → length r < n → Short n (variable o r)
unfolding variable
variable_short none r n h = tt
variable_short (some i) r n h = h

operand_short : (f : ℕ → List ℕ → List Token → Read) → ((k : ℕ) (Δ : List ℕ) (ts : List Token) → Short (length ts) (f k Δ ts))
    → (d : ℕ) (Γ : List ℕ) (ts : List Token) → Short (length ts) (operand_by f d Γ ts)
unfolding operand_by
operand_short f h d Γ [] = tt
operand_short f h d Γ (caret ∷ r) = omega arith
operand_short f h d Γ (name x ∷ r) = variable_short (lookup Γ x) r _ (omega arith)
operand_short f h d Γ (opening ∷ r) = longer _ _ (inside (λ k. f k Γ) d r) (omega arith) (inside_short (λ k. f k Γ) (λ k. h k Γ) d r)
operand_short f h d Γ (closing ∷ r) = tt
operand_short f h d Γ (backslash ∷ r) = longer _ _ (binder (λ x. f d (x ∷ Γ)) r) (omega arith) (binder_short (λ x. f d (x ∷ Γ)) (λ x. h d (x ∷ Γ)) r)
operand_short f h d Γ (stop ∷ r) = tt
operand_short f h d Γ (bang ∷ r) = tt
operand_short f h d Γ (ampersand ∷ r) = tt
operand_short f h d Γ (bar ∷ r) = tt
operand_short f h d Γ (arrow ∷ r) = tt

mutual
  unfolding start next

  start_short : (n d : ℕ) (Γ : List ℕ) (p : Unclosed) (ts : List Token) → Short (length ts) (start n d Γ p ts)
  start_short zero d Γ p ts = tt
  start_short (suc n) d Γ p [] = tt
  start_short (suc n) d Γ p (caret ∷ r) = follow_short (suc (length r)) (suc (length r)) (operand_by (λ k Δ s. start n k Δ empty s) d Γ (caret ∷ r)) (λ a s. next n d Γ p a s) (operand_short (λ k Δ s. start n k Δ empty s) (λ k Δ s. start_short n k Δ empty s) d Γ (caret ∷ r)) (λ a s l. longer _ _ (next n d Γ p a s) (omega arith) (next_short n d Γ p a s))
  start_short (suc n) d Γ p (name x ∷ r) = follow_short (suc (length r)) (suc (length r)) (operand_by (λ k Δ s. start n k Δ empty s) d Γ (name x ∷ r)) (λ a s. next n d Γ p a s) (operand_short (λ k Δ s. start n k Δ empty s) (λ k Δ s. start_short n k Δ empty s) d Γ (name x ∷ r)) (λ a s l. longer _ _ (next n d Γ p a s) (omega arith) (next_short n d Γ p a s))
  start_short (suc n) d Γ p (opening ∷ r) = follow_short (suc (length r)) (suc (length r)) (operand_by (λ k Δ s. start n k Δ empty s) d Γ (opening ∷ r)) (λ a s. next n d Γ p a s) (operand_short (λ k Δ s. start n k Δ empty s) (λ k Δ s. start_short n k Δ empty s) d Γ (opening ∷ r)) (λ a s l. longer _ _ (next n d Γ p a s) (omega arith) (next_short n d Γ p a s))
  start_short (suc n) d Γ p (closing ∷ r) = tt
  start_short (suc n) d Γ p (backslash ∷ r) = follow_short (suc (length r)) (suc (length r)) (operand_by (λ k Δ s. start n k Δ empty s) d Γ (backslash ∷ r)) (λ a s. next n d Γ p a s) (operand_short (λ k Δ s. start n k Δ empty s) (λ k Δ s. start_short n k Δ empty s) d Γ (backslash ∷ r)) (λ a s l. longer _ _ (next n d Γ p a s) (omega arith) (next_short n d Γ p a s))
  start_short (suc n) d Γ p (stop ∷ r) = tt
  start_short (suc n) d Γ p (bang ∷ r) = longer _ _ (start n d Γ (noted p) r) (omega arith) (start_short n d Γ (noted p) r)
  start_short (suc n) d Γ p (ampersand ∷ r) = tt
  start_short (suc n) d Γ p (bar ∷ r) = tt
  start_short (suc n) d Γ p (arrow ∷ r) = tt

  next_short : (n d : ℕ) (Γ : List ℕ) (p : Unclosed) (e : Expression) (ts : List Token) → Short (suc (length ts)) (next n d Γ p e ts)
  next_short zero d Γ p e ts = tt
  next_short (suc n) d Γ p e [] = omega arith
  next_short (suc n) d Γ p e (caret ∷ r) = follow_short (suc (length r)) (suc (suc (length r))) (operand_by (λ k Δ s. start n k Δ empty s) d Γ (caret ∷ r)) (λ a s. next n d Γ p (app e a) s) (operand_short (λ k Δ s. start n k Δ empty s) (λ k Δ s. start_short n k Δ empty s) d Γ (caret ∷ r)) (λ a s l. longer _ _ (next n d Γ p (app e a) s) (omega arith) (next_short n d Γ p (app e a) s))
  next_short (suc n) d Γ p e (name x ∷ r) = follow_short (suc (length r)) (suc (suc (length r))) (operand_by (λ k Δ s. start n k Δ empty s) d Γ (name x ∷ r)) (λ a s. next n d Γ p (app e a) s) (operand_short (λ k Δ s. start n k Δ empty s) (λ k Δ s. start_short n k Δ empty s) d Γ (name x ∷ r)) (λ a s l. longer _ _ (next n d Γ p (app e a) s) (omega arith) (next_short n d Γ p (app e a) s))
  next_short (suc n) d Γ p e (opening ∷ r) = follow_short (suc (length r)) (suc (suc (length r))) (operand_by (λ k Δ s. start n k Δ empty s) d Γ (opening ∷ r)) (λ a s. next n d Γ p (app e a) s) (operand_short (λ k Δ s. start n k Δ empty s) (λ k Δ s. start_short n k Δ empty s) d Γ (opening ∷ r)) (λ a s l. longer _ _ (next n d Γ p (app e a) s) (omega arith) (next_short n d Γ p (app e a) s))
  next_short (suc n) d Γ p e (closing ∷ r) = omega arith
  next_short (suc n) d Γ p e (backslash ∷ r) = follow_short (suc (length r)) (suc (suc (length r))) (operand_by (λ k Δ s. start n k Δ empty s) d Γ (backslash ∷ r)) (λ a s. next n d Γ p (app e a) s) (operand_short (λ k Δ s. start n k Δ empty s) (λ k Δ s. start_short n k Δ empty s) d Γ (backslash ∷ r)) (λ a s l. longer _ _ (next n d Γ p (app e a) s) (omega arith) (next_short n d Γ p (app e a) s))
  next_short (suc n) d Γ p e (stop ∷ r) = tt
  next_short (suc n) d Γ p e (bang ∷ r) = tt
  next_short (suc n) d Γ p e (ampersand ∷ r) = longer _ _ (start n d Γ (after_and p e) r) (omega arith) (start_short n d Γ (after_and p e) r)
  next_short (suc n) d Γ p e (bar ∷ r) = longer _ _ (start n d Γ (after_or p e) r) (omega arith) (start_short n d Γ (after_or p e) r)
  next_short (suc n) d Γ p e (arrow ∷ r) = longer _ _ (start n d Γ (after_implies p e) r) (omega arith) (start_short n d Γ (after_implies p e) r)

-- two readers agree on fewer than n tokens
abbrev Agree : ℕ → (ℕ → List ℕ → List Token → Read) → (ℕ → List ℕ → List Token → Read) → Type 0
Agree n f g = (k : ℕ) (Δ : List ℕ) (ts : List Token) → length ts < n → f k Δ ts ≡ g k Δ ts

follow_same : (m : ℕ) (x y : Read) (k l : Expression → List Token → Read) → Short m x → x ≡ y
    → ((e : Expression) (r : List Token) → length r < m → k e r ≡ l e r) → follow x k ≡ follow y l
unfolding follow
follow_same m nothing y k l s e h = rw (← e)
follow_same m (read e r) y k l s q h = rw (← q) (h e r s)

body_same : (f g : List Token → Read) (ts : List Token) → ((s : List Token) → length s < length ts → f s ≡ g s) → body f ts ≡ body g ts
unfolding body
body_same f g [] h = refl
body_same f g (caret ∷ r) h = refl
body_same f g (name x ∷ r) h = refl
body_same f g (opening ∷ r) h = refl
body_same f g (closing ∷ r) h = refl
body_same f g (backslash ∷ r) h = refl
body_same f g (stop ∷ r) h = ap abstracted (h r (omega arith))
body_same f g (bang ∷ r) h = refl
body_same f g (ampersand ∷ r) h = refl
body_same f g (bar ∷ r) h = refl
body_same f g (arrow ∷ r) h = refl

binder_same : (f g : ℕ → List Token → Read) (ts : List Token) → ((x : ℕ) (s : List Token) → length s < length ts → f x s ≡ g x s) → binder f ts ≡ binder g ts
unfolding binder
binder_same f g [] h = refl
binder_same f g (caret ∷ r) h = refl
binder_same f g (name x ∷ r) h = body_same (f x) (g x) r (λ s l. h x s (omega arith))
binder_same f g (opening ∷ r) h = refl
binder_same f g (closing ∷ r) h = refl
binder_same f g (backslash ∷ r) h = refl
binder_same f g (stop ∷ r) h = refl
binder_same f g (bang ∷ r) h = refl
binder_same f g (ampersand ∷ r) h = refl
binder_same f g (bar ∷ r) h = refl
binder_same f g (arrow ∷ r) h = refl

inside_same : (f g : ℕ → List Token → Read) (d : ℕ) (ts : List Token) → ((x : ℕ) → f x ts ≡ g x ts) → inside f d ts ≡ inside g d ts
unfolding inside
inside_same f g zero ts h = refl
inside_same f g (suc d) ts h = ap (λ (x : Read). follow x enclosed) (h d)

operand_same : (f g : ℕ → List ℕ → List Token → Read) (d : ℕ) (Γ : List ℕ) (ts : List Token) → Agree (length ts) f g
    → operand_by f d Γ ts ≡ operand_by g d Γ ts
unfolding operand_by
operand_same f g d Γ [] h = refl
operand_same f g d Γ (caret ∷ r) h = refl
operand_same f g d Γ (name x ∷ r) h = refl
operand_same f g d Γ (opening ∷ r) h = inside_same (λ k. f k Γ) (λ k. g k Γ) d r (λ k. h k Γ r (omega arith))
operand_same f g d Γ (closing ∷ r) h = refl
operand_same f g d Γ (backslash ∷ r) h = binder_same (λ x. f d (x ∷ Γ)) (λ x. g d (x ∷ Γ)) r (λ x s l. h d (x ∷ Γ) s (omega arith))
operand_same f g d Γ (stop ∷ r) h = refl
operand_same f g d Γ (bang ∷ r) h = refl
operand_same f g d Γ (ampersand ∷ r) h = refl
operand_same f g d Γ (bar ∷ r) h = refl
operand_same f g d Γ (arrow ∷ r) h = refl

mutual
  unfolding start next

  start_enough : (n m d : ℕ) (Γ : List ℕ) (p : Unclosed) (ts : List Token) → length ts < n → length ts < m → start n d Γ p ts ≡ start m d Γ p ts
  start_enough zero m d Γ p ts h l = absurd (omega arith)
  start_enough (suc n) zero d Γ p ts h l = absurd (omega arith)
  start_enough (suc n) (suc m) d Γ p [] h l = refl
  start_enough (suc n) (suc m) d Γ p (caret ∷ r) h l = follow_same (suc (length r)) (operand_by (λ k Δ s. start n k Δ empty s) d Γ (caret ∷ r)) (operand_by (λ k Δ s. start m k Δ empty s) d Γ (caret ∷ r)) (λ a s. next n d Γ p a s) (λ a s. next m d Γ p a s) (operand_short (λ k Δ s. start n k Δ empty s) (λ k Δ s. start_short n k Δ empty s) d Γ (caret ∷ r)) (operand_same (λ k Δ s. start n k Δ empty s) (λ k Δ s. start m k Δ empty s) d Γ (caret ∷ r) (λ k Δ s q. start_enough n m k Δ empty s (omega arith) (omega arith))) (λ a s q. next_enough n m d Γ p a s (omega arith) (omega arith))
  start_enough (suc n) (suc m) d Γ p (name x ∷ r) h l = follow_same (suc (length r)) (operand_by (λ k Δ s. start n k Δ empty s) d Γ (name x ∷ r)) (operand_by (λ k Δ s. start m k Δ empty s) d Γ (name x ∷ r)) (λ a s. next n d Γ p a s) (λ a s. next m d Γ p a s) (operand_short (λ k Δ s. start n k Δ empty s) (λ k Δ s. start_short n k Δ empty s) d Γ (name x ∷ r)) (operand_same (λ k Δ s. start n k Δ empty s) (λ k Δ s. start m k Δ empty s) d Γ (name x ∷ r) (λ k Δ s q. start_enough n m k Δ empty s (omega arith) (omega arith))) (λ a s q. next_enough n m d Γ p a s (omega arith) (omega arith))
  start_enough (suc n) (suc m) d Γ p (opening ∷ r) h l = follow_same (suc (length r)) (operand_by (λ k Δ s. start n k Δ empty s) d Γ (opening ∷ r)) (operand_by (λ k Δ s. start m k Δ empty s) d Γ (opening ∷ r)) (λ a s. next n d Γ p a s) (λ a s. next m d Γ p a s) (operand_short (λ k Δ s. start n k Δ empty s) (λ k Δ s. start_short n k Δ empty s) d Γ (opening ∷ r)) (operand_same (λ k Δ s. start n k Δ empty s) (λ k Δ s. start m k Δ empty s) d Γ (opening ∷ r) (λ k Δ s q. start_enough n m k Δ empty s (omega arith) (omega arith))) (λ a s q. next_enough n m d Γ p a s (omega arith) (omega arith))
  start_enough (suc n) (suc m) d Γ p (closing ∷ r) h l = refl
  start_enough (suc n) (suc m) d Γ p (backslash ∷ r) h l = follow_same (suc (length r)) (operand_by (λ k Δ s. start n k Δ empty s) d Γ (backslash ∷ r)) (operand_by (λ k Δ s. start m k Δ empty s) d Γ (backslash ∷ r)) (λ a s. next n d Γ p a s) (λ a s. next m d Γ p a s) (operand_short (λ k Δ s. start n k Δ empty s) (λ k Δ s. start_short n k Δ empty s) d Γ (backslash ∷ r)) (operand_same (λ k Δ s. start n k Δ empty s) (λ k Δ s. start m k Δ empty s) d Γ (backslash ∷ r) (λ k Δ s q. start_enough n m k Δ empty s (omega arith) (omega arith))) (λ a s q. next_enough n m d Γ p a s (omega arith) (omega arith))
  start_enough (suc n) (suc m) d Γ p (stop ∷ r) h l = refl
  start_enough (suc n) (suc m) d Γ p (bang ∷ r) h l = start_enough n m d Γ (noted p) r (omega arith) (omega arith)
  start_enough (suc n) (suc m) d Γ p (ampersand ∷ r) h l = refl
  start_enough (suc n) (suc m) d Γ p (bar ∷ r) h l = refl
  start_enough (suc n) (suc m) d Γ p (arrow ∷ r) h l = refl

  next_enough : (n m d : ℕ) (Γ : List ℕ) (p : Unclosed) (e : Expression) (ts : List Token) → length ts < n → length ts < m → next n d Γ p e ts ≡ next m d Γ p e ts
  next_enough zero m d Γ p e ts h l = absurd (omega arith)
  next_enough (suc n) zero d Γ p e ts h l = absurd (omega arith)
  next_enough (suc n) (suc m) d Γ p e [] h l = refl
  next_enough (suc n) (suc m) d Γ p e (caret ∷ r) h l = follow_same (suc (length r)) (operand_by (λ k Δ s. start n k Δ empty s) d Γ (caret ∷ r)) (operand_by (λ k Δ s. start m k Δ empty s) d Γ (caret ∷ r)) (λ a s. next n d Γ p (app e a) s) (λ a s. next m d Γ p (app e a) s) (operand_short (λ k Δ s. start n k Δ empty s) (λ k Δ s. start_short n k Δ empty s) d Γ (caret ∷ r)) (operand_same (λ k Δ s. start n k Δ empty s) (λ k Δ s. start m k Δ empty s) d Γ (caret ∷ r) (λ k Δ s q. start_enough n m k Δ empty s (omega arith) (omega arith))) (λ a s q. next_enough n m d Γ p (app e a) s (omega arith) (omega arith))
  next_enough (suc n) (suc m) d Γ p e (name x ∷ r) h l = follow_same (suc (length r)) (operand_by (λ k Δ s. start n k Δ empty s) d Γ (name x ∷ r)) (operand_by (λ k Δ s. start m k Δ empty s) d Γ (name x ∷ r)) (λ a s. next n d Γ p (app e a) s) (λ a s. next m d Γ p (app e a) s) (operand_short (λ k Δ s. start n k Δ empty s) (λ k Δ s. start_short n k Δ empty s) d Γ (name x ∷ r)) (operand_same (λ k Δ s. start n k Δ empty s) (λ k Δ s. start m k Δ empty s) d Γ (name x ∷ r) (λ k Δ s q. start_enough n m k Δ empty s (omega arith) (omega arith))) (λ a s q. next_enough n m d Γ p (app e a) s (omega arith) (omega arith))
  next_enough (suc n) (suc m) d Γ p e (opening ∷ r) h l = follow_same (suc (length r)) (operand_by (λ k Δ s. start n k Δ empty s) d Γ (opening ∷ r)) (operand_by (λ k Δ s. start m k Δ empty s) d Γ (opening ∷ r)) (λ a s. next n d Γ p (app e a) s) (λ a s. next m d Γ p (app e a) s) (operand_short (λ k Δ s. start n k Δ empty s) (λ k Δ s. start_short n k Δ empty s) d Γ (opening ∷ r)) (operand_same (λ k Δ s. start n k Δ empty s) (λ k Δ s. start m k Δ empty s) d Γ (opening ∷ r) (λ k Δ s q. start_enough n m k Δ empty s (omega arith) (omega arith))) (λ a s q. next_enough n m d Γ p (app e a) s (omega arith) (omega arith))
  next_enough (suc n) (suc m) d Γ p e (closing ∷ r) h l = refl
  next_enough (suc n) (suc m) d Γ p e (backslash ∷ r) h l = follow_same (suc (length r)) (operand_by (λ k Δ s. start n k Δ empty s) d Γ (backslash ∷ r)) (operand_by (λ k Δ s. start m k Δ empty s) d Γ (backslash ∷ r)) (λ a s. next n d Γ p (app e a) s) (λ a s. next m d Γ p (app e a) s) (operand_short (λ k Δ s. start n k Δ empty s) (λ k Δ s. start_short n k Δ empty s) d Γ (backslash ∷ r)) (operand_same (λ k Δ s. start n k Δ empty s) (λ k Δ s. start m k Δ empty s) d Γ (backslash ∷ r) (λ k Δ s q. start_enough n m k Δ empty s (omega arith) (omega arith))) (λ a s q. next_enough n m d Γ p (app e a) s (omega arith) (omega arith))
  next_enough (suc n) (suc m) d Γ p e (stop ∷ r) h l = refl
  next_enough (suc n) (suc m) d Γ p e (bang ∷ r) h l = refl
  next_enough (suc n) (suc m) d Γ p e (ampersand ∷ r) h l = start_enough n m d Γ (after_and p e) r (omega arith) (omega arith)
  next_enough (suc n) (suc m) d Γ p e (bar ∷ r) h l = start_enough n m d Γ (after_or p e) r (omega arith) (omega arith)
  next_enough (suc n) (suc m) d Γ p e (arrow ∷ r) h l = start_enough n m d Γ (after_implies p e) r (omega arith) (omega arith)

module _ (d : ℕ) (Γ : List ℕ) (p : Unclosed) where
  pub parse_bang : (r : List Token) → parse d Γ p (bang ∷ r) ≡ parse d Γ (noted p) r
  unfolding parse start
  parse_bang r = refl

  follow_parse : (ts : List Token) (k l : Expression → List Token → Read) (n : ℕ) → length ts ≤ n
      → ((a : Expression) (s : List Token) → length s < length ts → k a s ≡ l a s)
      → follow (operand_by (λ i Δ s. start n i Δ empty s) d Γ ts) k ≡ follow (operand d Γ ts) l
  unfolding operand parse
  follow_parse ts k l n h q = follow_same (length ts) (operand_by (λ i Δ s. start n i Δ empty s) d Γ ts) (operand d Γ ts) k l
      (operand_short (λ i Δ s. start n i Δ empty s) (λ i Δ s. start_short n i Δ empty s) d Γ ts)
      (operand_same (λ i Δ s. start n i Δ empty s) (λ i Δ. parse i Δ empty) d Γ ts (λ i Δ s z. start_enough n (suc (length s)) i Δ empty s (omega arith) (omega arith)))
      q

  pub parse_operand : (ts : List Token) → Starts ts → parse d Γ p ts ≡ follow (operand d Γ ts) (λ a s. more d Γ p a s)
  unfolding parse start more
  parse_operand [] h = absurd h
  parse_operand (caret ∷ r) h = follow_parse (caret ∷ r) (λ a s. next (suc (length r)) d Γ p a s) (λ a s. more d Γ p a s) (suc (length r)) (omega arith) (λ a s q. next_enough (suc (length r)) (suc (length s)) d Γ p a s (omega arith) (omega arith))
  parse_operand (name x ∷ r) h = follow_parse (name x ∷ r) (λ a s. next (suc (length r)) d Γ p a s) (λ a s. more d Γ p a s) (suc (length r)) (omega arith) (λ a s q. next_enough (suc (length r)) (suc (length s)) d Γ p a s (omega arith) (omega arith))
  parse_operand (opening ∷ r) h = follow_parse (opening ∷ r) (λ a s. next (suc (length r)) d Γ p a s) (λ a s. more d Γ p a s) (suc (length r)) (omega arith) (λ a s q. next_enough (suc (length r)) (suc (length s)) d Γ p a s (omega arith) (omega arith))
  parse_operand (closing ∷ r) h = absurd h
  parse_operand (backslash ∷ r) h = follow_parse (backslash ∷ r) (λ a s. next (suc (length r)) d Γ p a s) (λ a s. more d Γ p a s) (suc (length r)) (omega arith) (λ a s q. next_enough (suc (length r)) (suc (length s)) d Γ p a s (omega arith) (omega arith))
  parse_operand (stop ∷ r) h = absurd h
  parse_operand (bang ∷ r) h = absurd h
  parse_operand (ampersand ∷ r) h = absurd h
  parse_operand (bar ∷ r) h = absurd h
  parse_operand (arrow ∷ r) h = absurd h

  pub parse_none : (ts : List Token) → parse d Γ p [] ≡ nothing
  unfolding parse start
  parse_none ts = refl

  pub more_operand : (e : Expression) (ts : List Token) → Starts ts → more d Γ p e ts ≡ follow (operand d Γ ts) (λ a s. more d Γ p (app e a) s)
  unfolding more next
  more_operand e [] h = absurd h
  more_operand e (caret ∷ r) h = follow_parse (caret ∷ r) (λ a s. next (suc (length r)) d Γ p (app e a) s) (λ a s. more d Γ p (app e a) s) (suc (length r)) (omega arith) (λ a s q. next_enough (suc (length r)) (suc (length s)) d Γ p (app e a) s (omega arith) (omega arith))
  more_operand e (name x ∷ r) h = follow_parse (name x ∷ r) (λ a s. next (suc (length r)) d Γ p (app e a) s) (λ a s. more d Γ p (app e a) s) (suc (length r)) (omega arith) (λ a s q. next_enough (suc (length r)) (suc (length s)) d Γ p (app e a) s (omega arith) (omega arith))
  more_operand e (opening ∷ r) h = follow_parse (opening ∷ r) (λ a s. next (suc (length r)) d Γ p (app e a) s) (λ a s. more d Γ p (app e a) s) (suc (length r)) (omega arith) (λ a s q. next_enough (suc (length r)) (suc (length s)) d Γ p (app e a) s (omega arith) (omega arith))
  more_operand e (closing ∷ r) h = absurd h
  more_operand e (backslash ∷ r) h = follow_parse (backslash ∷ r) (λ a s. next (suc (length r)) d Γ p (app e a) s) (λ a s. more d Γ p (app e a) s) (suc (length r)) (omega arith) (λ a s q. next_enough (suc (length r)) (suc (length s)) d Γ p (app e a) s (omega arith) (omega arith))
  more_operand e (stop ∷ r) h = absurd h
  more_operand e (bang ∷ r) h = absurd h
  more_operand e (ampersand ∷ r) h = absurd h
  more_operand e (bar ∷ r) h = absurd h
  more_operand e (arrow ∷ r) h = absurd h

  pub more_end : (e : Expression) → more d Γ p e [] ≡ read (closed p e) []
  unfolding more next
  more_end e = refl

  pub more_closing : (e : Expression) (r : List Token) → more d Γ p e (closing ∷ r) ≡ read (closed p e) (closing ∷ r)
  unfolding more next
  more_closing e r = refl

  pub more_ampersand : (e : Expression) (r : List Token) → more d Γ p e (ampersand ∷ r) ≡ parse d Γ (after_and p e) r
  unfolding more next parse
  more_ampersand e r = refl

  pub more_bar : (e : Expression) (r : List Token) → more d Γ p e (bar ∷ r) ≡ parse d Γ (after_or p e) r
  unfolding more next parse
  more_bar e r = refl

  pub more_arrow : (e : Expression) (r : List Token) → more d Γ p e (arrow ∷ r) ≡ parse d Γ (after_implies p e) r
  unfolding more next parse
  more_arrow e r = refl

  pub more_stop : (e : Expression) (r : List Token) → more d Γ p e (stop ∷ r) ≡ nothing
  unfolding more next
  more_stop e r = refl

  pub more_bang : (e : Expression) (r : List Token) → more d Γ p e (bang ∷ r) ≡ nothing
  unfolding more next
  more_bang e r = refl

  pub parse_closing : (r : List Token) → parse d Γ p (closing ∷ r) ≡ nothing
  unfolding parse start
  parse_closing r = refl

  pub parse_stop : (r : List Token) → parse d Γ p (stop ∷ r) ≡ nothing
  unfolding parse start
  parse_stop r = refl

  pub parse_ampersand : (r : List Token) → parse d Γ p (ampersand ∷ r) ≡ nothing
  unfolding parse start
  parse_ampersand r = refl

  pub parse_bar : (r : List Token) → parse d Γ p (bar ∷ r) ≡ nothing
  unfolding parse start
  parse_bar r = refl

  pub parse_arrow : (r : List Token) → parse d Γ p (arrow ∷ r) ≡ nothing
  unfolding parse start
  parse_arrow r = refl

-- the tokens do not begin with !
abbrev pub NotBang : List Token → Type 0
NotBang [] = Unit {0}
NotBang (caret ∷ r) = Unit {0}
NotBang (name x ∷ r) = Unit {0}
NotBang (opening ∷ r) = Unit {0}
NotBang (closing ∷ r) = Unit {0}
NotBang (backslash ∷ r) = Unit {0}
NotBang (stop ∷ r) = Unit {0}
NotBang (bang ∷ r) = ⊥
NotBang (ampersand ∷ r) = Unit {0}
NotBang (bar ∷ r) = Unit {0}
NotBang (arrow ∷ r) = Unit {0}

pub parse_any : (d : ℕ) (Γ : List ℕ) (p : Unclosed) (ts : List Token) → NotBang ts → parse d Γ p ts ≡ follow (operand d Γ ts) (λ a s. more d Γ p a s)
unfolding parse start operand operand_by follow
parse_any d Γ p [] h = refl
parse_any d Γ p (caret ∷ r) h = parse_operand d Γ p (caret ∷ r) tt
parse_any d Γ p (name x ∷ r) h = parse_operand d Γ p (name x ∷ r) tt
parse_any d Γ p (opening ∷ r) h = parse_operand d Γ p (opening ∷ r) tt
parse_any d Γ p (closing ∷ r) h = refl
parse_any d Γ p (backslash ∷ r) h = parse_operand d Γ p (backslash ∷ r) tt
parse_any d Γ p (stop ∷ r) h = refl
parse_any d Γ p (bang ∷ r) h = absurd h
parse_any d Γ p (ampersand ∷ r) h = refl
parse_any d Γ p (bar ∷ r) h = refl
parse_any d Γ p (arrow ∷ r) h = refl

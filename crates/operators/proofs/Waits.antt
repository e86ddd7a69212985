-- Laws of what waits for an operand. Assumes nothing.
use Prim.Native.Nat.{ℕ, zero, suc, ◌+◌}
use mathlib.Core.Path.{◌≡◌, refl, sym, ap, subst, ◌∙◌}
use mathlib.Core.List.{List, [], ◌∷◌, ◌++◌, append_assoc, append-nil}
use mathlib.Core.Option.{Option, none, some}
use native.Mathlib.Omega.{arith}
use lib.ListN.{length, take, drop, replicate, length-append, length-replicate}
use Rattle.table.specs.Wrote.{Wrote}
use Rattle.grammar.specs.Expression.{Expression, not}
use Rattle.grammar.specs.Reader.{Read, Unclosed, conjunct, disjunct, closed, after_and, after_or, after_implies, negated, conjoined, disjoined, implied, more}
use Rattle.grammar.specs.Words.{tokens}
use Rattle.grammar.specs.Postfix.{postfix}
use Rattle.grammar.proofs.Enough.{more_operand, more_ampersand, more_bar, more_arrow}
use Rattle.operators.specs.Code.{applied, count, symbols, symbols_of, flat, Counts, noted_by, Begun, JointAt, AfterAsks, Stepped}
use Rattle.std.specs.Prelude as code
use Rattle.operators.specs.declared.Joint.{Joint}
use Rattle.operators.specs.declared.Joint.TheVariants as joint
use Rattle.operators.specs.declared.Waiting.{Waiting}
use Rattle.operators.specs.declared.Step.TheVariants as step

-- a joint that was found
pub joint_is : (ws : List ℕ) (at : ℕ) {r : code.Option Joint} {j k : Joint} → JointAt ws at r → r ≡ code.Some j → j ≡ k → JointAt ws at (code.Some k)
joint_is ws at h e f = subst (JointAt ws at) (e ∙ ap (λ (j : Joint). code.Some j) f) h

applied_symbols : (f : Option Expression) (a : Expression) → symbols f ++ (postfix a ++ replicate (count f) 0) ≡ postfix (applied f a)
unfolding symbols count applied postfix
applied_symbols none a = append-nil (postfix a)
applied_symbols (some f) a = refl

negated_symbols : (k : ℕ) (e : Expression) → postfix e ++ replicate k 5 ≡ postfix (negated k e)
unfolding negated postfix
negated_symbols zero e = append-nil (postfix e)
negated_symbols (suc k) e = sym (append_assoc (postfix e) (5 ∷ []) (replicate k 5)) ∙ negated_symbols k (not e)

conjoined_symbols : (o : Option Expression) (a : Expression) → symbols o ++ (postfix a ++ replicate (count o) 1) ≡ postfix (conjoined o a)
unfolding symbols count conjoined postfix
conjoined_symbols none a = append-nil (postfix a)
conjoined_symbols (some f) a = refl

disjoined_symbols : (o : Option Expression) (a : Expression) → symbols o ++ (postfix a ++ replicate (count o) 2) ≡ postfix (disjoined o a)
unfolding symbols count disjoined postfix
disjoined_symbols none a = append-nil (postfix a)
disjoined_symbols (some f) a = refl

implied_symbols : (js : List Expression) (e : Expression) → symbols_of js ++ (postfix e ++ replicate (length js) 3) ≡ postfix (implied js e)
unfolding symbols_of implied postfix
implied_symbols [] e = append-nil (postfix e)
implied_symbols (a ∷ js) e = simp append_assoc (simp append_assoc at (implied_symbols js (Expression.implies a e)))

-- the front of the symbols, after each kind of operator
module _ (p : Unclosed) (f : Option Expression) (a : Expression) (xs post : List ℕ) (from : ℕ) (w : Waiting) (n : Counts w p f)
    (h : take from post ≡ xs ++ (flat p f ++ postfix a)) where
  front_applied : (m : List ℕ) (e : ℕ) → Wrote post from (replicate w.apps 0) e m → take e m ≡ xs ++ flat p (some (applied f a))
  unfolding symbols
  front_applied m e q =
      q.front ∙ ap (λ (l : List ℕ). l ++ replicate w.apps 0) h
      ∙ ap (λ (k : ℕ). (xs ++ (flat p f ++ postfix a)) ++ replicate k 0) n.apps
      ∙ simp append_assoc (rw (applied_symbols f a))

front_and : (p : Unclosed) (e : Expression) (xs m l : List ℕ) (i j : ℕ) → take i m ≡ xs ++ flat p (some e)
    → Wrote m i (replicate p.nots 5 ++ (replicate (count p.and) 1 ++ replicate 0 2)) j l → take j l ≡ xs ++ flat (after_and p e) none
unfolding symbols
front_and p e xs m l i j h q =
    q.front ∙ ap (λ (k : List ℕ). k ++ (replicate p.nots 5 ++ (replicate (count p.and) 1 ++ replicate 0 2))) h
    ∙ simp (append_assoc, append-nil) (rw (← append_assoc (postfix e) (replicate p.nots 5) (replicate (count p.and) 1), negated_symbols p.nots e, conjoined_symbols p.and (negated p.nots e)))

front_or : (p : Unclosed) (e : Expression) (xs m l : List ℕ) (i j : ℕ) → take i m ≡ xs ++ flat p (some e)
    → Wrote m i (replicate p.nots 5 ++ (replicate (count p.and) 1 ++ replicate (count p.or) 2)) j l
    → take j l ≡ xs ++ (symbols_of p.implies ++ postfix (disjunct p e))
unfolding symbols
front_or p e xs m l i j h q =
    q.front ∙ ap (λ (k : List ℕ). k ++ (replicate p.nots 5 ++ (replicate (count p.and) 1 ++ replicate (count p.or) 2))) h
    ∙ simp append_assoc (rw (
      ← append_assoc (postfix e) (replicate p.nots 5) (replicate (count p.and) 1 ++ replicate (count p.or) 2),
      negated_symbols p.nots e,
      ← append_assoc (postfix (negated p.nots e)) (replicate (count p.and) 1) (replicate (count p.or) 2),
      ← append_assoc (symbols p.and) (postfix (negated p.nots e) ++ replicate (count p.and) 1) (replicate (count p.or) 2),
      conjoined_symbols p.and (negated p.nots e),
      disjoined_symbols p.or (conjunct p e),
    ))

front_implies : (p : Unclosed) (e : Expression) (xs m l : List ℕ) (i j : ℕ) → take i m ≡ xs ++ (symbols_of p.implies ++ postfix (disjunct p e))
    → Wrote m i (replicate (length p.implies) 3) j l → take j l ≡ xs ++ postfix (closed p e)
front_implies p e xs m l i j h q =
    q.front ∙ ap (λ (k : List ℕ). k ++ replicate (length p.implies) 3) h
    ∙ simp append_assoc (rw (implied_symbols p.implies (disjunct p e)))

-- what waits changes by nothing where nothing is added to it
flat_or : (p : Unclosed) (e : Expression) (n : ℕ) (xs : List ℕ) → xs ++ (symbols_of p.implies ++ postfix (disjunct p e)) ≡ xs ++ flat (noted_by n (after_or p e)) none
unfolding symbols
flat_or p e n xs = simp append-nil

flat_implies : (p : Unclosed) (e : Expression) (n : ℕ) (xs : List ℕ)
    → xs ++ (symbols_of p.implies ++ postfix (disjunct p e)) ≡ xs ++ flat (noted_by n (after_implies p e)) none
unfolding symbols symbols_of
flat_implies p e n xs = simp append-nil

pub put_end : (l m : List ℕ) (w n s e : ℕ) → Wrote l w (replicate n s) e m → e ≡ w + n
put_end l m w n s e q = omega (arith, q.ends, length-replicate n s)

pub close_end : (l m : List ℕ) (w a b c e : ℕ) → Wrote l w (replicate a 5 ++ (replicate b 1 ++ replicate c 2)) e m → e ≡ w + a + b + c
close_end l m w a b c e q =
    omega (arith, q.ends, length-append {A = ℕ} (replicate a 5) (replicate b 1 ++ replicate c 2), length-append {A = ℕ} (replicate b 1) (replicate c 2), length-replicate {A = ℕ} a 5, length-replicate {A = ℕ} b 1, length-replicate {A = ℕ} c 2)

module _ (d : ℕ) (Γ : List ℕ) (p : Unclosed) (f : Option Expression) (a : Expression) (xs ws : List ℕ) (at : ℕ) (post : List ℕ) (from : ℕ) (w : Waiting)
    (q : AfterAsks ws at post from w) (n : Counts w p f) (h : take from post ≡ xs ++ (flat p f ++ postfix a)) (m : List ℕ) (e : ℕ)
    (g : Wrote post from (replicate w.apps 0) e m) where
  abbrev after_read : Read
  after_read = more d Γ p (applied f a) (tokens (drop at ws))

  -- what holds where an operand was begun
  begun_step : (l : List ℕ) (v : Waiting) {i a b c : ℕ} (k : Begun ws (at + 1) i a b c v)
      → Stepped d Γ after_read xs ws l at (code.Some (step.More (record { at = at + 1 + k.nots; end = i; implies = a; ors = b; ands = c; nots = k.nots; apps = 0 })))
      → Stepped d Γ after_read xs ws l at (code.Some (step.More v))
  begun_step l v k = subst (λ (z : Waiting). Stepped d Γ after_read xs ws l at (code.Some (step.More z))) (sym k.is)

  pub step_operand : JointAt ws at (code.Some joint.Operand)
      → Stepped d Γ after_read xs ws m at (code.Some (step.More (record { at = at; end = e; implies = w.implies; ors = w.ors; ands = w.ands; nots = w.nots; apps = 1 })))
  unfolding applied count
  step_operand j = (
    record {
      p = p;
      f = some (applied f a);
      counts = record { implies = n.implies; ors = n.ors; ands = n.ands; nots = n.nots; apps = refl };
      within = q.within;
      room = omega (arith, q.room, put_end post m from w.apps 0 e g);
      leads = more_operand d Γ p (applied f a) (tokens (drop at ws)) j.0;
      front = front_applied p f a xs post from w n h m e g;
    },
    omega arith,
  )

  pub step_and : JointAt ws at (code.Some joint.And) → (l : List ℕ) (i : ℕ) → Wrote m e (replicate w.nots 5 ++ (replicate w.ands 1 ++ replicate 0 2)) i l
      → (v : Waiting) → Begun ws (at + 1) i w.implies w.ors 1 v
      → Stepped d Γ after_read xs ws l at (code.Some (step.More v))
  unfolding applied count
  step_and j l i s v k = begun_step l v k (
    record {
      p = noted_by k.nots (after_and p (applied f a));
      f = none;
      counts = record { implies = n.implies; ors = n.ors; ands = refl; nots = omega arith; apps = refl };
      within = k.bangs.within;
      room = omega (arith, q.room, put_end post m from w.apps 0 e g, close_end m l e w.nots w.ands 0 i s);
      leads = ap (more d Γ p (applied f a)) j.0 ∙ more_ampersand d Γ p (applied f a) _ ∙ k.bangs.leads d Γ (after_and p (applied f a));
      front = front_and p (applied f a) xs m l e i (front_applied p f a xs post from w n h m e g) (rw (n.nots, n.ands) at s);
    },
    omega arith,
  )

  pub step_or : JointAt ws at (code.Some joint.Or) → (l : List ℕ) (i : ℕ) → Wrote m e (replicate w.nots 5 ++ (replicate w.ands 1 ++ replicate w.ors 2)) i l
      → (v : Waiting) → Begun ws (at + 1) i w.implies (1) 0 v
      → Stepped d Γ after_read xs ws l at (code.Some (step.More v))
  unfolding applied count
  step_or j l i s v k = begun_step l v k (
    record {
      p = noted_by k.nots (after_or p (applied f a));
      f = none;
      counts = record { implies = n.implies; ors = refl; ands = refl; nots = omega arith; apps = refl };
      within = k.bangs.within;
      room = omega (arith, q.room, put_end post m from w.apps 0 e g, close_end m l e w.nots w.ands w.ors i s);
      leads = ap (more d Γ p (applied f a)) j.0 ∙ more_bar d Γ p (applied f a) _ ∙ k.bangs.leads d Γ (after_or p (applied f a));
      front =
          front_or p (applied f a) xs m l e i (front_applied p f a xs post from w n h m e g) (rw (n.nots, n.ands, n.ors) at s)
          ∙ flat_or p (applied f a) k.nots xs;
    },
    omega arith,
  )

  pub step_arrow : JointAt ws at (code.Some joint.Arrow) → (l : List ℕ) (i : ℕ) → Wrote m e (replicate w.nots 5 ++ (replicate w.ands 1 ++ replicate w.ors 2)) i l
      → (v : Waiting) → Begun ws (at + 1) i (w.implies + 1) (0) 0 v
      → Stepped d Γ after_read xs ws l at (code.Some (step.More v))
  unfolding applied count
  step_arrow j l i s v k = begun_step l v k (
    record {
      p = noted_by k.nots (after_implies p (applied f a));
      f = none;
      counts = record { implies = omega (arith, n.implies); ors = refl; ands = refl; nots = omega arith; apps = refl };
      within = k.bangs.within;
      room = omega (arith, q.room, put_end post m from w.apps 0 e g, close_end m l e w.nots w.ands w.ors i s);
      leads = ap (more d Γ p (applied f a)) j.0 ∙ more_arrow d Γ p (applied f a) _ ∙ k.bangs.leads d Γ (after_implies p (applied f a));
      front =
          front_or p (applied f a) xs m l e i (front_applied p f a xs post from w n h m e g) (rw (n.nots, n.ands, n.ors) at s)
          ∙ flat_implies p (applied f a) k.nots xs;
    },
    omega arith,
  )

  pub step_end : JointAt ws at (code.Some joint.End) → (l : List ℕ) (i : ℕ) → Wrote m e (replicate w.nots 5 ++ (replicate w.ands 1 ++ replicate w.ors 2)) i l
      → (k : List ℕ) (b : ℕ) → Wrote l i (replicate w.implies 3) b k → length k ≡ length l → Stepped d Γ after_read xs ws k at (code.Some (step.Done b))
  step_end j l i s k b u z = record {
    e = closed p (applied f a);
    leads = j d Γ p (applied f a);
    front = front_implies p (applied f a) xs l k i b
        (front_or p (applied f a) xs m l e i (front_applied p f a xs post from w n h m e g) (rw (n.nots, n.ands, n.ors) at s)) (rw n.implies at u);
    inside = omega (arith, u.inside);
  }

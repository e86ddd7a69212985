-- The rule that the machine wants next is the next use by the five rules on the trees. Assumes nothing.
use Prim.Native.Nat.{ℕ, zero, suc, ◌<◌}
use mathlib.Core.Path.{◌≡◌, refl, sym, ap, ◌∙◌, transport}
use mathlib.Core.List.{List}
use mathlib.Core.Logic.{◌⊎◌, inl, inr}
use Rattle.calculus.specs.Tree.{Tree, leaf, stem, fork}
use Rattle.calculus.specs.declared.Uses.{Uses}
use Rattle.calculus.specs.Uses.{no_uses, one_spread, one_triage, ◌⊕◌}
use Rattle.calculus.proofs.Counts.{uses_none, none_uses, uses_assoc}
use Rattle.table.specs.Nodes.{Sound, tree_at}
use Rattle.table.proofs.Trees.{kept_refl}
use Rattle.table.proofs.Words.{zero_one}
use Rattle.applying.specs.declared.Rule.{Rule}
use Rattle.applying.specs.declared.Rule.TheVariants as rule
use Rattle.applying.specs.Machine.{State, wanted, Turn, more, done, stop, turn, after, uses}
use Rattle.applying.specs.Apply.{begin}
use Rattle.applying.specs.States.{Good, TreeBy}
use Rattle.applying.proofs.States.{Later, turn_later, one_use, uses_next, Took, turn_took}
use Rattle.applying.proofs.Leads.{Then, and_then, before_use, UseBy, first_use, GoesBy, goes_same, goes_before, tree_by}
use Rattle.applying.proofs.Cases.{sound_begin}
use Rattle.stopping.specs.declared.Kind.{Kind}
use Rattle.stopping.specs.Stopped.{kind}
use Rattle.stopping.specs.Next.{rule_of, Next, at_first, spread_first, spread_second, spread_third, triage_first, triage_second}

-- the rule of a node is that of its tree
pub kind_of : (w : List ℕ) (r : Rule) (x : Tree) → TreeBy w r x → rule_of x ≡ kind r
unfolding rule_of kind
kind_of w rule.Leaf x e = rw e
kind_of w (rule.Stem p) x e = rw e
kind_of w (rule.Drop y) x e = rw e
kind_of w (rule.Spread p y) x e = rw e
kind_of w (rule.Triage p q) x e = rw e.1

-- "Each use is one step, counted when taken, before the applications under it": f is applied to n, and within that, or once P goes on, the next use is one of
-- the rule r after the uses k
abbrev Or : Kind → Tree → Tree → (Tree → Uses → Type 0) → Uses → Type 0
Or r f n P k = Next f n k r ⊎ Then f n P k

abbrev never : Tree → Uses → Type 0
never x k = ⊥

two : (o a b : Uses) → o ⊕ (a ⊕ b) ≡ o ⊕ a ⊕ b
two o a b = sym (uses_assoc o a b)

three : (o a b c : Uses) → o ⊕ (a ⊕ (b ⊕ c)) ≡ o ⊕ a ⊕ b ⊕ c
three o a b c = sym (uses_assoc (o ⊕ a) b c ∙ uses_assoc o a (b ⊕ c))

module _ (r : Kind) where
  -- a use comes before what it leaves
  before_or : (f n : Tree) (P : Tree → Uses → Type 0) (k : Uses) → UseBy (Or r) f n P k → Or r f n P (first_use f ⊕ k)
  before_or leaf n P k x = inr (before_use leaf k x)
  before_or (stem p) n P k x = inr (before_use (stem p) k x)
  before_or (fork leaf y) n P k x = inr (before_use (fork leaf y) k x)
  before_or (fork (stem p) y) n P k (inl x) = inl (spread_first x)
  before_or (fork (stem p) y) n P k (inr x) = go x.goes
    where
      go : Or r p n (λ w. Or r x.outcome w P) x.left → Or r (fork (stem p) y) n P (one_spread ⊕ k)
      go (inl z) = inl (rw (x.counted, two one_spread x.taken x.left) (spread_second x.applies z))
      go (inr z) = at z.goes
        where
          at : Or r x.outcome z.outcome P z.left → Or r (fork (stem p) y) n P (one_spread ⊕ k)
          at (inl v) = inl (rw (x.counted, z.counted, three one_spread x.taken z.taken z.left) (spread_third x.applies z.applies v))
          at (inr v) = inr (before_use (fork (stem p) y) k (and_then x.left x.applies (and_then z.left z.applies v z.counted) x.counted))
  before_or (fork (fork p q) y) n P k (inl x) = inl (triage_first x)
  before_or (fork (fork p q) y) n P k (inr x) = go x.goes
    where
      go : Or r x.outcome q P x.left → Or r (fork (fork p q) y) n P (one_triage ⊕ k)
      go (inl z) = inl (rw (x.counted, two one_triage x.taken x.left) (triage_second x.applies z))
      go (inr z) = inr (before_use (fork (fork p q) y) k (and_then x.left x.applies z x.counted))

  abbrev Wants : State → Uses → Type 0
  Wants s k = GoesBy (Or r) never s.table.words s k

  -- Where a state that the uses lead to wants a use of r, so does the one that they began in, once they are taken.
  uses_want : (m : ℕ) {all : ℕ} {s z : State} → Good all s → uses all m s ≡ more z → (k : Uses) → Wants z k
      → (j : Uses) × (z.uses ≡ s.uses ⊕ j) × Wants s (j ⊕ k)
  unfolding uses after
  uses_want zero {s = s} {z = z} g e k x =
      let q : s ≡ z = cc in
      (no_uses, sym (uses_none z.uses) ∙ ap (λ (y : State). y.uses ⊕ no_uses) (sym q), rw (none_uses k, q) x)
  uses_want (suc m) {all} {s} {z} g e k x = go (turn all s) refl (turn_later g) (turn_took all s) e (λ (y : State) (h : Good all y). uses_want m {s = y} {z = z} h)
    where
      go : (y : Turn) → turn all s ≡ y → Later all s.table y → Took (uses_next s) y → after (uses all m) y ≡ more z
          → ((y : State) → Good all y → uses all m y ≡ more z → (k : Uses) → Wants z k → (j : Uses) × (z.uses ≡ y.uses ⊕ j) × Wants y (j ⊕ k))
          → (j : Uses) × (z.uses ≡ s.uses ⊕ j) × Wants s (j ⊕ k)
      go (more y) d l t p on =
          let i = on y l.ready p k x in
          let b = goes_before g l.fine (rw d (kept_refl y.table)) (Or r) never before_or (i.0 ⊕ k) (rw d i.2) in (
            one_use (wanted s) ⊕ i.0,
            i.1 ∙ ap (λ (u : Uses). u ⊕ i.0) t ∙ uses_assoc s.uses (one_use (wanted s)) i.0,
            rw (uses_assoc (one_use (wanted s)) i.0 k) (transport (goes_same (Or r) never g l.extends.kept (one_use (wanted s) ⊕ (i.0 ⊕ k))) b),
          )
      go (done p j) d l t q on = zero_one (cc)
      go (stop c y) d l t q on = zero_one (cc)

-- The rule that a state wants is the next use of the application by the five rules on the trees, once the uses that led to it are taken: "That rule is shown
-- to be the next use by the definitions" ([14]).
pub uses_next_lem : (m : ℕ) {all : ℕ} {w : List ℕ} {u f n : ℕ} {z : State} → Sound (record { words = w; used = u }) → f < u → n < u
    → uses all m (begin w u f n) ≡ more z → Good all z → Next (tree_at w f) (tree_at w n) z.uses (kind (wanted z))
uses_next_lem m {all} {w} {u} {f} {n} {z} s h l e g =
    let r = kind (wanted z) in
    let q = kind_of z.table.words (wanted z) (tree_at z.table.words z.function) (tree_by g.fine z.function g.function_in) in
    let i : Next (tree_at z.table.words z.function) (tree_at z.table.words z.argument) no_uses r = rw (← q) at_first in
    let x = uses_want r m (sound_begin {all = all} s h l) e no_uses (inl i) in
    go x.2 (x.1 ∙ none_uses x.0 ∙ sym (uses_none x.0))
  where
    go : {k : Uses} → Or (kind (wanted z)) (tree_at w f) (tree_at w n) never k → z.uses ≡ k → Next (tree_at w f) (tree_at w n) z.uses (kind (wanted z))
    go (inl y) p = rw p y
    go (inr y) p = absurd y.goes

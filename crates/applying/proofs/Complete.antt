-- Where the rules give a tree in at most `limit` uses, Apply gives that tree or stops for nodes or frames. Assumes nothing.
use Prim.Native.Nat.{ℕ, zero, suc, ◌≤◌, ◌<◌}
use mathlib.Core.Path.{◌≡◌, refl, sym, ap, ◌∙◌}
use mathlib.Core.Bool.{Bool, true, false}
use mathlib.Core.List.{List}
use mathlib.Core.Logic.{◌⊎◌, inl, inr}
use native.Mathlib.Omega.{arith}
use lib.Dec.{leb}
use borrow.Author.Tests.{lt-ltb, leb-true, leb-false}
use Rattle.calculus.specs.Tree.{Tree}
use Rattle.calculus.specs.declared.Uses.{Uses}
use Rattle.calculus.specs.Uses.{no_uses, ◌⊕◌, steps}
use Rattle.calculus.specs.Rules.{Apply}
use Rattle.calculus.proofs.Counts.{uses_none, none_uses, uses_assoc}
use Rattle.table.specs.Nodes.{tree_at}
use Rattle.table.specs.Outcome.{Entered, frames, stopped}
use Rattle.table.specs.Refusal.{number, clears}
use Rattle.table.specs.declared.Refusal.{Refusal}
use Rattle.table.specs.declared.Refusal.TheVariants.{Steps, Nodes, Frames}
use Rattle.table.proofs.Trees.{kept_refl}
use Rattle.table.proofs.Entry.{enters}
use Rattle.applying.specs.Machine.{State, wanted, Turn, more, done, stop, turn, after, uses}
use Rattle.applying.specs.Apply.{settle, begin, apply_nodes, apply, applied, not_applied}
use Rattle.applying.specs.Lacks.{Lacks, no_place, all_held}
use Rattle.applying.specs.States.{Good}
use Rattle.applying.specs.Claims.{Gives}
use Rattle.applying.proofs.States.{table_of, Later, turn_later, one_use, uses_next, Took, turn_took, one_step}
use Rattle.applying.proofs.Leads.{Leads, TurnLeads, leads_same, leads_after, uses_some, and_then}
use Rattle.applying.proofs.Cases.{Ways, refused, ran, ways, checks_keep, good_begin}
use Rattle.applying.proofs.Stops.{stop_lacks}

-- a run that leads to the tree o ends there after the uses j, or stops
abbrev Ends : Tree → Uses → Turn → Type 0
Ends o j (more z) = ⊥
Ends o j (done p i) = (tree_at p.table.words p.node ≡ o) × (i ≡ j)
Ends o j (stop e t) = Unit {0}

uses_end : (m : ℕ) {all : ℕ} {s : State} → Good all s → (o : Tree) (k : Uses) → Leads s.table.words s o k → steps k ≤ m → Ends o (s.uses ⊕ k) (uses all m s)
unfolding uses after
uses_end zero g o k x h = absurd (omega (arith, ap steps x.counted, uses_some x.applies))
uses_end (suc m) {all} {s} g o k x h =
    let l = turn_later g in
    let i = leads_after g l.fine (kept_refl _) o k (leads_same g l.extends.kept o k x) in
    go (turn all s) l (turn_took all s) i.0 i.1 i.2
    (λ (z : State) (y : Good all z) (d : Leads z.table.words z o i.0). uses_end m y o i.0 d (omega (arith, ap steps i.2, one_step (wanted s))))
  where
    go : (x : Turn) → Later all s.table x → Took (uses_next s) x → (j : Uses) → TurnLeads (table_of x).words o j (Unit {0}) x → k ≡ one_use (wanted s) ⊕ j
        → ((z : State) → Good all z → Leads z.table.words z o j → Ends o (z.uses ⊕ j) (uses all m z))
        → Ends o (s.uses ⊕ k) (after (uses all m) x)
    go (more z) l t j d e r =
        let q : s.uses ⊕ k ≡ z.uses ⊕ j =
        ap (λ (x : Uses). s.uses ⊕ x) e ∙ sym (uses_assoc s.uses (one_use (wanted s)) j) ∙ ap (λ (x : Uses). x ⊕ j) (sym t) in
        rw q (r z l.ready d)
    go (done p i) l t j d e r =
        let q : k ≡ one_use (wanted s) = e ∙ ap (λ (x : Uses). one_use (wanted s) ⊕ x) d.1 ∙ uses_none (one_use (wanted s)) in
        (d.0, t ∙ ap (λ (x : Uses). s.uses ⊕ x) (sym q))
    go (stop c t) l x j d e r = tt

-- Where the rules give a tree in at most `limit` uses, Apply gives that tree with the same uses or stops for nodes or frames: "Then 7, 8, 9 as the
-- rules say."
pub apply_complete : {w : List ℕ} {u : ℕ} {s : List ℕ} {f n limit : ℕ} → Entered (leb limit 1000000) w u s → f < u → n < u
    → {r : Tree} {k : Uses} → Apply (tree_at w f) (tree_at w n) r k → steps k ≤ limit
    → Gives w u s f n limit r k ⊎ ((apply w u s f n limit).answer ≡ not_applied Nodes) ⊎ ((apply w u s f n limit).answer ≡ not_applied Frames)
unfolding apply apply_nodes settle stopped
apply_complete {w} {u} {s} {f} {n} {limit} e h l {r} {k} d m =
    rw (enters e, lt-ltb f u h, lt-ltb n u l)
    (by (uses all limit b) refl (uses_end limit (good_begin e h l) r k (and_then no_uses d (refl, refl) (sym (uses_none k))) m))
  where
    all : ℕ
    all = frames s

    b : State
    b = begin w u f n

    lacked : {z : State} {c : Refusal} → Lacks all z c → (not_applied c ≡ not_applied Nodes) ⊎ (not_applied c ≡ not_applied Frames)
    lacked (no_place h f l) = inl refl
    lacked (all_held h l) = inr refl

    by : (x : Turn) → uses all limit b ≡ x → Ends r (no_uses ⊕ k) x
        → ((v : ℕ) × (u' : ℕ) × ((settle u s x).answer ≡ applied v u' (steps k) k) × (tree_at (settle u s x).table v ≡ r))
        ⊎ ((settle u s x).answer ≡ not_applied Nodes) ⊎ ((settle u s x).answer ≡ not_applied Frames)
    by (more z) q y = absurd y
    by (done p j) q y = let z : j ≡ k = y.1 ∙ none_uses k in inl (p.node, p.table.used, rw z, y.0)
    by (stop c t) q y =
        inr (lacked (stop_lacks all limit b c t q).3)

-- "refusal 7 if the step limit is reached": where Apply is refused for steps, the rules give no tree in `limit` uses or fewer.
pub steps_used_up : (w : List ℕ) (u : ℕ) (s : List ℕ) (f n limit : ℕ) → (apply w u s f n limit).answer ≡ not_applied Steps
    → {r : Tree} {k : Uses} → Apply (tree_at w f) (tree_at w n) r k → limit < steps k
unfolding clears number
steps_used_up w u s f n limit e {r} {k} d = go (ways w u s f n limit) (leb (steps k) limit) refl
  where
    never : Gives w u s f n limit r k ⊎ ((apply w u s f n limit).answer ≡ not_applied Nodes) ⊎ ((apply w u s f n limit).answer ≡ not_applied Frames) → ⊥
    never (inl x) = let c : not_applied Steps ≡ applied x.0 x.1 (steps k) k = cc in let n : ◌≡◌ {A = ℕ} 0 1 = cc in omega arith
    never (inr (inl x)) = let n : ◌≡◌ {A = ℕ} 0 1 = cc in omega arith
    never (inr (inr x)) = let n : ◌≡◌ {A = ℕ} 0 1 = cc in omega arith

    go : Ways w u s f n limit → (b : Bool) → leb (steps k) limit ≡ b → limit < steps k
    go (refused {e = c} a q) b p = let x : c ≡ Steps = cc in let z : ◌≡◌ {A = ℕ} 0 1 = cc (checks_keep a, ap clears x) in absurd (omega arith)
    go (ran i h l q) false p = leb-false (steps k) limit p
    go (ran i h l q) true p = absurd (never (apply_complete i h l d (leb-true (steps k) limit p)))

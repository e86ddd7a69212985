-- Apply is refused only on a refusal's condition, and what it leaves of lent memory then. Assumes nothing.
use Prim.Native.Nat.{ℕ, zero, suc, ◌+◌, ◌-◌, ◌*◌, ◌≤◌, ◌<◌}
use mathlib.Core.Path.{◌≡◌, refl, sym, ap, ◌∙◌}
use mathlib.Core.Bool.{Bool, true, false, cond, ◌&&◌}
use mathlib.Core.List.{List, []}
use mathlib.Core.Logic.{◌↔◌}
use mathlib.Core.Option.{none}
use native.Mathlib.Omega.{arith}
use borrow.Author.Tests.{le-ltb, lt-ltb, ltb-true}
use lib.ListN.{length}
use lib.Dec.{ltb}
use Rattle.std.specs.Prelude.{Result}
use Rattle.calculus.specs.declared.Uses.{Uses}
use Rattle.calculus.specs.Uses.{no_uses}
use Rattle.table.specs.Nodes.{capacity, find, cleared}
use Rattle.table.specs.Outcome.{Outcome, frames, zeros, whole, stopped}
use Rattle.table.specs.Refusal.{number, clears}
use Rattle.table.specs.declared.Refusal.{Refusal}
use Rattle.table.specs.declared.Refusal.TheVariants.{Steps, Nodes, Frames}
use Rattle.table.specs.declared.Refusal.TheVariants as refusal
use Rattle.table.proofs.Words.{told_apart}
use Rattle.table.proofs.Making.{make_full}
use Rattle.table.proofs.Entry.{enters, lacks_entry, cleared_back}
use Rattle.applying.specs.declared.Rule.{Rule}
use Rattle.applying.specs.declared.Rule.TheVariants.{Leaf, Stem, Drop, Spread, Triage}
use Rattle.applying.specs.Machine.{needs_frame, State, wanted, Turn, more, done, stop, grow_by, grow, hold, use_rule, turn, after, uses}
use Rattle.applying.specs.Apply.{applied_uses, settle, begin, apply_nodes, apply, not_applied}
use Rattle.applying.specs.Lacks.{WantsNode, of_leaf, of_stem, early, not_in_use, Lacks, no_place, all_held, Halts, limit_reached, at_use, ApplyLacks, of_entry, halts}
use Rattle.applying.specs.declared.Applied.{Applied}
use Rattle.applying.proofs.States.{table_of, uses_next, turn_is, turn_by, Later, uses_later, Counted, uses_steps, uses_add}
use Rattle.applying.proofs.Cases.{Ways, refused, ran, ways, checks_keep, good_begin}

abbrev Stopped : ℕ → State → Turn → Type 0
Stopped all s (more z) = Unit {0}
Stopped all s (done p k) = Unit {0}
Stopped all s (stop e z) = (z ≡ s) × Lacks all s e

turn_lacks : (all : ℕ) (s : State) → Stopped all s (turn all s)
turn_lacks all s = turn_by all s (Stopped all s) (λ z e. tt) (λ p. tt) (λ a b n f h. (refl, no_place n f h)) (λ n h. (refl, all_held n h))

-- Applying stops for nodes or frames only at the use that lacks one: "Before each use: [..] 8 if a new node has no place; then 9 if a frame is
-- needed and all are held." The j uses before it were taken, and the state is as they left it.
pub stop_lacks : (all k : ℕ) (s : State) (e : Refusal) (z : State) → uses all k s ≡ stop e z → (j : ℕ) × (j < k) × (uses all j s ≡ more z) × Lacks all z e
unfolding uses after
stop_lacks all zero s e z q = let n : ◌≡◌ {A = ℕ} 0 1 = cc in absurd (omega arith)
stop_lacks all (suc k) s e z q = go (turn all s) refl (turn_lacks all s) (λ y. stop_lacks all k y e z) q
  where
    go : (x : Turn) → turn all s ≡ x → Stopped all s x
        → ((y : State) → uses all k y ≡ stop e z → (j : ℕ) × (j < k) × (uses all j y ≡ more z) × Lacks all z e)
        → after (uses all k) x ≡ stop e z
        → (j : ℕ) × (j < suc k) × (uses all j s ≡ more z) × Lacks all z e
    go (more y) d l r p = let a = r y p in (suc a.0, omega (arith, a.1), rw d a.2, a.3)
    go (done v j) d l r p = let n : ◌≡◌ {A = ℕ} 0 1 = cc in absurd (omega arith)
    go (stop c y) d l r p =
        let a : c ≡ e = cc in
        let b : z ≡ s = cc l.0 in
        (0, omega arith, ap more (sym b), rw (← a, b) l.1)

-- And a use that lacks one is not taken.
module _ (all : ℕ) (z : State) where
  node_lacks : (k : Uses) (r : Rule) {a b : ℕ} → WantsNode z.argument r a b → find z.table.words z.table.used a b ≡ none
      → capacity z.table.words ≤ z.table.used → use_rule all z k r ≡ stop Nodes z
  unfolding use_rule grow grow_by
  node_lacks k Leaf of_leaf f h = rw (make_full z.table (z.argument + 1) 0 f h)
  node_lacks k (Stem p) of_stem f h = rw (make_full z.table (p + 1) (z.argument + 1) f h)
  node_lacks k (Drop _) {a = a} {b = b} x4 f h = elim x4 [ ]
  node_lacks k (Spread _ _) {a = a} {b = b} x6 f h = elim x6 [ ]
  node_lacks k (Triage _ _) {a = a} {b = b} x7 f h = elim x7 [ ]

  frame_lacks : (k : Uses) (r : Rule) → needs_frame r ≡ true → all ≤ length z.frames → use_rule all z k r ≡ stop Frames z
  unfolding use_rule hold needs_frame
  frame_lacks k Leaf n h = told_apart n refl
  frame_lacks k (Stem p) n h = told_apart n refl
  frame_lacks k (Drop y) n h = told_apart n refl
  frame_lacks k (Spread p y) n h = rw (le-ltb (length z.frames) all h)
  frame_lacks k (Triage p q) n h = rw (le-ltb (length z.frames) all h)

  pub lacks_stop : {e : Refusal} → Lacks all z e → turn all z ≡ stop e z
  lacks_stop (no_place n f h) = turn_is all z ∙ node_lacks (uses_next z) (wanted z) n f h
  lacks_stop (all_held n h) = turn_is all z ∙ frame_lacks (uses_next z) (wanted z) n h

-- where the uses stop, an application is refused
halts_refused : {all limit : ℕ} {s : State} {e : Refusal} (u : ℕ) (x : List ℕ) → Halts all limit s e → (settle u x (uses all limit s)).answer ≡ not_applied e
unfolding settle stopped uses after
halts_refused u x (limit_reached q c) = rw q
halts_refused {all} {limit} {s} u x (at_use {z} {j} h q l) =
    let d : j + suc (limit - j - 1) ≡ limit = omega arith in
    rw (← d, uses_add all j (suc (limit - j - 1)) s, q, lacks_stop all z l)

-- the refusals of the uses are among those that clear memory
lacks_clears : {all : ℕ} {z : State} {e : Refusal} → Lacks all z e → clears e ≡ true
unfolding clears number
lacks_clears (no_place h f k) = refl
lacks_clears (all_held h k) = refl

halts_clears : {all limit : ℕ} {s : State} {e : Refusal} → Halts all limit s e → clears e ≡ true
unfolding clears number
halts_clears (limit_reached h k) = refl
halts_clears (at_use h k l) = lacks_clears l

module _ (w : List ℕ) (u : ℕ) (s : List ℕ) (f n limit : ℕ) where
  -- Apply is refused only on the refusal's condition: "1, also for a step limit above 1,000,000. 2. 3 for either number. Then 7, 8, 9 as the rules say."
  -- The checks leave table and stack as found; after them exactly the words of the nodes made, and the stack, are set to 0.
  pub apply_lacks : (e : Refusal) → (apply w u s f n limit).answer ≡ not_applied e
      → ApplyLacks w u s f n limit e (apply w u s f n limit).table (apply w u s f n limit).stack
  unfolding settle stopped
  apply_lacks e q = go (ways w u s f n limit)
    where
      all : ℕ
      all = frames s

      b : State
      b = begin w u f n

      words : {x : Turn} → Later all b.table x → (table_of x).used ≡ (table_of (uses all limit b)).used
          → cleared (table_of x).words (u * 2) ((table_of x).used * 2) ≡ cleared w (u * 2) ((table_of (uses all limit b)).used * 2)
      words y m = cleared_back y.extends y.fine.within ∙ rw m

      by : (x : Turn) → uses all limit b ≡ x → Later all b.table x → Counted 0 limit x → (settle u s x).answer ≡ not_applied e
          → ((c : Refusal) → Halts all limit b c → ApplyLacks w u s f n limit c (cleared w (u * 2) ((table_of (uses all limit b)).used * 2)) (zeros s))
          → ApplyLacks w u s f n limit e (settle u s x).table (settle u s x).stack
      by (more z) r y c p k =
          let a : Steps ≡ e = cc in
          rw (words y (rw r), ← a) (k Steps (limit_reached r (omega arith)))
      by (done v j) r y c p k = let n : ◌≡◌ {A = ℕ} 0 1 = cc in absurd (omega arith)
      by (stop d t) r y c p k =
          let a : d ≡ e = cc in
          let l = stop_lacks all limit b d t r in
          rw (words y (rw r), ← a) (k d (at_use l.1 l.2 l.3))

      go : Ways w u s f n limit → ApplyLacks w u s f n limit e (apply w u s f n limit).table (apply w u s f n limit).stack
      go (refused {e = d} a p) = let c : d ≡ e = cc in rw (p, ← c) (of_entry a)
      go (ran i h l p) =
          rw p (by (uses all limit b) refl (uses_later limit (good_begin i h l)) (uses_steps all limit b) (rw p at q)
          (λ c. halts (enters i) h l))

  lacks_answer : {e : Refusal} {x y : List ℕ} → ApplyLacks w u s f n limit e x y → (apply w u s f n limit).answer ≡ not_applied e
  unfolding apply apply_nodes
  lacks_answer (of_entry (early l)) = rw (lacks_entry l)
  lacks_answer (of_entry (not_in_use i h)) = rw i (go (ltb f u) (ltb n u) refl refl)
    where
      go : (a b : Bool) → ltb f u ≡ a → ltb n u ≡ b → (cond (a && b) (apply_nodes w u s f n limit) (whole (not_applied refusal.Node) w s)).answer ≡ not_applied refusal.Node
      go true true p q = absurd (h (ltb-true f u p) (ltb-true n u q))
      go true false p q = refl
      go false b p q = refl
  lacks_answer (halts i h l a) = rw (i, lt-ltb f u h, lt-ltb n u l) (halts_refused u s a)

  -- a refusal says what is left of table and stack
  lacks_memory : {e : Refusal} {x y : List ℕ} → ApplyLacks w u s f n limit e x y
      → (x ≡ cond (clears e) (cleared w (u * 2) ((table_of (uses (frames s) limit (begin w u f n))).used * 2)) w) × (y ≡ cond (clears e) (zeros s) s)
  lacks_memory (of_entry a) = rw (checks_keep a) (refl, refl)
  lacks_memory (halts i h l a) = rw (halts_clears a) (refl, refl)

  -- "Numbers 1 to 6 [..] leave lent memory as found. Numbers 7 to 10 set to 0 the words of the nodes made in the call and the whole stack".
  pub apply_memory : (e : Refusal) → (apply w u s f n limit).answer ≡ not_applied e
      → ((apply w u s f n limit).table ≡ cond (clears e) (cleared w (u * 2) ((table_of (uses (frames s) limit (begin w u f n))).used * 2)) w)
      × ((apply w u s f n limit).stack ≡ cond (clears e) (zeros s) s)
  apply_memory e q = lacks_memory (apply_lacks e q)

  -- Apply is lent no out bytes
  no_out : (apply w u s f n limit).out ≡ []
  unfolding settle stopped
  no_out = go (ways w u s f n limit)
    where
      by : (x : Turn) → (settle u s x).out ≡ []
      by (more z) = refl
      by (done p k) = refl
      by (stop e t) = refl

      go : Ways w u s f n limit → (apply w u s f n limit).out ≡ []
      go (refused a p) = rw p
      go (ran i h l p) = rw p (by (uses (frames s) limit (begin w u f n)))

  -- on each condition its refusal comes, and leaves lent memory so
  pub lacks_apply : {e : Refusal} {x y : List ℕ} → ApplyLacks w u s f n limit e x y → apply w u s f n limit ≡ whole (not_applied e) x y
  lacks_apply {e} {x} {y} h =
      let q = lacks_answer h in
      let m = lacks_memory h in
      let k = apply_memory e q in
      let i : (apply w u s f n limit).table ≡ x = k.0 ∙ sym m.0 in
      let j : (apply w u s f n limit).stack ≡ y = k.1 ∙ sym m.1 in
      rw (← i, ← j, ← q, ← no_out) refl

  -- Each refusal comes exactly on its condition.
  pub apply_stops : (e : Refusal) (x y : List ℕ) → (apply w u s f n limit ≡ whole (not_applied e) x y) ↔ ApplyLacks w u s f n limit e x y
  apply_stops e x y =
      (λ q. rw (ap (λ (o : Outcome (Result Applied Refusal)). o.table) q, ap (λ (o : Outcome (Result Applied Refusal)). o.stack) q) at (apply_lacks e (ap (λ (o : Outcome (Result Applied Refusal)). o.answer) q)), lacks_apply)

  -- "all 0 on refusal" ([5])
  pub refused_counts : (e : Refusal) → (apply w u s f n limit).answer ≡ not_applied e → applied_uses (apply w u s f n limit).answer ≡ no_uses
  unfolding applied_uses
  refused_counts e q = rw q

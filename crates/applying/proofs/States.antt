-- What holds of every state of an application, what a use of a rule leads to, and how uses add up. Assumes nothing.
use Prim.Native.Nat.{ℕ, zero, suc, ◌+◌, ◌-◌, ◌≤◌, ◌<◌}
use mathlib.Core.Path.{◌≡◌, refl, ap}
use mathlib.Core.Bool.{Bool, true, false, cond}
use mathlib.Core.List.{List, [], ◌∷◌}
use mathlib.Core.Option.{none}
use native.Mathlib.Omega.{arith}
use lib.ListN.{length}
use lib.Dec.{ltb, eqb}
use borrow.Author.Tests.{ltb-true, ltb-false, eqb-true, eqb-false}
use Rattle.calculus.specs.Tree.{Tree}
use Rattle.calculus.specs.declared.Uses.{Uses}
use Rattle.calculus.specs.Uses.{one_leaf, one_stem, one_drop, one_spread, one_triage, ◌⊕◌, steps, new_nodes}
use Rattle.table.specs.Nodes.{Table, Placed, Making, got, full, capacity, first, second, find, Sound, tree_at, make}
use Rattle.table.specs.declared.Refusal.{Refusal}
use Rattle.table.specs.declared.Refusal.TheVariants.{Nodes, Frames}
use Rattle.table.specs.Claims.{Extends, Places, Has, Makes}
use Rattle.table.specs.Claims.Makes.{found, made, no_place}
use Rattle.table.proofs.Words.{sound_node}
use Rattle.table.proofs.Trees.{extends_refl, extends_trans}
use Rattle.table.proofs.Making.{make_case, make_most, stem_of, fork_of}
use Rattle.applying.specs.declared.Rule.{Rule}
use Rattle.applying.specs.declared.Rule.TheVariants.{Leaf, Stem, Drop, Spread, Triage}
use Rattle.applying.specs.declared.Frame.{Frame}
use Rattle.applying.specs.declared.Frame.TheVariants.{SpreadFirst, SpreadSecond, TriageFirst}
use Rattle.applying.specs.States.{FrameIn, FramesIn, Good}
use Rattle.applying.specs.Lacks.{WantsNode, of_leaf, of_stem}
pub use Rattle.applying.specs.States.{table_of, Counted}
use Rattle.applying.specs.Machine.{fork_rule, rule, needs_frame, State, wanted, Turn, more, done, stop, resume, grow_by, grow, hold, use_rule, take_rule, turn, after, uses}

-- a choice by a test, with what the test says
pub cond_by {ℓ} : {A : Type 0} (P : A → Type ℓ) (b : Bool) {x y : A} → (b ≡ true → P x) → (b ≡ false → P y) → P (cond b x y)
cond_by P true f g = f refl
cond_by P false f g = g refl

-- a choice by a node's branch words a and b
pub words_by : {A : Type 0} (P : A → Type 0) (a b : ℕ) {x y z : A}
    → (a ≡ 0 → P x) → (a ≡ a - 1 + 1 → b ≡ 0 → P y) → (a ≡ a - 1 + 1 → b ≡ b - 1 + 1 → P z)
    → P (cond (eqb a 0) x (cond (eqb b 0) y z))
words_by P a b f g h =
    cond_by P (eqb a 0) (λ d. f (eqb-true a 0 d))
    (λ d. let n : (a ≡ 0 → ⊥) = eqb-false a 0 d in
    cond_by P (eqb b 0) (λ e. g (omega arith) (eqb-true b 0 e)) (λ e. let m : (b ≡ 0 → ⊥) = eqb-false b 0 e in h (omega arith) (omega arith)))

-- one use of a rule, and the uses of a state once its next use is taken
abbrev pub one_use : Rule → Uses
one_use Leaf = one_leaf
one_use (Stem p) = one_stem
one_use (Drop y) = one_drop
one_use (Spread p y) = one_spread
one_use (Triage p q) = one_triage

abbrev pub uses_next : State → Uses
uses_next s = s.uses ⊕ one_use (wanted s)

take_rule_lem : (all : ℕ) (s : State) (r : Rule) → take_rule all s r ≡ use_rule all s (s.uses ⊕ one_use r) r
unfolding take_rule
take_rule_lem all s Leaf = refl
take_rule_lem all s (Stem p) = refl
take_rule_lem all s (Drop y) = refl
take_rule_lem all s (Spread p y) = refl
take_rule_lem all s (Triage p q) = refl

-- a turn is the use of the rule wanted, which is counted
pub turn_is : (all : ℕ) (s : State) → turn all s ≡ use_rule all s (uses_next s) (wanted s)
unfolding turn
turn_is all s = take_rule_lem all s (wanted s)

-- the nodes that a rule names are below u
abbrev pub RuleIn : ℕ → Rule → Type 0
RuleIn u Leaf = Unit {0}
RuleIn u (Stem p) = p < u
RuleIn u (Drop y) = y < u
RuleIn u (Spread p y) = (p < u) × (y < u)
RuleIn u (Triage p q) = (p < u) × (q < u)

frames_up : {u z : ℕ} → u ≤ z → (fs : List Frame) → FramesIn u fs → FramesIn z fs
frames_up h [] i = tt
frames_up h (SpreadFirst p n ∷ fs) i = ((omega (arith, i.0), omega (arith, i.0)), frames_up h fs i.1)
frames_up h (SpreadSecond v ∷ fs) i = (omega (arith, i.0), frames_up h fs i.1)
frames_up h (TriageFirst q ∷ fs) i = (omega (arith, i.0), frames_up h fs i.1)

-- the rule that a node in use takes names nodes in use
pub rule_in : {t : Table} → Sound t → (f : ℕ) → f < t.used → RuleIn t.used (rule t.words f)
unfolding rule fork_rule
rule_in {t} s f h =
    let w = t.words in
    let a = sound_node w t.used f h s.unbroken in
    let x = first w f - 1 in
    let y = second w f - 1 in
    let c : x < t.used = omega (arith, a.first_in) in
    let d : y < t.used = omega (arith, a.second_in) in
    let b = sound_node w t.used x c s.unbroken in
    words_by (RuleIn t.used) (first w f) (second w f) (λ e. tt) (λ e k. c)
    (λ e k. words_by (RuleIn t.used) (first w x) (second w x) (λ i. d)
    (λ i j. (omega (arith, b.first_in), d)) (λ i j. (omega (arith, b.first_in), omega (arith, b.second_in))))

abbrev pub Ready : ℕ → Turn → Type 0
Ready all (more z) = Good all z
Ready all (done p k) = p.node < p.table.used
Ready all (stop e z) = Good all z

-- What holds of a turn that came from the table t: its table is sound and extends t, a further state and one that stops are good, and the outcome's node is
-- in use.
pub record Later (all : ℕ) (t : Table) (x : Turn) : Type 0 where
  pub fine : Sound (table_of x)
  pub extends : Extends t (table_of x)
  pub ready : Ready all x

-- the last frame that is taken, and one that is written, change no table
pub resume_table : (t : Table) (fs : List Frame) (k : Uses) (v : ℕ) → table_of (resume t fs k v) ≡ t
unfolding resume
resume_table t [] k v = refl
resume_table t (SpreadFirst p n ∷ fs) k v = refl
resume_table t (SpreadSecond u ∷ fs) k v = refl
resume_table t (TriageFirst q ∷ fs) k v = refl

pub hold_table : (all : ℕ) (s : State) (k : Uses) (e : Frame) (f n : ℕ) → table_of (hold all s k e f n) ≡ s.table
unfolding hold
hold_table all s k e f n = cond_by (λ x. table_of x ≡ s.table) (ltb (length s.frames) all) (λ b. refl) (λ b. refl)

goes : {all : ℕ} {t : Table} {z : State} → Good all z → Extends t z.table → Later all t (more z)
goes g x = record { fine = g.fine; extends = x; ready = g }

halts : {all : ℕ} {s : State} (e : Refusal) → Good all s → Later all s.table (stop e s)
halts {s = s} e g = record { fine = g.fine; extends = extends_refl s.table; ready = g }

resume_later : {all : ℕ} {t z : Table} → Sound z → Extends t z → (fs : List Frame) (k : Uses) (v : ℕ)
    → FramesIn z.used fs → length fs ≤ all → v < z.used → Later all t (resume z fs k v)
unfolding resume
resume_later f x [] k v i h l = record { fine = f; extends = x; ready = l }
resume_later f x (SpreadFirst p n ∷ fs) k v i h l =
    goes (record { fine = f; function_in = i.0.0; argument_in = i.0.1; frames_in = (l, i.1); held_in = h }) x
resume_later f x (SpreadSecond u ∷ fs) k v i h l =
    goes (record { fine = f; function_in = i.0; argument_in = l; frames_in = i.1; held_in = omega arith }) x
resume_later f x (TriageFirst q ∷ fs) k v i h l =
    goes (record { fine = f; function_in = l; argument_in = i.0; frames_in = i.1; held_in = omega arith }) x

module _ {all : ℕ} {s : State} (g : Good all s) where
  grow_later : (k : Uses) (a b : ℕ) {x : Tree} → ((m : Placed) → make s.table a b ≡ got m → Places s.table m x) → Later all s.table (grow s k a b)
  unfolding grow grow_by
  grow_later k a b {x} p = go (make s.table a b) refl
    where
      go : (y : Making) → make s.table a b ≡ y → Later all s.table (grow_by s k y)
      go (got m) e =
          let q : Places s.table m x = p m e in
          resume_later q.fine q.extends s.frames k m.node (frames_up q.extends.kept.up s.frames g.frames_in) g.held_in q.inside
      go (full z) e = halts Nodes g

  hold_later : (k : Uses) (e : Frame) (f n : ℕ) → FrameIn s.table.used e → f < s.table.used → n < s.table.used → Later all s.table (hold all s k e f n)
  unfolding hold
  hold_later k e f n i h l =
      cond_by (Later all s.table) (ltb (length s.frames) all)
      (λ b. goes (record { fine = g.fine; function_in = h; argument_in = l; frames_in = (i, g.frames_in); held_in = ltb-true _ _ b })
      (extends_refl s.table))
      (λ b. halts Frames g)

  pub in_use : {i : ℕ} → i < s.table.used → Has s.table i (tree_at s.table.words i)
  in_use h = record { inside = h; tree = refl }

  use_later : (k : Uses) (r : Rule) → RuleIn s.table.used r → Later all s.table (use_rule all s k r)
  unfolding use_rule
  use_later k Leaf i = grow_later k (s.argument + 1) 0 (λ m. stem_of g.fine (in_use g.argument_in))
  use_later k (Stem p) i = grow_later k (p + 1) (s.argument + 1) (λ m. fork_of g.fine (in_use i) (in_use g.argument_in))
  use_later k (Drop y) i = resume_later g.fine (extends_refl s.table) s.frames k y g.frames_in g.held_in i
  use_later k (Spread p y) i = hold_later k (SpreadFirst p s.argument) y s.argument (i.0, g.argument_in) i.1 g.argument_in
  use_later k (Triage p q) i = hold_later k (TriageFirst q) s.argument p i.1 g.argument_in i.0

-- A use of a rule leads from a good state to a good one, to a node in use, or to a stop, and "no other table word than those of new nodes
-- changes" (Operations).
pub turn_later : {all : ℕ} {s : State} → Good all s → Later all s.table (turn all s)
turn_later {all} {s} g = rw (turn_is all s) (use_later g (uses_next s) (wanted s) (rule_in g.fine s.function g.function_in))

later_trans : {all : ℕ} {t z : Table} {x : Turn} → Extends t z → Later all z x → Later all t x
later_trans e l = record { fine = l.fine; extends = extends_trans e l.extends; ready = l.ready }

-- So do any number of uses: "no other table word than those of new nodes changes".
pub uses_later : (k : ℕ) {all : ℕ} {s : State} → Good all s → Later all s.table (uses all k s)
unfolding uses after
uses_later zero {all} {s} g = goes g (extends_refl s.table)
uses_later (suc k) {all} {s} g = go (turn all s) (turn_later g) (λ (z : State) (h : Good all z). uses_later k h)
  where
    go : (x : Turn) → Later all s.table x → ((z : State) → Good all z → Later all z.table (uses all k z))
        → Later all s.table (after (uses all k) x)
    go (more z) l r = later_trans l.extends (r z l.ready)
    go (done p j) l r = l
    go (stop e t) l r = l

-- Every use, from any state: a further application or an outcome with the uses k, or a stop for a node that has no place or a frame that the rule needs.
module _ (all : ℕ) (s : State) (k : Uses) (P : Turn → Type 0) (goes_on : (z : State) → z.uses ≡ k → P (more z)) (ends : (p : Placed) → P (done p k)) where
  resume_by : (t : Table) (fs : List Frame) (v : ℕ) → P (resume t fs k v)
  unfolding resume
  resume_by t [] v = ends _
  resume_by t (SpreadFirst p n ∷ fs) v = goes_on _ refl
  resume_by t (SpreadSecond u ∷ fs) v = goes_on _ refl
  resume_by t (TriageFirst q ∷ fs) v = goes_on _ refl

  grow_by_lem : (a b : ℕ) → (find s.table.words s.table.used a b ≡ none → capacity s.table.words ≤ s.table.used → P (stop Nodes s))
      → P (grow s k a b)
  unfolding grow grow_by
  grow_by_lem a b n = go (make_case s.table a b)
    where
      go : {y : Making} → Makes s.table a b y → P (grow_by s k y)
      go (found f) = resume_by _ s.frames _
      go (made f h) = resume_by _ s.frames _
      go (no_place f h) = n f h

  use_by : (r : Rule)
      → ((a b : ℕ) → WantsNode s.argument r a b → find s.table.words s.table.used a b ≡ none → capacity s.table.words ≤ s.table.used → P (stop Nodes s))
      → (needs_frame r ≡ true → all ≤ length s.frames → P (stop Frames s))
      → P (use_rule all s k r)
  unfolding use_rule hold needs_frame
  use_by Leaf a b = grow_by_lem (s.argument + 1) 0 (a (s.argument + 1) 0 of_leaf)
  use_by (Stem p) a b = grow_by_lem (p + 1) (s.argument + 1) (a (p + 1) (s.argument + 1) of_stem)
  use_by (Drop y) a b = resume_by s.table s.frames y
  use_by (Spread p y) a b = cond_by P (ltb (length s.frames) all) (λ e. goes_on _ refl) (λ e. b refl (ltb-false _ _ e))
  use_by (Triage p q) a b = cond_by P (ltb (length s.frames) all) (λ e. goes_on _ refl) (λ e. b refl (ltb-false _ _ e))

pub turn_by : (all : ℕ) (s : State) (P : Turn → Type 0) → ((z : State) → z.uses ≡ uses_next s → P (more z)) → ((p : Placed) → P (done p (uses_next s)))
    → ((a b : ℕ) → WantsNode s.argument (wanted s) a b → find s.table.words s.table.used a b ≡ none → capacity s.table.words ≤ s.table.used → P (stop Nodes s))
    → (needs_frame (wanted s) ≡ true → all ≤ length s.frames → P (stop Frames s))
    → P (turn all s)
turn_by all s P goes_on ends a b = rw (turn_is all s) (use_by all s (uses_next s) P goes_on ends (wanted s) a b)

-- the uses that a turn has counted are k
abbrev pub Took : Uses → Turn → Type 0
Took k (more z) = z.uses ≡ k
Took k (done p j) = j ≡ k
Took k (stop e z) = z.uses ⊕ one_use (wanted z) ≡ k

-- "Each use of a rule tells which of the five it was." ([5])
pub turn_took : (all : ℕ) (s : State) → Took (uses_next s) (turn all s)
turn_took all s = turn_by all s (Took (uses_next s)) (λ z e. e) (λ p. refl) (λ a b n f h. refl) (λ n h. refl)

-- one use of a rule is one step
pub one_step : (r : Rule) → steps (one_use r) ≡ 1
one_step Leaf = refl
one_step (Stem p) = refl
one_step (Drop y) = refl
one_step (Spread p y) = refl
one_step (Triage p q) = refl

-- "Each use is one step, counted when taken".
pub turn_steps : (all : ℕ) (s : State) → Counted (steps s.uses) 1 (turn all s)
turn_steps all s = go (turn all s) (turn_took all s) (one_step (wanted s))
  where
    go : (x : Turn) → Took (uses_next s) x → steps (one_use (wanted s)) ≡ 1 → Counted (steps s.uses) 1 x
    go (more z) t o = omega (arith, ap steps t)
    go (done p j) t o = omega (arith, ap steps t)
    go (stop e z) t o = let q = one_step (wanted z) in let i : steps z.uses ≡ steps s.uses = omega (arith, ap steps t) in (omega arith, omega arith)

-- "Each use is one step, counted when taken": k uses that leave a further application count k steps, and those that come to an outcome count
-- at least one and at most k.
pub uses_steps : (all k : ℕ) (s : State) → Counted (steps s.uses) k (uses all k s)
unfolding uses after
uses_steps all zero s = omega arith
uses_steps all (suc k) s = go (turn all s) (turn_steps all s) (uses_steps all k)
  where
    on : (j : ℕ) (x : Turn) → j ≡ steps s.uses + 1 → Counted j k x → Counted (steps s.uses) (suc k) x
    on j (more y) e c = omega arith
    on j (done p i) e c = omega arith
    on j (stop e z) q c = (omega arith, omega arith)

    go : (x : Turn) → Counted (steps s.uses) 1 x → ((z : State) → Counted (steps z.uses) k (uses all k z))
        → Counted (steps s.uses) (suc k) (after (uses all k) x)
    go (more z) c r = on (steps z.uses) (uses all k z) c (r z)
    go (done p j) c r = omega arith
    go (stop e z) c r = (omega arith, omega arith)

-- The nodes in use after a turn: "one new node" at most (leaf and stem), or none (drop, spread and triage).
module _ (all : ℕ) (s : State) where
  abbrev Grew : ℕ → Turn → Type 0
  Grew n x = (table_of x).used ≤ s.table.used + n

  grow_grew : (k : Uses) (a b : ℕ) → Grew 1 (grow s k a b)
  unfolding grow grow_by
  grow_grew k a b = go (make s.table a b) refl
    where
      go : (y : Making) → make s.table a b ≡ y → Grew 1 (grow_by s k y)
      go (got m) e = rw (resume_table m.table s.frames k m.node) (make_most s.table a b e)
      go (full z) e = omega arith

  hold_grew : (k : Uses) (e : Frame) (f n : ℕ) → Grew 0 (hold all s k e f n)
  hold_grew k e f n = rw (hold_table all s k e f n) (omega arith)

  use_grew : (k : Uses) (r : Rule) → Grew (new_nodes (one_use r)) (use_rule all s k r)
  unfolding use_rule
  use_grew k Leaf = grow_grew k (s.argument + 1) 0
  use_grew k (Stem p) = grow_grew k (p + 1) (s.argument + 1)
  use_grew k (Drop y) = rw (resume_table s.table s.frames k y) (omega arith)
  use_grew k (Spread p y) = hold_grew k (SpreadFirst p s.argument) y s.argument
  use_grew k (Triage p q) = hold_grew k (TriageFirst q) s.argument p

  turn_grew : Grew (new_nodes (one_use (wanted s))) (turn all s)
  turn_grew = rw (turn_is all s) (use_grew (uses_next s) (wanted s))

-- the nodes in use are more than in the state s by at most one for each use of leaf and stem counted since
abbrev pub New : State → Turn → Type 0
New s (more z) = z.table.used + new_nodes s.uses ≤ s.table.used + new_nodes z.uses
New s (done p j) = p.table.used + new_nodes s.uses ≤ s.table.used + new_nodes j
New s (stop e t) = Unit {0}

turn_new : (all : ℕ) (s : State) → New s (turn all s)
turn_new all s = go (turn all s) (turn_took all s) (turn_grew all s)
  where
    go : (x : Turn) → Took (uses_next s) x → Grew all s (new_nodes (one_use (wanted s))) x → New s x
    go (more z) t g = omega (arith, ap new_nodes t)
    go (done p j) t g = omega (arith, ap new_nodes t)
    go (stop e t) x g = tt

-- "[5]'s node sum becomes an upper bound" ([8])
pub uses_new : (all k : ℕ) (s : State) → New s (uses all k s)
unfolding uses after
uses_new all zero s = omega arith
uses_new all (suc k) s = go (turn all s) (turn_new all s) (uses_new all k)
  where
    on : (z : State) (x : Turn) → New s (more z) → New z x → New s x
    on z (more y) a b = omega arith
    on z (done p j) a b = omega arith
    on z (stop e t) a b = tt

    go : (x : Turn) → New s x → ((z : State) → New z (uses all k z)) → New s (after (uses all k) x)
    go (more z) a r = on z (uses all k z) a (r z)
    go (done p j) a r = a
    go (stop e t) a r = tt

-- the nodes in use after any number of uses had their places
pub uses_within : (k : ℕ) {all : ℕ} {s : State} → Good all s → (table_of (uses all k s)).used ≤ capacity s.table.words
uses_within k {all} {s} g = let l = uses_later k g in omega (arith, l.fine.within, l.extends.kept.same_length)

-- A run can be paused: at most a uses and then, from the state they left, at most b are at most a + b uses.
pub uses_add : (all a b : ℕ) (s : State) → uses all (a + b) s ≡ after (uses all b) (uses all a s)
unfolding uses after
uses_add all zero b s = let q : 0 + b ≡ b = omega arith in rw q
uses_add all (suc a) b s =
    let q : suc a + b ≡ suc (a + b) = omega arith in
    rw q (go (turn all s) (uses_add all a b))
  where
    go : (x : Turn) → ((z : State) → uses all (a + b) z ≡ after (uses all b) (uses all a z))
        → after (uses all (a + b)) x ≡ after (uses all b) (after (uses all a) x)
    go (more z) r = r z
    go (done p k) r = refl
    go (stop e t) r = refl

-- Raising the thing that was named alone carries the run past that check. Assumes nothing.
use Prim.Native.Nat.{ℕ, ◌+◌, ◌≤◌, ◌<◌}
use mathlib.Core.Path.{◌≡◌, refl, sym, ap, ◌∙◌}
use mathlib.Core.Bool.{true}
use mathlib.Core.List.{List, [], ◌∷◌}
use mathlib.Core.Logic.{◌⊎◌, inl, inr}
use mathlib.Core.Option.{some}
use native.Mathlib.Omega.{arith}
use lib.ListN.{length}
use borrow.Author.Tests.{lt-ltb}
use Rattle.calculus.specs.Tree.{Tree}
use Rattle.calculus.specs.declared.Uses.{Uses}
use Rattle.calculus.specs.Term.{Term}
use Rattle.table.specs.Nodes.{Table, Placed, capacity, got, make}
use Rattle.table.specs.Outcome.{frames}
use Rattle.table.specs.Refusal.{number}
use Rattle.table.specs.declared.Refusal.{Refusal}
use Rattle.table.specs.declared.Refusal.TheVariants.{Steps, Nodes, Frames}
use Rattle.table.proofs.Words.{told_apart}
use Rattle.table.proofs.Making.{make_new}
use Rattle.applying.specs.declared.Rule.{Rule}
use Rattle.applying.specs.declared.Rule.TheVariants as rule
use Rattle.applying.specs.declared.Frame.{Frame}
use Rattle.applying.specs.declared.Frame.TheVariants.{SpreadFirst, SpreadSecond, TriageFirst}
use Rattle.applying.specs.Machine.{needs_frame, State, wanted, Turn, resume, grow_by, grow, hold, use_rule, turn}
use Rattle.applying.specs.Lacks.{WantsNode, of_leaf, of_stem, Lacks, no_place, all_held}
use Rattle.applying.proofs.States.{uses_next, turn_is, turn_by}
use Rattle.fields.specs.Packet.{Packet, packet}
use Rattle.running.specs.Claims.{Checked}
use Rattle.stopping.specs.declared.Kind.{Kind}
use Rattle.stopping.specs.declared.Stopped.TheVariants.{Applying}
use Rattle.stopping.specs.Stopped.{kind, stopped}
use Rattle.stopping.specs.Claims.{LacksFirst, no_steps, no_node, no_frame, StopsAt, Goes, goes_on, gives, Takes, same_use, Passes, with_limit}
use Rattle.stopping.proofs.Stopping.{lacks_first}
use Rattle.stopping.proofs.Forward.{empty_sound}
use Rattle.stopping.proofs.Exactly.{stopped_exactly}
use Rattle.stopping.proofs.Ample.{same_find, on_table, wanted_like}
use Rattle.stopping.proofs.Given.{ComesLike, comes_like}
use Rattle.stopping.proofs.Further.{takes_past}

-- ---- a use that has what it needs is taken

resume_goes : (t : Table) (fs : List Frame) (k : Uses) (v : ℕ) → Goes (resume t fs k v)
unfolding resume
resume_goes t [] k v = gives
resume_goes t (SpreadFirst p n ∷ fs) k v = goes_on
resume_goes t (SpreadSecond u ∷ fs) k v = goes_on
resume_goes t (TriageFirst q ∷ fs) k v = goes_on

grow_goes : (s : State) (k : Uses) (a b : ℕ) {m : Placed} → make s.table a b ≡ got m → Goes (grow s k a b)
unfolding grow grow_by
grow_goes s k a b {m} e = rw e (resume_goes m.table s.frames k m.node)

node_goes : (all : ℕ) (s : State) (k : Uses) {r : Rule} {a b : ℕ} {m : Placed} → WantsNode s.argument r a b → make s.table a b ≡ got m → Goes (use_rule all s k r)
unfolding use_rule
node_goes all s k of_leaf e = grow_goes s k (s.argument + 1) 0 e
node_goes all s k (of_stem {p}) e = grow_goes s k (p + 1) (s.argument + 1) e

frame_goes : (all : ℕ) (s : State) (k : Uses) (r : Rule) → needs_frame r ≡ true → length s.frames < all → Goes (use_rule all s k r)
unfolding use_rule needs_frame hold
frame_goes all s k rule.Leaf n h = told_apart n refl
frame_goes all s k (rule.Stem p) n h = told_apart n refl
frame_goes all s k (rule.Drop y) n h = told_apart n refl
frame_goes all s k (rule.Spread p y) n h = rw (lt-ltb (length s.frames) all h) goes_on
frame_goes all s k (rule.Triage p q) n h = rw (lt-ltb (length s.frames) all h) goes_on

-- a use is taken or lacks a node or a frame
turn_goes : (all : ℕ) (s : State) → Goes (turn all s) ⊎ ((e : Refusal) × (number Steps < number e) × Lacks all s e)
unfolding number
turn_goes all s =
    turn_by all s (λ (x : Turn). Goes x ⊎ ((e : Refusal) × (number Steps < number e) × Lacks all s e)) (λ z e. inl goes_on) (λ p. inl gives)
    (λ a b n f h. inr (Nodes, omega arith, no_place n f h)) (λ n h. inr (Frames, omega arith, all_held n h))

-- ---- nodes

with_table : {w s o l w' : List ℕ} {p : Packet} {t : Term} {args : List Tree} → Checked w s o l p t args → length w' ≤ 131072 → Checked w' s o l p t args
with_table c h =
    record {
      fit = record { table = h; stack = c.fit.stack; out = c.fit.out };
      is_packet = c.is_packet;
      is_rule = c.is_rule;
      are_texts = c.are_texts;
      label_reads = c.label_reads;
    }

-- in a table with a place more, or with several, the use is taken
pub more_nodes : {w s o l : List ℕ} {i j : ℕ} {c : Kind} → StopsAt w s o l Nodes i j c → (w' : List ℕ) → length w' ≤ 131072 → capacity w < capacity w' → Takes w' s o l i j c
more_nodes {w} {s} {o} {l} {i} {j} {c} x w' short room =
    let a = comes_like {d = 1} {w = w} {s = s} {p = x.sent} {w' = w'} {s' = s} {p' = x.sent} (record { nodes = omega arith; frames_more = omega arith; steps_more = omega arith; same_arguments = refl }) (empty_sound x.checked.fit) x.comes in
    go a x.lacks
  where
    go : ComesLike 1 w s w' s x.sent x.term i j x.state → LacksFirst (frames s) x.sent.limit j x.state Nodes → Takes w' s o l i j c
    go a (no_node h {a = u} {b = v} n f full) =
        let all = frames s in
        let y = on_table x.state a.table in
        let same = wanted_like {all = all} {more_frames = all} (omega arith) x.state a.like a.good in
        let e = make_new a.table u v (same_find a.like u v ∙ f) (omega (arith, a.like.room, a.like.same_used, a.good.fine.within)) in
        let g : Goes (turn all y) = rw (turn_is all y, same) (node_goes all y (uses_next x.state) n e) in
        record {
          sent = x.sent;
          term = x.term;
          args = x.args;
          checked = with_table x.checked short;
          state = y;
          comes = a.comes;
          rule = x.rule ∙ ap kind (sym same);
          limit_above = h;
          goes = g;
        }

-- ---- frames

with_stack : {w s o l s' : List ℕ} {p : Packet} {t : Term} {args : List Tree} → Checked w s o l p t args → length s' ≤ 65536 → Checked w s' o l p t args
with_stack c h =
    record {
      fit = record { table = c.fit.table; stack = h; out = c.fit.out };
      is_packet = c.is_packet;
      is_rule = c.is_rule;
      are_texts = c.are_texts;
      label_reads = c.label_reads;
    }

-- with a frame more, or with several, the use is taken
pub more_frames : {w s o l : List ℕ} {i j : ℕ} {c : Kind} → StopsAt w s o l Frames i j c → (s' : List ℕ) → length s' ≤ 65536 → frames s < frames s' → Takes w s' o l i j c
more_frames {w} {s} {o} {l} {i} {j} {c} x s' short room =
    let a = comes_like {d = 0} {w = w} {s = s} {p = x.sent} {w' = w} {s' = s'} {p' = x.sent} (record { nodes = omega arith; frames_more = omega arith; steps_more = omega arith; same_arguments = refl }) (empty_sound x.checked.fit) x.comes in
    go a x.lacks
  where
    go : ComesLike 0 w s w s' x.sent x.term i j x.state → LacksFirst (frames s) x.sent.limit j x.state Frames → Takes w s' o l i j c
    go a (no_frame h n f held) =
        let all = frames s' in
        let y = on_table x.state a.table in
        let same = wanted_like {all = frames s} {more_frames = all} (omega arith) x.state a.like a.good in
        let g : Goes (turn all y) = rw (turn_is all y, same) (frame_goes all y (uses_next x.state) (wanted x.state) f (omega (arith, a.good.held_in))) in
        record {
          sent = x.sent;
          term = x.term;
          args = x.args;
          checked = with_stack x.checked short;
          state = y;
          comes = a.comes;
          rule = x.rule ∙ ap kind (sym same);
          limit_above = h;
          goes = g;
        }

-- ---- steps

-- the same packet with another step limit
with_limit_lem : {w s o l l' : List ℕ} {p : Packet} {n : ℕ} {t : Term} {args : List Tree} → Checked w s o l p t args → packet l' ≡ some (with_limit p n) → Checked w s o l' (with_limit p n) t args
with_limit_lem c e =
    record { fit = c.fit; is_packet = e; is_rule = c.is_rule; are_texts = c.are_texts; label_reads = c.label_reads }

-- The bytes l' are those of the same packet with a higher limit: the use is taken, or lacks a node or a frame: "the same use may then lack something later
-- in the order 7, 8, 9".
pub more_steps : {w s o l : List ℕ} {i j : ℕ} {c : Kind} → (x : StopsAt w s o l Steps i j c) (l' : List ℕ) (n : ℕ) → packet l' ≡ some (with_limit x.sent n) → x.sent.limit < n
    → Takes w s o l' i j c ⊎ ((e : Refusal) × (number Steps < number e) × StopsAt w s o l' e i j c)
more_steps {w} {s} {o} {l} {i} {j} {c} x l' n is above =
    let a = comes_like {d = 0} {w = w} {s = s} {p = x.sent} {w' = w} {s' = s} {p' = with_limit x.sent n} (record { nodes = omega arith; frames_more = omega arith; steps_more = omega arith; same_arguments = refl }) (empty_sound x.checked.fit) x.comes in
    go a (wanted_like {all = frames s} {more_frames = frames s} (omega arith) x.state a.like a.good) x.lacks (turn_goes (frames s) (on_table x.state a.table))
  where
    go : (a : ComesLike 0 w s w s (with_limit x.sent n) x.term i j x.state) → wanted (on_table x.state a.table) ≡ wanted x.state
        → LacksFirst (frames s) x.sent.limit j x.state Steps
        → Goes (turn (frames s) (on_table x.state a.table)) ⊎ ((e : Refusal) × (number Steps < number e) × Lacks (frames s) (on_table x.state a.table) e)
        → Takes w s o l' i j c ⊎ ((e : Refusal) × (number Steps < number e) × StopsAt w s o l' e i j c)
    go a same (no_steps q) (inl g) =
        inl (record {
          sent = with_limit x.sent n;
          term = x.term;
          args = x.args;
          checked = with_limit_lem x.checked is;
          state = on_table x.state a.table;
          comes = a.comes;
          rule = x.rule ∙ ap kind (sym same);
          limit_above = omega arith;
          goes = g;
        })
    go a same (no_steps q) (inr g) =
        inr (
          g.0,
          g.1,
          record {
            sent = with_limit x.sent n;
            term = x.term;
            args = x.args;
            checked = with_limit_lem x.checked is;
            state = on_table x.state a.table;
            comes = a.comes;
            rule = x.rule ∙ ap kind (sym same);
            lacks = lacks_first (omega arith) g.2;
            from_one = x.from_one;
            to_eight = x.to_eight;
            k = x.k;
            next = x.next;
            steps_are = x.steps_are;
          },
        )

-- ---- what `stopped` answers then

-- a run that takes the use is past the check
passes : {w s o l : List ℕ} {i j : ℕ} {c : Kind} (e : Refusal) → Takes w s o l i j c → Passes w s o l e i j c
passes e x = record { sent = x.sent; term = x.term; args = x.args; checked = x.checked; past = takes_past e x }

module _ (w s o l : List ℕ) (i j : ℕ) (c : Kind) where
  -- "raising the named thing alone by one carries the run past that check": for 8, a table with a place more, or with several
  pub raise_nodes : (stopped w s o l).answer ≡ Applying Nodes i j c → (w' : List ℕ) → length w' ≤ 131072 → capacity w < capacity w' → Passes w' s o l Nodes i j c
  raise_nodes q w' short room = passes Nodes (more_nodes ((stopped_exactly w s o l Nodes i j c).0 q) w' short room)

  -- for 9, a stack with a frame more, or with several
  pub raise_frames : (stopped w s o l).answer ≡ Applying Frames i j c → (s' : List ℕ) → length s' ≤ 65536 → frames s < frames s' → Passes w s' o l Frames i j c
  raise_frames q s' short room = passes Frames (more_frames ((stopped_exactly w s o l Frames i j c).0 q) s' short room)

  -- for 7, a higher limit n in the packet p, whose bytes are then l'
  pub raise_steps : (stopped w s o l).answer ≡ Applying Steps i j c → (p : Packet) → packet l ≡ some p → (l' : List ℕ) (n : ℕ) → packet l' ≡ some (with_limit p n) → p.limit < n
      → Passes w s o l' Steps i j c
  raise_steps q p is l' n named above =
      let x = (stopped_exactly w s o l Steps i j c).0 q in
      let e : x.sent ≡ p = cc x.checked.is_packet in
      let d : packet l' ≡ some (with_limit x.sent n) = rw e named in
      go (more_steps x l' n d (rw e above))
    where
      go : Takes w s o l' i j c ⊎ ((e : Refusal) × (number Steps < number e) × StopsAt w s o l' e i j c) → Passes w s o l' Steps i j c
      go (inl y) = passes Steps y
      go (inr y) =
          record {
            sent = y.2.sent;
            term = y.2.term;
            args = y.2.args;
            checked = y.2.checked;
            past = rw ((stopped_exactly w s o l' y.0 i j c).1 y.2) (same_use y.1);
          }

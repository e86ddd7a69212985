-- A run that takes a use goes further: what `stopped` then answers. Assumes nothing.
use Prim.Native.Nat.{ℕ, ◌+◌, ◌-◌, ◌<◌}
use mathlib.Core.Path.{◌≡◌, refl, ◌∙◌, subst}
use mathlib.Core.List.{List, [], ◌∷◌}
use native.Mathlib.Omega.{arith}
use lib.ListN.{length, length-replicate}
use lib.Dec.{leb}
use borrow.Author.Tests.{le-leb}
use Rattle.calculus.specs.Tree.{Tree}
use Rattle.calculus.specs.declared.Uses.{Uses}
use Rattle.calculus.specs.Uses.{◌⊕◌, steps}
use Rattle.calculus.specs.Term.{Term}
use Rattle.table.specs.Nodes.{Table, Placed}
use Rattle.table.specs.Outcome.{Entered, frames, zeros}
use Rattle.table.specs.Outcome as outcome
use Rattle.table.specs.declared.Refusal.{Refusal}
use Rattle.table.proofs.Words.{zero_one}
use Rattle.table.proofs.Entry.{enters, lacks_entry}
use Rattle.ternary.specs.Write as write
use Rattle.ternary.specs.Held.{no_out, no_frame}
use Rattle.ternary.specs.Lacks.{WriteLacks, WriteCase}
use Rattle.ternary.proofs.Writes.{write_case}
use Rattle.applying.specs.Machine.{State, Turn, more, done, stop, turn, after, uses}
use Rattle.applying.specs.Apply.{begin}
use Rattle.applying.specs.Ended.{ended, apply_ended}
use Rattle.applying.proofs.States.{Counted, turn_steps, uses_steps}
use Rattle.fields.specs.Packet.{Packet}
use Rattle.running.specs.Run.{stopped, after_written, writes}
use Rattle.running.specs.Tell.{told, after_ended, tell_applies}
use Rattle.running.specs.Claims.{Checked, TranslateHad, ReadsHad, Reached, and_applied}
use Rattle.running.specs.declared.Told.{Told}
use Rattle.stopping.specs.declared.Kind.{Kind}
use Rattle.stopping.specs.declared.Stopped.TheVariants.{Refused}
use Rattle.stopping.specs.Stopped.{stop_by}
use Rattle.stopping.specs.Stopped as stopping
use Rattle.stopping.specs.Claims.{Goes, goes_on, gives, Takes, AllApplied, Past, further, no_frames, no_bytes}
use Rattle.stopping.specs.Claims as claims
use Rattle.stopping.proofs.Forward.{empty_sound, told_forward, uses_from}
use Rattle.stopping.proofs.Given.{Stands, comes_stands, done_stands}

-- a turn that is more than j steps far, where k steps were taken before the application
abbrev Far : ℕ → ℕ → Turn → Type 0
Far k j (more z) = j < k + steps z.uses
Far k j (done p m) = j < k + steps m
Far k j (stop e z) = j < k + steps z.uses

far_any : (k : ℕ) {j : ℕ} → j < k → (x : Turn) → Far k j x
far_any k h (more z) = omega arith
far_any k h (done p m) = omega arith
far_any k h (stop e z) = omega arith

-- a use that is taken leads further, and so do those after it
far_on : (all n : ℕ) (y : State) (k : ℕ) → Goes (turn all y) → Far k (k + steps y.uses) (after (uses all n) (turn all y))
unfolding after
far_on all n y k g = go (turn all y) g (turn_steps all y)
  where
    on : (z : State) (x : Turn) → steps z.uses ≡ steps y.uses + 1 → Counted (steps z.uses) n x → Far k (k + steps y.uses) x
    on z (more v) e c = omega arith
    on z (done p m) e c = omega (arith, c.0)
    on z (stop d v) e c = omega (arith, c.0)

    go : (x : Turn) → Goes x → Counted (steps y.uses) 1 x → Far k (k + steps y.uses) (after (uses all n) x)
    go (more z) (goes_on) c = on z (uses all n z) c (uses_steps all n z)
    go (done p m) (gives) c = omega (arith, c.0)
    go (stop _ _) g c = elim g [ ]

module _ {w s o l : List ℕ} {p : Packet} {t : Term} {args : List Tree} (checked : Checked w s o l p t args) (e : Refusal) (place j : ℕ) (c : Kind)
    {r : Placed} {z : Table} {ns : List ℕ} (rule_laid : TranslateHad w s t r) (arguments_read : ReadsHad s r.table p.arguments z ns) where
  abbrev To : Table → ℕ → List ℕ → Uses → Type 0
  To y v ms k = Reached (frames s) p.limit z r.node ns y v ms k

  abbrev IsPast : Told → Type 0
  IsPast a = Past w s p t e place j c (stop_by a.ran a.stop)

  -- every argument is applied to
  write_past : {y : Table} {v : ℕ} {k : Uses} → To y v [] k → j < steps k → Stands y v [] → (x : List ℕ) → length x ≡ length s
      → IsPast (told (writes y.words y.used x o v k)).answer
  unfolding writes after_written stopped stop_by
  write_past {y} {v} {k} reached h st x q = go (write_case y.words y.used x v o)
    where
      all : AllApplied w s p t j
      all =
          record {
            placed = r;
            rule_laid = rule_laid;
            read_table = z;
            read_nodes = ns;
            arguments_read = arguments_read;
            table = y;
            node = v;
            k = k;
            reached = reached;
            more_steps = h;
          }

      entered : Entered (leb (length o) 65535) y.words y.used x
      entered = record { table = st.fine; stack = omega (arith, checked.fit.stack); limits_kept = le-leb (length o) 65535 checked.fit.out }

      lacked : {d : Refusal} {x' : List ℕ} → WriteLacks y.words y.used x v o d x' → Past w s p t e place j c (Refused d)
      lacked (WriteLacks.of_entry f) = zero_one (cc (enters entered, lacks_entry f))
      lacked (WriteLacks.no_node f i) = absurd (omega (arith, st.function_in))
      lacked (WriteLacks.no_room f i (no_out m)) = no_bytes all
      lacked (WriteLacks.no_room f i (no_frame m)) = no_frames all

      go : WriteCase y.words y.used x v o (write.write y.words y.used x v o) → IsPast (told (writes y.words y.used x o v k)).answer
      go (WriteCase.refuses f m) = rw m (lacked f)
      go (WriteCase.writes f m) = rw m (claims.writes all)

  -- the application to one argument, and those to the rest where it gives a node
  turn_past : (i n : ℕ) (ms : List ℕ) {y : Table} {v : ℕ} {k : Uses} → To y v (n ∷ ms) k → Stands y v (n ∷ ms) → (x : List ℕ) → length x ≡ length s
      → Far (steps k) j (uses (frames s) (p.limit - steps k) (begin y.words y.used v n))
      → ((y : Table) (v : ℕ) (k : Uses) → To y v ms k → j < steps k → Stands y v ms → (x : List ℕ) → length x ≡ length s
      → IsPast (tell_applies (i + 1) ms p.limit y.words y.used x o v k).answer)
      → IsPast (tell_applies i (n ∷ ms) p.limit y.words y.used x o v k).answer
  unfolding tell_applies after_ended apply_ended ended stopped stop_by outcome.stopped
  turn_past i n ms {y} {v} {k} reached st x q far on = rw q (go (uses (frames s) (p.limit - steps k) (begin y.words y.used v n)) refl far)
    where
      go : (u : Turn) → uses (frames s) (p.limit - steps k) (begin y.words y.used v n) ≡ u → Far (steps k) j u
          → IsPast (after_ended i k y.used o (ended y.used x u) (λ w' u' s' v' m. tell_applies (i + 1) ms p.limit w' u' s' o v' (k ⊕ m)) (ended y.used x u).answer).answer
      go (more b) f h = further h
      go (done m a) f h = on m.table m.node (k ⊕ a) (and_applied reached f) (omega arith) (done_stands (frames s) (p.limit - steps k) st f) (zeros x) (length-replicate (length x) 0 ∙ q)
      go (stop d b) f h = further h

  applies_past : (ms : List ℕ) (i : ℕ) {y : Table} {v : ℕ} {k : Uses} → To y v ms k → j < steps k → Stands y v ms → (x : List ℕ) → length x ≡ length s
      → IsPast (tell_applies i ms p.limit y.words y.used x o v k).answer
  unfolding tell_applies
  applies_past [] i reached h st x q = write_past reached h st x q
  applies_past (n ∷ ms) i {y} {v} {k} reached h st x q =
      turn_past i n ms reached st x q (far_any (steps k) h (uses (frames s) (p.limit - steps k) (begin y.words y.used v n)))
      (λ (y : Table) (v : ℕ) (k : Uses). applies_past ms (i + 1) {y = y} {v = v} {k = k})

-- A run that takes the use that place i and j steps name is past every check of it.
pub takes_past : {w s o l : List ℕ} {i j : ℕ} {c : Kind} (e : Refusal) (x : Takes w s o l i j c) → Past w s x.sent x.term e i j c (stopping.stopped w s o l).answer
unfolding stopping.stopped
takes_past {w} {s} {o} {l} {i} {j} {c} e x =
    let h = x.comes in
    let a = told_forward x.checked h.rule_laid h.arguments_read h.reached i (omega (arith, h.place)) in
    let st = comes_stands (empty_sound x.checked.fit) h in
    let b = begin h.table.words h.table.used h.function h.argument in
    let left = x.sent.limit - steps h.k in
    let u : h.taken < left = omega (arith, h.steps_are, x.limit_above) in
    let d : Counted 0 h.taken (more x.state) = subst (Counted 0 h.taken) h.led (uses_steps (frames s) h.taken b) in
    let m : steps h.k + steps x.state.uses ≡ j = omega (arith, h.steps_are) in
    let f = rw (m, ← uses_from (frames s) b h.led u) at (far_on (frames s) (left - h.taken - 1) x.state (steps h.k) x.goes) in
    rw a.2
    (turn_past x.checked e i j c h.rule_laid h.arguments_read i h.argument h.left h.reached st a.0 a.1 f
    (λ (y : Table) (v : ℕ) (k : Uses). applies_past x.checked e i j c h.rule_laid h.arguments_read h.left (i + 1) {y = y} {v = v} {k = k}))

-- Laws for each way that the code of an application ends, over plain values. Assumes nothing.
use Prim.Native.Nat.{ℕ, ◌*◌, ◌≤◌, ◌<◌}
use mathlib.Core.Path.{◌≡◌, sym, ap, ◌∙◌, subst}
use mathlib.Core.List.{List}
use native.Mathlib.Omega.{arith}
use lib.ListN.{length}
use Rattle.std.specs.Prelude.{Err}
use Rattle.calculus.specs.declared.Uses.{Uses}
use Rattle.calculus.specs.Uses.{steps}
use Rattle.table.specs.Nodes.{Sound, cleared}
use Rattle.table.specs.Outcome.{Outcome, whole, frames, zeros, stopped}
use Rattle.table.specs.declared.Refusal.{Refusal}
use Rattle.table.specs.declared.Refusal.TheVariants.{Steps, Nodes, Frames}
use Rattle.table.proofs.Words.{cleared_all}
use Rattle.applying.specs.declared.Rule.{Rule}
use Rattle.applying.specs.declared.Stopped.{Stopped}
use Rattle.frames.specs.declared.End.{End}
use Rattle.frames.specs.declared.End.TheVariants as ends
use Rattle.frames.specs.declared.Turned.{Turned}
use Rattle.applying.specs.Machine.{rule, Turn, more, done, stop, uses}
use Rattle.applying.specs.Apply.{begin}
use Rattle.applying.specs.Ended.{ended, apply_ended, Ended, ended_in, stopped_with}
use Rattle.rules.specs.Code.{ReadyEnd, ReadyTurned}
use Rattle.machine.specs.Code.{ReadyEnded}
use Rattle.frames.specs.Code.{uses_of, end_of, turn_of}
use Rattle.applying.proofs.States.{Later, uses_later, Counted, uses_steps}
use Rattle.applying.proofs.Cases.{sound_begin}

-- Where an application ends: y and z are the words of table and stack that it leaves.
module _ (u : ℕ) (w s : List ℕ) {z : List ℕ} (x : Turned) (stack : z ≡ cleared s 0 (length s)) where
  all_zeros : z ≡ zeros s
  all_zeros = stack ∙ cleared_all s

  pub settle_done : {j : ℕ} {k : Uses} → k ≡ uses_of x.state → j ≡ steps k → x.end ≡ ends.Done
      → whole (ended_in x.state.function x.state.used j k) w z ≡ ended u s (turn_of x w s)
  unfolding ended
  settle_done c l e = rw (e, l, c, all_zeros)

  -- the answer of a stop
  abbrev at : Refusal → Stopped
  at e = record { refusal = e; steps = steps (uses_of x.state); rule = rule w x.state.function }

  module _ {y : List ℕ} (nodes : y ≡ cleared w (u * 2) (x.state.used * 2)) where
    undone : {b : Stopped} (e : Refusal) → b ≡ at e → whole {A = Ended} (Err b) y z ≡ stopped {A = Ended} (Err (at e)) (record { words = w; used = x.state.used }) u s
    unfolding stopped
    undone {b} e r = rw (r, nodes, all_zeros)

    pub settle_more : {b : Stopped} → x.end ≡ ends.More → b ≡ at Steps → whole {A = Ended} (Err b) y z ≡ ended u s (turn_of x w s)
    unfolding ended
    settle_more e r = rw e (undone Steps r)

    pub settle_nodes : {b : Stopped} → x.end ≡ ends.Nodes → b ≡ at Nodes → whole {A = Ended} (Err b) y z ≡ ended u s (turn_of x w s)
    unfolding ended
    settle_nodes e r = rw e (undone Nodes r)

    pub settle_frames : {b : Stopped} → x.end ≡ ends.Frames → b ≡ at Frames → whole {A = Ended} (Err b) y z ≡ ended u s (turn_of x w s)
    unfolding ended
    settle_frames e r = rw e (undone Frames r)

-- where an application ends with a node, the table is ready as the uses left it
pub settle_ready : (u : ℕ) (t : Turned) (y z : List ℕ) (a : Ended) (w s : List ℕ) (i : ℕ) (ix : List ℕ) → whole a w s ≡ ended u z (turn_of t y z) → ReadyTurned t y i ix → ReadyEnded a w i ix
unfolding ended stopped ReadyEnd ReadyEnded
settle_ready u t y z a w s i ix = go t.end
  where
    refused : {e : Refusal} {j : ℕ} {d : Rule} → a ≡ stopped_with e j d → ReadyEnded a w i ix
    refused q = rw q tt

    go : (e : End) → whole a w s ≡ ended u z (end_of e t.state y z) → ReadyEnd e y t.state.used i ix → ReadyEnded a w i ix
    go ends.More q h = refused (ap (λ (o : Outcome Ended). o.answer) q)
    go ends.Done q h = rw (ap (λ (o : Outcome Ended). o.answer) q, ap (λ (o : Outcome Ended). o.table) q) h
    go ends.Nodes q h = refused (ap (λ (o : Outcome Ended). o.answer) q)
    go ends.Frames q h = refused (ap (λ (o : Outcome Ended). o.answer) q)

-- the stack is cleared, so only its length matters
same_zeros : (u : ℕ) (z s : List ℕ) → length z ≡ length s → (x : Turn) → ended u z x ≡ ended u s x
unfolding ended stopped
same_zeros u z s l (more y) = rw l
same_zeros u z s l (done p k) = rw l
same_zeros u z s l (stop e t) = rw l

-- An application on a sound table with two nodes in use, by its uses: y and z are the words of table and stack after them.
module _ {w : List ℕ} {u : ℕ} (s : List ℕ) {f n : ℕ} (fine : Sound (record { words = w; used = u })) (function_in : f < u) (argument_in : n < u)
    (limit : ℕ) (t : Turned) (y z : List ℕ) (used : turn_of t y z ≡ uses (frames s) limit (begin w u f n)) where
  -- no node is lost, the table is sound, the node named is in use, and the uses are within the limit
  pub used_in : limit ≤ 1000000
      → (u ≤ t.state.used) × Sound (record { words = y; used = t.state.used }) × (t.state.function < t.state.used) × (steps (uses_of t.state) ≤ 1000000)
  used_in h = go t.end (subst (Later (frames s) (begin w u f n).table) (sym used) (uses_later limit (sound_begin fine function_in argument_in)))
      (subst (Counted 0 limit) (sym used) (uses_steps (frames s) limit (begin w u f n)))
    where
      go : (e : End) → Later (frames s) (begin w u f n).table (end_of e t.state y z) → Counted 0 limit (end_of e t.state y z)
          → (u ≤ t.state.used) × Sound (record { words = y; used = t.state.used }) × (t.state.function < t.state.used) × (steps (uses_of t.state) ≤ 1000000)
      go ends.More l c = (l.extends.kept.up, l.fine, l.ready.function_in, omega (arith, c))
      go ends.Done l c = (l.extends.kept.up, l.fine, l.ready, omega (arith, c.1))
      go ends.Nodes l c = (l.extends.kept.up, l.fine, l.ready.function_in, omega (arith, c.1))
      go ends.Frames l c = (l.extends.kept.up, l.fine, l.ready.function_in, omega (arith, c.1))

  pub settled : (o : Outcome Ended) → length z ≡ length s → o ≡ ended u z (turn_of t y z) → o ≡ apply_ended w u s f n limit
  unfolding apply_ended
  settled o l r = r ∙ rw used (same_zeros u z s l (uses (frames s) limit (begin w u f n)))

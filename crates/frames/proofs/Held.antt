-- Laws for each way that a frame is taken or written by an application's state, over plain values. Assumes nothing.
use Prim.Native.Nat.{ℕ, ◌+◌, ◌-◌, ◌*◌, ◌≤◌, ◌<◌}
use mathlib.Core.Path.{◌≡◌}
use mathlib.Core.List.{List, ◌∷◌}
use native.Mathlib.Omega.{arith}
use lib.ListN.{length}
use borrow.Author.Tests.{lt-ltb, le-ltb}
use Rattle.calculus.specs.declared.Uses.{Uses}
use Rattle.table.specs.Outcome.{frames}
use Rattle.table.specs.declared.Refusal.TheVariants.{Frames}
use Rattle.applying.specs.declared.Frame.{Frame}
use Rattle.applying.specs.declared.Frame.TheVariants.{SpreadFirst, SpreadSecond, TriageFirst}
use Rattle.applying.specs.Machine.{done, stop, resume, hold}
use Rattle.frames.specs.declared.Machine.{Machine}
use Rattle.frames.specs.declared.Turned.{Turned}
use Rattle.frames.specs.Code.{frame_at, pushed, frames_of, state_of, turn_of, more_of}
use Rattle.frames.proofs.Frames.{frames_pushed, frames_last, length_frames}

-- node v goes to the last frame
module _ (s w : List ℕ) (u d : ℕ) (k : Uses) (v : ℕ) where
  pub none_left : d ≡ 0 → done (record { table = record { words = w; used = u }; node = v }) k ≡ resume (record { words = w; used = u }) (frames_of s d) k v
  unfolding frames_of resume
  none_left e = rw e

  pub spread_left : (z : List ℕ) (p n : ℕ) (x : Turned) → 0 < d → d * 3 ≤ length s → frame_at s (d - 1) ≡ SpreadFirst p n
      → z ≡ pushed s (d - 1) (SpreadSecond v) → x ≡ more_of u p n d k
      → turn_of x w z ≡ resume (record { words = w; used = u }) (frames_of s d) k v
  unfolding resume
  spread_left z p n x h l e r q =
      let o : (d - 1) + 1 ≡ d = omega arith in
      let g : frames_of z d ≡ SpreadSecond v ∷ frames_of s (d - 1) = rw r (rw o at (frames_pushed s (d - 1) (SpreadSecond v) (omega arith))) in
      rw (q, g, frames_last s d h, e)

  pub second_left : (a : ℕ) (x : Turned) → 0 < d → frame_at s (d - 1) ≡ SpreadSecond a → x ≡ more_of u a v (d - 1) k
      → turn_of x w s ≡ resume (record { words = w; used = u }) (frames_of s d) k v
  unfolding resume
  second_left a x h e q = rw (q, frames_last s d h, e)

  pub triage_left : (q : ℕ) (x : Turned) → 0 < d → frame_at s (d - 1) ≡ TriageFirst q → x ≡ more_of u v q (d - 1) k
      → turn_of x w s ≡ resume (record { words = w; used = u }) (frames_of s d) k v
  unfolding resume
  triage_left a x h e q = rw (q, frames_last s d h, e)

-- a frame is free or not
module _ (m : Machine) (k : Uses) (w s : List ℕ) (e : Frame) (f n : ℕ) where
  pub hold_full : frames s ≤ m.held → stop Frames (state_of m w s) ≡ hold (frames s) (state_of m w s) k e f n
  unfolding hold
  hold_full h = rw (length_frames s m.held, le-ltb m.held (frames s) h)

  pub hold_free : (z : List ℕ) (x : Turned) → m.held < frames s → z ≡ pushed s m.held e
      → x ≡ more_of m.used f n (m.held + 1) k
      → turn_of x w z ≡ hold (frames s) (state_of m w s) k e f n
  unfolding hold
  hold_free z x h r q =
      rw (length_frames s m.held, lt-ltb m.held (frames s) h, q, r, frames_pushed s m.held e (omega arith))

-- The frames that a stack's words say, after one is written and under the last one. Assumes nothing.
use Prim.Native.Nat.{ℕ, zero, suc, ◌+◌, ◌-◌, ◌*◌, ◌<◌}
use mathlib.Core.Path.{◌≡◌, refl, ap, ap₂, ◌∙◌}
use mathlib.Core.List.{List, ◌∷◌}
use native.Mathlib.Omega.{arith}
use native.Mathlib.Numerals.{add-one}
use lib.ListN.{length, get_or, set, length-set}
use lib.Seq.{get_or-set_same, get_or-set_other}
use Rattle.applying.specs.declared.Frame.{Frame}
use Rattle.applying.specs.declared.Frame.TheVariants.{SpreadFirst, SpreadSecond, TriageFirst}
use Rattle.frames.specs.Code.{frame_of, frame_at, pushed, frames_of}

-- tag and first node number of frame d are written: a word below the frame, and the two words
module _ (s : List ℕ) (d k a : ℕ) where
  abbrev two : List ℕ
  two = set (set s (d * 3) k) (d * 3 + 1) a

  two_below : (i : ℕ) → i < d * 3 → get_or two i 0 ≡ get_or s i 0
  two_below i h =
      get_or-set_other (set s (d * 3) k) (d * 3 + 1) i a 0 (λ e. omega arith) ∙ get_or-set_other s (d * 3) i k 0 (λ e. omega arith)

  two_tag : d * 3 + 2 < length s → get_or two (d * 3) 0 ≡ k
  two_tag h =
      get_or-set_other (set s (d * 3) k) (d * 3 + 1) (d * 3) a 0 (λ e. omega arith) ∙ get_or-set_same s (d * 3) k 0 (omega arith)

  two_node : d * 3 + 2 < length s → get_or two (d * 3 + 1) 0 ≡ a
  two_node h = get_or-set_same (set s (d * 3) k) (d * 3 + 1) a 0 (simp length-set (omega arith))

pushed_below : (s : List ℕ) (d : ℕ) (e : Frame) (i : ℕ) → i < d * 3 → get_or (pushed s d e) i 0 ≡ get_or s i 0
unfolding pushed
pushed_below s d (SpreadFirst p n) i h = get_or-set_other (two s d 0 p) (d * 3 + 2) i n 0 (λ e. omega arith) ∙ two_below s d 0 p i h
pushed_below s d (SpreadSecond v) i h = two_below s d 1 v i h
pushed_below s d (TriageFirst q) i h = two_below s d 2 q i h

pushed_at : (s : List ℕ) (d : ℕ) (e : Frame) → d * 3 + 2 < length s → frame_at (pushed s d e) d ≡ e
unfolding pushed frame_at frame_of
pushed_at s d (SpreadFirst p n) h =
    let a = get_or-set_other (two s d 0 p) (d * 3 + 2) (d * 3) n 0 (λ e. omega arith) ∙ two_tag s d 0 p h in
    let b = get_or-set_other (two s d 0 p) (d * 3 + 2) (d * 3 + 1) n 0 (λ e. omega arith) ∙ two_node s d 0 p h in
    let c = get_or-set_same (two s d 0 p) (d * 3 + 2) n 0 (simp length-set (omega arith)) in
    rw (a, b, c)
pushed_at s d (SpreadSecond v) h = rw (two_tag s d 1 v h, two_node s d 1 v h)
pushed_at s d (TriageFirst q) h = rw (two_tag s d 2 q h, two_node s d 2 q h)

-- the frames below d are the same where the words below d * 3 are
frames_same : (s z : List ℕ) (d : ℕ) → ((i : ℕ) → i < d * 3 → get_or z i 0 ≡ get_or s i 0) → frames_of z d ≡ frames_of s d
unfolding frames_of frame_at
frames_same s z zero h = refl
frames_same s z (suc d) h =
    let a : get_or z (d * 3) 0 ≡ get_or s (d * 3) 0 = h (d * 3) (omega arith) in
    let b : get_or z (d * 3 + 1) 0 ≡ get_or s (d * 3 + 1) 0 = h (d * 3 + 1) (omega arith) in
    let c : get_or z (d * 3 + 2) 0 ≡ get_or s (d * 3 + 2) 0 = h (d * 3 + 2) (omega arith) in
    rw (a, b, c, frames_same s z d (λ i l. h i (omega arith)))

-- a frame that is written above d others is held above them
pub frames_pushed : (s : List ℕ) (d : ℕ) (e : Frame) → d * 3 + 2 < length s → frames_of (pushed s d e) (d + 1) ≡ e ∷ frames_of s d
unfolding frames_of
frames_pushed s d e h =
    rw add-one (ap₂ (λ (x : Frame) (y : List Frame). x ∷ y) (pushed_at s d e h) (frames_same s (pushed s d e) d (pushed_below s d e)))

pub frames_last : (s : List ℕ) (d : ℕ) → 0 < d → frames_of s d ≡ frame_at s (d - 1) ∷ frames_of s (d - 1)
unfolding frames_of
frames_last s zero h = absurd (omega arith)
frames_last s (suc d) h = let q : suc d - 1 ≡ d = omega arith in rw q

pub length_frames : (s : List ℕ) (d : ℕ) → length (frames_of s d) ≡ d
unfolding frames_of
length_frames s zero = refl
length_frames s (suc d) = ap suc (length_frames s d)

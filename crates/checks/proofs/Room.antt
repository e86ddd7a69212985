-- Laws of the check for frames: one for each way that its code goes, and what it says to its callers. Assumes nothing.
use Prim.Native.Nat.{ℕ, ◌≤◌, ◌<◌}
use mathlib.Core.Path.{◌≡◌, refl, sym, ap, ◌∙◌}
use mathlib.Core.Bool.{Bool, true, false, cond}
use mathlib.Core.List.{List}
use mathlib.Core.Option.{none, some}
use lib.ListN.{length}
use lib.Dec.{ltb}
use borrow.Author.Tests.{lt-ltb, le-ltb, ltb-true, ltb-false}
use Rattle.std.specs.Prelude.{⊤, Result, Ok, Err}
use Rattle.calculus.specs.Tree.{Tree}
use Rattle.table.specs.Nodes.{cleared}
use Rattle.table.specs.Outcome.{whole, frames, zeros, laid, laid_within}
use Rattle.table.specs.declared.Refusal.{Refusal}
use Rattle.table.specs.declared.Refusal.TheVariants.{Frames}
use Rattle.table.proofs.Words.{zero_one, cleared_all}
use Rattle.table.proofs.Laid.{frames_refused, room_laid}
use Rattle.table.specs.Refusal.{not_made}
use Rattle.checks.specs.Code as code
use Rattle.checks.specs.Code.{checked_with, frames_for}

-- the stack has so few frames, and is cleared
pub record TooFew (s : List ℕ) (held : ℕ) (e : Refusal) (z : List ℕ) : Type 0 where
  pub is_frames : e ≡ Frames
  pub cleared_all : z ≡ zeros s
  pub few : frames s < held

-- there are frames enough, and the stack is as it was
pub record Enough (s : List ℕ) (held : ℕ) (z : List ℕ) : Type 0 where
  pub same : z ≡ s
  pub frames_free : held ≤ frames s

module _ (s : List ℕ) (held : ℕ) where
  pub lacks_frames : {z : List ℕ} → frames s < held → z ≡ cleared s 0 (length s) → checked_with (Err Frames) z ≡ frames_for s held
  unfolding frames_for
  lacks_frames k e = rw (lt-ltb (frames s) held k, e, cleared_all s)

  pub lacks_nothing : held ≤ frames s → checked_with (Ok tt) s ≡ frames_for s held
  unfolding frames_for
  lacks_nothing k = rw (le-ltb (frames s) held k)

  module _ {r : Result ⊤ Refusal} {z : List ℕ} (e : checked_with r z ≡ frames_for s held) where
    pub no_room : {c : Refusal} → r ≡ Err c → TooFew s held c z
    unfolding frames_for
    no_room {c} q = go (ltb (frames s) held) refl (ap (λ (y : Result ⊤ Refusal). checked_with y z) (sym q) ∙ e)
      where
        go : (b : Bool) → ltb (frames s) held ≡ b
            → checked_with (Err c) z ≡ cond b (record { refusal = some Frames; stack = zeros s }) (record { refusal = none; stack = s }) → TooFew s held c z
        go true b d = record { is_frames = let n : some c ≡ some Frames = ap (λ (y : code.Room). y.refusal) d in cc; cleared_all = ap (λ (y : code.Room). y.stack) d; few = ltb-true (frames s) held b }
        go false b d = let n : some c ≡ none = ap (λ (y : code.Room). y.refusal) d in zero_one (cc)

    pub has_room : r ≡ Ok tt → Enough s held z
    unfolding frames_for
    has_room q = go (ltb (frames s) held) refl (ap (λ (y : Result ⊤ Refusal). checked_with y z) (sym q) ∙ e)
      where
        go : (b : Bool) → ltb (frames s) held ≡ b
            → checked_with (Ok tt) z ≡ cond b (record { refusal = some Frames; stack = zeros s }) (record { refusal = none; stack = s }) → Enough s held z
        go true b d = let n : none ≡ some Frames = ap (λ (y : code.Room). y.refusal) d in zero_one (cc)
        go false b d = record { same = ap (λ (y : code.Room). y.stack) d; frames_free = ltb-false (frames s) held b }

    -- what the check says of a tree that is to be laid out in a table
    module _ (w : List ℕ) (u : ℕ) (x : Tree) where
      pub refused_within : {c : Refusal} → r ≡ Err c → whole (not_made c) w z ≡ laid_within w u s held x
      refused_within q =
          let f = no_room q in
          rw (f.is_frames, f.cleared_all) (frames_refused w u s held x f.few)

      pub laid_within_lem : r ≡ Ok tt → laid w u s x ≡ laid_within w u s held x
      laid_within_lem q = room_laid w u s held x (has_room q).frames_free

-- How Apply comes to its outcome: the checks at entry refuse, or the uses of the rules settle it. Assumes nothing.
use Prim.Native.Nat.{ℕ, ◌<◌}
use mathlib.Core.Path.{◌≡◌, refl}
use mathlib.Core.Bool.{Bool, true, false, ◌&&◌}
use mathlib.Core.List.{List}
use mathlib.Core.Option.{Option, none, some}
use native.Mathlib.Omega.{arith}
use lib.Dec.{ltb, leb}
use borrow.Author.Tests.{ltb-true, lt-ltb}
use Rattle.table.specs.Nodes.{Sound}
use Rattle.table.specs.Outcome.{Entered, whole, frames, at_entry}
use Rattle.table.specs.Refusal.{number, clears}
use Rattle.table.specs.declared.Refusal.{Refusal}
use Rattle.table.proofs.Words.{zero_one, and_left, and_right}
use Rattle.table.proofs.Entry.{entered, enters, entry_lacks, lacks_entry, entry_keeps}
use Rattle.applying.specs.Machine.{uses}
use Rattle.applying.specs.Apply.{settle, begin, apply_nodes, apply, not_applied}
use Rattle.applying.specs.Lacks.{ChecksLack, early, not_in_use}
use Rattle.applying.specs.States.{Good}

-- The two ways to an outcome of Apply: "1, also for a step limit above 1,000,000. 2. 3 for either number. Then 7, 8, 9 as the rules say."
pub data Ways (w : List ℕ) (u : ℕ) (s : List ℕ) (f n limit : ℕ) : Type 0 where
  refused : {e : Refusal} → ChecksLack w u s f n limit e → apply w u s f n limit ≡ whole (not_applied e) w s → Ways w u s f n limit
  ran : Entered (leb limit 1000000) w u s → f < u → n < u
      → apply w u s f n limit ≡ settle u s (uses (frames s) limit (begin w u f n)) → Ways w u s f n limit

pub ways : (w : List ℕ) (u : ℕ) (s : List ℕ) (f n limit : ℕ) → Ways w u s f n limit
unfolding apply apply_nodes
ways w u s f n limit = go (at_entry (leb limit 1000000) w u s) refl (ltb f u && ltb n u) refl
  where
    go : (a : Option Refusal) → at_entry (leb limit 1000000) w u s ≡ a → (b : Bool) → (ltb f u && ltb n u) ≡ b → Ways w u s f n limit
    go (some e) p b q = refused (early (entry_lacks (leb limit 1000000) w u s p)) (rw p)
    go none p false q = refused (not_in_use p (λ h k. let z : ◌≡◌ {A = ℕ} 0 1 = cc (lt-ltb f u h, lt-ltb n u k) in omega arith)) (rw (p, q))
    go none p true q =
        ran (entered (leb limit 1000000) w u s p) (ltb-true f u (and_left (ltb f u) (ltb n u) q)) (ltb-true n u (and_right (ltb f u) (ltb n u) q)) (rw (p, q))

-- "Numbers 1 to 6 [..] leave lent memory as found": the refusals of the checks are among these
pub checks_keep : {w : List ℕ} {u : ℕ} {s : List ℕ} {f n limit : ℕ} {e : Refusal} → ChecksLack w u s f n limit e → clears e ≡ false
unfolding clears number
checks_keep (early h) = entry_keeps h
checks_keep (not_in_use h k) = refl

-- where the checks are passed, none of them refuses
pub none_lacks : {w : List ℕ} {u : ℕ} {s : List ℕ} {f n limit : ℕ} {e : Refusal} → Entered (leb limit 1000000) w u s → f < u → n < u → ChecksLack w u s f n limit e → ⊥
none_lacks i h k (early l) = zero_one (cc (enters i, lacks_entry l))
none_lacks i h k (not_in_use l m) = m h k

-- an application begins in a good state, however many frames are lent
pub sound_begin : {all : ℕ} {w : List ℕ} {u : ℕ} {f n : ℕ} → Sound (record { words = w; used = u }) → f < u → n < u → Good all (begin w u f n)
sound_begin e h k = record { fine = e; function_in = h; argument_in = k; frames_in = tt; held_in = omega arith }

pub good_begin : {within : Bool} {w : List ℕ} {u : ℕ} {s : List ℕ} {f n : ℕ} → Entered within w u s → f < u → n < u → Good (frames s) (begin w u f n)
good_begin e = sound_begin e.table

-- on an entered table, with both nodes in use, Apply is what its inner definition says
pub entered_apply : {w : List ℕ} {u : ℕ} {s : List ℕ} {f n : ℕ} (limit : ℕ) → Entered (leb limit 1000000) w u s → f < u → n < u
    → apply_nodes w u s f n limit ≡ apply w u s f n limit
unfolding apply
entered_apply {u = u} {f = f} {n = n} limit e h k = rw (enters e, lt-ltb f u h, lt-ltb n u k)

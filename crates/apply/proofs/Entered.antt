-- Laws for each way that the code of Apply goes at entry, over plain values. Assumes nothing.
use Prim.Native.Nat.{ℕ, ◌≤◌, ◌<◌}
use mathlib.Core.Path.{◌≡◌, ap, ◌∙◌}
use mathlib.Core.List.{List}
use mathlib.Core.Option.{none, some}
use lib.ListN.{length}
use lib.Dec.{leb}
use borrow.Author.Tests.{lt-ltb, le-ltb, lt-leb, le-leb, leb-true}
use Rattle.std.specs.Prelude.{⊤, Result, Err}
use Rattle.table.specs.Outcome.{whole, answered, at_entry}
use Rattle.table.specs.declared.Refusal.{Refusal}
use Rattle.table.specs.declared.Refusal.TheVariants.{Limits}
use Rattle.table.specs.declared.Refusal.TheVariants as refusal
use Rattle.table.proofs.Entry.{entered, check_refuses}
use Rattle.checks.specs.Code.{refusal_of}
use Rattle.checks.proofs.Entry.{too_long, not_within, long_stack}
use Rattle.applying.specs.Apply.{apply, not_applied}
use Rattle.applying.specs.Ended.{apply_ended, applied_of, Ended}
use Rattle.applying.specs.declared.Applied.{Applied}
use Rattle.applying.proofs.Told.{apply_told}

-- 1, which needs no index: the table's length, the step limit, the stack's length
module _ (w : List ℕ) (u : ℕ) (s : List ℕ) (f n limit : ℕ) where
  limits : some Limits ≡ at_entry (leb limit 1000000) w u s → whole (not_applied Limits) w s ≡ apply w u s f n limit
  unfolding apply
  limits q = check_refuses (λ (e : Refusal). whole (not_applied e) w s) _ q

  pub long_table : 131072 < length w → whole (not_applied Limits) w s ≡ apply w u s f n limit
  long_table h = limits (too_long (leb limit 1000000) w u s h)

  pub over_limit : 1000000 < limit → whole (not_applied Limits) w s ≡ apply w u s f n limit
  over_limit h = limits (not_within (leb limit 1000000) w u s (lt-leb limit 1000000 h))

  pub long_frames : length w ≤ 131072 → limit ≤ 1000000 → 65536 < length s → whole (not_applied Limits) w s ≡ apply w u s f n limit
  long_frames k l h = limits (long_stack (leb limit 1000000) w u s (le-leb limit 1000000 l) k h)

-- the code's check refuses
module _ (w : List ℕ) (u : ℕ) (s : List ℕ) (f n limit : ℕ) {x : Result ⊤ Refusal} (p : refusal_of x ≡ at_entry (leb limit 1000000) w u s) where
  pub refuse_entry : {e : Refusal} → x ≡ Err e → {r : Result Applied Refusal} → r ≡ Err e → whole r w s ≡ apply w u s f n limit
  unfolding apply
  refuse_entry q a = rw a (check_refuses (λ (e : Refusal). whole (not_applied e) w s) _ (rw q at p))

-- one of the numbers is none of a node in use, or the application goes on
module _ (w : List ℕ) (u : ℕ) (s : List ℕ) (f n limit : ℕ) (p : at_entry (leb limit 1000000) w u s ≡ none) where
  pub within_limit : limit ≤ 1000000
  within_limit = leb-true limit 1000000 (entered (leb limit 1000000) w u s p).limits_kept

  pub refuse_function : u ≤ f → whole (not_applied refusal.Node) w s ≡ apply w u s f n limit
  unfolding apply
  refuse_function h = rw (p, le-ltb f u h)

  module _ (function_in : f < u) where
    pub refuse_argument : u ≤ n → whole (not_applied refusal.Node) w s ≡ apply w u s f n limit
    unfolding apply
    refuse_argument h = rw (p, lt-ltb f u function_in, le-ltb n u h)

    pub by_nodes : n < u → {a : Ended} {b : Result Applied Refusal} {z y : List ℕ} → whole a z y ≡ apply_ended w u s f n limit → b ≡ applied_of a → whole b z y ≡ apply w u s f n limit
    by_nodes argument_in e q = rw q (ap (answered applied_of) e ∙ apply_told limit (entered (leb limit 1000000) w u s p) function_in argument_in)

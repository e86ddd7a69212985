-- Laws of Label's outcome, one for each way that its code goes. Assumes nothing.
use Prim.Native.Nat.{ℕ, ◌/◌, ◌≤◌, ◌<◌}
use mathlib.Core.Path.{◌≡◌, refl}
use mathlib.Core.Bool.{true}
use mathlib.Core.List.{List, []}
use mathlib.Core.Option.{none, some}
use native.Mathlib.Omega.{arith}
use lib.ListN.{length}
use borrow.Author.Tests.{lt-ltb, le-ltb}
use Rattle.std.specs.Prelude.{⊤, Result, Err}
use Rattle.table.specs.Outcome.{whole, at_entry}
use Rattle.table.specs.declared.Refusal.{Refusal}
use Rattle.table.specs.declared.Refusal.TheVariants.{Limits, Node}
use Rattle.table.specs.Refusal.{not_made}
use Rattle.table.specs.declared.Made.{Made}
use Rattle.table.proofs.Entry.{check_refuses}
use Rattle.checks.specs.Code.{refusal_of}
use Rattle.checks.proofs.Entry.{too_long, over_used}
use Rattle.labelled.specs.Label.{label}

-- the checks of both numbers, where neither 1 nor 2 is met
module _ (w : List ℕ) (u f t : ℕ) (q : at_entry true w u [] ≡ none) where
  pub no_rule : u ≤ f → whole (not_made Node) w [] ≡ label w u f t
  unfolding label
  no_rule h = rw (q, le-ltb f u h)

  pub no_label : f < u → u ≤ t → whole (not_made Node) w [] ≡ label w u f t
  unfolding label
  no_label h k = rw (q, lt-ltb f u h, le-ltb t u k)

-- 1, which needs no index: the table's length, the count of used nodes
module _ (w : List ℕ) (u f t : ℕ) where
  limits : some Limits ≡ at_entry true w u [] → whole (not_made Limits) w [] ≡ label w u f t
  unfolding label
  limits q = check_refuses (λ e. whole (not_made e) w []) _ q

  pub long_table : 131072 < length w → whole (not_made Limits) w [] ≡ label w u f t
  long_table h = limits (too_long true w u [] h)

  pub used_above : length w ≤ 131072 → length w / 2 < u → whole (not_made Limits) w [] ≡ label w u f t
  used_above k h = limits (over_used true w u [] refl k (omega arith) h)

-- what the checks at entry say to Label
module _ (w : List ℕ) (u : ℕ) {k : Result ⊤ Refusal} (q : refusal_of k ≡ at_entry true w u []) where
  pub refused_at_entry : {e : Refusal} → k ≡ Err e → {r : Result Made Refusal} → r ≡ Err e → (f t : ℕ) → whole r w [] ≡ label w u f t
  unfolding label
  refused_at_entry p a f t = rw a (check_refuses (λ e. whole (not_made e) w []) _ (rw p at q))

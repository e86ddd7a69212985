-- From the checks at entry to Translate's outcome: one law for each way that its code goes. Assumes nothing.
use Prim.Native.Nat.{ℕ, ◌/◌, ◌≤◌, ◌<◌}
use mathlib.Core.Path.{◌≡◌, refl, sym, ◌∙◌}
use mathlib.Core.Bool.{Bool, true, false}
use mathlib.Core.List.{List}
use mathlib.Core.Option.{some}
use lib.ListN.{length}
use lib.Dec.{leb}
use borrow.Author.Tests.{leb-true, leb-false}
use Rattle.std.specs.Prelude.{Result, Ok, Err}
use Rattle.calculus.specs.Bytes.{rule}
use Rattle.table.specs.Outcome.{Outcome, whole, at_entry}
use Rattle.table.specs.declared.Refusal.{Refusal}
use Rattle.table.specs.declared.Refusal.TheVariants.{Limits}
use Rattle.table.specs.declared.Made.{Made}
use Rattle.table.specs.Refusal.{not_made}
use Rattle.table.proofs.Entry.{entered, check_refuses, check_passes}
use Rattle.checks.proofs.Entry as entry
use Rattle.checks.specs.Code.{refusal_of}
use Rattle.translation.specs.Translate.{translate_rule, translate}

-- a stack that passes the checks at entry is within its limit
pub short_stack : (w : List ℕ) (u : ℕ) (s : List ℕ) → refusal_of (Ok tt) ≡ at_entry true w u s → length s ≤ 65536
short_stack w u s e = (entered true w u s (sym e)).stack

module _ (w : List ℕ) (u : ℕ) (s b : List ℕ) where
  refused : {f : Refusal} → some f ≡ at_entry true w u s → whole (not_made f) w s ≡ translate w u s b
  unfolding translate
  refused q = check_refuses _ _ q

  -- 1, which needs no index: the table's length, the count of used nodes, the stack's length
  pub refused_long : 131072 < length w → whole (not_made Limits) w s ≡ translate w u s b
  refused_long h = refused (entry.too_long true w u s h)

  module _ (a : length w ≤ 131072) where
    pub long_stack : 65536 < length s → whole (not_made Limits) w s ≡ translate w u s b
    long_stack h = refused (entry.long_stack true w u s refl a h)

    pub over_used : length w / 2 < u → whole (not_made Limits) w s ≡ translate w u s b
    over_used h = refused (go (leb (length s) 65536) refl)
      where
        go : (z : Bool) → leb (length s) 65536 ≡ z → some Limits ≡ at_entry true w u s
        go true e = entry.over_used true w u s refl a (leb-true (length s) 65536 e) h
        go false e = entry.long_stack true w u s refl a (leb-false (length s) 65536 e)

  pub refused_entry : {f : Refusal} → refusal_of (Err f) ≡ at_entry true w u s → whole (not_made f) w s ≡ translate w u s b
  refused_entry e = refused e

  pub past_entry : refusal_of (Ok tt) ≡ at_entry true w u s → {o : Outcome (Result Made Refusal)} → o ≡ translate_rule w u s (rule b) → o ≡ translate w u s b
  unfolding translate
  past_entry e g = g ∙ check_passes _ _ e

-- Laws of Read's outcome, one for each way that its code goes. Assumes nothing.
use Prim.Native.Nat.{ℕ, ◌/◌, ◌≤◌, ◌<◌}
use mathlib.Core.Path.{◌≡◌, refl, ap, sym, ◌∙◌}
use mathlib.Core.Bool.{Bool, true, false}
use mathlib.Core.List.{List}
use mathlib.Core.Option.{some}
use lib.ListN.{length}
use lib.Dec.{leb}
use borrow.Author.Tests.{leb-true, leb-false}
use Rattle.table.specs.Outcome.{Outcome, whole, at_entry}
use Rattle.table.specs.declared.Refusal.{Refusal}
use Rattle.table.specs.declared.Refusal.TheVariants.{Limits}
use Rattle.table.specs.declared.Made.{Made}
use Rattle.table.specs.Refusal.{not_made}
use Rattle.table.proofs.Entry.{check_refuses, check_passes}
use Rattle.std.specs.Prelude.{Result, Ok, Err, ⊤}
use Rattle.checks.specs.Code.{refusal_of}
use Rattle.checks.proofs.Entry as entry
use Rattle.ternary.specs.Read.{readable, read_tree, read}

module _ (w : List ℕ) (u : ℕ) (s l : List ℕ) where
  refused : {e : Refusal} → some e ≡ at_entry true w u s → whole (not_made e) w s ≡ read w u s l
  unfolding read
  refused q = check_refuses (λ (e : Refusal). whole (not_made e) w s) (read_tree w u s l (readable l)) q

  -- 1, which needs no index: the table's length, the count of used nodes, the stack's length
  pub long_table : 131072 < length w → whole (not_made Limits) w s ≡ read w u s l
  long_table h = refused (entry.too_long true w u s h)

  module _ (a : length w ≤ 131072) where
    pub long_stack : 65536 < length s → whole (not_made Limits) w s ≡ read w u s l
    long_stack h = refused (entry.long_stack true w u s refl a h)

    pub over_used : length w / 2 < u → whole (not_made Limits) w s ≡ read w u s l
    over_used h = refused (go (leb (length s) 65536) refl)
      where
        go : (z : Bool) → leb (length s) 65536 ≡ z → some Limits ≡ at_entry true w u s
        go true e = entry.over_used true w u s refl a (leb-true (length s) 65536 e) h
        go false e = entry.long_stack true w u s refl a (leb-false (length s) 65536 e)

  -- what the checks at entry said
  module _ (r : Result ⊤ Refusal) (e : refusal_of r ≡ at_entry true w u s) where
    pub of_entry : {c : Refusal} → r ≡ Err c → whole (not_made c) w s ≡ read w u s l
    of_entry q = refused (ap refusal_of (sym q) ∙ e)

    pub entered : r ≡ Ok tt → {o : Outcome (Result Made Refusal)} → o ≡ read_tree w u s l (readable l) → o ≡ read w u s l
    unfolding read
    entered q p = p ∙ check_passes (λ (f : Refusal). whole (not_made f) w s) (read_tree w u s l (readable l)) (ap refusal_of (sym q) ∙ e)

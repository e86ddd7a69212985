-- Laws of Read's outcome and of the test of a text, one for each way that their code goes. Assumes nothing.
use Prim.Native.Nat.{ℕ, ◌≤◌, ◌<◌}
use mathlib.Core.Path.{◌≡◌, ap, ◌∙◌}
use mathlib.Core.List.{List, []}
use native.Mathlib.Omega.{arith}
use lib.ListN.{length}
use borrow.Author.Tests.{lt-leb, le-leb}
use Rattle.calculus.specs.Tree.{Tree}
use Rattle.table.specs.Nodes.{Making, got, full}
use Rattle.table.specs.Outcome.{whole, placed, stopped, settled, laid, laid_within}
use Rattle.table.specs.declared.Refusal.{Refusal}
use Rattle.table.specs.declared.Refusal.TheVariants.{Text}
use Rattle.table.specs.declared.Made.{Made}
use Rattle.checks.specs.Code.{checked_with, frames_for}
use Rattle.checks.proofs.Room.{has_room, refused_within, laid_within_lem}
use Rattle.ternary.specs.Laying.{keep, lay_digits}
use Rattle.ternary.specs.Read.{readable, is_some, read_tree}
use Rattle.ternary.proofs.Laying.{digits_whole}
use Rattle.index.specs.Code.{got_by, ReadyGot, ReadyMade}
use Rattle.table.specs.Refusal.{not_made}
use Rattle.index.proofs.Ready.{settled_ready}
use Rattle.std.specs.Prelude.{Option, Some, None, Result, Ok, Err, ⊤, ok_or}
use Rattle.std.specs.Prelude as prelude
use Rattle.whole_text.specs.Code.{ScanSays}
use Rattle.reader.specs.Code.{PendingSays, LaysText}

-- what is settled depends on the length of the stack alone
settled_same : (u : ℕ) (y s : List ℕ) (x : Making) → length y ≡ length s → settled u y x ≡ settled u s x
unfolding settled placed stopped
settled_same u y s (got m) e = rw e
settled_same u y s (full t) e = rw e

-- the test of a text
module _ (l : List ℕ) where
  pub long_text : 65535 < length l → PendingSays l None
  unfolding readable PendingSays
  long_text h = rw (lt-leb (length l) 65535 h)

  pub scanned : (o : Option ℕ) → length l ≤ 65535 → ScanSays l o → PendingSays l o
  unfolding readable PendingSays ScanSays
  scanned None h e = rw (le-leb (length l) 65535 h, e)
  scanned (Some m) h q = (h, q)

  pub is_readable : (o : Option ℕ) → PendingSays l o → prelude.is_some o ≡ is_some (readable l)
  unfolding readable is_some PendingSays ScanSays
  is_readable None e = rw e
  is_readable (Some m) q = rw (le-leb (length l) 65535 q.0, q.1.1)

module _ (w : List ℕ) (u : ℕ) (s l : List ℕ) (slots : ℕ) (ix : List ℕ) where
  pub no_tree : PendingSays l None → (whole (not_made Text) w s ≡ read_tree w u s l (readable l)) × ReadyMade (not_made Text) w slots ix
  unfolding read_tree ReadyMade PendingSays
  no_tree e = (rw e, tt)

  -- a text that Read takes
  module _ (m : ℕ) (q : PendingSays l (Some m)) where
    tree : Tree
    unfolding PendingSays ScanSays
    tree = q.1.0

    is_tree : laid_within w u s m tree ≡ read_tree w u s l (readable l)
    unfolding readable read_tree PendingSays ScanSays tree
    is_tree = ap (λ (n : ℕ). laid_within w u s n tree) q.1.2 ∙ rw (le-leb (length l) 65535 q.0, q.1.1)

    -- what the check for frames said, and the stack that it left
    module _ {r : Result ⊤ Refusal} {z : List ℕ} (e : checked_with r z ≡ frames_for s m) where
      pub no_frames : {c : Refusal} → r ≡ Err c → (whole (not_made c) w z ≡ read_tree w u s l (readable l)) × ReadyMade (not_made c) w slots ix
      unfolding ReadyMade
      no_frames p = (refused_within s m e w u tree p ∙ is_tree, tt)

      module _ (p : r ≡ Ok tt) where
        pub lays_text : LaysText z l
        unfolding PendingSays ScanSays
        lays_text = let n = has_room s m e p in record { tree = q.1.0; tree_is = q.1.1; frames_free = rw n.same (omega (arith, q.1.2, n.frames_free)) }

        -- what the digits came to, and what was settled with the stack that they left
        pub is_laid : (g : Option Made) (w' y : List ℕ) → keep [] (got_by g w') ≡ lay_digits (record { words = w; used = u }) l → ReadyGot g w' slots ix → length y ≡ length z
            → {a : Result Made Refusal} {w'' s'' : List ℕ} → whole a w'' s'' ≡ settled u y (got_by g w') → (whole a w'' s'' ≡ read_tree w u s l (readable l)) × ReadyMade a w'' slots ix
        unfolding laid PendingSays ScanSays tree
        is_laid g w' y d f k t =
            let n = has_room s m e p in (
              t ∙ settled_same u y s (got_by g w') (k ∙ ap length n.same)
                  ∙ ap (settled u s) (digits_whole (record { words = w; used = u }) l q.1.1 d)
                  ∙ laid_within_lem s m e w u q.1.0 p ∙ is_tree,
              settled_ready g w' y u slots ix t f,
            )

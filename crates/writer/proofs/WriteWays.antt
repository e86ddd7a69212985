-- Laws of Write's outcome, one for each way that its code goes. Assumes nothing.
use Prim.Native.Nat.{ℕ, ◌≤◌, ◌<◌}
use mathlib.Core.Path.{◌≡◌, subst}
use mathlib.Core.List.{List, ◌++◌}
use mathlib.Core.Option.{none}
use lib.ListN.{length, drop}
use lib.Dec.{leb}
use borrow.Author.Tests.{lt-ltb, le-ltb}
use Rattle.calculus.specs.Tree.{Tree}
use Rattle.table.specs.Nodes.{tree_at}
use Rattle.table.specs.Outcome.{whole_out, frames, zeros, at_entry}
use Rattle.table.specs.declared.Refusal.{Refusal}
use Rattle.table.specs.declared.Refusal.TheVariants.{Node}
use Rattle.ternary.specs.Text.{text}
use Rattle.ternary.specs.Write.{Room, left, lacks, digits, written, write_tree, write}
use Rattle.std.specs.Prelude.{Ok, Err}
use Rattle.writer.specs.Code.{FitsIn}

-- the tree t of a node in use
module _ (w s o : List ℕ) (t : Tree) where
  pub no_room : {e : Refusal} → lacks e ≡ digits (frames s) 0 t (length o) → whole_out (Err e) w (zeros s) o ≡ write_tree w s o t
  unfolding write_tree written
  no_room r = rw (← r)

  pub is_written : {m n : ℕ} {o' : List ℕ} → left m ≡ digits (frames s) 0 t (length o) → n ≡ length (text t) → o' ≡ text t ++ drop n o
      → whole_out (Ok n) w (zeros s) o' ≡ write_tree w s o t
  unfolding write_tree written
  is_written r a b = rw (← r, b, a)

-- what was measured fits
pub fits : {m : ℕ} {r : Room} → left m ≡ r → FitsIn r
unfolding FitsIn
fits q = subst FitsIn q tt

-- the node number, where neither 1 nor 2 is met
module _ (w : List ℕ) (u : ℕ) (s : List ℕ) (i : ℕ) (o : List ℕ) (q : none ≡ at_entry (leb (length o) 65535) w u s) where
  pub no_node : u ≤ i → whole_out (Err Node) w s o ≡ write w u s i o
  unfolding write
  no_node h = rw (← q, le-ltb i u h)

  pub in_use : i < u → write_tree w s o (tree_at w i) ≡ write w u s i o
  unfolding write
  in_use h = rw (← q, lt-ltb i u h)

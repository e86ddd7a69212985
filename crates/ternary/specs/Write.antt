-- The whole outcome of Write (Operations, Write). Assumes nothing: these are definitions.
use Rattle.std.specs.Prelude.{ℕ, zero, suc, cond, List, ◌++◌, length, drop, ltb, leb, Result, Ok, Err}
use Rattle.calculus.specs.Tree.{Tree, leaf, stem, fork}
use Rattle.table.specs.Nodes.{tree_at}
use Rattle.table.specs.Outcome.{Outcome, whole_out, frames, zeros, at_entry, unless}
use Rattle.table.specs.Refusal.{Numbers, refused_numbers}
use Rattle.table.specs.declared.Refusal.{Refusal}
use Rattle.table.specs.declared.Refusal.TheVariants.{Node, Frames, Out}
use Rattle.ternary.specs.Text.{text}

-- the answer of Write, and of `generate`: how many digits were written, or the refusal
abbrev pub Written : Type 0
Written = Result ℕ Refusal

-- the numbers of Write's answer, with `used` as at entry
unfoldable pub written_numbers : ℕ → Written → Numbers
written_numbers used (Ok n) = record { refusal = 0; node = 0; used = used; steps = 0; digits = n }
written_numbers used (Err e) = refused_numbers used e

-- The digits of a tree, one after another: how many out bytes are left after them, or the refusal at the first digit that lacks something.
pub data Room : Type 0 where
  left : ℕ → Room
  lacks : Refusal → Room

unfoldable pub next : (ℕ → Room) → Room → Room
next go (left n) = go n
next go (lacks e) = lacks e

-- "10 if out is full": a digit takes one of the n out bytes left
unfoldable pub spend : ℕ → (ℕ → Room) → Room
spend zero go = lacks Out
spend (suc n) go = go n

-- "Then digit by digit: 10 if out is full; 9 if the digit is 2 and every frame is held by a fork whose second branch is not begun." `all` frames
-- there are, `held` of them are held, and the last argument is the number of out bytes left.
unfoldable pub digits : ℕ → ℕ → Tree → ℕ → Room
digits all held leaf n = spend n left
digits all held (stem p) n = spend n (digits all held p)
digits all held (fork p q) n = spend n (λ m. cond (ltb held all) (next (digits all held q) (digits all (suc held) p m)) (lacks Frames))

-- "Bytes past the text stay." A refusal leaves all out bytes.
unfoldable pub written : List ℕ → List ℕ → List ℕ → Tree → Room → Outcome Written
written w s o t (left n) = whole_out (Ok (length (text t))) w (zeros s) (text t ++ drop (length (text t)) o)
written w s o t (lacks e) = whole_out (Err e) w (zeros s) o

-- what Write does on a table that passed 1 and 2, with the tree of a node in use
unfoldable pub write_tree : List ℕ → List ℕ → List ℕ → Tree → Outcome Written
write_tree w s o t = written w s o t (digits (frames s) 0 t (length o))

-- Write the tree of node i of the table w with u nodes in use to the out bytes o, with the stack s.
unfoldable pub write : List ℕ → ℕ → List ℕ → ℕ → List ℕ → Outcome Written
write w u s i o =
    unless (at_entry (leb (length o) 65535) w u s) (λ e. whole_out (Err e) w s o)
    (cond (ltb i u) (write_tree w s o (tree_at w i)) (whole_out (Err Node) w s o))

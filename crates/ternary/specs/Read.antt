-- The whole outcome of Read (Operations, Read). Assumes nothing: these are definitions.
use Rattle.std.specs.Prelude.{ℕ, Bool, true, false, cond, List, length, leb, Result}
use Rattle.std.proofs.Math.Option.{Option, none, some}
use Rattle.calculus.specs.Tree.{Tree}
use Rattle.table.specs.Outcome.{Outcome, whole, at_entry, unless, laid_within}
use Rattle.table.specs.declared.Refusal.TheVariants.{Text}
use Rattle.table.specs.Refusal.{not_made}
use Rattle.table.specs.declared.Refusal.{Refusal}
use Rattle.table.specs.declared.Made.{Made}
use Rattle.ternary.specs.Text.{tree_of, most_pending}

-- "4: text not one whole tree, or above 65,535 bytes."
unfoldable pub readable : List ℕ → Option Tree
readable l = cond (leb (length l) 65535) (tree_of l) none

-- whether there is a tree, or whatever else is asked for
unfoldable pub is_some : {A : Type 0} → Option A → Bool
is_some none = false
is_some (some a) = true

-- "9: fewer frames than the most trees pending" (Operations, Read), then 8 while making nodes ([8]): what Read does on a table that passed 1 and 2.
unfoldable pub read_tree : List ℕ → ℕ → List ℕ → List ℕ → Option Tree → Outcome (Result Made Refusal)
read_tree w u s l none = whole (not_made Text) w s
read_tree w u s l (some t) = laid_within w u s (most_pending l) t

-- Read the text l into the table w with u nodes in use, with the stack s.
unfoldable pub read : List ℕ → ℕ → List ℕ → List ℕ → Outcome (Result Made Refusal)
read w u s l = unless (at_entry true w u s) (λ e. whole (not_made e) w s) (read_tree w u s l (readable l))

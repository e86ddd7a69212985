-- `code_values::value_at` meets its contract: the array that holds the values is the table. Assumes nothing.
use Prim.Native.Nat.{ℕ}
use mathlib.Core.Path.{ap}
use mathlib.Core.List.{List}
use lib.ListN.{get_or}
use Rattle.short_codes.proofs.Holding.{one_table}
use Rattle.code_values.proofs.value_at.Goals as goal

pub returns : goal.returns
returns c = ap (λ (l : List ℕ). get_or l c.args.place 0) (one_table _ c.all_values.ensures)

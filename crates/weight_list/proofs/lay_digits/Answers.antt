-- `weight_list::lay_digits` meets its contract: Read of the list's text, with three frames. Assumes nothing.
use native.Mathlib.Omega.{arith}
use lib.ListN.{replicate}
use Rattle.weight_list.proofs.Ways.{laid_by_read}
use Rattle.weight_list.proofs.lay_digits.Goals as goal

pub returns : goal.returns
returns c =
    laid_by_read c.args.table.now c.args.used (replicate 9 0) (omega arith) (omega arith) (record { nine = omega arith; decimal = c.args.weight.decimal }) c.put_list-n.ensures c.read.ensures

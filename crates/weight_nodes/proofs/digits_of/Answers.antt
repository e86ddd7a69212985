-- `weight_nodes::digits_of` meets its contract. Assumes nothing.
use native.Mathlib.Omega.{arith}
use Rattle.weights.proofs.Numbers.{digits_decimal}
use Rattle.weight_nodes.proofs.Ways.{next_of, all_of}
use Rattle.weight_nodes.proofs.digits_of.Goals as goal

pub loop-d-preserved : goal.loop-d-preserved
loop-d-preserved c = let l = c.loop-d in next_of l.d-items l.d-index l.rest (omega arith) l.invariant (omega arith)

pub invariant_of-result : goal.invariant_of-result
invariant_of-result c =
    let l = c.loop-d in
    record { decimal = rw (all_of l.d-items l.d-index l.rest (omega arith) l.invariant (omega arith) (omega arith)) (digits_decimal 9 c.args.grams) }

pub returns : goal.returns
returns c = let l = c.loop-d in all_of l.d-items l.d-index l.rest (omega arith) l.invariant (omega arith) (omega arith)

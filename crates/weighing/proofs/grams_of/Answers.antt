-- `weighing::grams_of` meets its contract: the number of nine digits is at most 999999999, so that none overflows. Assumes nothing.
use Prim.Native.Nat.{◌-◌}
use native.Mathlib.Omega.{arith}
use Rattle.weighing.proofs.Ways.{grams_none, grams_part, grams_from}
use Rattle.weighing.proofs.grams_of.Goals as goal

pub loop-i-init : goal.loop-i-init
loop-i-init c = grams_none _ (omega arith) c.args.weight.decimal

pub overflow_mul-total : goal.overflow_mul-total
overflow_mul-total c = omega (arith, grams_part c.args.weight.digits (omega arith) c.args.weight.decimal c.loop-i.i)

pub overflow_add-total : goal.overflow_add-total
overflow_add-total c =
    let w = c.args.weight in
    let n = c.loop-i in
    omega (arith, grams_from w.digits (omega arith) w.decimal n.i (omega arith) (omega arith) n.invariant, grams_part w.digits (omega arith) w.decimal (n.i - 1))

pub loop-i-preserved : goal.loop-i-preserved
loop-i-preserved c = grams_from c.args.weight.digits (omega arith) c.args.weight.decimal c.loop-i.i (omega arith) (omega arith) c.loop-i.invariant

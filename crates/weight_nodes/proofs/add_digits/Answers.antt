-- `weight_nodes::add_digits` meets its contract. Assumes nothing.
use mathlib.Core.Path.{refl, sym}
use native.Mathlib.Omega.{arith}
use Rattle.weights.proofs.Places.{after_none, nine_zeros, put_nine}
use Rattle.weight_nodes.proofs.Ways.{next_sum, all_sum, left_over}
use Rattle.weight_nodes.proofs.add_digits.Goals as goal

pub loop-i-init : goal.loop-i-init
loop-i-init c = record { carry = omega arith; nine = nine_zeros; sum = sym (after_none _) }

pub loop-i-preserved : goal.loop-i-preserved
loop-i-preserved c =
    let l = c.loop-i in
    let a = c.args.a in
    let b = c.args.b in
    let v = l.invariant in
    record {
      carry = omega (arith, a.decimal l.i, b.decimal l.i);
      nine = put_nine _ _ v.nine (omega arith);
      sum = next_sum a.digits b.digits l.digits l.i l.carry (omega arith) (omega arith) v.nine.nine v.sum (omega arith) refl;
    }

pub returns-then-carry-eq0 : goal.returns-then-carry-eq0
returns-then-carry-eq0 c =
    let l = c.loop-i in
    all_sum c.args.a.digits c.args.b.digits l.digits l.i l.carry (omega arith) (omega arith) l.invariant.nine.nine l.invariant.sum c.loop-i-test.false c.if-carry-eq0.true

pub returns-else-carry-eq0 : goal.returns-else-carry-eq0
returns-else-carry-eq0 c =
    let l = c.loop-i in
    left_over c.args.a.digits c.args.b.digits l.digits l.i l.carry (omega arith) (omega arith) l.invariant.nine.nine l.invariant.sum c.loop-i-test.false c.if-carry-eq0.false

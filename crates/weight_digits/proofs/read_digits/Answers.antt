-- `weight_digits::read_digits` meets its contract: one law for each way that the code goes. Assumes nothing.
use mathlib.Core.Path.{sym}
use Rattle.weights.specs.Digits.{digits_of_weight}
use Rattle.weights.proofs.Places.{after_none, nine_zeros, put_nine}
use Rattle.weight_digits.proofs.Ways.{next_digit, no_digit, list_end, list_more}
use Rattle.weight_digits.proofs.read_digits.Goals as goal

pub loop-digit-init : goal.loop-digit-init
unfolding digits_of_weight
loop-digit-init c = record { nine = nine_zeros; read = λ i. (i, sym (after_none _)) }

pub returns-in_err-item : goal.returns-in_err-item
returns-in_err-item c = λ i.
    let v = c.loop-digit.invariant in
    let r = v.read i in
    rw c.from_residual.ensures (no_digit _ _ _ _ v.nine.nine r.1 c.loop-digit-test.true (c.in_err-item.ensures r.0))

pub loop-digit-preserved : goal.loop-digit-preserved
loop-digit-preserved c =
    let v = c.loop-digit.invariant in
    let o = c.in_ok-item in
    record {
      nine = put_nine _ _ v.nine o.item.decimal;
      read = λ i. let r = v.read i in let f = o.ensures r.0 in (f.rest_in, next_digit _ _ _ _ v.nine.nine r.1 c.loop-digit-test.true f);
    }

pub returns-then-at-eq0 : goal.returns-then-at-eq0
returns-then-at-eq0 c = λ i.
    let v = c.loop-digit.invariant in
    let r = v.read i in
    list_end _ _ _ _ v.nine.nine r.1 c.loop-digit-test.false r.0 c.if-at-eq0.true

pub returns-else-at-eq0 : goal.returns-else-at-eq0
returns-else-at-eq0 c = λ i.
    let v = c.loop-digit.invariant in
    let r = v.read i in
    list_more _ _ _ _ v.nine.nine r.1 c.loop-digit-test.false r.0 c.if-at-eq0.false

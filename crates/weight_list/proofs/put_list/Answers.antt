-- `weight_list::put_list` meets its contract: item by item, and the leaf at the end. Assumes nothing.
use native.Mathlib.Omega.{arith}
use Rattle.weight_list.proofs.Ways.{list_begins, one_item, list_ends}
use Rattle.weight_list.proofs.put_list.Goals as goal

pub loop-d-init : goal.loop-d-init
loop-d-init c = record { at = omega arith; written = list_begins c.args.bytes.now c.args.weight.digits }

pub loop-d-preserved : goal.loop-d-preserved
loop-d-preserved c =
    let v = c.loop-d.invariant in
    let e = c.put_item-at.ensures in
    record { at = omega arith; written = one_item c.args.weight.digits c.loop-d.d-index c.loop-d.auto.bytes v.written (omega arith) e.0 }

pub returns : goal.returns
returns c = list_ends c.args.weight.digits c.loop-d.d-index c.loop-d.auto.bytes c.loop-d.invariant.written (omega arith) (omega arith)

-- `stages::apply_all` meets its contract. The loop's invariant: the applications left come to what all of them do. Assumes nothing.
use native.Mathlib.Omega.{arith}
use Rattle.endings.proofs.Ways.{in_table}
use Rattle.stages.proofs.Ways.{applies_begin, argument_in, applies_end, applies_next, applies_stop, stop_steps, applies_steps, tells}
use Rattle.stages.proofs.apply_all.Goals as goal

pub loop-done-init : goal.loop-done-init
loop-done-init c =
    let p = c.requires in
    applies_begin p.0 p.1 p.2 p.3 p.4

pub overflow_sub-left : goal.overflow_sub-left
overflow_sub-left c = omega (arith, c.sum-before.ensures, c.loop-done.invariant.within_limit)

pub apply_nodes-requires : goal.apply_nodes-requires
apply_nodes-requires c =
    let i = c.loop-done.invariant in
    (i.indexed, i.function_in, argument_in i c.loop-done-test.true, omega (arith, i.limited))

pub stop_applying-requires : goal.stop_applying-requires
stop_applying-requires c =
    let i = c.loop-done.invariant in (
      omega (arith, c.apply_nodes.auto.table, in_table i.ready),
      omega (arith, c.sum-before.ensures, i.within_limit, i.limited),
      stop_steps i c.loop-done-test.true (rw c.sum-before.ensures at c.apply_nodes.ensures.0) c.in-Err.is,
    )

pub returns-in-Err : goal.returns-in-Err
returns-in-Err c =
    applies_stop c.loop-done.invariant c.loop-done-test.true (rw c.sum-before.ensures at c.apply_nodes.ensures.0) c.sum-before.ensures
    c.in-Err.is (c.stop_applying.ensures _)

pub plus-uses-requires : goal.plus-uses-requires
plus-uses-requires c =
    let i = c.loop-done.invariant in
    omega (arith, applies_steps i c.loop-done-test.true (rw c.sum-before.ensures at c.apply_nodes.ensures.0) c.in-Ok.is, i.limited)

pub loop-done-preserved : goal.loop-done-preserved
loop-done-preserved c =
    rw c.plus-uses.ensures
    (applies_next c.loop-done.invariant c.loop-done-test.true (rw c.sum-before.ensures at c.apply_nodes.ensures.0)
    c.in-Ok.is c.apply_nodes.auto.stack c.apply_nodes.auto.index c.apply_nodes.ensures.1)

pub write_outcome-requires : goal.write_outcome-requires
write_outcome-requires c =
    let i = c.loop-done.invariant in
    (i.ready, i.function_in, omega (arith, i.within_limit, i.limited))

pub returns : goal.returns
returns c = applies_end c.loop-done.invariant c.loop-done-test.false (tells c.tell.ensures c.write_outcome.ensures)

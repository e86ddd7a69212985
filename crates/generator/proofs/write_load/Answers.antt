-- `generator::write_load` meets its contract. The loop's invariant: the digits before the index are written, and with those still to be drawn they are the
-- load. Assumes nothing.
use native.Mathlib.Omega.{arith}
use Prim.Native.Nat.{◌-◌}
use Rattle.generator.proofs.Writing.{writing_start, wants_one, writing_digit, writing_done}
use Rattle.generator.proofs.write_load.Goals as goal

pub loop-digit-init : goal.loop-digit-init
loop-digit-init c = record { left = omega arith; writing = writing_start _ _ c.requires.0 }

pub overflow_sub-wanted : goal.overflow_sub-wanted
overflow_sub-wanted c = (wants_one c.loop-digit.invariant.writing (c.loop-digit.left - 1) (omega arith)).0

pub overflow_add-wanted : goal.overflow_add-wanted
overflow_add-wanted c = let w = wants_one c.loop-digit.invariant.writing (c.loop-digit.left - 1) (omega arith) in omega (arith, c.branches-b.ensures.1)

pub loop-digit-preserved : goal.loop-digit-preserved
loop-digit-preserved c =
    record {
      left = omega arith;
      writing = writing_digit c.loop-digit.invariant.writing (c.loop-digit.left - 1) (omega arith) c.next_state-state.ensures c.branches-b.ensures;
    }

pub returns : goal.returns
returns c = writing_done c.loop-digit.invariant.writing (omega arith)

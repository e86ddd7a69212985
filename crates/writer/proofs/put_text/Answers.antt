-- `writer::put_text` meets its contract. The loop's invariant: `done` digits of the text are written. Assumes nothing.
use native.Mathlib.Omega.{arith}
use lib.ListN.{length-set}
use Rattle.writer.proofs.Passes.{puts_begin, stands_some, puts_digit, puts_room, puts_more, puts_end}
use Rattle.writer.proofs.put_text.Goals as goal

pub loop-next-init : goal.loop-next-init
loop-next-init c = puts_begin _ _ _ _ _ c.requires.0 c.requires.1 c.requires.2

pub next_digit-requires : goal.next_digit-requires
next_digit-requires c = stands_some (rw c.in-Some.is at c.loop-next.invariant.walks)

pub unwrap-digit-requires : goal.unwrap-digit-requires
unwrap-digit-requires c = puts_digit (rw c.in-Some.is at c.loop-next.invariant) c.next_digit.new.stack _ c.next_digit.ensures

pub bounds-out-done : goal.bounds-out-done
bounds-out-done c = puts_room (rw c.in-Some.is at c.loop-next.invariant)

pub loop-next-smaller : goal.loop-next-smaller
loop-next-smaller c = omega (arith, puts_room (rw c.in-Some.is at c.loop-next.invariant), length-set c.loop-next.out c.loop-next.done c.unwrap-digit.result.value)

pub loop-next-preserved : goal.loop-next-preserved
loop-next-preserved c =
    puts_more (rw c.in-Some.is at c.loop-next.invariant) c.next_digit.new.stack _ c.next_digit.ensures c.unwrap-digit.ensures c.next_digit.auto.stack

pub returns : goal.returns
returns c = puts_end (rw c.in_default.is at c.loop-next.invariant)

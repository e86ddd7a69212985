-- `writer::measure` meets its contract. The loop's invariant: what is left of the digits leads to the same room. Assumes nothing.
use Rattle.std.proofs.lemmas.Result.{err_from_is_err_and}
use Rattle.writer.proofs.Passes.{walks_begin, stands_some, walks_more, walks_end, walks_out, walks_refused, spend_one, spend_none}
use Rattle.writer.proofs.measure.Goals as goal

pub loop-next-init : goal.loop-next-init
loop-next-init c = walks_begin _ _ _ _ _ c.requires.0 c.requires.1

pub returns-in_err-left : goal.returns-in_err-left
returns-in_err-left c =
    let p = err_from_is_err_and c.from_residual.result c.from_residual.ensures.1 in
    let n = spend_none _ _ c.checked_sub.ensures c.in_err-left.ensures.value in
    rw (p.1, p.2, n.1) (walks_out (rw c.in-Some.is at c.loop-next.invariant) n.0)

pub next_digit-requires : goal.next_digit-requires
next_digit-requires c = stands_some (rw c.in-Some.is at c.loop-next.invariant)

pub returns-in_err-digit : goal.returns-in_err-digit
returns-in_err-digit c =
    let p = err_from_is_err_and c.from_residual-in_err-digit.result c.from_residual-in_err-digit.ensures.1 in
    let n = spend_one _ _ c.checked_sub.ensures c.in_ok-left.ensures.value in
    rw (p.1, p.2) (walks_refused (rw c.in-Some.is at c.loop-next.invariant) c.next_digit.new.stack c.next_digit.ensures c.in_err-digit.was n)

pub loop-next-preserved : goal.loop-next-preserved
loop-next-preserved c =
    let n = spend_one _ _ c.checked_sub.ensures c.in_ok-left.ensures.value in
    walks_more (rw c.in-Some.is at c.loop-next.invariant) c.next_digit.new.stack c.next_digit.ensures c.in_ok-digit.was n c.next_digit.auto.stack

pub returns : goal.returns
returns c = walks_end (rw c.in_default.is at c.loop-next.invariant)

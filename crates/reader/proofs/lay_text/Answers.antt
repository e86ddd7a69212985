-- `reader::lay_text` meets its contract. The loop's invariant: the digits that are left are a beginning of the text, and those after it are taken.
-- Assumes nothing.
use Prim.Native.Nat.{◌-◌, ◌*◌, ◌<◌}
use lib.ListN.{length}
use native.Mathlib.Omega.{arith}
use Rattle.reader.specs.Code.{TakesDigit}
use Rattle.reader.proofs.Laying.{laid_none, front_less, takes_digit, digit_frame, none_laid, node_small, laid_next, one_frame, all_laid}
use Rattle.reader.proofs.lay_text.Goals as goal
use Rattle.reader.proofs.lay_text.Goals.{In-Some}

-- the next digit has its branches, and its node a frame
taken : (c : In-Some) → TakesDigit c.loop-c.used_now c.loop-c.stack c.loop-c.held c.in-Some.field-0.now
taken c =
    let f = front_less _ _ _ _ c.loop-c.invariant.0 c.in-Some.ensures.steps in
    takes_digit c.requires.0 c.requires.1 c.loop-c.invariant.1 f.0 f.1

framed : (c : In-Some) → (c.loop-c.held - (c.in-Some.field-0.now - 48)) * 3 < length c.loop-c.stack
framed c =
    let f = front_less _ _ _ _ c.loop-c.invariant.0 c.in-Some.ensures.steps in
    digit_frame c.requires.0 c.requires.1 c.loop-c.invariant.1 f.0 f.1

pub loop-c-init : goal.loop-c-init
loop-c-init c =
    laid_none c.requires.0 (rw (c.into_iter-c-iterator.ensures.into_iter_gives, c.rev-c-items.ensures.source) c.iter.ensures.rest)

pub lay_digit-requires : goal.lay_digit-requires
lay_digit-requires c = (c.loop-c.invariant.1.ready, taken (goal.at.lay_digit-requires c).In-Some)

pub returns-in_default : goal.returns-in_default
returns-in_default c =
    let f = front_less _ _ _ _ c.loop-c.invariant.0 c.in-Some.ensures.steps in
    none_laid c.requires.0 c.requires.1 c.loop-c.invariant.1 f.0 f.1 _ _ _ c.lay_digit.ensures.0 c.lay_digit.ensures.1 c.in_default.is

pub overflow_sub-held : goal.overflow_sub-held
overflow_sub-held c = (taken (goal.at.overflow_sub-held c).In-Some).from_leaf

pub overflow_sub-held-in-loop-c : goal.overflow_sub-held-in-loop-c
overflow_sub-held-in-loop-c c = (taken (goal.at.overflow_sub-held-in-loop-c c).In-Some).branches

pub overflow_cast-stack : goal.overflow_cast-stack
overflow_cast-stack c =
    let f = front_less _ _ _ _ c.loop-c.invariant.0 c.in-Some.ensures.steps in
    omega (arith, node_small c.requires.0 c.requires.1 c.loop-c.invariant.1 f.0 f.1 _ _ _ c.lay_digit.ensures.0 c.lay_digit.ensures.1 c.in-Some-lay_digit.is)

pub overflow_mul-stack : goal.overflow_mul-stack
overflow_mul-stack c = omega (arith, framed (goal.at.overflow_mul-stack c).In-Some, c.loop-c.invariant.1.same_stack, c.well_formed)

pub offset_bounds-stack-held : goal.offset_bounds-stack-held
offset_bounds-stack-held c = omega (arith, framed (goal.at.offset_bounds-stack-held c).In-Some, c.loop-c.invariant.1.same_stack, c.well_formed)

pub bounds-stack-held : goal.bounds-stack-held
bounds-stack-held c = framed (goal.at.bounds-stack-held c).In-Some

pub overflow_add-held : goal.overflow_add-held
overflow_add-held c = omega (arith, framed (goal.at.overflow_add-held c).In-Some, c.loop-c.invariant.1.same_stack, c.well_formed)

pub loop-c-preserved : goal.loop-c-preserved
loop-c-preserved c =
    let f = front_less _ _ _ _ c.loop-c.invariant.0 c.in-Some.ensures.steps in
    (f.2, laid_next c.requires.0 c.requires.1 c.loop-c.invariant.1 f.0 f.1 _ _ _ c.lay_digit.ensures.0 c.lay_digit.ensures.1 c.in-Some-lay_digit.is c.lay_digit.auto.table c.lay_digit.auto.index)

pub word-requires : goal.word-requires
word-requires c = one_frame c.requires.0 c.requires.1 c.loop-c.invariant.1 (omega (arith, c.in-None.ensures.steps.0))

pub returns : goal.returns
returns c = all_laid c.requires.0 c.requires.1 c.loop-c.invariant.1 (omega (arith, c.in-None.ensures.steps.0)) c.word.ensures.0

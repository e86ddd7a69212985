-- `windows::first_from` meets its contract: a place without a packet ends the search, as a place that begins late enough does. Assumes nothing.
use mathlib.Core.Path.{sym, ◌∙◌}
use native.Mathlib.Omega.{arith}
use Rattle.windows.specs.Code.{found_of}
use Rattle.windows.proofs.Searches.{first_unused, first_here, first_later, first_end}
use Rattle.windows.proofs.first_from.Goals as goal

pub returns-then-place-eq0 : goal.returns-then-place-eq0
unfolding found_of
returns-then-place-eq0 c = sym (c.loop-place.invariant ∙ first_unused c.args.from c.args.day.now _ _ (omega arith) c.if-place-eq0.true)

pub returns-then-from-place : goal.returns-then-from-place
unfolding found_of
returns-then-from-place c =
    sym (c.loop-place.invariant ∙ first_here c.args.from c.args.day.now _ _ (omega arith) c.if-place-eq0.false c.if-from-place.true)

pub loop-place-preserved : goal.loop-place-preserved
loop-place-preserved c =
    c.loop-place.invariant ∙ first_later c.args.from c.args.day.now _ _ (omega arith) c.if-place-eq0.false c.if-from-place.false

pub returns : goal.returns
unfolding found_of
returns c = sym (c.loop-place.invariant ∙ first_end c.args.from c.args.day.now _ (omega arith))

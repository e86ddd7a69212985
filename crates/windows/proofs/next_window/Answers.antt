-- `windows::next_window` meets its contract: the first beginning that is found is the next, and after eight days without one there is none. Assumes nothing.
use mathlib.Core.Path.{◌≡◌, sym, ◌∙◌}
use native.Mathlib.Omega.{arith}
use Rattle.week.specs.Weeks.{next_window}
use Rattle.week.proofs.Checks.{valid}
use Rattle.windows.proofs.Ahead.{none_ahead}
use Rattle.windows.proofs.Ways.{refused_first, day_below, minute_below, found_ahead, reached_ahead, none_ahead_of}
use Rattle.windows.proofs.next_window.Goals as goal

pub returns-then-not-passes : goal.returns-then-not-passes
unfolding next_window
returns-then-not-passes c = refused_first _ _ _ (sym c.passes.ensures ∙ c.if-not-passes.true) _

pub overflow_add-d : goal.overflow_add-d
overflow_add-d c = let h = day_below _ _ _ (sym c.passes.ensures ∙ c.if-not-passes.false) in omega arith

pub overflow_add-result : goal.overflow_add-result
overflow_add-result c =
    let l = c.loop-ahead in
    let e = sym c.passes.ensures ∙ c.if-not-passes.false in
    let h = reached_ahead _ _ _ e l.ahead l.from l.invariant.none_within l.invariant.from_is _ c.first_from.result c.first_from.ensures c.in-Some.is in
    omega (arith, h.1)

pub overflow_sub-result : goal.overflow_sub-result
overflow_sub-result c =
    let l = c.loop-ahead in
    let e = sym c.passes.ensures ∙ c.if-not-passes.false in
    (reached_ahead _ _ _ e l.ahead l.from l.invariant.none_within l.invariant.from_is _ c.first_from.result c.first_from.ensures c.in-Some.is).0

pub returns-in-Some : goal.returns-in-Some
returns-in-Some c =
    let l = c.loop-ahead in
    let e = sym c.passes.ensures ∙ c.if-not-passes.false in
    found_ahead _ _ _ e l.ahead l.from l.invariant.none_within l.invariant.from_is _ c.first_from.result c.first_from.ensures (omega arith) c.in-Some.is

pub loop-ahead-preserved : goal.loop-ahead-preserved
loop-ahead-preserved c =
    let l = c.loop-ahead in
    let e = sym c.passes.ensures ∙ c.if-not-passes.false in
    let m = minute_below _ _ _ e in
    record { from_is = omega arith; none_within = none_ahead_of _ _ _ e l.ahead l.from l.invariant.none_within l.invariant.from_is _ c.first_from.result c.first_from.ensures c.in_default.is }

pub returns : goal.returns
returns c =
    let n : c.loop-ahead.ahead ≡ 8 = omega arith in
    none_ahead _ _ _ (valid _ _ _ (sym c.passes.ensures ∙ c.if-not-passes.false)) (rw n at c.loop-ahead.invariant.none_within)

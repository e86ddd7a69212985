-- `week_check::is_day` meets its contract: a place that does not fit breaks the day, and after one that fits the rest is to be right. Assumes nothing.
use mathlib.Core.Path.{sym, ◌∙◌}
use native.Mathlib.Omega.{arith}
use Rattle.week_check.proofs.Passing.{after_unused, after_window, day_broken, day_right}
use Rattle.week_check.proofs.is_day.Goals as goal
use Rattle.week_check.proofs.is_day.Goals.{then-place-eq0, else-place-eq0}

pub returns-then-not-fits : goal.returns-then-not-fits
returns-then-not-fits c = day_broken c.args.day.now _ _ c.loop-place.invariant _ (omega arith) (sym c.fits.ensures ∙ c.if-not-fits.true)

pub loop-place-preserved : goal.loop-place-preserved
loop-place-preserved c =
    let f = sym c.fits.ensures ∙ c.if-not-fits.false in
    elim c.if-place-eq0.branch [
      | then-place-eq0 w ↦ after_unused c.args.day.now _ _ c.loop-place.invariant _ (omega arith) f w.if-place-eq0.true w.from-is
      | else-place-eq0 w ↦ after_window c.args.day.now _ _ c.loop-place.invariant _ (omega arith) f w.if-place-eq0.false w.from-is
    ]

pub returns : goal.returns
returns c = day_right c.args.day.now _ _ c.loop-place.invariant (omega arith) (omega arith)

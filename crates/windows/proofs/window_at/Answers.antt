-- `windows::window_at` meets its contract: the check, then the search through the day's places. Assumes nothing.
use mathlib.Core.Path.{sym, ◌∙◌}
use native.Mathlib.Omega.{arith}
use Rattle.week.specs.Weeks.{window_at}
use Rattle.windows.proofs.Ways.{refused_first, day_below, at_packet}
use Rattle.windows.proofs.window_at.Goals as goal

pub returns-then-not-passes : goal.returns-then-not-passes
unfolding window_at
returns-then-not-passes c = refused_first _ _ _ (sym c.passes.ensures ∙ c.if-not-passes.true) _

pub offset_bounds-week-day : goal.offset_bounds-week-day
offset_bounds-week-day c = let h = day_below _ _ _ (sym c.passes.ensures ∙ c.if-not-passes.false) in omega arith

pub bounds-week-day : goal.bounds-week-day
bounds-week-day c = day_below _ _ _ (sym c.passes.ensures ∙ c.if-not-passes.false)

pub returns : goal.returns
returns c = at_packet _ _ _ (sym c.passes.ensures ∙ c.if-not-passes.false) _ c.packet_at.result c.packet_at.ensures

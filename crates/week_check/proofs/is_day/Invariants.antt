-- `week_check::is_day` meets its contract. The loop keeps: the day is right if its places from here on are, after a window that ends at `from`. Assumes nothing.
use Rattle.std.proofs.Common.{◌≡◌, drop}
use Rattle.week.specs.Weeks.{is_day_from}
use Rattle.week_check.proofs.is_day.Given as goal

abbrev pub invariant-loop-place : goal.invariant-loop-place
invariant-loop-place l = is_day_from 0 l.day ≡ is_day_from l.from (drop l.place-index l.day)

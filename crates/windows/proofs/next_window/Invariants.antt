-- `windows::next_window` meets its contract. The loop keeps: no window begins in the days that it has passed. Assumes nothing.
use Rattle.std.proofs.Common.{◌≡◌, ◌-◌, ◌*◌}
use Rattle.windows.proofs.Ahead.{NoneWithin}
use Rattle.windows.proofs.next_window.Given as goal

abbrev pub invariant-loop-ahead : goal.invariant-loop-ahead
invariant-loop-ahead l = record {
  from_is : l.from ≡ l.minute - l.ahead * 1440;
  none_within : NoneWithin l.week l.day l.minute l.ahead;
}

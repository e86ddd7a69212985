-- `week_check::fits` meets its contract: the tests of a place. Assumes nothing.
use Rattle.std.proofs.Common.{arith}
use Rattle.std.proofs.lemmas.Bool.Decides.{nat_tests}
use Rattle.week.specs.Weeks.{is_window, is_unused}
use Rattle.week_check.specs.Code.{fits}
use Rattle.week_check.proofs.fits.Goals as goal

pub returns-then-place-eq0-2 : goal.returns-then-place-eq0-2
unfolding fits is_window is_unused
returns-then-place-eq0-2 c = grind (arith, nat_tests)

pub returns-else-place-eq0-2 : goal.returns-else-place-eq0-2
unfolding fits is_window is_unused
returns-else-place-eq0-2 c = grind (arith, nat_tests)

pub returns-then-place : goal.returns-then-place
unfolding fits is_window is_unused
returns-then-place c = grind (arith, nat_tests)

pub returns-else-place : goal.returns-else-place
unfolding fits is_window is_unused
returns-else-place c = grind (arith, nat_tests)

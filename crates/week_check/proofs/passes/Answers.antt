-- `week_check::passes` meets its contract: day, minute, then the week. Assumes nothing.
use Rattle.std.proofs.Common.{arith}
use Rattle.std.proofs.lemmas.Bool.Decides.{nat_tests}
use Rattle.week.specs.Weeks.{passes}
use Rattle.week_check.proofs.passes.Goals as goal

pub returns-then-minute-le-LAST_MINUTE : goal.returns-then-minute-le-LAST_MINUTE
unfolding passes
returns-then-minute-le-LAST_MINUTE c = grind (arith, nat_tests)

pub returns-else-minute-le-LAST_MINUTE : goal.returns-else-minute-le-LAST_MINUTE
unfolding passes
returns-else-minute-le-LAST_MINUTE c = grind (arith, nat_tests)

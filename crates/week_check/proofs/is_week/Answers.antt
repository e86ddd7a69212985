-- `week_check::is_week` meets its contract: each of the seven days. Assumes nothing.
use Rattle.std.proofs.Common.{rules, arith}
use borrow.Author.Tests.{tests}
use Rattle.std.proofs.lemmas.Iterator.{YieldsList-from_slice}
use Rattle.std.proofs.lemmas.Iterator.Search.{all_from_yields_List}
use Rattle.week.specs.Weeks.{is_day}
use Rattle.week_check.proofs.Passing.{seven_days}
use Rattle.week_check.proofs.is_week.Goals as goal

pub returns : goal.returns
returns c =
    seven_days c.args.week (omega arith) (all_from_yields_List is_day _ _ c.all.result c.all.ensures.ran (YieldsList-from_slice c.args.week cc) (λ x b q k. search (rules, tests)))

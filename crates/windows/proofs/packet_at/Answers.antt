-- `windows::packet_at` meets its contract: the packet of the first window that holds the minute. Assumes nothing.
use Rattle.std.proofs.Common.{rules}
use borrow.Author.Tests.{tests}
use Rattle.std.proofs.lemmas.Iterator.{YieldsList-from_slice}
use Rattle.std.proofs.lemmas.Iterator.Search.{find_from_yields_List}
use Rattle.week.specs.Weeks.{holds}
use Rattle.windows.proofs.Searches.{packet_found}
use Rattle.windows.proofs.packet_at.Goals as goal

pub returns : goal.returns
unfolding holds
returns c =
    let day = c.args.day.now in
    let f = find_from_yields_List (holds c.args.minute) _ _ c.find.result c.find.ensures.ran (YieldsList-from_slice day cc) (λ x b q k. search (rules, tests)) in
    packet_found c.args.minute day c.find.result f (search rules)

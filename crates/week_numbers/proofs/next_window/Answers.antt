-- `week_numbers::next_window` meets its contract: the answer of the week, or 13 for another count of numbers. Assumes nothing.
use Rattle.std.proofs.Common.{sym, ◌∙◌, rules}
use Rattle.week.specs.Weeks.{next_window}
use Rattle.week_numbers.proofs.Made.{refused_lent, given_lent}
use Rattle.week_numbers.proofs.next_window.Goals as goal

pub returns-in_err-week_of : goal.returns-in_err-week_of
returns-in_err-week_of c = search (rules, refused_lent next_window _ c.args.day c.args.minute (sym c.week_of.ensures ∙ c.in_err-week_of.was))

pub returns : goal.returns
returns c = c.next_window.ensures ∙ given_lent next_window _ _ _ (sym c.week_of.ensures ∙ c.in_ok-week_of.was)

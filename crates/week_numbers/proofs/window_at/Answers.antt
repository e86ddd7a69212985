-- `week_numbers::window_at` meets its contract: the answer of the week, or 13 for another count of numbers. Assumes nothing.
use Rattle.std.proofs.Common.{sym, ◌∙◌, rules}
use Rattle.week.specs.Weeks.{window_at}
use Rattle.week_numbers.proofs.Made.{refused_lent, given_lent}
use Rattle.week_numbers.proofs.window_at.Goals as goal

pub returns-in_err-week_of : goal.returns-in_err-week_of
returns-in_err-week_of c = search (rules, refused_lent window_at _ c.args.day c.args.minute (sym c.week_of.ensures ∙ c.in_err-week_of.was))

pub returns : goal.returns
returns c = c.window_at.ensures ∙ given_lent window_at _ _ _ (sym c.week_of.ensures ∙ c.in_ok-week_of.was)

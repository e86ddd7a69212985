-- `week_numbers::week_of` meets its contract: seven days in a row, or 13 for another count of numbers. Assumes nothing.
use Rattle.std.proofs.Common.{ℕ, ◌*◌, ◌∙◌, rules}
use Rattle.week.specs.Lent.{day_of}
use Rattle.week_numbers.proofs.Made.{made_by, seven_days, no_week, a_week}
use Rattle.week_numbers.proofs.week_of.Goals as goal

pub returns-then-numbers-ne84 : goal.returns-then-numbers-ne84
returns-then-numbers-ne84 c = no_week _ c.if-numbers-ne84.true

pub returns : goal.returns
returns c =
    let ns = c.args.numbers.now in
    a_week ns c.if-numbers-ne84.false (made_by (λ (d : ℕ). day_of ns (12 * d)) 7 c.from_fn.result c.from_fn.ensures.items (λ d y q k. search rules) (day_of ns 0) ∙ seven_days ns)

-- `week_numbers::day_of` meets its contract: four places in a row. Assumes nothing.
use Rattle.std.proofs.Common.{ℕ, ◌+◌, ◌*◌, ◌∙◌, rules}
use Rattle.week.specs.Lent.{place_of}
use Rattle.week_numbers.proofs.Made.{made_by, four_places}
use Rattle.week_numbers.proofs.day_of.Goals as goal

pub returns : goal.returns
returns c =
    let ns = c.args.numbers.now in
    let a = c.args.at in
    made_by (λ (i : ℕ). place_of ns (a + 3 * i)) 4 c.from_fn.result c.from_fn.ensures.items (λ i y q k. search rules) (place_of ns a) ∙ four_places ns a

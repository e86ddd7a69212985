-- The week that lent numbers are. Assumes nothing: these are definitions.
use Rattle.std.specs.Prelude.{ℕ, cond, List, eqb, length, Result, Ok, Err}
use Rattle.table.specs.declared.Refusal.{Refusal}
use Rattle.table.specs.declared.Refusal.TheVariants.{Week}
use Rattle.week.specs.declared.Window.{Window}
use Rattle.week.specs.Lent.{week_of}

-- the week of 84 numbers; any other count is a broken week
unfoldable pub week_lent : List ℕ → Result (List (List Window)) Refusal
week_lent ns = cond (eqb (length ns) 84) (Ok (week_of ns)) (Err Week)

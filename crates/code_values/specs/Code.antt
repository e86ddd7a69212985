-- What the code's own values say in terms of the definitions. Assumes nothing: these are definitions.
use Rattle.std.specs.Prelude.{ℕ, ◌+◌, ◌≤◌, ◌<◌, get_or}
use Rattle.short_codes.specs.Values.{values}

-- place r has the greatest value of the table that is at most v
pub record PlaceFor (v r : ℕ) : Type 0 where
  pub inside : r < 1374
  pub at_most : get_or values r 0 ≤ v
  pub next_above : r + 1 < 1374 → v < get_or values (r + 1) 0

-- What the code's own values say in terms of the definitions. Assumes nothing: these are definitions.
use Rattle.std.specs.Prelude.{ℕ, ◌+◌, ◌≤◌, List, length}
use Rattle.short_codes.specs.Values.{values_from, padded}

-- There is room for the values of n digits after v from place i on, none of them has more than ten digits, and so few trees are wanted that no sum overflows.
pub record RoomFor (n w v : ℕ) (out : List ℕ) (i : ℕ) : Type 0 where
  pub room : i + length (values_from n w v) ≤ length out
  pub ten_digits : padded n (v + 1) ≤ 59049
  pub few : w + n ≤ 11

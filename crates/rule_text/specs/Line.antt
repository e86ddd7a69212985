-- Bytes in hexadecimal. Assumes nothing: these are definitions.
use Rattle.std.specs.Prelude.{ℕ, ◌+◌, ◌/◌, ◌%◌, cond, List, [], ◌∷◌, ltb}

-- a digit below 16, as a byte: 0 to 9, then a to f
unfoldable pub digit : ℕ → ℕ
digit n = cond (ltb n 10) (48 + n) (87 + n)

-- two digits for each byte
unfoldable pub digits : List ℕ → List ℕ
digits [] = []
digits (b ∷ l) = digit (b / 16) ∷ digit (b % 16) ∷ digits l

-- What the code's own values say in terms of the definitions. Assumes nothing: these are definitions.
use Rattle.std.specs.Prelude.{ℕ, ◌+◌, cond, leb, Option, Some, None}
use Rattle.calculus.specs.Tree.{Tree, size}
use Rattle.ternary.specs.Text.{text}
use Rattle.short_codes.specs.Values.{value_from}
use Rattle.node_code.specs.declared.Digits.{Digits}

abbrev pub digits : ℕ → ℕ → Digits
digits many v = record { many = many; value = v }

-- what the text of a tree comes to after `many` digits of the value v: the digits in all and their value, or none where they are more than ten
unfoldable pub taken_text : ℕ → ℕ → Tree → Option Digits
taken_text many v t = cond (leb (many + size t) 10) (Some (digits (many + size t) (value_from v (text t)))) None

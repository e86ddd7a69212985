-- The code of a tree, what the operation on a node answers, and the whole outcome of the one on a code ([12]). Assumes nothing: these are definitions.
use Rattle.std.specs.Prelude.{ℕ, ◌+◌, true, cond, List, [], ◌∷◌, get_or, ltb, eqb}
use Rattle.std.proofs.Math.Option.{Option, none, some}
use Rattle.calculus.specs.Tree.{Tree}
use Rattle.table.specs.Nodes.{tree_at}
use Rattle.table.specs.Outcome.{Outcome, whole_out, into_out, at_entry, unless}
use Rattle.table.specs.Refusal.{given_by, Given, given, not_given, nothing}
use Rattle.table.specs.declared.Refusal.TheVariants.{Node}
use Rattle.ternary.specs.Text.{text}
use Rattle.short_codes.specs.Values.{value, values, numeral}

-- the place of the number v in a list, counting from i
unfoldable pub place_from : ℕ → ℕ → List ℕ → Option ℕ
place_from i v [] = none
place_from i v (x ∷ l) = cond (eqb x v) (some i) (place_from (i + 1) v l)

-- "a tree's code is its place there, counting from 0" ([12])
unfoldable pub code_of : Tree → Option ℕ
code_of t = place_from 0 (value (text t)) values

-- "The library gives the code of a node's tree (after 1, 2 and 3), or none" ([12]): of node v of the table w with u nodes in use. There is no stack.
unfoldable pub code : List ℕ → ℕ → ℕ → Given
code w u v = unless (at_entry true w u []) not_given (cond (ltb v u) (given_by (code_of (tree_at w v))) (not_given Node))

-- "and a code's text, or none from 1,374 on, then 10 if out is shorter" ([12])
unfoldable pub code_text : ℕ → List ℕ → Outcome Given
code_text c out = cond (ltb c 1374) (into_out given not_given (numeral (get_or values c 0)) out) (whole_out nothing [] [] out)

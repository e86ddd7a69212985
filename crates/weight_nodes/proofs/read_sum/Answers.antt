-- `weight_nodes::read_sum` meets its contract, by what is read of each weight. Assumes nothing.
use mathlib.Core.Path.{◌∙◌}
use Rattle.weight_nodes.proofs.Ways.{no_first_digits, no_second_digits, both_digits}
use Rattle.weight_nodes.proofs.read_sum.Goals as goal

pub returns-in_err-first : goal.returns-in_err-first
returns-in_err-first c = λ i j. rw c.from_residual.ensures (no_first_digits _ (c.in_err-first.ensures i))

pub returns-in_err-second : goal.returns-in_err-second
returns-in_err-second c = λ i j. rw c.from_residual-in_err-second.ensures (no_second_digits (c.in_ok-first.ensures i) (c.in_err-second.ensures j))

pub returns : goal.returns
returns c = λ i j. c.add_digits.ensures ∙ both_digits (c.in_ok-first.ensures i) (c.in_ok-second.ensures j)

-- `node_code::Digits::and` meets its contract: at most ten digits have a small value. Assumes nothing.
use native.Mathlib.Omega.{arith}
use Rattle.node_code.proofs.Taking.{value_few}
use Rattle.node_code.proofs.Digits.and.Goals as goal

pub overflow_mul-result : goal.overflow_mul-result
overflow_mul-result c = omega (arith, value_few _ _ c.requires.1 (omega arith))

pub overflow_add-result-2 : goal.overflow_add-result-2
overflow_add-result-2 c = omega (arith, value_few _ _ c.requires.1 (omega arith))

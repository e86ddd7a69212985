-- `fill::is_broken` meets its contract. Assumes nothing.
use native.Mathlib.Omega.{arith}
use Rattle.fill.proofs.Broken.{broken_first, broken_second, broken_gap}
use Rattle.fill.proofs.is_broken.Goals as goal

pub returns-then-i-a : goal.returns-then-i-a
returns-then-i-a c = broken_first _ _ _ c.if-i-a.true

pub returns-then-i-b : goal.returns-then-i-b
returns-then-i-b c = broken_second _ _ _ c.if-i-a.false c.if-i-b.true

pub overflow_mul-result : goal.overflow_mul-result
overflow_mul-result c = omega arith

pub returns : goal.returns
returns c = broken_gap _ _ _ c.if-i-a.false c.if-i-b.false (omega arith)

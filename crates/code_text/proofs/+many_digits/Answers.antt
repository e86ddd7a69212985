-- `code_text::many_digits` meets its contract: one digit, or those of a third and one more. Assumes nothing.
use Rattle.code_text.proofs.Ways.{single_digit, more_digits}
use Rattle.code_text.proofs.+many_digits.Goals as goal

pub returns-then-value-lt3 : goal.returns-then-value-lt3
returns-then-value-lt3 t c = single_digit _ c.if-value-lt3.true

pub returns : goal.returns
returns t c = more_digits _ _ c.if-value-lt3.false c.many_digits.ensures

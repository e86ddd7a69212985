-- `code_text::many_digits` meets its contract: one digit, or those of a third and one more. Assumes nothing.
use Rattle.code_text.proofs.+many_digits.Given as goal

abbrev pub decreases-many_digits : goal.decreases-many_digits
decreases-many_digits l = l.value

-- `code_text::put_digits` meets its contract: the digits before the last one, then the last. Assumes nothing.
use Rattle.code_text.proofs.+put_digits.Given as goal

abbrev pub decreases-put_digits : goal.decreases-put_digits
decreases-put_digits l = l.value

-- `code_text::code_text` meets its contract, one law for each way that it ends. Assumes nothing.
use Prim.Native.Nat.{ℕ}
use mathlib.Core.Path.{sym, ap}
use mathlib.Core.List.{List, ◌++◌}
use lib.ListN.{drop}
use Rattle.short_codes.proofs.Outcomes.{no_code_text}
use Rattle.code_text.proofs.Ways.{short_out, text_out}
use Rattle.code_text.proofs.code_text.Goals as goal

pub returns-then-code-ge-CODES : goal.returns-then-code-ge-CODES
returns-then-code-ge-CODES c = sym (no_code_text _ _ c.if-code-ge-CODES.true)

pub returns-then-out-n : goal.returns-then-out-n
returns-then-out-n c =
    short_out _ _ _ _ c.if-code-ge-CODES.false c.value_at-value.ensures c.many_digits-n.ensures.0 c.if-out-n.true

pub returns : goal.returns
returns c =
    text_out _ _ _ _ c.if-code-ge-CODES.false c.value_at-value.ensures c.many_digits-n.ensures.0 c.if-out-n.false (ap (λ (l : List ℕ). l ++ drop c.many_digits-n.result c.args.out.now) c.put_digits.ensures)

-- A text that is too long. Assumes nothing.
use Prim.Native.Nat.{ℕ, ◌<◌}
use mathlib.Core.Path.{◌≡◌}
use mathlib.Core.List.{List, []}
use lib.ListN.{length}
use borrow.Author.Tests.{lt-leb}
use Rattle.table.specs.Outcome.{whole_out}
use Rattle.table.specs.declared.Refusal.TheVariants.{RuleText}
use Rattle.grammar.specs.Text.{read_text}
use Rattle.grammar.specs.Outcome.{of_reading, rule_text}
use Rattle.std.specs.Prelude.{Err}

pub text_long : (l out : List ℕ) → 8192 < length l → whole_out (Err RuleText) [] [] out ≡ rule_text l out
unfolding rule_text of_reading read_text
text_long l out h = rw (lt-leb (length l) 8192 h)

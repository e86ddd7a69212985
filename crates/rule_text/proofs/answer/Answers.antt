-- `rule_text::answer` is safe: what is printed lies within its array. Assumes nothing.
use mathlib.Core.Path.{sym}
use lib.Seq.{length-take-le}
use Rattle.rule_text.proofs.Spelling.{bytes_within}
use Rattle.rule_text.proofs.answer.Goals as goal

pub slice_bounds-out-end : goal.slice_bounds-out-end
slice_bounds-out-end g c = (bytes_within _ _ c.rule_text.ensures c.in-Ok.is).0

pub slice_bounds-spell-end : goal.slice_bounds-spell-end
slice_bounds-spell-end g c = sym (length-take-le _ _ (bytes_within _ _ c.rule_text.ensures c.in-Ok.is).0)

-- `writer::next_digit` meets its contract: each kind of node. Assumes nothing.
use mathlib.Core.Path.{sym, ◌∙◌}
use Rattle.writer.proofs.Writing.{is_leaf, is_stem_lem, is_fork}
use Rattle.writer.proofs.next_digit.Goals as goal

pub returns-then-a-eq0 : goal.returns-then-a-eq0
returns-then-a-eq0 c = λ x xs o. is_leaf o (sym c.word-a.ensures.0 ∙ c.if-a-eq0.true) c.leaf_digit.ensures

pub returns-then-b-eq0 : goal.returns-then-b-eq0
returns-then-b-eq0 c = λ x xs o. rw c.word-a.ensures.0 (is_stem_lem o (λ e. c.if-a-eq0.false (c.word-a.ensures.0 ∙ e)) (sym c.word-b.ensures.0 ∙ c.if-b-eq0.true))

pub returns : goal.returns
returns c = λ x xs o. is_fork o (λ e. c.if-a-eq0.false (c.word-a.ensures.0 ∙ e)) (λ e. c.if-b-eq0.false (c.word-b.ensures.0 ∙ e)) (rw (c.word-a.ensures.0, c.word-b.ensures.0) at c.fork_digit.ensures)

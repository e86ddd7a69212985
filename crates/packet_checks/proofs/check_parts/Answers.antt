-- `packet_checks::check_parts` meets its contract: 5, then 4 for the arguments' texts and the label's. Assumes nothing.
use mathlib.Core.Path.{◌∙◌}
use native.Mathlib.Omega.{arith}
use Rattle.packet.specs.Code.{end_at, values_at, label_at}
use Rattle.packet.proofs.Parts.{part_value}
use Rattle.running.specs.Run.{label_texts}
use Rattle.packet_checks.proofs.Ways.{rule_is, rule_none, text_none, label_none, all_checked}
use Rattle.packet_checks.proofs.check_parts.Goals as goal

pub part_at-start-requires : goal.part_at-start-requires
part_at-start-requires c = omega (arith, c.requires.0)

pub slice_bounds-rule_size-count : goal.slice_bounds-rule_size-count
slice_bounds-rule_size-count c = rw c.part_at-start.ensures (omega (arith, c.requires.0))

pub slice_bounds-rule_size-start : goal.slice_bounds-rule_size-start
slice_bounds-rule_size-start c = rw c.part_at-start.ensures (omega (arith, c.requires.0))

pub slice_bounds-rule_size-end : goal.slice_bounds-rule_size-end
slice_bounds-rule_size-end c = rw c.part_at-start.ensures (omega (arith, c.requires.0))

pub returns-then-is_none : goal.returns-then-is_none
returns-then-is_none c =
    let l = c.args.packet.now in
    rule_none l (values_at l (end_at l 0) c.args.form.arguments) (label_texts (label_at l c.args.form.label_size))
    (rule_is _ (rw (c.part_at-start.ensures, part_value l 0) at c.rule_size.ensures) ∙ c.is_none.ensures) c.if-is_none.true

pub all_texts-requires : goal.all_texts-requires
all_texts-requires c = rw c.part_at-start.ensures c.requires.1

pub returns-then-not-all_texts : goal.returns-then-not-all_texts
returns-then-not-all_texts c =
    let l = c.args.packet.now in
    text_none l (values_at l (end_at l 0) c.args.form.arguments) (label_texts (label_at l c.args.form.label_size))
    (rule_is _ (rw (c.part_at-start.ensures, part_value l 0) at c.rule_size.ensures) ∙ c.is_none.ensures) c.if-is_none.false
    (rw c.part_at-start.ensures at c.all_texts.ensures) c.if-not-all_texts.true

pub label_text-requires : goal.label_text-requires
label_text-requires c = c.requires.2

pub returns-then-not-label_text : goal.returns-then-not-label_text
returns-then-not-label_text c =
    let l = c.args.packet.now in
    label_none l (values_at l (end_at l 0) c.args.form.arguments) (label_texts (label_at l c.args.form.label_size))
    (rule_is _ (rw (c.part_at-start.ensures, part_value l 0) at c.rule_size.ensures) ∙ c.is_none.ensures) c.if-is_none.false
    (rw c.part_at-start.ensures at c.all_texts.ensures) c.if-not-all_texts.false
    c.label_text.ensures c.if-not-label_text.true

pub returns : goal.returns
returns c =
    let l = c.args.packet.now in
    all_checked l (values_at l (end_at l 0) c.args.form.arguments) (label_texts (label_at l c.args.form.label_size))
    (rule_is _ (rw (c.part_at-start.ensures, part_value l 0) at c.rule_size.ensures) ∙ c.is_none.ensures) c.if-is_none.false
    (rw c.part_at-start.ensures at c.all_texts.ensures) c.if-not-all_texts.false
    c.label_text.ensures c.if-not-label_text.false

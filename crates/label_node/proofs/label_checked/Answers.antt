-- `label_node::label_checked` meets its contract: 3 for either number, then Label is the inner one. Assumes nothing.
use mathlib.Core.Path.{◌∙◌}
use Rattle.table.proofs.Entry.{entered}
use Rattle.labelled.proofs.Labels.{entered_label}
use Rattle.label_node.proofs.Ways.{no_rule, no_label}
use Rattle.label_node.proofs.label_checked.Goals as goal
use Rattle.label_node.proofs.label_checked.Goals.{then-used-rule-via-then-used-rule, then-used-rule-via-else-used-rule+then-used-label}

pub returns-then-used-rule : goal.returns-then-used-rule
returns-then-used-rule c =
    elim c.then-used-rule.branch [
      | then-used-rule-via-then-used-rule w ↦ no_rule _ _ _ _ c.requires.1 w.if-used-rule.true
      | then-used-rule-via-else-used-rule+then-used-label w ↦ no_label _ _ _ _ c.requires.1 w.if-used-rule.false w.if-used-label.true
    ]

pub returns : goal.returns
returns c = c.label_rule.ensures.0 ∙ entered_label (entered _ _ _ _ c.requires.1) c.if-used-rule.false c.if-used-label.false

-- `label::label_rule` meets its contract: Label's nodes, settled. Assumes nothing.
use Rattle.label.proofs.Ways.{is_labelled_lem}
use Rattle.label.proofs.label_rule.Goals as goal

pub returns : goal.returns
returns c = is_labelled_lem _ _ _ _ _ _ _ _ c.settle.ensures c.make_nodes-got.ensures.0 c.make_nodes-got.ensures.1

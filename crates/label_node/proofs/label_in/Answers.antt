-- `label_node::label_in` meets its contract: its array is an empty index for the table, which the check fills. Assumes nothing.
use Rattle.std.proofs.Common.{rules}
use Rattle.label_node.proofs.Ways.{refused_at_entry}
use Rattle.label_node.proofs.label_in.Goals as goal

pub returns-in_err-check_in : goal.returns-in_err-check_in
returns-in_err-check_in g c = refused_at_entry _ _ c.check_in.ensures.0 c.in_err-check_in.was (search rules) _ _

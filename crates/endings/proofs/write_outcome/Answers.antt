-- `endings::write_outcome` meets its contract. Assumes nothing.
use Rattle.endings.proofs.Ways.{in_table, is_text, stops_write}
use Rattle.endings.proofs.write_outcome.Goals as goal

pub write_node-requires : goal.write_node-requires
write_node-requires c = (c.requires.0.fine, c.requires.1)

pub stop-requires : goal.stop-requires
stop-requires c = in_table c.requires.0

pub returns-in-Err : goal.returns-in-Err
returns-in-Err c = stops_write _ c.requires.0 c.requires.1 c.write_node.ensures c.in-Err.is (c.stop.ensures _)

pub sum-requires : goal.sum-requires
sum-requires c = c.requires.2

pub returns-in-Ok : goal.returns-in-Ok
returns-in-Ok c = is_text _ c.requires.0 c.requires.1 c.write_node.ensures c.sum.ensures c.in-Ok.is

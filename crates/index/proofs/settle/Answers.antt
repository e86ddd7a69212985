-- `index::settle` meets its contract. Assumes nothing.
use Rattle.index.proofs.Making.{settled_node, settled_full}
use Rattle.index.proofs.settle.Goals as goal

pub returns-in-Some : goal.returns-in-Some
returns-in-Some c =
    let a = c.args in
    settled_node a.table.now a.used a.stack.now _ c.clear.ensures _ c.in-Some.is

pub returns-in-None : goal.returns-in-None
returns-in-None c =
    let a = c.args in
    settled_full a.table.now a.used a.stack.now _ c.clear.ensures c.clear-in-None.ensures c.in-None.is

-- `nodes::new_node` meets its contract: the two stores are `new_node`. Assumes nothing.
use mathlib.Core.Path.{refl}
use Rattle.table.specs.Nodes.{new_node}
use Rattle.nodes.proofs.new_node.Goals as goal

pub returns : goal.returns
unfolding new_node
returns c = refl

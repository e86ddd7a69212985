-- `node_code::take_text` meets its contract: the digit of the node, then those of its branches. Assumes nothing.
use Prim.Native.Nat.{◌-◌}
use Rattle.node_code.proofs.+take_text.Given as goal

abbrev pub decreases-take_text : goal.decreases-take_text
decreases-take_text l = 10 - l.before.many

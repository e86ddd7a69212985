-- `codes::main` reads inside its array: there are as many values as places. Assumes nothing.
use native.Mathlib.Omega.{arith}
use Rattle.codes.proofs.Putting.{all_many}
use Rattle.codes.proofs.main.Goals as goal

pub put_trees-many-requires : goal.put_trees-many-requires
put_trees-many-requires c = (omega (arith, all_many), omega arith)

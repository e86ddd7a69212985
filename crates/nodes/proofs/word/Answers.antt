-- `nodes::word` meets its contract: a word of a slice fits 32 bits. Assumes nothing.
use native.Mathlib.Omega.{arith}
use mathlib.Core.Path.{refl}
use Rattle.nodes.proofs.word.Goals as goal

pub overflow_cast-result : goal.overflow_cast-result
overflow_cast-result c = omega (arith, c.type_inv.words c.args.i)

pub returns : goal.returns
returns c = (refl, omega (arith, c.type_inv.words c.args.i))

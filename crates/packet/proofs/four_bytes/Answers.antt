-- `packet::four_bytes` meets its contract. Assumes nothing.
use native.Mathlib.Omega.{arith}
use Rattle.packet.proofs.Forms.{four}
use Rattle.packet.proofs.four_bytes.Goals as goal

pub returns : goal.returns
returns c = omega (arith, four c.args.packet.now c.args.at c.requires)

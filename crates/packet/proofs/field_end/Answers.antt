-- `packet::field_end` meets its contract: a field ends within the packet or there is none. Assumes nothing.
use native.Mathlib.Omega.{arith}
use Rattle.packet.proofs.Forms.{no_end, an_end}
use Rattle.packet.proofs.field_end.Goals as goal

pub returns-then-packet-at-lt3 : goal.returns-then-packet-at-lt3
returns-then-packet-at-lt3 c = no_end c.args.packet.now c.args.at (omega arith)

pub returns-then-packet-part : goal.returns-then-packet-part
returns-then-packet-part c = no_end c.args.packet.now c.args.at (rw c.part_at-part.ensures at c.if-packet-part.true)

pub returns : goal.returns
returns c = rw c.part_at-part.ensures (an_end c.args.packet.now c.args.at (rw c.part_at-part.ensures at c.if-packet-part.false))

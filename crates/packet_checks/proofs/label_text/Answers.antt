-- `packet_checks::label_text` meets its contract. Assumes nothing.
use native.Mathlib.Omega.{arith}
use Rattle.packet.proofs.Parts.{label_in, part_value}
use Rattle.packet_checks.proofs.Ways.{no_label_text, label_text_is}
use Rattle.packet_checks.proofs.label_text.Goals as goal

pub returns-in_default : goal.returns-in_default
returns-in_default c = no_label_text c.args.packet.now c.in_default.is

pub overflow_sub-packet : goal.overflow_sub-packet
overflow_sub-packet c = (label_in c.args.packet.now c.in-Some.is c.requires).0

pub part_at-start-requires : goal.part_at-start-requires
part_at-start-requires c = let h = label_in c.args.packet.now c.in-Some.is c.requires in omega arith

pub slice_bounds-is_text-end : goal.slice_bounds-is_text-end
slice_bounds-is_text-end c = let h = label_in c.args.packet.now c.in-Some.is c.requires in rw c.part_at-start.ensures (omega arith)

pub returns : goal.returns
returns c = label_text_is c.args.packet.now c.in-Some.is (rw (c.part_at-start.ensures, part_value) at c.is_text.ensures)

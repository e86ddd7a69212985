-- `packet::read_packet` meets its contract. Assumes nothing.
use mathlib.Core.Path.{sym, ap, ◌∙◌}
use native.Mathlib.Omega.{arith}
use Rattle.packet.specs.Code.{value_at, form_of}
use Rattle.packet.proofs.Forms.{is_no_end, is_end, packet_long, packet_nothing, packet_tag, packet_after}
use Rattle.packet.proofs.read_packet.Goals as goal

pub returns-then-packet-gt16384 : goal.returns-then-packet-gt16384
returns-then-packet-gt16384 c = packet_long c.args.packet.now c.if-packet-gt16384.true

pub returns-in_err-end : goal.returns-in_err-end
returns-in_err-end c =
    c.from_residual.ensures ∙ packet_nothing c.args.packet.now c.if-packet-gt16384.false (is_no_end c.args.packet.now 0 c.in_err-end.ensures)

pub bounds-packet-0 : goal.bounds-packet-0
bounds-packet-0 c = let g = is_end c.args.packet.now 0 _ c.in_ok-end.ensures in omega arith

pub returns-then-packet-ne1 : goal.returns-then-packet-ne1
returns-then-packet-ne1 c =
    let g = is_end c.args.packet.now 0 _ c.in_ok-end.ensures in
    packet_tag c.args.packet.now c.if-packet-gt16384.false g.1 c.if-packet-ne1.true

pub after_rule-requires : goal.after_rule-requires
after_rule-requires c = let g = is_end c.args.packet.now 0 _ c.in_ok-end.ensures in omega arith

pub returns : goal.returns
returns c =
    let l = c.args.packet.now in
    let g = is_end l 0 _ c.in_ok-end.ensures in
    c.after_rule.ensures (value_at l 0) ∙ rw g.0 (ap form_of (sym (packet_after l c.if-packet-gt16384.false g.1 c.if-packet-ne1.false)))

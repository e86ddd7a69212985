-- `labeller::label_packet` meets its contract: 1, 6, 5 and 4, and then the stages. Assumes nothing.
use mathlib.Core.Path.{sym, ◌∙◌}
use Rattle.std.proofs.Common.{rules}
use Rattle.labeller.proofs.Ways.{no_value, too_long, packet_none, label_none, parts, refused, label_within, asked, passed}
use Rattle.labeller.proofs.label_packet.Goals as goal

pub returns-then-not-lengths_fit : goal.returns-then-not-lengths_fit
returns-then-not-lengths_fit c =
    let a = c.args in
    too_long a.table.now a.stack.now a.out.now a.packet.now c.lengths_fit.ensures c.if-not-lengths_fit.true

pub returns-in_err-form : goal.returns-in_err-form
returns-in_err-form c =
    let a = c.args in
    let e = c.in_err-form.ensures in
    no_value e.ok_part e.value (search rules) (packet_none a.table.now a.stack.now a.out.now a.packet.now c.lengths_fit.ensures c.if-not-lengths_fit.false (sym e.ok_part ∙ c.read_packet.ensures))

pub returns-in_err-size : goal.returns-in_err-size
returns-in_err-size c =
    let a = c.args in
    let e = c.in_err-size.ensures in
    no_value e.ok_part e.value (search rules)
    (label_none a.table.now a.stack.now a.out.now a.packet.now (sym c.lengths_fit.ensures ∙ c.if-not-lengths_fit.false) (sym c.in_ok-form.ensures.ok_part ∙ c.read_packet.ensures) e.ok_part)

pub check_parts-requires : goal.check_parts-requires
check_parts-requires c =
    let a = c.args in
    let p = parts a.table.now a.stack.now a.out.now a.packet.now (sym c.lengths_fit.ensures ∙ c.if-not-lengths_fit.false) (sym c.in_ok-form.ensures.ok_part ∙ c.read_packet.ensures) in
    (p.rule_stands, p.stand, p.label_stands)

pub returns-in_err-check_parts : goal.returns-in_err-check_parts
returns-in_err-check_parts c =
    let a = c.args in
    refused a.table.now a.stack.now a.out.now a.packet.now (sym c.lengths_fit.ensures ∙ c.if-not-lengths_fit.false) (sym c.in_ok-form.ensures.ok_part ∙ c.read_packet.ensures)
    c.in_ok-size.ensures.ok_part c.in_err-check_parts.ensures (search rules)

pub overflow_sub-packet : goal.overflow_sub-packet
overflow_sub-packet c =
    let a = c.args in
    label_within a.table.now a.stack.now a.out.now a.packet.now (sym c.lengths_fit.ensures ∙ c.if-not-lengths_fit.false) (sym c.in_ok-form.ensures.ok_part ∙ c.read_packet.ensures)
    c.in_ok-size.ensures.ok_part

pub label_checked-requires : goal.label_checked-requires
label_checked-requires c =
    let a = c.args in
    asked a.table.now a.stack.now a.out.now a.packet.now (sym c.lengths_fit.ensures ∙ c.if-not-lengths_fit.false) (sym c.in_ok-form.ensures.ok_part ∙ c.read_packet.ensures)
    c.in_ok-size.ensures.ok_part

pub returns : goal.returns
returns c =
    let a = c.args in
    passed a.table.now a.stack.now a.out.now a.packet.now (sym c.lengths_fit.ensures ∙ c.if-not-lengths_fit.false) (sym c.in_ok-form.ensures.ok_part ∙ c.read_packet.ensures)
    c.in_ok-size.ensures.ok_part c.in_ok-check_parts.ensures _ c.label_checked.ensures

-- `teller::tell` meets its contract: 1, 6, 5 and 4, and then the stages. Assumes nothing.
use mathlib.Core.Path.{sym, ◌∙◌}
use Rattle.teller.proofs.Ways.{too_long, packet_none, parts, refused, asked, passed}
use Rattle.teller.proofs.tell.Goals as goal

pub returns-then-not-lengths_fit : goal.returns-then-not-lengths_fit
returns-then-not-lengths_fit c =
    let a = c.args in
    rw c.refused.ensures (too_long a.table.now a.stack.now a.out.now a.packet.now c.lengths_fit.ensures c.if-not-lengths_fit.true)

pub returns-in_default : goal.returns-in_default
returns-in_default c =
    let a = c.args in
    rw c.refused-in_default.ensures (packet_none a.table.now a.stack.now a.out.now a.packet.now c.lengths_fit.ensures c.if-not-lengths_fit.false (sym c.in_default.is ∙ c.read_packet.ensures))

pub check_parts-requires : goal.check_parts-requires
check_parts-requires c =
    let a = c.args in
    let p = parts a.table.now a.stack.now a.out.now a.packet.now (sym c.lengths_fit.ensures ∙ c.if-not-lengths_fit.false) (sym c.in-Some.is ∙ c.read_packet.ensures) in
    (p.rule_stands, p.stand, p.label_stands)

pub returns-in-Err : goal.returns-in-Err
returns-in-Err c =
    let a = c.args in
    rw c.refused-in-Err.ensures
    (refused a.table.now a.stack.now a.out.now a.packet.now (sym c.lengths_fit.ensures ∙ c.if-not-lengths_fit.false) (sym c.in-Some.is ∙ c.read_packet.ensures) c.in-Err.ensures)

pub tell_checked-requires : goal.tell_checked-requires
tell_checked-requires c =
    let a = c.args in
    asked a.table.now a.stack.now a.out.now a.packet.now (sym c.lengths_fit.ensures ∙ c.if-not-lengths_fit.false) (sym c.in-Some.is ∙ c.read_packet.ensures)

pub returns : goal.returns
returns c =
    let a = c.args in
    passed a.table.now a.stack.now a.out.now a.packet.now (sym c.lengths_fit.ensures ∙ c.if-not-lengths_fit.false) (sym c.in-Some.is ∙ c.read_packet.ensures)
    (rw c.in_default-check_parts.is at c.check_parts.ensures) _ c.tell_checked.ensures

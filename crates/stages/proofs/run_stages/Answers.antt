-- `stages::run_stages` meets its contract. Assumes nothing.
use Rattle.std.specs.Prelude.{None}
use Rattle.packet.specs.Code.{value_at, packet_at}
use Rattle.packet.proofs.Parts.{part_value}
use Rattle.endings.proofs.Ways.{translate_ready}
use Rattle.stages.proofs.Ways.{stages_next, stages_stop, tells}
use Rattle.index.proofs.Ready.{made_ready}
use Rattle.stages.proofs.run_stages.Goals as goal

pub returns-in-Err : goal.returns-in-Err
returns-in-Err c =
    let a = c.args in
    stages_stop c.requires.0.ready (packet_at a.packet.now a.form.arguments a.form.limit None)
    (rw (c.part_at-start.ensures, part_value a.packet.now 0) at c.translate_rule.ensures.0) c.in-Err.is (tells c.tell.ensures (c.stop.ensures _))

pub read_all-requires : goal.read_all-requires
read_all-requires c =
    let a = c.args in
    let p = c.requires.0 in
    let r = translate_ready p.ready (value_at a.packet.now 0)
    (rw (c.part_at-start.ensures, part_value a.packet.now 0) at c.translate_rule.ensures.0) c.in-Ok.is c.translate_rule.auto.stack in
    (r.0, r.1, p.limited, p.few, rw c.part_at-start.ensures p.stand, made_ready c.translate_rule.ensures.1 c.in-Ok.is)

pub returns-in-Ok : goal.returns-in-Ok
returns-in-Ok c =
    let a = c.args in
    stages_next c.requires.0.ready (packet_at a.packet.now a.form.arguments a.form.limit None)
    (rw (c.part_at-start.ensures, part_value a.packet.now 0) at c.translate_rule.ensures.0) c.in-Ok.is
    (rw c.part_at-start.ensures at c.read_all.ensures)

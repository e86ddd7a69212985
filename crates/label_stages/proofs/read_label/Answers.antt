-- `label_stages::read_label` meets its contract. Assumes nothing.
use native.Mathlib.Omega.{arith}
use Rattle.packet.specs.Code.{value_at}
use Rattle.packet.proofs.Parts.{part_value}
use Rattle.index.proofs.Ready.{made_ready}
use Rattle.endings.proofs.Ways.{read_ready}
use Rattle.label_stages.proofs.Ways.{reads_stop, reads_next}
use Rattle.label_stages.proofs.read_label.Goals as goal

pub returns-in-Err : goal.returns-in-Err
returns-in-Err c =
    let a = c.args in
    reads_stop a.rule c.requires.0 (value_at a.packet.now a.at) (rw (c.part_at-start.ensures, part_value a.packet.now a.at) at c.read_text.ensures.0)
    c.in-Err.is (c.stop.ensures _)

pub write_labelled-requires : goal.write_labelled-requires
write_labelled-requires c =
    let a = c.args in
    let p = c.requires in
    let r = read_ready p.0 (value_at a.packet.now a.at) (rw (c.part_at-start.ensures, part_value a.packet.now a.at) at c.read_text.ensures.0) c.in-Ok.is c.read_text.auto.stack in
    (r.ready, omega (arith, p.1, r.up), r.inside, made_ready c.read_text.ensures.1 c.in-Ok.is)

pub returns-in-Ok : goal.returns-in-Ok
returns-in-Ok c =
    let a = c.args in
    reads_next a.rule c.requires.0 (value_at a.packet.now a.at) (rw (c.part_at-start.ensures, part_value a.packet.now a.at) at c.read_text.ensures.0)
    c.in-Ok.is c.write_labelled.ensures

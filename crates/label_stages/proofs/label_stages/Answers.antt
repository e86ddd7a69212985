-- `label_stages::label_stages` meets its contract. Assumes nothing.
use Rattle.packet.specs.Code.{value_at}
use Rattle.packet.proofs.Parts.{part_value}
use Rattle.index.proofs.Ready.{made_ready}
use Rattle.endings.proofs.Ways.{translate_ready}
use Rattle.label_stages.proofs.Ways.{stages_stop, stages_next}
use Rattle.label_stages.proofs.label_stages.Goals as goal

pub returns-in-Err : goal.returns-in-Err
returns-in-Err c =
    let a = c.args in
    let l = a.packet.now in
    stages_stop c.requires.0.ready (value_at l 0) (value_at l a.at) (rw (c.part_at-start.ensures, part_value l 0) at c.translate_rule.ensures.0)
    c.in-Err.is (c.stop.ensures _)

pub read_label-requires : goal.read_label-requires
read_label-requires c =
    let l = c.args.packet.now in
    let p = c.requires.0 in
    let r = translate_ready p.ready (value_at l 0) (rw (c.part_at-start.ensures, part_value l 0) at c.translate_rule.ensures.0) c.in-Ok.is c.translate_rule.auto.stack in
    (r.0, r.1, p.label_stands, made_ready c.translate_rule.ensures.1 c.in-Ok.is)

pub returns-in-Ok : goal.returns-in-Ok
returns-in-Ok c =
    let a = c.args in
    let l = a.packet.now in
    stages_next c.requires.0.ready (value_at l 0) (value_at l a.at) (rw (c.part_at-start.ensures, part_value l 0) at c.translate_rule.ensures.0)
    c.in-Ok.is c.read_label.ensures

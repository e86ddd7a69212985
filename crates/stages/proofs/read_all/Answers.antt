-- `stages::read_all` meets its contract. The loop's invariant: the texts left come to what all of them do, and so many nodes are kept.
-- Assumes nothing.
use mathlib.Core.Path.{refl}
use native.Mathlib.Omega.{arith}
use Rattle.packet.proofs.Parts.{next_field, part_value}
use Rattle.stages.proofs.Ways.{reads_begin, reads_all, reads_end, reads_next, reads_stop, tells}
use Rattle.stages.proofs.read_all.Goals as goal

pub loop-kept-init : goal.loop-kept-init
loop-kept-init c =
    let p = c.requires in
    reads_begin p.0 p.1 p.3 p.4 refl p.5

pub part_at-start-requires : goal.part_at-start-requires
part_at-start-requires c =
    let n = next_field c.args.packet.now c.loop-kept.at c.args.form.arguments c.loop-kept.kept c.loop-kept-test.true c.loop-kept.invariant.stand in
    omega (arith, n.stands)

pub slice_bounds-read_text-end : goal.slice_bounds-read_text-end
slice_bounds-read_text-end c =
    let n = next_field c.args.packet.now c.loop-kept.at c.args.form.arguments c.loop-kept.kept c.loop-kept-test.true c.loop-kept.invariant.stand in
    rw c.part_at-start.ensures (omega (arith, n.stands))

pub returns-in-Err : goal.returns-in-Err
returns-in-Err c =
    reads_stop c.loop-kept.invariant c.loop-kept-test.true (rw (c.part_at-start.ensures, part_value) at c.read_text.ensures.0)
    c.in-Err.is (tells c.tell.ensures (c.stop.ensures _))

pub loop-kept-preserved : goal.loop-kept-preserved
loop-kept-preserved c =
    rw c.part_at-start.ensures
    (reads_next c.loop-kept.invariant c.loop-kept-test.true (rw (c.part_at-start.ensures, part_value) at c.read_text.ensures.0)
    c.in-Ok.is c.read_text.auto.stack c.read_text.auto.index c.read_text.ensures.1)

pub apply_all-requires : goal.apply_all-requires
apply_all-requires c =
    let i = c.loop-kept.invariant in
    let p = c.requires in
    (i.ready, i.rule_in, p.2, reads_all i c.loop-kept-test.false, i.indexed)

pub returns : goal.returns
returns c = reads_end c.loop-kept.invariant c.loop-kept-test.false c.apply_all.ensures

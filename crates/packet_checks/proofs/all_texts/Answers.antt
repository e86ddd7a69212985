-- `packet_checks::all_texts` meets its contract. The loop's invariant: the texts left are all readable exactly where all of them are. Assumes nothing.
use Prim.Native.Nat.{◌-◌}
use mathlib.Core.Path.{◌≡◌, ◌∙◌}
use native.Mathlib.Omega.{arith}
use Rattle.packet.proofs.Parts.{next_field, part_value}
use Rattle.packet_checks.proofs.Ways.{texts_next, texts_stop, texts_end}
use Rattle.packet_checks.proofs.all_texts.Goals as goal

pub loop-init : goal.loop-init
loop-init c = let e : c.args.count - 0 ≡ c.args.count = omega arith in (rw e c.requires, rw e)

pub part_at-start-requires : goal.part_at-start-requires
part_at-start-requires c = let n = next_field c.args.packet.now c.loop.at c.args.count c.loop.counter c.loop-test.true c.loop.invariant.0 in omega (arith, n.stands)

pub slice_bounds-is_text-count : goal.slice_bounds-is_text-count
slice_bounds-is_text-count c = let n = next_field c.args.packet.now c.loop.at c.args.count c.loop.counter c.loop-test.true c.loop.invariant.0 in rw c.part_at-start.ensures (omega (arith, n.stands))

pub slice_bounds-is_text-start : goal.slice_bounds-is_text-start
slice_bounds-is_text-start c = let n = next_field c.args.packet.now c.loop.at c.args.count c.loop.counter c.loop-test.true c.loop.invariant.0 in rw c.part_at-start.ensures (omega (arith, n.stands))

pub slice_bounds-is_text-end : goal.slice_bounds-is_text-end
slice_bounds-is_text-end c = let n = next_field c.args.packet.now c.loop.at c.args.count c.loop.counter c.loop-test.true c.loop.invariant.0 in rw c.part_at-start.ensures (omega (arith, n.stands))

pub returns-then-not-is_text : goal.returns-then-not-is_text
returns-then-not-is_text c =
    texts_stop c.args.packet.now c.loop.at c.args.count c.loop.counter c.loop-test.true c.loop.invariant.0 (rw (c.part_at-start.ensures, part_value) at c.is_text.ensures) c.if-not-is_text.true
    ∙ c.loop.invariant.1

pub loop-preserved : goal.loop-preserved
loop-preserved c =
    let n = next_field c.args.packet.now c.loop.at c.args.count c.loop.counter c.loop-test.true c.loop.invariant.0 in (
      rw c.part_at-start.ensures n.stand,
      rw c.part_at-start.ensures
          (texts_next c.args.packet.now c.loop.at c.args.count c.loop.counter c.loop-test.true c.loop.invariant.0 (rw (c.part_at-start.ensures, part_value) at c.is_text.ensures) c.if-not-is_text.false
          ∙ c.loop.invariant.1),
    )

pub returns : goal.returns
returns c = texts_end c.args.packet.now c.loop.at c.args.count c.loop.counter c.loop-test.false ∙ c.loop.invariant.1

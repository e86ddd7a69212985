-- `machine::apply_nodes` meets its contract: the uses, and how they end. Assumes nothing.
use Rattle.frames.specs.Code.{frames_of}
use Rattle.applying.proofs.Cases.{sound_begin}
use Rattle.machine.proofs.Settled.{used_in, settled, settle_ready}
use native.Mathlib.Omega.{arith}
use Rattle.machine.proofs.apply_nodes.Goals as goal

pub uses-turned-requires : goal.uses-turned-requires
unfolding frames_of
uses-turned-requires c =
    rw c.new-begun.ensures (sound_begin c.requires.0.fine c.requires.1 c.requires.2, omega (arith, c.requires.3), c.requires.0)

pub settle-requires : goal.settle-requires
unfolding frames_of
settle-requires c =
    let e = rw c.new-begun.ensures at c.uses-turned.ensures.0 in
    used_in c.args.stack.now c.requires.0.fine c.requires.1 c.requires.2 c.args.limit c.uses-turned.result c.uses-turned.new.table c.uses-turned.new.stack e c.requires.3

pub returns : goal.returns
unfolding frames_of
returns c =
    let e = rw c.new-begun.ensures at c.uses-turned.ensures.0 in (
      settled c.args.stack.now c.requires.0.fine c.requires.1 c.requires.2 c.args.limit c.uses-turned.result c.uses-turned.new.table c.uses-turned.new.stack e _
          c.uses-turned.auto.stack c.settle.ensures,
      settle_ready c.args.used c.uses-turned.result c.uses-turned.new.table c.uses-turned.new.stack c.settle.result c.settle.new.table c.settle.new.stack c.args.slots _
          c.settle.ensures c.uses-turned.ensures.1,
    )

-- `machine::uses` meets its contract: each use goes on from where the run stands, and one that leads to no further application ends it.
-- Assumes nothing.
use Prim.Native.Nat.{ℕ}
use mathlib.Core.Path.{◌≡◌, refl}
use mathlib.Core.List.{List}
use Rattle.table.specs.Outcome.{frames}
use Rattle.frames.specs.declared.End.{End}
use Rattle.frames.specs.declared.End.TheVariants as ended
use Rattle.frames.specs.declared.Machine.{Machine}
use Rattle.applying.specs.Machine.{State, Turn, more, turn, after}
use Rattle.frames.specs.Code.{state_of, end_of}
use Rattle.rules.specs.Code.{ReadyEnd}
use Rattle.machine.proofs.Going.{going_start, going_on, going_over, going_out, ready_more}
use native.Mathlib.Omega.{arith}
use Rattle.machine.proofs.uses.Goals as goal

-- a use that led to no further application ends the run
over : (e : End) (m : Machine) (w s : List ℕ) → (e ≡ ended.More → ⊥) → (go : State → Turn) → after go (end_of e m w s) ≡ end_of e m w s
unfolding after
over ended.More m w s h go = absurd (h refl)
over ended.Done m w s h go = refl
over ended.Nodes m w s h go = refl
over ended.Frames m w s h go = refl

pub loop-init : goal.loop-init
loop-init c = (going_start c.args.budget c.requires.0, c.requires.2)

pub turn-turned-requires : goal.turn-turned-requires
turn-turned-requires c =
    let i = c.loop.invariant in
    (rw c.loop.auto.stack i.0.good, omega (arith, i.0.counted, c.requires.1), i.1)

pub returns-in_default : goal.returns-in_default
returns-in_default c =
    let r = c.turn-turned in (
      going_over c.loop.invariant.0 _ (omega arith) (rw c.loop.auto.stack at r.ensures.0)
          (over r.result.end r.result.state r.new.table r.new.stack c.in_default.not-More),
      r.ensures.1,
    )

pub loop-preserved : goal.loop-preserved
loop-preserved c =
    let l = c.loop in
    let r = c.turn-turned.result in
    let w = c.turn-turned.new.table in
    let z = state_of r.state w c.turn-turned.new.stack in
    let m = c.in-More.is in
    let e : more z ≡ turn (frames c.args.stack.now) (state_of l.state l.table l.stack) = rw (m, l.auto.stack) at c.turn-turned.ensures.0 in
    (going_on l.invariant.0 z (omega arith) e, ready_more r w c.args.slots _ m c.turn-turned.ensures.1)

pub returns : goal.returns
unfolding ReadyEnd
returns c = let i = c.loop.invariant in (going_out i.0 (omega arith), i.1)

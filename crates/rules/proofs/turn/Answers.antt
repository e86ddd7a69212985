-- `rules::turn` meets its contract: the code of each rule is the use of that rule. Assumes nothing.
use Prim.Native.Nat.{ℕ}
use mathlib.Core.Path.{◌≡◌, refl, sym, ◌∙◌}
use mathlib.Core.List.{List}
use Rattle.calculus.specs.declared.Uses.{Uses}
use Rattle.calculus.specs.Uses.{new_nodes}
use Rattle.table.specs.Outcome.{frames}
use Rattle.index.specs.Index.{Ready}
use Rattle.applying.specs.declared.Rule.{Rule}
use Rattle.applying.specs.Machine.{rule, use_rule, turn}
use Rattle.frames.specs.declared.Machine.{Machine}
use Rattle.applying.proofs.States.{one_use}
use Rattle.frames.specs.declared.Turned.{Turned}
use Rattle.frames.specs.Code.{uses_of, state_of, turn_of}
use Rattle.rules.specs.Code.{ReadyTurned}
use Rattle.table.proofs.Making.{stem_words, fork_words}
use Rattle.rules.proofs.Steps.{use_ready, reach, asks, counting, by_rule}
use native.Mathlib.Omega.{arith}
use Rattle.rules.proofs.turn.Goals as goal

-- where the rule wants no node, table and index stay
kept : (m : Machine) (w s : List ℕ) (x : Turned) (y : List ℕ) {k : Uses} {i : ℕ} {ix : List ℕ} (r : Rule) → k ≡ uses_of m → rule w m.function ≡ r → new_nodes (one_use r) ≡ 0
    → Ready w m.used i ix → turn_of x w y ≡ use_rule (frames s) (state_of m w s) (counting k r) r
    → (turn_of x w y ≡ turn (frames s) (state_of m w s)) × ReadyTurned x w i ix
kept m w s x y {k} r c e n h q = (by_rule (frames s) m w s r c e q, use_ready x w y (frames s) (state_of m w s) (counting k r) r n q h)

pub wanted-requires : goal.wanted-requires
wanted-requires c = reach c.requires.0.fine c.requires.0.function_in

pub grow-requires : goal.grow-requires
grow-requires c =
    let a = c.args in
    let k = asks a.state a.table.now a.stack.now c.requires.0 _ (sym c.wanted.ensures ∙ c.in-Leaf.is) in
    (c.requires.2, k.held, stem_words k.argument)

pub overflow_add-p : goal.overflow_add-p
overflow_add-p c =
    let a = c.args in
    let k = asks a.state a.table.now a.stack.now c.requires.0 _ (sym c.wanted.ensures ∙ c.in-Stem.is) in
    omega (arith, k.named, k.few)

pub grow-requires-in-Stem : goal.grow-requires-in-Stem
grow-requires-in-Stem c =
    let a = c.args in
    let k = asks a.state a.table.now a.stack.now c.requires.0 _ (sym c.wanted.ensures ∙ c.in-Stem.is) in
    (c.requires.2, k.held, fork_words k.named k.argument)

pub resume-requires : goal.resume-requires
resume-requires c =
    let a = c.args in
    let k = asks a.state a.table.now a.stack.now c.requires.0 _ (sym c.wanted.ensures ∙ c.in-Drop.is) in
    (k.held, omega (arith, k.named, k.few))

pub hold-requires : goal.hold-requires
hold-requires c =
    let a = c.args in
    let k = asks a.state a.table.now a.stack.now c.requires.0 _ (sym c.wanted.ensures ∙ c.in-Spread.is) in
    (k.held, (omega (arith, k.named.0, k.few), omega (arith, k.argument, k.few)))

pub hold-requires-in-Triage : goal.hold-requires-in-Triage
hold-requires-in-Triage c =
    let a = c.args in
    let k = asks a.state a.table.now a.stack.now c.requires.0 _ (sym c.wanted.ensures ∙ c.in-Triage.is) in
    (k.held, omega (arith, k.named.1, k.few))

pub returns-in-Leaf : goal.returns-in-Leaf
unfolding use_rule
returns-in-Leaf c =
    let a = c.args in
    (by_rule (frames a.stack.now) a.state a.table.now a.stack.now _ c.uses-uses.ensures (sym c.wanted.ensures ∙ c.in-Leaf.is) c.grow.ensures.0, c.grow.ensures.1)

pub returns-in-Stem : goal.returns-in-Stem
unfolding use_rule
returns-in-Stem c =
    let a = c.args in
    (by_rule (frames a.stack.now) a.state a.table.now a.stack.now _ c.uses-uses.ensures (sym c.wanted.ensures ∙ c.in-Stem.is) c.grow-in-Stem.ensures.0, c.grow-in-Stem.ensures.1)

pub returns-in-Drop : goal.returns-in-Drop
unfolding use_rule
returns-in-Drop c =
    let a = c.args in
    kept a.state a.table.now a.stack.now c.resume.result _ _ c.uses-uses.ensures (sym c.wanted.ensures ∙ c.in-Drop.is) refl c.requires.2 (c.resume.ensures a.table.now)

pub returns-in-Spread : goal.returns-in-Spread
unfolding use_rule
returns-in-Spread c =
    let a = c.args in
    kept a.state a.table.now a.stack.now c.hold.result _ _ c.uses-uses.ensures (sym c.wanted.ensures ∙ c.in-Spread.is) refl c.requires.2 (c.hold.ensures a.table.now)

pub returns-in-Triage : goal.returns-in-Triage
unfolding use_rule
returns-in-Triage c =
    let a = c.args in
    kept a.state a.table.now a.stack.now c.hold-in-Triage.result _ _ c.uses-uses.ensures (sym c.wanted.ensures ∙ c.in-Triage.is) refl c.requires.2 (c.hold-in-Triage.ensures a.table.now)

-- A state of an application, with its frames, read as a term ([11]). Assumes nothing: these are definitions.
use Rattle.std.specs.Prelude.{ℕ, List, [], ◌∷◌}
use Rattle.calculus.specs.declared.Uses.{Uses}
use Rattle.calculus.specs.Abstraction.{Combination, app, term}
use Rattle.table.specs.Nodes.{Table, tree_at}
use Rattle.applying.specs.declared.Frame.{Frame}
use Rattle.applying.specs.declared.Frame.TheVariants.{SpreadFirst, SpreadSecond, TriageFirst}
use Rattle.applying.specs.Machine.{State, Turn, more, done, stop}

-- the term of a node's tree
unfoldable pub node_term : Table → ℕ → Combination
node_term t i = term (tree_at t.words i)

-- What the frames, the last one first, make of the term u of the application under them: "spread: [..] applies y to N giving v, then p to N giving w, then v
-- to w. triage: [..] applies N to p giving v, then v to q." (The five rules)
unfoldable pub frames_term : Table → List Frame → Combination → Combination
frames_term t [] u = u
frames_term t (SpreadFirst p n ∷ fs) u = frames_term t fs (app u (app (node_term t p) (node_term t n)))
frames_term t (SpreadSecond v ∷ fs) u = frames_term t fs (app (node_term t v) u)
frames_term t (TriageFirst q ∷ fs) u = frames_term t fs (app u (node_term t q))

-- the application that a state is to do, under its frames
unfoldable pub state_term : State → Combination
state_term s = frames_term s.table s.frames (app (node_term s.table s.function) (node_term s.table s.argument))

-- what a turn has come to, and the uses that it has counted
unfoldable pub turn_term : Turn → Combination
turn_term (more z) = state_term z
turn_term (done p k) = node_term p.table p.node
turn_term (stop e z) = state_term z

unfoldable pub turn_uses : Turn → Uses
turn_uses (more z) = z.uses
turn_uses (done p k) = k
turn_uses (stop e z) = z.uses

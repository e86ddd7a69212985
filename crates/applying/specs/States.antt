-- What holds of each state of an application, of the rule that it takes and of the turn that it comes to. Assumes nothing: these are definitions.
use Rattle.std.specs.Prelude.{ℕ, ◌+◌, ◌≤◌, ◌<◌, ◌≡◌, List, [], ◌∷◌, length}
use Rattle.calculus.specs.Tree.{Tree, leaf, stem, fork}
use Rattle.calculus.specs.Uses.{steps}
use Rattle.table.specs.Nodes.{Table, Sound, tree_at}
use Rattle.applying.specs.declared.Rule.{Rule}
use Rattle.applying.specs.declared.Rule.TheVariants.{Leaf, Stem, Drop, Spread, Triage}
use Rattle.applying.specs.declared.Frame.{Frame}
use Rattle.applying.specs.declared.Frame.TheVariants.{SpreadFirst, SpreadSecond, TriageFirst}
use Rattle.applying.specs.Machine.{State, Turn, more, done, stop}

-- the nodes that a frame names are below u, and those of all frames
abbrev pub FrameIn : ℕ → Frame → Type 0
FrameIn u (SpreadFirst p n) = (p < u) × (n < u)
FrameIn u (SpreadSecond v) = v < u
FrameIn u (TriageFirst q) = q < u

abbrev pub FramesIn : ℕ → List Frame → Type 0
FramesIn u [] = Unit {0}
FramesIn u (e ∷ fs) = FrameIn u e × FramesIn u fs

-- What holds of each state of an application with `all` frames lent: the table is sound, the nodes that it names are in use, and no more
-- frames are held than there are.
pub record Good (all : ℕ) (s : State) : Type 0 where
  pub fine : Sound s.table
  pub function_in : s.function < s.table.used
  pub argument_in : s.argument < s.table.used
  pub frames_in : FramesIn s.table.used s.frames
  pub held_in : length s.frames ≤ all

-- What the rule that a node takes says of its tree x: "leaf: f = Δ [..] stem: f = Δp [..] drop: f = ΔΔy [..] spread: f = Δ(Δp)y [..] triage:
-- f = Δ(Δpq)y" (The five rules).
abbrev pub TreeBy : List ℕ → Rule → Tree → Type 0
TreeBy w Leaf x = x ≡ leaf
TreeBy w (Stem p) x = x ≡ stem (tree_at w p)
TreeBy w (Drop y) x = x ≡ fork leaf (tree_at w y)
TreeBy w (Spread p y) x = x ≡ fork (stem (tree_at w p)) (tree_at w y)
TreeBy w (Triage p q) x = (y : Tree) × (x ≡ fork (fork (tree_at w p) (tree_at w q)) y)

-- the table that a turn leaves
abbrev pub table_of : Turn → Table
table_of (more z) = z.table
table_of (done p k) = p.table
table_of (stop e z) = z.table

-- "Each use is one step, counted when taken": the steps of a turn after at most k uses, where `from` were counted before.
abbrev pub Counted : ℕ → ℕ → Turn → Type 0
Counted from k (more z) = steps z.uses ≡ from + k
Counted from k (done p j) = (from < steps j) × (steps j ≤ from + k)
Counted from k (stop e z) = (from ≤ steps z.uses) × (steps z.uses < from + k)

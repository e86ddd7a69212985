-- The five rules on a table, one use at a time (The five rules). Assumes nothing: these are definitions.
use Rattle.std.specs.Prelude.{ℕ, zero, suc, ◌+◌, ◌-◌, Bool, true, false, cond, List, [], ◌∷◌, length, ltb, eqb}
use Rattle.calculus.specs.declared.Uses.{Uses}
use Rattle.calculus.specs.Uses.{one_leaf, one_stem, one_drop, one_spread, one_triage, ◌⊕◌}
use Rattle.table.specs.Nodes.{Table, Placed, Making, got, full, first, second, make}
use Rattle.table.specs.declared.Refusal.{Refusal}
use Rattle.table.specs.declared.Refusal.TheVariants.{Nodes, Frames}
use Rattle.applying.specs.declared.Rule.{Rule}
use Rattle.applying.specs.declared.Rule.TheVariants.{Leaf, Stem, Drop, Spread, Triage}
use Rattle.applying.specs.declared.Frame.{Frame}
use Rattle.applying.specs.declared.Frame.TheVariants.{SpreadFirst, SpreadSecond, TriageFirst}

-- Which rule applying node f takes: f = Δ, Δp, ΔΔy, Δ(Δp)y or Δ(Δpq)y. Of a fork, x is the first branch and y the second.
unfoldable pub fork_rule : List ℕ → ℕ → ℕ → Rule
fork_rule w x y =
    cond (eqb (first w x) 0) (Drop y)
    (cond (eqb (second w x) 0) (Spread (first w x - 1) y)
    (Triage (first w x - 1) (second w x - 1)))

unfoldable pub rule : List ℕ → ℕ → Rule
rule w f =
    cond (eqb (first w f) 0) Leaf
    (cond (eqb (second w f) 0) (Stem (first w f - 1))
    (fork_rule w (first w f - 1) (second w f - 1)))

-- whether a rule needs a frame: "Spread holds one frame during its first two applications, triage during its first"
unfoldable pub needs_frame : Rule → Bool
needs_frame Leaf = false
needs_frame (Stem p) = false
needs_frame (Drop y) = false
needs_frame (Spread p y) = true
needs_frame (Triage p q) = true

-- A state of an application: the table, the node applied and its argument, the frames held with the last one first, and the uses so far.
pub record State : Type 0 where
  pub table : Table
  pub function : ℕ
  pub argument : ℕ
  pub frames : List Frame
  pub uses : Uses

-- What a use leads to: a further application, the outcome's node with the uses, or a stop for what the use lacks, in the state that wanted it ("which of the
-- five rules was wanted", [14]).
pub data Turn : Type 0 where
  more : State → Turn
  done : Placed → Uses → Turn
  stop : Refusal → State → Turn

-- The last application gave node v after the uses k: what the last frame held takes it on. "Spread holds one frame during its first two
-- applications, triage during its first. The last application of each holds none."
unfoldable pub resume : Table → List Frame → Uses → ℕ → Turn
resume t [] k v = done (record { table = t; node = v }) k
resume t (SpreadFirst p n ∷ fs) k v = more (record { table = t; function = p; argument = n; frames = SpreadSecond v ∷ fs; uses = k })
resume t (SpreadSecond u ∷ fs) k v = more (record { table = t; function = u; argument = v; frames = fs; uses = k })
resume t (TriageFirst q ∷ fs) k v = more (record { table = t; function = v; argument = q; frames = fs; uses = k })

-- "then 8 if a new node has no place"; "8 comes only when a node not yet in the table is wanted and the table is full" ([8]): the outcome is the node with
-- the words a and b; k are the uses with this one
unfoldable pub grow_by : State → Uses → Making → Turn
grow_by s k (got m) = resume m.table s.frames k m.node
grow_by s k (full t) = stop Nodes s

unfoldable pub grow : State → Uses → ℕ → ℕ → Turn
grow s k a b = grow_by s k (make s.table a b)

-- "then 9 if a frame is needed and all are held": node f is applied to node n, and the frame e is held meanwhile; k are the uses with
-- this one
unfoldable pub hold : ℕ → State → Uses → Frame → ℕ → ℕ → Turn
hold all s k e f n =
    cond (ltb (length s.frames) all)
    (more (record { table = s.table; function = f; argument = n; frames = e ∷ s.frames; uses = k }))
    (stop Frames s)

-- One use of a rule, where `all` frames are lent; k are the uses with this one.
unfoldable pub use_rule : ℕ → State → Uses → Rule → Turn
use_rule all s k Leaf = grow s k (s.argument + 1) 0
use_rule all s k (Stem p) = grow s k (p + 1) (s.argument + 1)
use_rule all s k (Drop y) = resume s.table s.frames k y
use_rule all s k (Spread p y) = hold all s k (SpreadFirst p s.argument) y s.argument
use_rule all s k (Triage p q) = hold all s k (TriageFirst q) s.argument p

-- "Each use is one step, counted when taken, before the applications under it." "Each use of a rule tells which of the five it was." ([5])
unfoldable pub take_rule : ℕ → State → Rule → Turn
take_rule all s Leaf = use_rule all s (s.uses ⊕ one_leaf) Leaf
take_rule all s (Stem p) = use_rule all s (s.uses ⊕ one_stem) (Stem p)
take_rule all s (Drop y) = use_rule all s (s.uses ⊕ one_drop) (Drop y)
take_rule all s (Spread p y) = use_rule all s (s.uses ⊕ one_spread) (Spread p y)
take_rule all s (Triage p q) = use_rule all s (s.uses ⊕ one_triage) (Triage p q)

-- the rule that a state takes next
abbrev pub wanted : State → Rule
wanted s = rule s.table.words s.function

unfoldable pub turn : ℕ → State → Turn
turn all s = take_rule all s (wanted s)

unfoldable pub after : (State → Turn) → Turn → Turn
after go (more s) = go s
after go (done p k) = done p k
after go (stop e s) = stop e s

-- at most k uses: a further application is left where all k were taken
unfoldable pub uses : ℕ → ℕ → State → Turn
uses all zero s = more s
uses all (suc k) s = after (uses all k) (turn all s)

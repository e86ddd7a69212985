-- What is claimed of each use of the machine, of Apply and of Run on paper ([11]). Assumes nothing: these are definitions.
use Rattle.std.specs.Prelude.{ℕ, ◌≤◌, ◌≡◌, List, reverse, length}
use Rattle.calculus.specs.declared.Uses.{Uses}
use Rattle.calculus.specs.Rules.{Eval}
use Rattle.calculus.specs.Term.{parameters}
use Rattle.calculus.specs.Abstraction.{Combination, app, term, translate}
use Rattle.calculus.specs.Runs.{body, fill}
use Rattle.calculus.specs.Equations.{the_drop, the_spread, the_triage}
use Rattle.table.specs.Nodes.{tree_at}
use Rattle.table.specs.Outcome.{frames}
use Rattle.rewriting.specs.Ways.{Reduces, applied, closed_term}
use Rattle.rewriting.specs.Claims.{WayBy, OnlyResult}
use Rattle.applying.specs.declared.Rule.{Rule}
use Rattle.applying.specs.declared.Rule.TheVariants.{Leaf, Stem, Drop, Spread, Triage}
use Rattle.applying.specs.Machine.{State, Turn, more, done, stop, uses}
use Rattle.applying.specs.Apply.{begin, apply}
use Rattle.running.specs.Claims.{Completes}
use Rattle.results.specs.Terms.{node_term, state_term, turn_term, turn_uses}

-- What the use of a rule makes of the term u: "Each use of drop, spread and triage is shown to be one equation on paper, and of leaf and stem none." ([11])
abbrev pub RuleIs : Rule → Combination → Combination → Type 0
RuleIs Leaf u v = v ≡ u
RuleIs (Stem p) u v = v ≡ u
RuleIs (Drop y) u v = Reduces the_drop u v
RuleIs (Spread p y) u v = Reduces the_spread u v
RuleIs (Triage p q) u v = Reduces the_triage u v

-- The same of one use of the rule r from the state s of the machine, its frames read with it. Where the use lacks something, none is taken, and the state is as
-- it was.
abbrev pub UseIs : State → Rule → Turn → Type 0
UseIs s r (more z) = RuleIs r (state_term s) (state_term z)
UseIs s r (done p k) = RuleIs r (state_term s) (node_term p.table p.node)
UseIs s r (stop e z) = z ≡ s

-- The same in sum, of the first j uses of an application of node f to node n with the stack s: what they have come to, completed or not, is reached on paper
-- from the application by the uses that they count.
abbrev pub StandsOnPaper : List ℕ → ℕ → List ℕ → ℕ → ℕ → ℕ → Type 0
StandsOnPaper w u s f n j =
    WayBy (app (term (tree_at w f)) (term (tree_at w n))) (turn_term (uses (frames s) j (begin w u f n))) (turn_uses (uses (frames s) j (begin w u f n)))

-- "a tree given by Apply is the only one they can end in" ([11]), for the node v that Apply gives with the uses k
abbrev pub ApplyResult : List ℕ → ℕ → List ℕ → ℕ → ℕ → ℕ → ℕ → Uses → Type 0
ApplyResult w u s f n limit v k = OnlyResult (app (term (tree_at w f)) (term (tree_at w n))) (tree_at (apply w u s f n limit).table v) k

-- The same of a Run that writes a text: of the translated rule applied to the arguments, and of the body with the arguments put in, which the direct run (The two
-- runs of demand 3) evaluates.
pub record RunResult (w s o l : List ℕ) (m u n : ℕ) (k : Uses) : Type 0 where
  pub completes : Completes w s o l m u n k
  pub result : OnlyResult (applied (translate completes.term) completes.args) completes.tree k
  pub direct : 1 ≤ length completes.args → length completes.args ≤ parameters completes.term
      → (j : Uses) × Eval (fill (reverse completes.args) (body (length completes.args) completes.term)) completes.tree j
      × OnlyResult (closed_term (fill (reverse completes.args) (body (length completes.args) completes.term))) completes.tree j

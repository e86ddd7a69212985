-- The two kinds of the outcome of Run's stages, one of which each stage comes to. Definitions that the proofs of the stages cite.
use Rattle.std.specs.Prelude.{None, Result}
use Rattle.std.specs.Prelude as code
use Prim.Native.Nat.{ℕ, ◌*◌, ◌≤◌}
use mathlib.Core.Path.{◌≡◌}
use mathlib.Core.List.{List, [], ◌++◌}
use lib.ListN.{length, drop}
use Rattle.calculus.specs.Tree.{Tree}
use Rattle.calculus.specs.declared.Uses.{Uses}
use Rattle.calculus.specs.Uses.{steps}
use Rattle.calculus.specs.Rules.{ApplyAll}
use Rattle.calculus.specs.Term.{Term}
use Rattle.calculus.specs.Abstraction.{rule_tree}
use Rattle.table.specs.Nodes.{Table, Placed, capacity, Sound, cleared}
use Rattle.table.specs.Outcome.{Outcome, whole_out, answered, frames, zeros}
use Rattle.table.specs.declared.Refusal.{Refusal}
use Rattle.table.specs.Claims.{Extends, Has}
use Rattle.ternary.specs.Text.{text}
use Rattle.fields.specs.Packet.{Packet}
use Rattle.running.specs.Claims.{nodes_by, TranslateHad, ReadsHad, Reached, Stops, stop_of}
use Rattle.running.specs.declared.Told.{Told}
use Rattle.running.specs.Run.{not_ran, ran}
use Rattle.running.specs.declared.Ran.{Ran}
use Rattle.running.specs.declared.Stop.{Stop}

-- What the stages had where the text of r is written, after the uses k and with the table z.
pub record Ends (w s o : List ℕ) (p : Packet) (t : Term) (args : List Tree) (r : Tree) (k : Uses) (z : Table) : Type 0 where
  pub translated : ApplyAll (rule_tree t) args r k
  pub within_limit : steps k ≤ p.limit
  pub fine : Sound z
  pub extends : Extends (record { words = w; used = 0 }) z
  pub placed : Placed
  pub rule_laid : TranslateHad w s t placed
  pub read_table : Table
  pub read_nodes : List ℕ
  pub arguments_read : ReadsHad s placed.table p.arguments read_table read_nodes
  pub node : ℕ
  pub reached : Reached (frames s) p.limit read_table placed.node read_nodes z node [] k
  pub node_has : Has z node r
  pub used_most : z.used ≤ nodes_by p t k
  pub room : length (text r) ≤ length o

-- the two kinds of the stages' outcome x, with where it is told that applying stopped
pub data Staged (w s o : List ℕ) (p : Packet) (t : Term) (args : List Tree) (x : Outcome (Result Ran Refusal)) (at : code.Option Stop) : Type 0 where
  stops : {e : Refusal} {m : ℕ} (h : Stops w s o p t args e m) → m ≤ capacity w → x ≡ whole_out (not_ran e) (cleared w 0 (m * 2)) (zeros s) o → at ≡ stop_of h
      → Staged w s o p t args x at
  ends : {r : Tree} {k : Uses} {z : Table} → Ends w s o p t args r k z
      → x ≡ whole_out (ran (steps k) z.used (length (text r)) k) z.words (zeros s) (text r ++ drop (length (text r)) o) → at ≡ None → Staged w s o p t args x at

-- What is told is Run's outcome y, and the stages come to it.
pub record Tells (w s o : List ℕ) (p : Packet) (t : Term) (args : List Tree) (x : Outcome Told) (y : Outcome (Result Ran Refusal)) : Type 0 where
  pub same : answered (λ a. a.ran) x ≡ y
  pub staged : Staged w s o p t args y x.answer.stop

-- What the stages of Run ask of lent memory, of the packet and of the nodes that they keep. Assumes nothing: these are definitions.
use Rattle.std.specs.Prelude.{ℕ, ◌≤◌, ◌<◌, List, length, get_or}
use Rattle.packet.specs.Code.{end_at, Stand}
use Rattle.endings.specs.Ready.{Ready}

-- the first n of these nodes are in use
abbrev pub NodesIn : ℕ → List ℕ → ℕ → Type 0
NodesIn u nodes n = (i : ℕ) → i < n → get_or nodes i 0 < u

-- lent memory, and a packet l that passed the checks, with so many arguments and this step limit
pub record Passed (w s o l : List ℕ) (count limit : ℕ) : Type 0 where
  pub ready : Ready w 0 s o
  pub limited : limit ≤ 1000000
  pub few : count ≤ 8
  pub rule_stands : end_at l 0 ≤ length l
  pub stand : Stand l (end_at l 0) count

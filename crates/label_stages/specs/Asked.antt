-- What the stages of `label_packet` ask of lent memory and of the packet. Assumes nothing: these are definitions.
use Rattle.std.specs.Prelude.{ℕ, ◌≤◌, List, length}
use Rattle.packet.specs.Code.{end_at}
use Rattle.endings.specs.Ready.{Ready}

-- lent memory, and a packet l that passed the checks and whose label's field stands at a position
pub record Passed (w s o l : List ℕ) (at : ℕ) : Type 0 where
  pub ready : Ready w 0 s o
  pub rule_stands : end_at l 0 ≤ length l
  pub label_stands : end_at l at ≤ length l

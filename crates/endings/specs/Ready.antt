-- What the stages of a packet's reader ask of the memory that they are lent. Assumes nothing: these are definitions.
use Rattle.std.specs.Prelude.{ℕ, ◌≤◌, List, length}
use Rattle.table.specs.Nodes.{Sound}

-- a sound table with u nodes in use, and a stack and out bytes within refusal 1
pub record Ready (w : List ℕ) (u : ℕ) (s o : List ℕ) : Type 0 where
  pub fine : Sound (record { words = w; used = u })
  pub stack : length s ≤ 65536
  pub out : length o ≤ 65535

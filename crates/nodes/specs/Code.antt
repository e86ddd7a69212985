-- What the code's own values say in terms of the definitions. Assumes nothing: these are definitions.
use Rattle.std.specs.Prelude.{ℕ, List}
use Rattle.table.specs.Nodes.{Placed}
use Rattle.table.specs.declared.Made.{Made}

-- a node that was made in a table which has these words now
abbrev pub placed_by : Made → List ℕ → Placed
placed_by n w = record { table = record { words = w; used = n.used }; node = n.node }

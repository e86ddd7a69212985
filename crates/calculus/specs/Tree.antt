-- Natural trees. Assumes nothing: these are definitions.
use Rattle.std.specs.Prelude.{ℕ, ◌+◌}

-- "A tree is a leaf Δ, a stem Δp or a fork Δpq." (Trees and their table)
pub data Tree : Type 0 where
  leaf : Tree
  stem : Tree → Tree
  fork : Tree → Tree → Tree

-- the number of a tree's nodes
unfoldable pub size : Tree → ℕ
size leaf = 1
size (stem p) = size p + 1
size (fork p q) = size p + size q + 1

-- What the code's inner functions make, in terms of the definitions. Assumes nothing: these are definitions.
use Rattle.std.specs.Prelude.{ℕ, ◌+◌}
use Rattle.table.specs.Nodes.{Table, Making, make, and_then}

-- the second and the third of Label's nodes, by the first
unfoldable pub constant_nodes : Table → ℕ → Making
constant_nodes t leaf = and_then (make t (leaf + 1) 0) (λ n. make n.table (leaf + 1) (n.node + 1))

-- the nodes of Δ(Δp)y, the form of a spread: its stem, and the whole
unfoldable pub spread_nodes : Table → ℕ → ℕ → Making
spread_nodes t p y = and_then (make t (p + 1) 0) (λ n. make n.table (n.node + 1) (y + 1))

-- the second to the fifth of Label's nodes, by the first
unfoldable pub rule_nodes : Table → ℕ → ℕ → Making
rule_nodes t leaf f = and_then (constant_nodes t leaf) (λ n. spread_nodes n.table f n.node)

-- the sixth to the eighth, by the first and the fifth
unfoldable pub whole_nodes : Table → ℕ → ℕ → ℕ → Making
whole_nodes t leaf l y = and_then (make t (leaf + 1) (l + 1)) (λ n. spread_nodes n.table n.node y)

-- What the code's own values say in terms of the definitions. Assumes nothing: these are definitions.
use Rattle.std.specs.Prelude as code
use Rattle.std.specs.Prelude.{ℕ, ◌≡◌, List, Some, None, Result, Ok, Err}
use Rattle.std.proofs.Math.Option.{none, some}
use Rattle.table.specs.Nodes.{Making, got, full, capacity, find}
use Rattle.table.specs.declared.Refusal.{Refusal}
use Rattle.table.specs.declared.Made.{Made}
use Rattle.index.specs.Index.{Ready, Vacant}
use Rattle.index.specs.declared.Found.{Found}
use Rattle.index.specs.declared.Found.TheVariants

-- what a search says: the node found, or that there is none and the place of one
unfoldable pub Sought : List ℕ → ℕ → ℕ → List ℕ → ℕ → ℕ → Found → Type 0
Sought w u s ix a b (TheVariants.Node n) = find w u a b ≡ some n
Sought w u s ix a b (TheVariants.Place p) = (find w u a b ≡ none) × Vacant u s ix a b p

-- what came of wanting a node, in a table that has these words now; where it has no place, the table is full
unfoldable pub got_by : code.Option Made → List ℕ → Making
got_by (Some m) w = got (record { table = record { words = w; used = m.used }; node = m.node })
got_by None w = full (record { words = w; used = capacity w })

-- where there is a node, the table is ready for the next
unfoldable pub ReadyGot : code.Option Made → List ℕ → ℕ → List ℕ → Type 0
ReadyGot (Some m) w s ix = Ready w m.used s ix
ReadyGot None w s ix = Unit {0}

unfoldable pub ReadyMade : Result Made Refusal → List ℕ → ℕ → List ℕ → Type 0
ReadyMade (Ok m) w s ix = Ready w m.used s ix
ReadyMade (Err e) w s ix = Unit {0}

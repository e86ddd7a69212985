-- What Apply's code leaves of the index. Assumes nothing: these are definitions.
use Rattle.std.specs.Prelude.{ℕ, List, Ok, Err}
use Rattle.index.specs.Index.{Ready}
use Rattle.applying.specs.Ended.{Ended}

-- where an application gave a node, the table is ready for the next
unfoldable pub ReadyEnded : Ended → List ℕ → ℕ → List ℕ → Type 0
ReadyEnded (Ok m) w s ix = Ready w m.used s ix
ReadyEnded (Err e) w s ix = Unit {0}

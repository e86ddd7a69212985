-- What a use's code leaves of the index. Assumes nothing: these are definitions.
use Rattle.std.specs.Prelude.{ℕ, List}
use Rattle.index.specs.Index.{Ready}
use Rattle.frames.specs.declared.End.{End}
use Rattle.frames.specs.declared.End.TheVariants as ended
use Rattle.frames.specs.declared.Turned.{Turned}

-- where an application goes on or is done, the table is ready for the next node
unfoldable pub ReadyEnd : End → List ℕ → ℕ → ℕ → List ℕ → Type 0
ReadyEnd ended.More w u s ix = Ready w u s ix
ReadyEnd ended.Done w u s ix = Ready w u s ix
ReadyEnd ended.Nodes w u s ix = Unit {0}
ReadyEnd ended.Frames w u s ix = Unit {0}

abbrev pub ReadyTurned : Turned → List ℕ → ℕ → List ℕ → Type 0
ReadyTurned r w s ix = ReadyEnd r.end w r.state.used s ix

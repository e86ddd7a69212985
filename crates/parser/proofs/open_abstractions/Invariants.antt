-- `parser::open_abstractions` meets its contract: the abstractions in turn. Assumes nothing.
use mathlib.Core.Path.{◌≡◌}
use lib.ListN.{length}
use Rattle.parser.specs.Code.{Row}
use Rattle.parser.proofs.open_abstractions.Given as goal

abbrev pub invariant-loop-n : goal.invariant-loop-n
invariant-loop-n l = Row l.words l.at l.initial.names l.k l.n l.names × (length l.names ≡ length l.initial.names)

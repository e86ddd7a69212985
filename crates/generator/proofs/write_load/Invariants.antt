-- `generator::write_load` meets its contract. The loop's invariant: the digits before the index are written, and with those still to be drawn they are the
-- load. Assumes nothing.
use Prim.Native.Nat.{◌+◌}
use mathlib.Core.Path.{◌≡◌}
use lib.ListN.{length}
use Rattle.generator.proofs.Writing.{WritingLoad}
use Rattle.generator.proofs.write_load.Given as goal

abbrev pub invariant-loop-digit : goal.invariant-loop-digit
invariant-loop-digit l = record {
  left : l.left + l.digit-index ≡ length l.initial.digit-items;
  writing : WritingLoad l.seed l.initial.digit-items l.digit-index l.state l.wanted l.digit-items;
}

-- The measure of `bracket::bracket_at`: what is left of the term's run.
use Prim.Native.Nat.{◌-◌}
use lib.ListN.{length}
use Rattle.bracket.proofs.+bracket_at.Given as goal

abbrev pub decreases-bracket_at : goal.decreases-bracket_at
decreases-bracket_at l = length l.stack.now - l.p

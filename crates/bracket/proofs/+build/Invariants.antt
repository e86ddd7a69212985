-- The measure of `bracket::build`: what is left of the bytes.
use Prim.Native.Nat.{◌-◌}
use lib.ListN.{length}
use Rattle.bracket.proofs.+build.Given as goal

abbrev pub decreases-build : goal.decreases-build
decreases-build l = length l.rule.now - l.at

-- `whole_text::scan` meets its contract. The loop's invariant: after the digits taken `wanted` trees are wanted, and `most` at the most before
-- one of them. Assumes nothing.
use native.Mathlib.Omega.{arith}
use Rattle.whole_text.specs.Code.{wanted_of, ScanSays}
use Rattle.whole_text.proofs.Scanning.{scan_start, scan_few, scan_digit, scan_broken, scan_whole, scan_wants}
use Rattle.whole_text.proofs.scan.Goals as goal

pub loop-c-init : goal.loop-c-init
loop-c-init c = scan_start _

pub wanted_after-requires : goal.wanted_after-requires
wanted_after-requires c = omega (arith, scan_few c.loop-c.invariant, c.loop-c.invariant.inside, c.requires)

pub returns-in_default : goal.returns-in_default
unfolding ScanSays wanted_of
returns-in_default c = scan_broken c.loop-c.invariant c.loop-c-test.true (rw c.in_default.is at c.wanted_after.ensures)

pub loop-c-preserved : goal.loop-c-preserved
unfolding wanted_of
loop-c-preserved c =
    scan_digit c.loop-c.invariant c.loop-c-test.true _ _ (rw c.in-Some.is at c.wanted_after.ensures) c.max-most.ensures

pub returns-then-wanted-eq0 : goal.returns-then-wanted-eq0
returns-then-wanted-eq0 c = scan_whole c.loop-c.invariant c.loop-c-test.false c.if-wanted-eq0.true

pub returns-else-wanted-eq0 : goal.returns-else-wanted-eq0
unfolding ScanSays
returns-else-wanted-eq0 c = scan_wants c.loop-c.invariant c.loop-c-test.false c.if-wanted-eq0.false

-- `whole_text::scan` meets its contract. The loop's invariant: after the digits taken `wanted` trees are wanted, and `most` at the most before
-- one of them. Assumes nothing.
use Rattle.whole_text.proofs.Scanning.{Scans}
use Rattle.whole_text.proofs.scan.Given as goal

abbrev pub invariant-loop-c : goal.invariant-loop-c
invariant-loop-c l = Scans l.text l.c-index l.wanted l.most

-- `windows::first_from` meets its contract. The loop keeps: what is searched stands in the places from here on, if anywhere. Assumes nothing.
use Rattle.std.proofs.Common.{◌≡◌, drop}
use Rattle.windows.specs.Code.{first_from}
use Rattle.windows.proofs.first_from.Given as goal

abbrev pub invariant-loop-place : goal.invariant-loop-place
invariant-loop-place l = first_from l.from l.day ≡ first_from l.from (drop l.place-index l.day)

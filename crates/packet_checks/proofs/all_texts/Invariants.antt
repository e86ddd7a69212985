-- `packet_checks::all_texts` meets its contract. The loop's invariant: the texts left are all readable exactly where all of them are. Assumes nothing.
use Prim.Native.Nat.{◌-◌}
use mathlib.Core.Path.{◌≡◌}
use Rattle.packet.specs.Code.{Stand, values_at}
use Rattle.running.specs.Run.{all_readable}
use Rattle.packet_checks.proofs.all_texts.Given as goal

abbrev pub invariant-loop : goal.invariant-loop
invariant-loop l = Stand l.packet l.at (l.count - l.counter) × (all_readable (values_at l.packet l.at (l.count - l.counter)) ≡ all_readable (values_at l.packet l.from l.count))

-- Refusal 6 of Run, by what a packet's bytes are and not by a reader of them. Assumes nothing.
use Prim.Native.Nat.{ℕ}
use mathlib.Core.Path.{◌≡◌, ap}
use mathlib.Core.List.{List}
use mathlib.Core.Logic.{◌↔◌}
use Rattle.std.specs.Prelude.{Result}
use Rattle.table.specs.Outcome.{Outcome, whole_out}
use Rattle.table.specs.declared.Refusal.TheVariants as refusal
use Rattle.table.specs.declared.Refusal.{Refusal}
use Rattle.fields.specs.Packet.{NoPacket, Bytes}
use Rattle.fields.proofs.Exact.{no_packet_exact}
use Rattle.running.specs.Run.{run, not_ran}
use Rattle.running.specs.Claims.{Fit}
use Rattle.running.specs.declared.Ran.{Ran}
use Rattle.running.proofs.Checks.{run_broken_packet}
use Rattle.running.proofs.Refused.{run_packet_lem}

module _ (w s o l : List ℕ) (bytes : Bytes l) where
  -- "6: packet broken." (Operations, Run) "Anything else, or more than 16,384 bytes, is 6." (The packet) Where the bytes are no packet, the whole
  -- outcome is 6, and lent memory is as found.
  pub no_packet_run : Fit w s o → NoPacket l → run w s o l ≡ whole_out (not_ran refusal.Packet) w s o
  no_packet_run fit n = run_broken_packet l fit ((no_packet_exact l bytes).1 n)

  -- 6 comes exactly where the lengths fit and the bytes are no packet.
  pub run_packet_exact : ((run w s o l).answer ≡ not_ran refusal.Packet) ↔ (Fit w s o × NoPacket l)
  run_packet_exact =
      (λ e. let h = (run_packet_lem w s o l).0 e in (h.0, (no_packet_exact l bytes).0 h.1), λ h. ap (λ (x : Outcome (Result Ran Refusal)). x.answer) (no_packet_run h.0 h.1))

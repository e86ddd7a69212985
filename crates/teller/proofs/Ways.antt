-- Laws of the checks of a packet that is run and told, one for each way that its code goes. Assumes nothing.
use Prim.Native.Nat.{ℕ}
use mathlib.Core.Path.{◌≡◌, refl}
use mathlib.Core.Bool.{Bool, true, false}
use mathlib.Core.List.{List}
use mathlib.Core.Option.{Option, none, some}
use Rattle.table.specs.Outcome.{Outcome, whole_out}
use Rattle.table.specs.declared.Refusal.{Refusal}
use Rattle.table.specs.declared.Refusal.TheVariants as refusal
use Rattle.fields.specs.Packet.{Packet, packet}
use Rattle.packet.specs.Code.{value_at, label_at, packet_at, form_of}
use Rattle.packet.specs.declared.Form.{Form}
use Rattle.std.proofs.Common as code
use Rattle.packet.proofs.Forms.{no_form}
use Rattle.packet.proofs.Parts.{Parts, packet_parts}
use Rattle.running.specs.Run.{not_ran, texts, parts_lack, lengths_fit}
use Rattle.running.specs.Tell.{told, tell_stages, tell_packet, tell}
use Rattle.running.specs.declared.Told.{Told}
use Rattle.running.proofs.Limit.{packet_limit}
use Rattle.endings.proofs.Ways.{empty_ready}
use Rattle.stages.specs.Asked.{Passed}

module _ (w s o l : List ℕ) {b : Bool} (h : b ≡ lengths_fit w s o) where
  pub too_long : b ≡ false → told (whole_out (not_ran refusal.Limits) w s o) ≡ tell w s o l
  unfolding tell
  too_long e = rw (← h, e)

  pub packet_none : b ≡ true → code.None ≡ form_of (packet l) → told (whole_out (not_ran refusal.Packet) w s o) ≡ tell w s o l
  unfolding tell tell_packet form_of
  packet_none e f = rw (← h, e) (go (packet l) f)
    where
      go : (r : Option Packet) → code.None ≡ form_of r → told (whole_out (not_ran refusal.Packet) w s o) ≡ tell_packet w s o r
      go none p = refl
      go (some p) q = absurd (no_form q)

-- a whole packet, in lent memory of lengths that fit
module _ (w s o l : List ℕ) {f : Form} (h : lengths_fit w s o ≡ true) (e : code.Some f ≡ form_of (packet l)) where
  pub parts : Parts l f.arguments f.limit f.label_size
  parts = packet_parts l f.arguments f.limit f.label_size e

  abbrev lack : Option Refusal
  lack = parts_lack (value_at l 0) (texts (packet_at l f.arguments f.limit f.label_size))

  pub refused : {c : Refusal} → some c ≡ lack → told (whole_out (not_ran c) w s o) ≡ tell w s o l
  unfolding tell tell_packet
  refused q = rw (h, parts.is_packet, ← q)

  -- what the stages ask
  pub asked : Passed w s o l f.arguments f.limit
  asked =
      record {
        ready = empty_ready w s o h;
        limited = packet_limit l parts.is_packet;
        few = parts.few;
        rule_stands = parts.rule_stands;
        stand = parts.stand;
      }

  -- "otherwise passes over it" ([1]): the stages are those of the packet without its label
  pub passed : none ≡ lack → (x : Outcome Told) → x ≡ tell_stages w s o (packet_at l f.arguments f.limit code.None) → x ≡ tell w s o l
  unfolding tell tell_packet tell_stages label_at
  passed q x g = rw (h, parts.is_packet, ← q) g

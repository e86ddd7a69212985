-- Laws of the labelled rule's checks, one for each way that the code goes. Assumes nothing.
use Prim.Native.Nat.{ℕ, ◌-◌, ◌≤◌}
use mathlib.Core.Path.{◌≡◌, refl}
use mathlib.Core.Bool.{Bool, true, false}
use mathlib.Core.List.{List}
use mathlib.Core.Option.{Option, none, some}
use native.Mathlib.Omega.{arith}
use lib.ListN.{length}
use Rattle.table.specs.Outcome.{Outcome, whole_out}
use Rattle.table.specs.declared.Refusal.{Refusal}
use Rattle.table.specs.declared.Refusal.TheVariants as refusal
use Rattle.fields.specs.Packet.{Packet, packet}
use Rattle.packet.specs.Code.{value_at, label_at, packet_at, form_of}
use Rattle.packet.specs.declared.Form.{Form}
use Rattle.std.proofs.Common as code
use Rattle.std.specs.Prelude.{Result}
use Rattle.packet.proofs.Forms.{no_form}
use Rattle.packet.proofs.Parts.{Parts, packet_parts, label_in}
use Rattle.running.specs.Run.{not_ran, texts, parts_lack, lengths_fit}
use Rattle.running.specs.declared.Ran.{Ran}
use Rattle.endings.proofs.Ways.{empty_ready}
use Rattle.labelling.specs.LabelPacket.{labelling_stages, label_parts, label_whole, label_packet}
use Rattle.label_stages.specs.Asked.{Passed}

-- where a value is asked for and there is none, the refusal goes on
pub no_value : {A : Type 0} {x : code.Option A} {c e : Refusal} → x ≡ code.None → ◌≡◌ {A = Result A Refusal} (code.Err e) (code.ok_or x c)
    → {z : Result Ran Refusal} → z ≡ code.Err e → {w s o : List ℕ} {y : Outcome (Result Ran Refusal)} → whole_out (not_ran c) w s o ≡ y → whole_out z w s o ≡ y
no_value {A} {c = c} {e = e} p v q h =
    let k : ◌≡◌ {A = Result A Refusal} (code.Err e) (code.Err c) = rw p at v in
    let j : e ≡ c = cc in
    rw (q, j) h

module _ (w s o l : List ℕ) {b : Bool} (h : b ≡ lengths_fit w s o) where
  pub too_long : b ≡ false → whole_out (not_ran refusal.Limits) w s o ≡ label_packet w s o l
  unfolding label_packet
  too_long e = rw (← h, e)

  pub packet_none : b ≡ true → code.None ≡ form_of (packet l) → whole_out (not_ran refusal.Packet) w s o ≡ label_packet w s o l
  unfolding label_packet label_whole form_of
  packet_none e f = rw (← h, e) (go (packet l) f)
    where
      go : (r : Option Packet) → code.None ≡ form_of r → whole_out (not_ran refusal.Packet) w s o ≡ label_whole w s o r
      go none p = refl
      go (some p) q = absurd (no_form q)

-- a whole packet, in lent memory of lengths that fit
module _ (w s o l : List ℕ) {f : Form} (h : lengths_fit w s o ≡ true) (e : code.Some f ≡ form_of (packet l)) where
  pub parts : Parts l f.arguments f.limit f.label_size
  parts = packet_parts l f.arguments f.limit f.label_size e

  pub label_none : f.label_size ≡ code.None → whole_out (not_ran refusal.Packet) w s o ≡ label_packet w s o l
  unfolding label_packet label_whole label_parts label_at
  label_none z = rw (h, parts.is_packet, z)

  module _ {m : ℕ} (i : f.label_size ≡ code.Some m) where
    abbrev lack : Option Refusal
    lack = parts_lack (value_at l 0) (texts (packet_at l f.arguments f.limit f.label_size))

    pub refused : {c : Refusal} → some c ≡ lack → {r : Result Ran Refusal} → r ≡ code.Err c → whole_out r w s o ≡ label_packet w s o l
    unfolding label_packet label_whole label_parts label_at
    refused q a = rw (a, h, parts.is_packet, i, ← (rw i at q))

    -- the label's field is within the packet, and what the stages ask
    pub label_within : m ≤ length l
    label_within = (label_in l i parts.label_stands).0

    pub asked : Passed w s o l (length l - m)
    asked = record { ready = empty_ready w s o h; rule_stands = parts.rule_stands; label_stands = omega (arith, (label_in l i parts.label_stands).1) }

    pub passed : none ≡ lack → (x : Outcome (Result Ran Refusal)) → x ≡ labelling_stages w s o (value_at l 0) (value_at l (length l - m)) → x ≡ label_packet w s o l
    unfolding label_packet label_whole label_parts label_at
    passed q x e = rw (h, parts.is_packet, i, ← (rw i at q)) e

-- Laws of the labelled rule's stages, one for each way that their code goes. Assumes nothing.
use Prim.Native.Nat.{ℕ, ◌<◌}
use mathlib.Core.Path.{◌≡◌, refl, ◌∙◌}
use mathlib.Core.List.{List, []}
use native.Mathlib.Omega.{arith}
use Rattle.calculus.specs.Uses.{no_uses}
use Rattle.calculus.specs.Bytes.{rule}
use Rattle.table.specs.Outcome.{Outcome, whole}
use Rattle.table.specs.declared.Refusal.{Refusal}
use Rattle.table.specs.declared.Made.{Made}
use Rattle.std.specs.Prelude.{Result, Ok, Err}
use Rattle.ternary.specs.Read.{readable, read_tree}
use Rattle.translation.specs.Translate.{translate_rule}
use Rattle.labelled.specs.Label.{label_rule, label}
use Rattle.labelled.proofs.Labels.{label_gives, entered_label}
use Rattle.running.specs.Run.{stopped, after_made_by, writes}
use Rattle.running.specs.declared.Ran.{Ran}
use Rattle.endings.specs.Ready.{Ready}
use Rattle.endings.proofs.Ways.{is_translate, is_read}
use Rattle.labelling.specs.LabelPacket.{labels, reads_label, labelling_stages}

-- ---- Label, and Write

module _ {w : List ℕ} {u : ℕ} {s o : List ℕ} {f t : ℕ} (r : Ready w u s o) (hf : f < u) (ht : t < u) {a : Result Made Refusal} {z : List ℕ}
    (e : whole a z [] ≡ label_rule w u f t) where
  is_label : whole a z [] ≡ label w u f t
  is_label = e ∙ entered_label (record { table = r.fine; stack = omega arith; limits_kept = refl }) hf ht

  pub labels_stop : {x : Outcome (Result Ran Refusal)} {c : Refusal} → a ≡ Err c → x ≡ stopped c z u s o → x ≡ labels w u s o f t
  unfolding labels after_made_by
  labels_stop q g = rw (← is_label, q) g

  pub labels_next : {m : Made} → a ≡ Ok m → {x : Outcome (Result Ran Refusal)} → x ≡ writes z m.used s o m.node no_uses → x ≡ labels w u s o f t
  unfolding labels after_made_by
  labels_next q g = rw (← is_label, q) g

  pub labels_ready : {m : Made} → a ≡ Ok m → Ready z m.used s o × (m.node < m.used)
  labels_ready {m} q =
      let g = label_gives w u f t m.node m.used (rw (← is_label) q) in
      let i : (label w u f t).table ≡ z = rw (← is_label) in
      (record { fine = rw i at g.places.fine; stack = r.stack; out = r.out }, g.places.inside)

-- ---- Read of the label

module _ {w : List ℕ} {u : ℕ} {s o : List ℕ} (f : ℕ) (r : Ready w u s o) (v : List ℕ) {a : Result Made Refusal} {z y : List ℕ} (e : whole a z y ≡ read_tree w u s v (readable v)) where
  pub reads_stop : {x : Outcome (Result Ran Refusal)} {c : Refusal} → a ≡ Err c → x ≡ stopped c z u y o → x ≡ reads_label w u s o f v
  unfolding reads_label after_made_by
  reads_stop q g = rw (← is_read r v e, q) g

  pub reads_next : {m : Made} → a ≡ Ok m → {x : Outcome (Result Ran Refusal)} → x ≡ labels z m.used y o f m.node → x ≡ reads_label w u s o f v
  unfolding reads_label after_made_by
  reads_next q g = rw (← is_read r v e, q) g

-- ---- Translate

module _ {w s o : List ℕ} (r : Ready w 0 s o) (b v : List ℕ) {a : Result Made Refusal} {z y : List ℕ} (e : whole a z y ≡ translate_rule w 0 s (rule b)) where
  pub stages_stop : {x : Outcome (Result Ran Refusal)} {c : Refusal} → a ≡ Err c → x ≡ stopped c z 0 y o → x ≡ labelling_stages w s o b v
  unfolding labelling_stages after_made_by
  stages_stop q g = rw (← is_translate r b e, q) g

  pub stages_next : {m : Made} → a ≡ Ok m → {x : Outcome (Result Ran Refusal)} → x ≡ reads_label z m.used y o m.node v → x ≡ labelling_stages w s o b v
  unfolding labelling_stages after_made_by
  stages_next q g = rw (← is_translate r b e, q) g

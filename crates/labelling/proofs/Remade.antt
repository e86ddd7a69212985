-- The text that `label_packet` writes, read back, is taken apart again. Assumes nothing.
use Prim.Native.Nat.{ℕ}
use mathlib.Core.Path.{◌≡◌, refl}
use mathlib.Core.Bool.{true}
use mathlib.Core.List.{List, []}
use native.Mathlib.Omega.{arith}
use lib.ListN.{take}
use Rattle.calculus.specs.Abstraction.{rule_tree}
use Rattle.table.specs.Nodes.{tree_at}
use Rattle.table.specs.Outcome.{Entered}
use Rattle.table.proofs.Entry.{enters}
use Rattle.table.specs.Refusal.{made}
use Rattle.ternary.specs.Read.{read}
use Rattle.ternary.proofs.OneText.{text_read}
use Rattle.ternary.proofs.Reading.{read_gives}
use Rattle.labelled.specs.Label.{labelled}
use Rattle.labelled.specs.UnlabelClaims.{TakenApart}
use Rattle.labelled.proofs.Unlabels.{unlabel_takes}
use Rattle.labelling.specs.LabelPacket.{label_packet}
use Rattle.labelling.specs.Claims.{LabelCompletes}

-- "trees labelled earlier are made again from their packets" ([4]): where Read takes the text that `label_packet` wrote, into whatever table, `unlabel`
-- gives nodes of the packet's rule and label.
pub remade : {w s o l : List ℕ} {u n : ℕ} (c : LabelCompletes w s o l u n) (w₂ : List ℕ) (u₂ : ℕ) (s₂ : List ℕ) (v u' : ℕ)
    → (read w₂ u₂ s₂ (take n (label_packet w s o l).out)).answer ≡ made v u'
    → TakenApart (read w₂ u₂ s₂ (take n (label_packet w s o l).out)).table u' v (rule_tree c.term) c.label
remade {w} {s} {o} {l} {n = n} c w₂ u₂ s₂ v u' q =
    let t = take n (label_packet w s o l).out in
    let z = (read w₂ u₂ s₂ t).table in
    let x = labelled (rule_tree c.term) c.label in
    let r = read_gives w₂ u₂ s₂ t v u' q in
    let e : tree_at z v ≡ x = cc (r.places.tree, r.whole_text, c.written, text_read x) in
    let s : Entered true z u' [] = record { table = r.places.fine; stack = omega arith; limits_kept = refl } in
    unlabel_takes z u' v (enters s) r.places.inside (rule_tree c.term) c.label e

-- The text of the labelled rule lies within the out bytes. Assumes nothing.
use Prim.Native.Nat.{ℕ, ◌≤◌}
use mathlib.Core.Path.{◌≡◌, sym, ap, ◌∙◌}
use mathlib.Core.List.{List}
use native.Mathlib.Omega.{arith}
use lib.ListN.{length, drop, length-append}
use Rattle.std.specs.Prelude.{Result, Ok, Err, IfOk}
use Rattle.calculus.specs.Abstraction.{rule_tree}
use Rattle.ternary.specs.Text.{text}
use Rattle.table.specs.Outcome.{Outcome, whole_out}
use Rattle.table.specs.declared.Refusal.{Refusal}
use Rattle.labelled.specs.Label.{labelled}
use Rattle.running.specs.declared.Ran.{Ran}
use Rattle.labelling.specs.LabelPacket.{label_packet}
use Rattle.labelling.proofs.Writes.{label_writes}

pub text_within : (w s o l : List ℕ) (a : Result Ran Refusal) {z y x : List ℕ} → whole_out a z y x ≡ label_packet w s o l → IfOk a (λ m. m.digits ≤ length x)
text_within w s o l (Err d) e = tt
text_within w s o l (Ok m) {z} {y} {x} e =
    let r = label_writes w s o l m.steps m.used m.digits m.uses (ap (λ (v : Outcome (Result Ran Refusal)). v.answer) (sym e)) in
    let f = ap length (ap (λ (v : Outcome (Result Ran Refusal)). v.out) e ∙ r.out_is) in
    omega (arith, r.digits_are, length-append (text (labelled (rule_tree r.term) r.label)) (drop m.digits o))

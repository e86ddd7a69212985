-- The whole outcome of `label_packet`, which the paper calls the office reader ([1]). Assumes nothing: these are definitions.
use Rattle.std.specs.Prelude.{ℕ, cond, List, Result}
use Rattle.std.proofs.Math.Option.{Option, none, some}
use Rattle.calculus.specs.Uses.{no_uses}
use Rattle.table.specs.Outcome.{Outcome, whole, whole_out, unless}
use Rattle.table.specs.declared.Refusal.TheVariants as refusal
use Rattle.table.specs.declared.Refusal.{Refusal}
use Rattle.ternary.specs.Read.{read}
use Rattle.translation.specs.Translate.{translate}
use Rattle.labelled.specs.Label.{label}
use Rattle.fields.specs.Packet.{Packet, packet}
use Rattle.running.specs.Run.{after_made, writes, texts, parts_lack, lengths_fit, not_ran}
use Rattle.running.specs.declared.Ran.{Ran}

-- "Label, Write": label the rule at node f with the tree of node t, and write the labelled tree, which takes no use of a rule. "Label has no stack", so
-- that the stack s stays as it was before.
unfoldable pub labels : List ℕ → ℕ → List ℕ → List ℕ → ℕ → ℕ → Outcome (Result Ran Refusal)
labels w u s o f t =
    let r = label w u f t in
    after_made u o (whole r.answer r.table s) (λ w' u' s' v. writes w' u' s' o v no_uses) r.answer

-- "Read of the label", whose text is v; the rule is at node f.
unfoldable pub reads_label : List ℕ → ℕ → List ℕ → List ℕ → ℕ → List ℕ → Outcome (Result Ran Refusal)
reads_label w u s o f v = let r = read w u s v in after_made u o r (λ w' u' s' t. labels w' u' s' o f t) r.answer

-- "then passes over arguments: Translate, Read of the label, Label, Write": of the rule's bytes b and the label's text v. "takes the table as empty".
unfoldable pub labelling_stages : List ℕ → List ℕ → List ℕ → List ℕ → List ℕ → Outcome (Result Ran Refusal)
labelling_stages w s o b v = let r = translate w 0 s b in after_made 0 o r (λ w' u' s' f. reads_label w' u' s' o f v) r.answer

-- "a packet without tag 4 is 6 to it"; else it "checks the packet alike"
unfoldable pub label_parts : List ℕ → List ℕ → List ℕ → Packet → Option (List ℕ) → Outcome (Result Ran Refusal)
label_parts w s o p none = whole_out (not_ran refusal.Packet) w s o
label_parts w s o p (some v) = unless (parts_lack p.rule (texts p)) (λ e. whole_out (not_ran e) w s o) (labelling_stages w s o p.rule v)

unfoldable pub label_whole : List ℕ → List ℕ → List ℕ → Option Packet → Outcome (Result Ran Refusal)
label_whole w s o none = whole_out (not_ran refusal.Packet) w s o
label_whole w s o (some p) = label_parts w s o p p.label

-- The labelled rule of the packet l, with the table w, the stack s and the out bytes o. The answer has the form of Run's, with no use of a rule: "on refusal used is 0".
unfoldable pub label_packet : List ℕ → List ℕ → List ℕ → List ℕ → Outcome (Result Ran Refusal)
label_packet w s o l = cond (lengths_fit w s o) (label_whole w s o (packet l)) (whole_out (not_ran refusal.Limits) w s o)

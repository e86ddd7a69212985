-- What a `label_packet` that writes a text is. Assumes nothing.
use Prim.Native.Nat.{ℕ}
use mathlib.Core.Path.{◌≡◌, sym, ap, ◌∙◌}
use mathlib.Core.List.{List, ◌++◌}
use native.Mathlib.Omega.{arith}
use lib.ListN.{length, drop}
use lib.Seq.{take_at}
use Rattle.std.specs.Prelude.{Result}
use Rattle.calculus.specs.Tree.{Tree}
use Rattle.calculus.specs.declared.Uses.{Uses}
use Rattle.calculus.specs.Uses.{no_uses}
use Rattle.calculus.specs.Term.{Term}
use Rattle.calculus.specs.Abstraction.{rule_tree}
use Rattle.table.specs.Outcome.{Outcome}
use Rattle.table.specs.declared.Refusal.{Refusal}
use Rattle.table.proofs.Words.{zero_one}
use Rattle.ternary.specs.Text.{text}
use Rattle.ternary.proofs.OneText.{text_read}
use Rattle.ternary.proofs.Reading.{readable_some, some_readable}
use Rattle.labelled.specs.Label.{labelled}
use Rattle.fields.specs.Packet.{Packet}
use Rattle.running.specs.Run.{ran_numbers, ran_uses, ran}
use Rattle.running.specs.declared.Ran.{Ran}
use Rattle.running.proofs.OneStage.{ran_is}
use Rattle.labelling.specs.LabelPacket.{label_packet}
use Rattle.labelling.specs.Claims.{LabelChecked, LabelCompletes}
use Rattle.labelling.proofs.Stages.{LabelStaged, stops, ends}
use Rattle.labelling.proofs.Refused.{Checking, fails, goes_on, checking, label_checked, refuses_with}

-- "Translate, Read of the label, Label, Write" ([1]): the text written is that of the labelled tree of the packet's rule and label, in no step.
pub label_writes : (w s o l : List ℕ) (j u n : ℕ) (k : Uses) → (label_packet w s o l).answer ≡ ran j u n k → LabelCompletes w s o l u n
unfolding ran_numbers ran_uses
label_writes w s o l j u n k q = go (checking w s o l)
  where
    of_stages : {p : Packet} {t : Term} {v : List ℕ} {x : Tree} → LabelChecked w s o l p t v x → LabelStaged w s o t v x (label_packet w s o l) → LabelCompletes w s o l u n
    of_stages c (stops h e) = zero_one (cc e.outcome)
    of_stages {p} {t} {v} {x} c (ends {z = z} h f e) =
        let r = labelled (rule_tree t) x in
        let same : ran 0 z.used (length (text r)) no_uses ≡ ran j u n k = cc in
        let parts = ran_is same in
        let i : j ≡ 0 = sym parts.0 in
        let a : k ≡ no_uses = sym parts.3 in
        let b : z.used ≡ u = parts.1 in
        let d : n ≡ length (text r) = sym parts.2 in
        let words : (label_packet w s o l).table ≡ z.words = cc in
        let out : (label_packet w s o l).out ≡ text r ++ drop n o = rw d (ap (λ (x : Outcome (Result Ran Refusal)). x.out) e) in
        record {
          numbers = rw (q, i);
          uses_none = rw (q, a);
          sent = p;
          is_packet = c.checked.is_packet;
          term = t;
          is_rule = c.checked.is_rule;
          value = v;
          has_label = c.has_label;
          label = x;
          label_is = (readable_some v x c.label_is).tree_is;
          digits_are = d;
          written = rw out (take_at (text r) (drop n o) n (sym d));
          out_is = out;
          read_back = rw (out, take_at (text r) (drop n o) n (sym d)) (some_readable (record { short = omega (arith, c.checked.fit.out); tree_is = text_read r }));
          placed = h.placed;
          rule_laid = h.rule_laid;
          read_table = h.read_table;
          label_node_lem = h.label_node_lem;
          label_read = h.label_read;
          node = h.node;
          nodes_are = rw (words, ← b) h.nodes_are;
          used_most = rw (← b) h.used_most;
          stack = cc;
          same_length = ap length words ∙ h.extends.kept.same_length;
          beyond = λ i l. rw words (h.extends.beyond i (omega arith));
          fine = rw (words, ← b) h.fine;
        }

    go : Checking w s o l → LabelCompletes w s o l u n
    go (fails r) = zero_one (cc (refuses_with r))
    go (goes_on c) = of_stages c (label_checked c)

-- The stages of `label_packet`, one after another: each goes on with what it made, or stops for what it lacks. Assumes nothing.
use Prim.Native.Nat.{ℕ, ◌+◌, ◌/◌, ◌≤◌}
use mathlib.Core.Path.{◌≡◌, refl, ap}
use mathlib.Core.Bool.{true}
use mathlib.Core.List.{List, [], ◌∷◌, ◌++◌}
use mathlib.Core.Option.{some}
use native.Mathlib.Omega.{arith}
use lib.ListN.{length, drop}
use Rattle.std.specs.Prelude.{Err, Ok, Result}
use Rattle.calculus.specs.Tree.{Tree, size}
use Rattle.calculus.specs.Uses.{no_uses}
use Rattle.calculus.specs.Term.{Term}
use Rattle.calculus.specs.Bytes.{rule}
use Rattle.calculus.specs.Abstraction.{rule_tree}
use Rattle.table.specs.Nodes.{Table, Placed, got, capacity, Sound}
use Rattle.table.specs.Outcome.{Outcome, Entered, whole, whole_out, zeros}
use Rattle.table.specs.declared.Refusal.{Refusal}
use Rattle.table.specs.Claims.{Extends, Has}
use Rattle.table.proofs.Words.{zero_one}
use Rattle.table.proofs.Trees.{extends_trans}
use Rattle.table.proofs.Making.{stays}
use Rattle.table.proofs.Entry.{enters, lacks_entry}
use Rattle.table.specs.Refusal.{made, not_made}
use Rattle.table.specs.declared.Made.{Made}
use Rattle.ternary.specs.Text.{text}
use Rattle.ternary.specs.Read.{read, readable}
use Rattle.translation.specs.Translate.{translate}
use Rattle.labelled.specs.Label.{labelled, nodes, label}
use Rattle.labelled.specs.Claims.{LabelLacks, of_entry, not_in_use, no_nodes, Labels}
use Rattle.labelled.proofs.Labels.{label_gives}
use Rattle.labelled.proofs.Lacks.{label_lacks}
use Rattle.running.specs.Run.{after_made_by, after_made, writes, ran}
use Rattle.running.specs.Claims.{Fit, TranslateHad, ReadsHad, all_read, and_read}
use Rattle.running.specs.declared.Ran.{Ran}
use Rattle.running.proofs.Undone.{Back, back_full}
use Rattle.running.proofs.OneStage.{Stands, Stopped, stop_here, Translating, translated, not_translated, translating, Reading, read_as, not_read, reading, Writing, written, not_written, writing}
use Rattle.labelling.specs.LabelPacket.{labels, reads_label, labelling_stages}
use Rattle.labelling.specs.Claims.{LabelStops, in_translate, in_read, in_label, in_write}

-- What the stages had where the text of the labelled tree is written, with the table z.
pub record LabelEnds (w s : List ℕ) (t : Term) (v : List ℕ) (z : Table) : Type 0 where
  pub fine : Sound z
  pub extends : Extends (record { words = w; used = 0 }) z
  pub placed : Placed
  pub rule_laid : TranslateHad w s t placed
  pub read_table : Table
  pub label_node_lem : ℕ
  pub label_read : ReadsHad s placed.table (v ∷ []) read_table (label_node_lem ∷ [])
  pub node : ℕ
  pub nodes_are : nodes read_table placed.node label_node_lem ≡ got (record { table = z; node = node })
  pub used_most : z.used ≤ size (rule_tree t) + length v + 7

-- the two kinds of the stages' outcome q
pub data LabelStaged (w s o : List ℕ) (t : Term) (v : List ℕ) (x : Tree) (q : Outcome (Result Ran Refusal)) : Type 0 where
  stops : {e : Refusal} {m : ℕ} → LabelStops w s o t v x e m → Stopped w s o m e q → LabelStaged w s o t v x q
  ends : {z : Table} → LabelEnds w s t v z → length (text (labelled (rule_tree t) x)) ≤ length o
      → q ≡ whole_out (ran 0 z.used (length (text (labelled (rule_tree t) x))) no_uses) z.words (zeros s)
      (text (labelled (rule_tree t) x) ++ drop (length (text (labelled (rule_tree t) x))) o)
      → LabelStaged w s o t v x q

module _ {w s o : List ℕ} (fit : Fit w s o) (t : Term) (v : List ℕ) (x : Tree) where
  -- Label, Write
  labels_staged : {z : Table} {y : List ℕ} → Stands w s z y → {r : Placed} {n : ℕ} → Has z r.node (rule_tree t) → Has z n x → z.used ≤ size (rule_tree t) + length v
      → TranslateHad w s t r → ReadsHad s r.table (v ∷ []) z (n ∷ []) → LabelStaged w s o t v x (labels z.words z.used y o r.node n)
  unfolding labels after_made_by
  labels_staged {z} {y} st {r = p} {n = n} hf hn used had read_all = go r.answer refl
    where
      f : ℕ
      f = p.node

      r : Outcome (Result Made Refusal)
      r = label z.words z.used f n

      long : capacity z.words ≡ capacity w
      long = ap (λ (k : ℕ). k / 2) st.extends.kept.same_length

      entry : Entered true z.words z.used []
      entry = record { table = st.fine; stack = omega arith; limits_kept = refl }

      lacked : {e : Refusal} {x' : List ℕ} → LabelLacks z.words z.used f n e x' → LabelStops w s o t v x e (capacity w) × Back z (capacity w) x'
      lacked (of_entry q) = zero_one (cc (enters entry, lacks_entry q))
      lacked (not_in_use q h) = absurd (h hf.inside hn.inside)
      lacked (no_nodes q h k l) = (in_label had read_all l, rw (← long) (back_full st.fine refl))

      go : (a : Result Made Refusal) → r.answer ≡ a → LabelStaged w s o t v x (after_made z.used o (whole r.answer r.table y) (λ w' u' s' v. writes w' u' s' o v no_uses) a)
      go (Ok m) e = end (writing fit stands root no_uses)
        where
          g : Labels z.words z.used f n m.node m.used
          g = label_gives z.words z.used f n m.node m.used e

          z' : Table
          z' = record { words = r.table; used = m.used }

          stands : Stands w s z' y
          stands = record { fine = g.places.fine; extends = extends_trans st.extends g.places.extends; stack = st.stack }

          root : Has z' m.node (labelled (rule_tree t) x)
          root = record { inside = g.places.inside; tree = rw (← hf.tree, ← hn.tree) g.places.tree }

          count : m.used ≤ size (rule_tree t) + length v + 7
          count = omega (arith, g.used_most, used)

          end : Writing w s o z' no_uses (labelled (rule_tree t) x) (writes r.table m.used y o m.node no_uses) → LabelStaged w s o t v x (writes r.table m.used y o m.node no_uses)
          end (written h q) = ends (record {
            fine = stands.fine;
            extends = stands.extends;
            placed = p;
            rule_laid = had;
            read_table = z;
            label_node_lem = n;
            label_read = read_all;
            node = m.node;
            nodes_are = g.nodes_are;
            used_most = count;
          }) h q
          end (not_written e h q) = stops (in_write had read_all g.nodes_are h) q
      go (Err e) q =
          let a = lacked (label_lacks z.words z.used f n e q) in
          stops a.0 (stop_here st a.1 y st.stack)

  -- Read of the label
  reads_staged : readable v ≡ some x → {p : Placed} {y : List ℕ} → Stands w s p.table y → Has p.table p.node (rule_tree t) → p.table.used ≤ size (rule_tree t) → TranslateHad w s t p
      → LabelStaged w s o t v x (reads_label p.table.words p.table.used y o p.node v)
  unfolding reads_label after_made_by
  reads_staged is {p} {y} st hf used had = go (reading fit st v x is)
    where
      z : Table
      z = p.table

      r : Outcome (Result Made Refusal)
      r = read z.words z.used y v

      go : Reading w s o z y v x → LabelStaged w s o t v x (after_made z.used o r (λ w' u' s' n. labels w' u' s' o p.node n) r.answer)
      go (read_as n u e g) =
          rw e
          (labels_staged {z = record { words = r.table; used = u }} {y = r.stack} g.stands {r = p} (stays st.fine g.kept hf) g.root (omega (arith, g.used_most, used)) had
          (and_read is g.frames_enough g.nodes_enough all_read))
      go (not_read e m q h k) = rw q (stops (in_read {e = e} {m = m} had (h [])) k)

  -- "Translate, Read of the label, Label, Write" ([1])
  pub label_staged : (b : List ℕ) → rule b ≡ some t → readable v ≡ some x → LabelStaged w s o t v x (labelling_stages w s o b v)
  unfolding labelling_stages after_made_by
  label_staged b is_rule is = go (translating fit b t is_rule)
    where
      r : Outcome (Result Made Refusal)
      r = translate w 0 s b

      go : Translating w s o b t → LabelStaged w s o t v x (after_made 0 o r (λ w' u' s' f. reads_label w' u' s' o f v) r.answer)
      go (translated f u e g) =
          rw e (reads_staged is {p = record { table = record { words = r.table; used = u }; node = f }} {y = r.stack} g.stands g.root g.used_most g.had)
      go (not_translated e m q h k) = rw q (stops (in_translate h) k)

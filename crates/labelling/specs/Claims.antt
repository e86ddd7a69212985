-- What is claimed of `label_packet`: where it is refused, what it lacked and which words it cleared; where it writes a text, which, and with how many
-- nodes ([1]). Assumes nothing: these are definitions.
use Rattle.std.specs.Prelude.{ℕ, ◌+◌, ◌*◌, ◌≤◌, ◌≡◌, List, [], ◌∷◌, ◌++◌, ◌⊎◌, length, take, drop, get_or, Result}
use Rattle.std.proofs.Math.Option.{none, some}
use Rattle.calculus.specs.Tree.{Tree, size}
use Rattle.calculus.specs.Uses.{no_uses}
use Rattle.calculus.specs.Term.{Term}
use Rattle.calculus.specs.Bytes.{rule}
use Rattle.calculus.specs.Abstraction.{rule_tree}
use Rattle.table.specs.Nodes.{Table, Placed, got, capacity, Sound, cleared}
use Rattle.table.specs.Outcome.{Outcome, whole_out, frames, zeros}
use Rattle.table.specs.declared.Refusal.{Refusal}
use Rattle.table.specs.declared.Refusal.TheVariants.{Limits, Rule, Nodes}
use Rattle.table.specs.declared.Refusal.TheVariants as refusal
use Rattle.ternary.specs.Text.{text, tree_of}
use Rattle.ternary.specs.Read.{readable}
use Rattle.ternary.specs.Write.{lacks}
use Rattle.ternary.specs.Held.{Spent}
use Rattle.labelled.specs.Label.{labelled, nodes}
use Rattle.labelled.specs.Claims.{LabelLacking}
use Rattle.fields.specs.Packet.{Packet, packet}
use Rattle.running.specs.Run.{texts, ran_numbers, ran_uses, not_ran, ran}
use Rattle.running.specs.Claims.{Fit, Unreadable, Checked, TranslateStops, TranslateHad, ReadStops, ReadsHad, TooFew}
use Rattle.running.specs.declared.Ran.{Ran}
use Rattle.labelling.specs.LabelPacket.{label_packet}

-- What holds where none of the four checks refuses: those of Run pass ("checks the packet alike"), and the packet has a label, of the text v and the
-- tree x.
pub record LabelChecked (w s o l : List ℕ) (p : Packet) (t : Term) (v : List ℕ) (x : Tree) : Type 0 where
  pub args : List Tree
  pub checked : Checked w s o l p t args
  pub has_label : p.label ≡ some v
  pub label_is : readable v ≡ some x

-- "a packet without tag 4 is 6 to it": bytes that are no packet, or one without a label
abbrev pub NoLabel : List ℕ → Type 0
NoLabel l = (packet l ≡ none) ⊎ ((p : Packet) × (packet l ≡ some p) × (p.label ≡ none))

-- a packet with a label
pub record Labelled (l : List ℕ) (p : Packet) : Type 0 where
  pub is_packet : packet l ≡ some p
  pub value : List ℕ
  pub has_label : p.label ≡ some value

-- What the first stage that cannot go on lacks, and the m nodes that were made since the entry: "Translate, Read of the label, Label, Write". The stages
-- before it had what they needed.
pub data LabelStops (w s o : List ℕ) (t : Term) (v : List ℕ) (x : Tree) : Refusal → ℕ → Type 0 where
  in_translate : {e : Refusal} {m : ℕ} → TranslateStops w s t e m → LabelStops w s o t v x e m
  in_read : {e : Refusal} {m : ℕ} {r : Placed} → TranslateHad w s t r → ReadStops s r.table (v ∷ []) e m → LabelStops w s o t v x e m
  in_label : {r : Placed} {z y : Table} {n : ℕ} → TranslateHad w s t r → ReadsHad s r.table (v ∷ []) z (n ∷ []) → LabelLacking z r.node n y
      → LabelStops w s o t v x Nodes (capacity w)
  in_write : {e : Refusal} {r : Placed} {z : Table} {n : ℕ} {m : Placed} → TranslateHad w s t r → ReadsHad s r.table (v ∷ []) z (n ∷ [])
      → nodes z r.node n ≡ got m → Spent (frames s) 0 (labelled (rule_tree t) x) (length o) (lacks e) → LabelStops w s o t v x e m.table.used

-- What was not so where `label_packet` refuses with e, and the whole outcome q: 1, 6, 5 and 4 "leave lent memory as found". Then a stage stops with 8 to
-- 10: the words of the m nodes made since the entry are 0 and all others as found, the stack is 0, and "the out bytes stay as at entry".
pub data LabelRefuses (w s o l : List ℕ) (q : Outcome (Result Ran Refusal)) : Refusal → Type 0 where
  too_long : (Fit w s o → ⊥) → q ≡ whole_out (not_ran Limits) w s o → LabelRefuses w s o l q Limits
  no_packet : Fit w s o → NoLabel l → q ≡ whole_out (not_ran refusal.Packet) w s o → LabelRefuses w s o l q refusal.Packet
  no_rule : Fit w s o → {p : Packet} → Labelled l p → rule p.rule ≡ none → q ≡ whole_out (not_ran Rule) w s o → LabelRefuses w s o l q Rule
  no_text : Fit w s o → {p : Packet} → Labelled l p → {t : Term} → rule p.rule ≡ some t → Unreadable (texts p) → q ≡ whole_out (not_ran refusal.Text) w s o
      → LabelRefuses w s o l q refusal.Text
  stops : {p : Packet} {t : Term} {v : List ℕ} {x : Tree} → LabelChecked w s o l p t v x → {e : Refusal} {m : ℕ} → LabelStops w s o t v x e m → m ≤ capacity w
      → q ≡ whole_out (not_ran e) (cleared w 0 (m * 2)) (zeros s) o → LabelRefuses w s o l q e

-- the refusals that come: those of the four checks, and of a stage 8, 9 and 10
pub data Comes : Refusal → Type 0 where
  limits : Comes Limits
  a_packet : Comes refusal.Packet
  a_rule : Comes Rule
  a_text : Comes refusal.Text
  too_few : {e : Refusal} → TooFew e → Comes e

-- `label_packet`'s answer is the text of the labelled tree r, in no step, or 8, 9 or 10
abbrev pub Labels : List ℕ → List ℕ → List ℕ → List ℕ → Tree → Type 0
Labels w s o l r =
    ((u : ℕ) × ((label_packet w s o l).answer ≡ ran 0 u (length (text r)) no_uses)) ⊎ ((e : Refusal) × TooFew e × ((label_packet w s o l).answer ≡ not_ran e))

-- What is claimed of a `label_packet` that writes n digits and leaves u nodes in use.
pub record LabelCompletes (w s o l : List ℕ) (u n : ℕ) : Type 0 where
  -- no rule is used
  pub numbers : ran_numbers (label_packet w s o l).answer ≡ record { refusal = 0; node = 0; used = u; steps = 0; digits = n }
  pub uses_none : ran_uses (label_packet w s o l).answer ≡ no_uses
  -- the packet, its rule's term, its label's text and tree
  pub sent : Packet
  pub is_packet : packet l ≡ some sent
  pub term : Term
  pub is_rule : rule sent.rule ≡ some term
  pub value : List ℕ
  pub has_label : sent.label ≡ some value
  pub label : Tree
  pub label_is : tree_of value ≡ some label
  -- "Label, Write": the text is that of the labelled tree. "Bytes past the text stay."
  pub digits_are : n ≡ length (text (labelled (rule_tree term) label))
  pub written : take n (label_packet w s o l).out ≡ text (labelled (rule_tree term) label)
  pub out_is : (label_packet w s o l).out ≡ text (labelled (rule_tree term) label) ++ drop n o
  -- Read takes it, given a table that passes 1 and 2, nodes and frames
  pub read_back : readable (take n (label_packet w s o l).out) ≡ some (labelled (rule_tree term) label)
  -- the rule's node, the label's node and the table then; Label's nodes are made in it, and leave u nodes in use
  pub placed : Placed
  pub rule_laid : TranslateHad w s term placed
  pub read_table : Table
  pub label_node_lem : ℕ
  pub label_read : ReadsHad s placed.table (value ∷ []) read_table (label_node_lem ∷ [])
  pub node : ℕ
  pub nodes_are : nodes read_table placed.node label_node_lem ≡ got (record { table = record { words = (label_packet w s o l).table; used = u }; node = node })
  -- at most the rule's nodes, one a digit of the label's text, and seven of Label's; no two are equal (`fine`)
  pub used_most : u ≤ size (rule_tree term) + length value + 7
  -- "Success also sets the stack to 0, and no other table word than those of new nodes changes."
  pub stack : (label_packet w s o l).stack ≡ zeros s
  pub same_length : length (label_packet w s o l).table ≡ length w
  pub beyond : (i : ℕ) → 2 * u ≤ i → get_or (label_packet w s o l).table i 0 ≡ get_or w i 0
  pub fine : Sound (record { words = (label_packet w s o l).table; used = u })

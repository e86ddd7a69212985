-- What a refused `label_packet` leaves, and the exact condition of each check's refusal. Assumes nothing.
use Prim.Native.Nat.{ℕ}
use mathlib.Core.Path.{◌≡◌, refl, ap}
use mathlib.Core.Bool.{false}
use mathlib.Core.List.{List}
use mathlib.Core.Logic.{◌↔◌, inl, inr}
use mathlib.Core.Option.{Option, none, some}
use Rattle.std.specs.Prelude.{Result}
use Rattle.calculus.specs.Tree.{Tree}
use Rattle.calculus.specs.Term.{Term}
use Rattle.calculus.specs.Bytes.{rule}
use Rattle.calculus.specs.Abstraction.{rule_tree}
use Rattle.table.specs.Nodes.{Table}
use Rattle.table.specs.Outcome.{Outcome, whole_out}
use Rattle.table.specs.Refusal.{number, refused_numbers, clears}
use Rattle.table.specs.declared.Refusal.{Refusal}
use Rattle.table.specs.declared.Refusal.TheVariants.{Limits, Rule}
use Rattle.table.specs.declared.Refusal.TheVariants as refusal
use Rattle.table.proofs.Words.{zero_one}
use Rattle.ternary.specs.Write.{lacks}
use Rattle.ternary.specs.Held.{Spent, no_out, no_frame}
use Rattle.labelled.specs.Label.{labelled}
use Rattle.fields.specs.Packet.{Packet, packet, IsPacket, Bytes}
use Rattle.fields.proofs.Exact.{packet_found, packet_exact}
use Rattle.running.specs.Run.{texts, ran_numbers, not_ran}
use Rattle.running.specs.Claims.{Fit, Unreadable, LabelReads, no_label, label_of, Checked, translate_nodes, translate_frames, ReadStops, no_nodes, no_frames, later, TooFew, few_nodes, few_frames, few_bytes}
use Rattle.running.specs.declared.Ran.{Ran}
use Rattle.running.proofs.Checks.{fit_true, not_fit, rule_lacks, texts_lack, nothing_lacks, Checks, checks}
use Rattle.running.proofs.Checks as found
use Rattle.labelling.specs.LabelPacket.{label_parts, label_whole, label_packet}
use Rattle.labelling.specs.Claims.{LabelChecked, NoLabel, Labelled, LabelStops, in_translate, in_read, in_label, in_write, LabelRefuses, too_long, no_packet, no_rule, no_text, stops, Comes, limits, a_packet, a_rule, a_text, too_few, Labels}
use Rattle.labelling.proofs.Stages.{LabelStaged, label_staged}
use Rattle.labelling.proofs.Stages as staged

-- ---- the outcome after each check

module _ {w s o : List ℕ} (l : List ℕ) where
  -- 1
  pub label_long : (Fit w s o → ⊥) → label_packet w s o l ≡ whole_out (not_ran Limits) w s o
  unfolding label_packet
  label_long h = rw (not_fit h)

  module _ (fit : Fit w s o) where
    -- 6: "a packet without tag 4 is 6 to it"
    pub label_missing : NoLabel l → label_packet w s o l ≡ whole_out (not_ran refusal.Packet) w s o
    unfolding label_packet label_whole label_parts
    label_missing (inl e) = rw (fit_true fit, e)
    label_missing (inr e) = rw (fit_true fit, e.1, e.2)

    -- 5
    pub label_bad_rule : {p : Packet} → Labelled l p → rule p.rule ≡ none → label_packet w s o l ≡ whole_out (not_ran Rule) w s o
    unfolding label_packet label_whole label_parts
    label_bad_rule {p} h q = rw (fit_true fit, h.is_packet, h.has_label, ← h.has_label, rule_lacks p q)

    -- 4: the arguments' texts, and then the label's
    pub label_bad_text : {p : Packet} → Labelled l p → {t : Term} → rule p.rule ≡ some t → Unreadable (texts p)
        → label_packet w s o l ≡ whole_out (not_ran refusal.Text) w s o
    unfolding label_packet label_whole label_parts
    label_bad_text {p} h q u = rw (fit_true fit, h.is_packet, h.has_label, ← h.has_label, texts_lack p q u)

-- what the stages come to
pub label_checked : {w s o l : List ℕ} {p : Packet} {t : Term} {v : List ℕ} {x : Tree} → LabelChecked w s o l p t v x → LabelStaged w s o t v x (label_packet w s o l)
unfolding label_packet label_whole label_parts
label_checked {p = p} {t = t} {v = v} {x = x} c =
    rw (fit_true c.checked.fit, c.checked.is_packet, c.has_label, ← c.has_label, nothing_lacks c.checked)
    (label_staged c.checked.fit t v x p.rule c.checked.is_rule c.label_is)

-- a refusal of one of the four checks, or none of them
pub data Checking (w s o l : List ℕ) : Type 0 where
  fails : {e : Refusal} → LabelRefuses w s o l (label_packet w s o l) e → Checking w s o l
  goes_on : {p : Packet} {t : Term} {v : List ℕ} {x : Tree} → LabelChecked w s o l p t v x → Checking w s o l

pub checking : (w s o l : List ℕ) → Checking w s o l
checking w s o l = go (checks w s o l)
  where
    missing : Fit w s o → NoLabel l → Checking w s o l
    missing f u = fails (no_packet f u (label_missing l f u))

    of_rule : Fit w s o → {p : Packet} → packet l ≡ some p → rule p.rule ≡ none → (v : Option (List ℕ)) → p.label ≡ v → Checking w s o l
    of_rule f {p} e q none h = missing f (inr (p, e, h))
    of_rule f {p} e q (some v) h =
        let a : Labelled l p = record { is_packet = e; value = v; has_label = h } in
        fails (no_rule f a q (label_bad_rule l f a q))

    of_text : Fit w s o → {p : Packet} → packet l ≡ some p → {t : Term} → rule p.rule ≡ some t → Unreadable (texts p) → (v : Option (List ℕ)) → p.label ≡ v → Checking w s o l
    of_text f {p} e q u none h = missing f (inr (p, e, h))
    of_text f {p} e q u (some v) h =
        let a : Labelled l p = record { is_packet = e; value = v; has_label = h } in
        fails (no_text f a q u (label_bad_text l f a q u))

    of_label : {p : Packet} {t : Term} {args : List Tree} → Checked w s o l p t args → {v : Option (List ℕ)} → p.label ≡ v → LabelReads v → Checking w s o l
    of_label {p} c h no_label = missing c.fit (inr (p, c.is_packet, h))
    of_label {args = args} c h (label_of r) = goes_on (record { args = args; checked = c; has_label = h; label_is = r })

    go : Checks w s o l → Checking w s o l
    go (found.too_long h) = fails (too_long h (label_long l h))
    go (found.no_packet f e) = missing f (inl e)
    go (found.no_rule f {p = p} e q) = of_rule f e q p.label refl
    go (found.no_text f {p = p} e q u) = of_text f e q u p.label refl
    go (found.passes c) = of_label c refl c.label_reads

-- ---- refusals

-- the stages stop with 8 to 10 alone
pub stops_few : {w s o : List ℕ} {t : Term} {v : List ℕ} {x : Tree} {e : Refusal} {m : ℕ} → LabelStops w s o t v x e m → TooFew e
stops_few (in_translate (translate_frames h)) = few_frames
stops_few (in_translate (translate_nodes h k)) = few_nodes
stops_few (in_read h r) = go r
  where
    go : {s : List ℕ} {z : Table} {ls : List (List ℕ)} {e : Refusal} {m : ℕ} → ReadStops s z ls e m → TooFew e
    go (no_frames h) = few_frames
    go (no_nodes h k l) = few_nodes
    go (later h k l r) = go r
stops_few (in_label h r k) = few_nodes
stops_few (in_write h r k q) = go q
  where
    go : {all held n : ℕ} {r : Tree} {e : Refusal} → Spent all held r n (lacks e) → TooFew e
    go (no_out h) = few_bytes
    go (no_frame h) = few_frames

few_clears : {e : Refusal} → TooFew e → clears e ≡ false → ⊥
unfolding clears number
few_clears few_nodes q = zero_one (cc)
few_clears few_frames q = zero_one (cc)
few_clears few_bytes q = zero_one (cc)

pub refuses_with : {w s o l : List ℕ} {q : Outcome (Result Ran Refusal)} {e : Refusal} → LabelRefuses w s o l q e → q.answer ≡ not_ran e
refuses_with (too_long h q) = ap (λ (z : Outcome (Result Ran Refusal)). z.answer) q
refuses_with (no_packet f h q) = ap (λ (z : Outcome (Result Ran Refusal)). z.answer) q
refuses_with (no_rule f h k q) = ap (λ (z : Outcome (Result Ran Refusal)). z.answer) q
refuses_with (no_text f h k u q) = ap (λ (z : Outcome (Result Ran Refusal)). z.answer) q
refuses_with (stops c h k q) = ap (λ (z : Outcome (Result Ran Refusal)). z.answer) q

module _ (w s o l : List ℕ) where
  -- Each refusal of `label_packet` comes only on its condition, and leaves lent memory so.
  pub label_refused : (e : Refusal) → (label_packet w s o l).answer ≡ not_ran e → LabelRefuses w s o l (label_packet w s o l) e
  label_refused e q = go (checking w s o l)
    where
      by : {c : Refusal} → LabelRefuses w s o l (label_packet w s o l) c → LabelRefuses w s o l (label_packet w s o l) e
      by {c} r = let a : c ≡ e = cc (refuses_with r) in rw (← a) r

      of_stages : {p : Packet} {t : Term} {v : List ℕ} {x : Tree} → LabelChecked w s o l p t v x → LabelStaged w s o t v x (label_packet w s o l)
          → LabelRefuses w s o l (label_packet w s o l) e
      of_stages c (staged.stops h k) = by (stops c h k.within k.outcome)
      of_stages c (staged.ends h f r) = zero_one (cc)

      go : Checking w s o l → LabelRefuses w s o l (label_packet w s o l) e
      go (fails r) = by r
      go (goes_on c) = of_stages c (label_checked c)

  -- "A refusal returns its number [..] and 0 for node number, steps and digits." "(on refusal used is 0)" ([1])
  pub refused_numbers_lem : (e : Refusal) → (label_packet w s o l).answer ≡ not_ran e
      → ran_numbers (label_packet w s o l).answer ≡ record { refusal = number e; node = 0; used = 0; steps = 0; digits = 0 }
  unfolding ran_numbers refused_numbers
  refused_numbers_lem e q = rw q

  -- the refusals that come, and no other
  pub label_comes : (e : Refusal) → (label_packet w s o l).answer ≡ not_ran e → Comes e
  label_comes e q = go (label_refused e q)
    where
      go : {c : Refusal} → LabelRefuses w s o l (label_packet w s o l) c → Comes c
      go (too_long h r) = limits
      go (no_packet f h r) = a_packet
      go (no_rule f h k r) = a_rule
      go (no_text f h k u r) = a_text
      go (stops c h k r) = too_few (stops_few h)

  -- 1 exactly where a length does not fit
  pub label_limits : ((label_packet w s o l).answer ≡ not_ran Limits) ↔ (Fit w s o → ⊥)
  unfolding clears number
  label_limits = (λ q. go (label_refused Limits q), λ h. ap (λ (x : Outcome (Result Ran Refusal)). x.answer) (label_long l h))
    where
      go : LabelRefuses w s o l (label_packet w s o l) Limits → Fit w s o → ⊥
      go (too_long h r) = h
      go (stops c h k r) = absurd (few_clears (stops_few h) refl)

  -- 6 exactly where the bytes are no packet, or one without tag 4
  pub label_packet_lem : ((label_packet w s o l).answer ≡ not_ran refusal.Packet) ↔ (Fit w s o × NoLabel l)
  unfolding clears number
  label_packet_lem = (λ q. go (label_refused refusal.Packet q), λ h. ap (λ (x : Outcome (Result Ran Refusal)). x.answer) (label_missing l h.0 h.1))
    where
      go : LabelRefuses w s o l (label_packet w s o l) refusal.Packet → Fit w s o × NoLabel l
      go (no_packet f h r) = (f, h)
      go (stops c h k r) = absurd (few_clears (stops_few h) refl)

  -- 5 exactly where the packet has a label and its rule's bytes are no rule
  pub label_rule_lem : ((label_packet w s o l).answer ≡ not_ran Rule) ↔ (Fit w s o × (p : Packet) × Labelled l p × (rule p.rule ≡ none))
  unfolding clears number
  label_rule_lem = (λ q. go (label_refused Rule q), λ h. ap (λ (x : Outcome (Result Ran Refusal)). x.answer) (label_bad_rule l h.0 h.2 h.3))
    where
      go : LabelRefuses w s o l (label_packet w s o l) Rule → Fit w s o × (p : Packet) × Labelled l p × (rule p.rule ≡ none)
      go (no_rule f {p = p} h k r) = (f, p, h, k)
      go (stops c h k r) = absurd (few_clears (stops_few h) refl)

  -- 4 exactly where the packet has a label and a rule, and one of its texts, the label's last, is not whole
  pub label_text : ((label_packet w s o l).answer ≡ not_ran refusal.Text) ↔ (Fit w s o × (p : Packet) × Labelled l p × (t : Term) × (rule p.rule ≡ some t) × Unreadable (texts p))
  unfolding clears number
  label_text = (λ q. go (label_refused refusal.Text q), λ h. ap (λ (x : Outcome (Result Ran Refusal)). x.answer) (label_bad_text l h.0 h.2 h.4 h.5))
    where
      go : LabelRefuses w s o l (label_packet w s o l) refusal.Text
          → Fit w s o × (p : Packet) × Labelled l p × (t : Term) × (rule p.rule ≡ some t) × Unreadable (texts p)
      go (no_text f {p = p} h {t = t} k u r) = (f, p, h, t, k, u)
      go (stops c h k r) = absurd (few_clears (stops_few h) refl)

-- Where the checks pass, the labelled tree's text is written, or nodes, frames or out bytes are too few.
pub label_complete : {w s o l : List ℕ} {p : Packet} {t : Term} {v : List ℕ} {x : Tree} → LabelChecked w s o l p t v x → Labels w s o l (labelled (rule_tree t) x)
label_complete {w} {s} {o} {l} {t = t} {v = v} {x = x} c = go (label_checked c)
  where
    go : LabelStaged w s o t v x (label_packet w s o l) → Labels w s o l (labelled (rule_tree t) x)
    go (staged.stops {e = e} h k) = inr (e, stops_few h, ap (λ (z : Outcome (Result Ran Refusal)). z.answer) k.outcome)
    go (staged.ends {z = z} h f q) = inl (z.used, ap (λ (z : Outcome (Result Ran Refusal)). z.answer) q)

-- 6 by what a packet's bytes are and not by a reader of them: it comes exactly where the bytes are no packet with a label.
pub label_packet_exact : (w s o l : List ℕ) → Bytes l
    → ((label_packet w s o l).answer ≡ not_ran refusal.Packet) ↔ (Fit w s o × ((p : Packet) (v : List ℕ) → IsPacket l p → p.label ≡ some v → ⊥))
label_packet_exact w s o l bytes =
    (λ q. let h = (label_packet_lem w s o l).0 q in (h.0, none_is h.1), λ h. (label_packet_lem w s o l).1 (h.0, missing (packet l) refl h.1))
  where
    none_is : NoLabel l → (p : Packet) (v : List ℕ) → IsPacket l p → p.label ≡ some v → ⊥
    none_is (inl e) p v i h = zero_one (cc (packet_found i))
    none_is (inr e) p v i h = let a = e.1 in let b = e.2 in let d = packet_found i in zero_one (cc)

    missing : (r : Option Packet) → packet l ≡ r → ((p : Packet) (v : List ℕ) → IsPacket l p → p.label ≡ some v → ⊥) → NoLabel l
    missing none e n = inl e
    missing (some p) e n = go p.label refl
      where
        go : (v : Option (List ℕ)) → p.label ≡ v → NoLabel l
        go none h = inr (p, e, h)
        go (some v) h = absurd (n p v ((packet_exact l p bytes).0 e) h)

-- The four checks of a packet in their order, 1, 6, 5 and 4, and Run's outcome that follows each. Assumes nothing.
use Prim.Native.Nat.{ℕ}
use mathlib.Core.Path.{◌≡◌, refl}
use mathlib.Core.Bool.{Bool, true, false}
use mathlib.Core.List.{List, [], ◌∷◌, ◌++◌, map}
use mathlib.Core.Logic.{◌⊎◌, inl, inr}
use mathlib.Core.Option.{Option, none, some}
use lib.ListN.{length}
use lib.Dec.{leb}
use borrow.Author.Tests.{leb-true, le-leb}
use Rattle.calculus.specs.Tree.{Tree}
use Rattle.calculus.specs.Term.{Term}
use Rattle.calculus.specs.Bytes.{rule}
use Rattle.table.specs.Outcome.{whole_out, answered}
use Rattle.table.specs.declared.Refusal.{Refusal}
use Rattle.table.specs.declared.Refusal.TheVariants as refusal
use Rattle.table.proofs.Words.{and_left, and_right, zero_one}
use Rattle.ternary.specs.Read.{readable}
use Rattle.fields.specs.Packet.{Packet, packet}
use Rattle.running.specs.Run.{all_readable, label_texts, texts, parts_lack, run_packet, lengths_fit, run, not_ran}
use Rattle.running.specs.Tell.{told, tell_packet, tell}
use Rattle.running.specs.Claims.{Fit, Unreadable, here, there, LabelReads, no_label, label_of, Checked, Refuses}
use Rattle.running.specs.Claims as refuses
use Rattle.running.proofs.Limit.{packet_limit}
use Rattle.running.proofs.Outcomes.{Staged, Tells}
use Rattle.running.proofs.Stages.{stages_staged}

pub fit_true : {w s o : List ℕ} → Fit w s o → lengths_fit w s o ≡ true
unfolding lengths_fit
fit_true {w} {s} {o} f = rw (le-leb (length w) 131072 f.table, le-leb (length s) 65536 f.stack, le-leb (length o) 65535 f.out)

pub true_fit : (w s o : List ℕ) → lengths_fit w s o ≡ true → Fit w s o
unfolding lengths_fit
true_fit w s o e =
    let r = and_right (leb (length w) 131072) _ e in
    record {
      table = leb-true (length w) 131072 (and_left (leb (length w) 131072) _ e);
      stack = leb-true (length s) 65536 (and_left (leb (length s) 65536) _ r);
      out = leb-true (length o) 65535 (and_right (leb (length s) 65536) _ r);
    }

-- the arguments' texts, and then the label's
all_texts : (ls : List (List ℕ)) (xs : List Tree) → map readable ls ≡ map some xs → {v : Option (List ℕ)} → LabelReads v → all_readable (ls ++ label_texts v) ≡ true
unfolding all_readable label_texts
all_texts [] xs e no_label = refl
all_texts [] xs e (label_of h) = rw h
all_texts (l ∷ ls) [] e r = zero_one (cc)
all_texts (l ∷ ls) (x ∷ xs) e r = let h : readable l ≡ some x = cc in rw h (all_texts ls xs (cc) r)

not_all_texts : {ls : List (List ℕ)} → Unreadable ls → all_readable ls ≡ false
unfolding all_readable
not_all_texts (here e) = rw e
not_all_texts (there e u) = rw e (not_all_texts u)

-- the trees of the arguments' texts, where all of them and the label's are read
abbrev Trees : List (List ℕ) → Option (List ℕ) → Type 0
Trees ls v = (xs : List Tree) × (map readable ls ≡ map some xs) × LabelReads v

read_texts : (ls : List (List ℕ)) (v : Option (List ℕ)) → Trees ls v ⊎ Unreadable (ls ++ label_texts v)
unfolding label_texts
read_texts [] none = inl ([], refl, no_label)
read_texts [] (some v) = go (readable v) refl
  where
    go : (r : Option Tree) → readable v ≡ r → Trees [] (some v) ⊎ Unreadable (v ∷ [])
    go none e = inr (here e)
    go (some x) e = inl ([], refl, label_of e)
read_texts (l ∷ ls) v = go (readable l) refl (read_texts ls v)
  where
    go : (r : Option Tree) → readable l ≡ r → Trees ls v ⊎ Unreadable (ls ++ label_texts v) → Trees (l ∷ ls) v ⊎ Unreadable (l ∷ (ls ++ label_texts v))
    go none e r = inr (here e)
    go (some x) e (inl r) = let q = r.1 in inl (x ∷ r.0, cc, r.2)
    go (some x) e (inr u) = inr (there e u)

-- what the rule and the texts lack
pub rule_lacks : (p : Packet) → rule p.rule ≡ none → parts_lack p.rule (texts p) ≡ some refusal.Rule
unfolding parts_lack
rule_lacks p q = rw q

pub texts_lack : (p : Packet) {t : Term} → rule p.rule ≡ some t → Unreadable (texts p) → parts_lack p.rule (texts p) ≡ some refusal.Text
unfolding parts_lack
texts_lack p q u = rw (q, not_all_texts u)

pub nothing_lacks : {w s o l : List ℕ} {p : Packet} {t : Term} {args : List Tree} → Checked w s o l p t args → parts_lack p.rule (texts p) ≡ none
unfolding parts_lack
nothing_lacks {p = p} {args = args} c = rw (c.is_rule, all_texts p.arguments args c.are_texts c.label_reads)

-- The four checks in their order: what the first one that is met finds, or that none is met.
pub data Checks (w s o l : List ℕ) : Type 0 where
  too_long : (Fit w s o → ⊥) → Checks w s o l
  no_packet : Fit w s o → packet l ≡ none → Checks w s o l
  no_rule : Fit w s o → {p : Packet} → packet l ≡ some p → rule p.rule ≡ none → Checks w s o l
  no_text : Fit w s o → {p : Packet} → packet l ≡ some p → {t : Term} → rule p.rule ≡ some t → Unreadable (texts p) → Checks w s o l
  passes : {p : Packet} {t : Term} {args : List Tree} → Checked w s o l p t args → Checks w s o l

pub checks : (w s o l : List ℕ) → Checks w s o l
checks w s o l = go (lengths_fit w s o) refl
  where
    arguments : Fit w s o → {p : Packet} → packet l ≡ some p → {t : Term} → rule p.rule ≡ some t
        → Trees p.arguments p.label ⊎ Unreadable (texts p) → Checks w s o l
    arguments f e q (inl x) = passes {args = x.0} (record { fit = f; is_packet = e; is_rule = q; are_texts = x.1; label_reads = x.2 })
    arguments f e q (inr u) = no_text f e q u

    of_rule : Fit w s o → {p : Packet} → packet l ≡ some p → (r : Option Term) → rule p.rule ≡ r → Checks w s o l
    of_rule f e none q = no_rule f e q
    of_rule f {p} e (some t) q = arguments f e q (read_texts p.arguments p.label)

    of_packet : Fit w s o → (r : Option Packet) → packet l ≡ r → Checks w s o l
    of_packet f none e = no_packet f e
    of_packet f (some p) e = of_rule f e (rule p.rule) refl

    go : (b : Bool) → lengths_fit w s o ≡ b → Checks w s o l
    go true e = of_packet (true_fit w s o e) (packet l) refl
    go false e = too_long (λ f. zero_one (cc (fit_true f)))

pub not_fit : {w s o : List ℕ} → (Fit w s o → ⊥) → lengths_fit w s o ≡ false
not_fit {w} {s} {o} h = go (lengths_fit w s o) refl
  where
    go : (b : Bool) → lengths_fit w s o ≡ b → lengths_fit w s o ≡ false
    go true e = absurd (h (true_fit w s o e))
    go false e = e

-- ---- Run's outcome after each

module _ {w s o : List ℕ} (l : List ℕ) where
  -- "1: lengths only."
  pub run_long : (Fit w s o → ⊥) → run w s o l ≡ whole_out (not_ran refusal.Limits) w s o
  unfolding run
  run_long h = rw (not_fit h)

  module _ (fit : Fit w s o) where
    -- "6: packet broken."
    pub run_broken_packet : packet l ≡ none → run w s o l ≡ whole_out (not_ran refusal.Packet) w s o
    unfolding run run_packet
    run_broken_packet e = rw (fit_true fit, e)

    -- "5: its rule."
    pub run_bad_rule : {p : Packet} → packet l ≡ some p → rule p.rule ≡ none → run w s o l ≡ whole_out (not_ran refusal.Rule) w s o
    unfolding run run_packet
    run_bad_rule {p} e q = rw (fit_true fit, e, rule_lacks p q)

    -- "4: its arguments' texts, first to last.", and then the label's ([1])
    pub run_bad_text : {p : Packet} → packet l ≡ some p → {t : Term} → rule p.rule ≡ some t → Unreadable (texts p)
        → run w s o l ≡ whole_out (not_ran refusal.Text) w s o
    unfolding run run_packet
    run_bad_text {p} e q u = rw (fit_true fit, e, texts_lack p q u)

-- "Then Translate, Read of each argument, Apply in order under one step limit, Write, each with its 7 to 10.": what the stages come to, and what is told of them.
pub tell_checked : {w s o l : List ℕ} {p : Packet} {t : Term} {args : List Tree} → Checked w s o l p t args → Tells w s o p t args (tell w s o l) (run w s o l)
unfolding run run_packet tell tell_packet
tell_checked {l = l} {p = p} {t = t} {args = args} c =
    rw (fit_true c.fit, c.is_packet, nothing_lacks c)
    (stages_staged c.fit p t args c.is_rule c.are_texts (packet_limit l c.is_packet))

pub run_checked : {w s o l : List ℕ} {p : Packet} {t : Term} {args : List Tree} → Checked w s o l p t args → Staged w s o p t args (run w s o l) (tell w s o l).answer.stop
run_checked c = (tell_checked c).staged

-- a refusal of one of the four checks, or none of them
pub data Checking (w s o l : List ℕ) : Type 0 where
  fails : {e : Refusal} → Refuses w s o l (run w s o l) e → Checking w s o l
  goes_on : {p : Packet} {t : Term} {args : List Tree} → Checked w s o l p t args → Checking w s o l

pub checking : (w s o l : List ℕ) → Checking w s o l
checking w s o l = go (checks w s o l)
  where
    go : Checks w s o l → Checking w s o l
    go (too_long h) = fails (refuses.too_long h (run_long l h))
    go (no_packet f e) = fails (refuses.no_packet f e (run_broken_packet l f e))
    go (no_rule f e q) = fails (refuses.no_rule f e q (run_bad_rule l f e q))
    go (no_text f e q u) = fails (refuses.no_text f e q u (run_bad_text l f e q u))
    go (passes c) = goes_on c

-- What is told of a packet: where a check refuses it, its number alone; else what the stages come to.
pub data Telling (w s o l : List ℕ) : Type 0 where
  early : tell w s o l ≡ told (run w s o l) → Telling w s o l
  staged : {p : Packet} {t : Term} {args : List Tree} → Checked w s o l p t args → Telling w s o l

pub telling : (w s o l : List ℕ) → Telling w s o l
unfolding run run_packet tell tell_packet
telling w s o l = go (checks w s o l)
  where
    go : Checks w s o l → Telling w s o l
    go (too_long h) = early (rw (not_fit h))
    go (no_packet f e) = early (rw (fit_true f, e))
    go (no_rule f {p} e q) = early (rw (fit_true f, e, rule_lacks p q))
    go (no_text f {p} e q u) = early (rw (fit_true f, e, texts_lack p q u))
    go (passes c) = staged c

-- "A tool runs a packet alone" as Run does: what is told is Run's answer, and every lent word and byte is as Run leaves it.
pub tell_runs : (w s o l : List ℕ) → answered (λ a. a.ran) (tell w s o l) ≡ run w s o l
tell_runs w s o l = go (telling w s o l)
  where
    go : Telling w s o l → answered (λ a. a.ran) (tell w s o l) ≡ run w s o l
    go (early e) = rw e
    go (staged c) = (tell_checked c).same

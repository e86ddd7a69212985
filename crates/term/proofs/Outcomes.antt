-- From the rule's size, the frames and the tree laid out to Translate's outcome: one law for each way that its code goes. Assumes nothing.
use Prim.Native.Nat.{ℕ, ◌+◌, ◌*◌, ◌≤◌}
use mathlib.Core.Path.{◌≡◌, refl, sym, ap, ◌∙◌, subst}
use mathlib.Core.List.{List, append-nil}
use mathlib.Core.Option.{none, some}
use native.Mathlib.Omega.{arith}
use lib.ListN.{length, replicate}
use lib.Seq.{drop-length}
use Rattle.std.specs.Prelude.{Result, Ok, Err, Option as Optional, Some, None, ok_or}
use Rattle.calculus.specs.Tree.{size}
use Rattle.calculus.specs.Term.{Term}
use Rattle.calculus.specs.Bytes.{bytes, rule}
use Rattle.calculus.specs.Abstraction.{translate as translation, term, rule_tree}
use Rattle.calculus.proofs.Rule.{rule_exact}
use Rattle.calculus.proofs.Size.{rule_tree_lem, rule_size_lem}
use Rattle.table.specs.Nodes.{Making, got, full, lay, cleared}
use Rattle.table.specs.Outcome.{Outcome, whole, placed, stopped, settled, laid, laid_within}
use Rattle.table.specs.declared.Refusal.{Refusal}
use Rattle.table.specs.declared.Refusal.TheVariants.{Rule, Nodes}
use Rattle.table.specs.Refusal.{made, not_made}
use Rattle.table.specs.declared.Made.{Made}
use Rattle.index.specs.Code.{ReadyMade}
use Rattle.checks.specs.Code.{checked_with, frames_for}
use Rattle.checks.proofs.Room.{has_room, refused_within, laid_within_lem}
use Rattle.translation.specs.Translate.{translate_rule}
use Rattle.rule_size.specs.Weight.{size_of}
use Rattle.rule_size.proofs.Sizes.{Sized, no_rule, sized}
use Rattle.bracket.specs.Words.{words, Holds, run, Builds}
use Rattle.bracket.proofs.Runs.{words_width}
use Rattle.term.specs.Code.{PlaceAt}

-- a refusal leaves nothing to say of the index
pub refuses : {A : Type 0} (w : List ℕ) (s : ℕ) (ix : List ℕ) (e : Refusal) → A → A × ReadyMade (not_made e) w s ix
unfolding ReadyMade
refuses w s ix e x = (x, tt)

-- whether the bytes are a rule, by what became of its size
module _ (b : List ℕ) {r : Optional ℕ} (e : r ≡ size_of (rule b)) where
  pub lacks_rule : {c : Refusal} → ◌≡◌ {A = Result ℕ Refusal} (Err c) (ok_or r Rule) → (c ≡ Rule) × (rule b ≡ none)
  lacks_rule {c} q = go r e q
    where
      go : (r : Optional ℕ) → r ≡ size_of (rule b) → ◌≡◌ {A = Result ℕ Refusal} (Err c) (ok_or r Rule) → (c ≡ Rule) × (rule b ≡ none)
      go None e q = (cc, no_rule b e)
      go (Some n) e q = cc

  pub has_rule : {n : ℕ} → ◌≡◌ {A = Result ℕ Refusal} (Ok n) (ok_or r Rule) → Sized b n
  has_rule {n} q = go r e q
    where
      go : (r : Optional ℕ) → r ≡ size_of (rule b) → ◌≡◌ {A = Result ℕ Refusal} (Ok n) (ok_or r Rule) → Sized b n
      go None e q = cc
      go (Some m) e q = let same : m ≡ n = cc in sized b (rw same at e)

-- 5, or 9 by twice the size, then the tree laid out
module _ (w : List ℕ) (u : ℕ) (s b : List ℕ) where
  pub refused_rule : rule b ≡ none → whole (not_made Rule) w s ≡ translate_rule w u s (rule b)
  unfolding translate_rule
  refused_rule e = rw e

  module _ {n : ℕ} (k : Sized b n) where
    of_rule : {o : Outcome (Result Made Refusal)} → o ≡ laid_within w u s (2 * n) (rule_tree k.term) → o ≡ translate_rule w u s (rule b)
    unfolding translate_rule
    of_rule q = rw (k.is_rule, ← k.nodes) q

    pub few_frames : {c : Refusal} {z : List ℕ} → checked_with (Err c) z ≡ frames_for s (2 * n) → whole (not_made c) w z ≡ translate_rule w u s (rule b)
    few_frames e = of_rule (refused_within s (2 * n) e w u (rule_tree k.term) refl)

    module _ {z : List ℕ} (e : checked_with (Ok tt) z ≡ frames_for s (2 * n)) where
      pub in_place : length s ≤ 65536 → PlaceAt z b n
      in_place l =
          let h = has_room s (2 * n) e refl in
          rw h.same (record { term = k.term; is_rule = k.is_rule; counted = k.nodes; frames = omega (arith, k.nodes, h.frames_free); stack = l })

      pub of_place : (o : Outcome (Result Made Refusal)) → ((t : Term) → rule b ≡ some t → o ≡ laid w u z (rule_tree t)) → o ≡ translate_rule w u s (rule b)
      of_place o f =
          let p : o ≡ laid w u s (rule_tree k.term) = rw (has_room s (2 * n) e refl).same at (f k.term k.is_rule) in
          of_rule (p ∙ laid_within_lem s (2 * n) e w u (rule_tree k.term) refl)

-- a rule's term stands at the beginning of its bytes, and its run has a word less than two for each node of its tree
pub rule_stands : (b : List ℕ) {t : Term} → rule b ≡ some t → Holds b 0 (bytes t)
unfolding Holds
rule_stands b {t} e =
    let r = (rule_exact b t).0 e in
    let z : 0 + length (bytes t) ≡ length b = omega (arith, ap length r.whole) in
    rw (z, drop-length b) (sym (append-nil (bytes t) ∙ r.whole))

pub rule_run : (b : List ℕ) {t : Term} → rule b ≡ some t → length (run t) + 1 ≡ 2 * size (rule_tree t)
rule_run b {t} e = omega (arith, words_width (translation t), rule_size_lem ((rule_exact b t).0 e))

-- the stack is cleared whole, whatever was written to it
same_settled : (u : ℕ) (s z : List ℕ) → length s ≡ length z → (x : Making) → settled u s x ≡ settled u z x
unfolding settled placed stopped
same_settled u s z e (got m) = ap (λ (k : ℕ). whole (made m.node m.table.used) m.table.words (replicate k 0)) e
same_settled u s z e (full t) = ap (λ (k : ℕ). whole (not_made Nodes) (cleared t.words (u * 2) (t.used * 2)) (replicate k 0)) e

-- the rule's words are built, and its tree laid out
module _ (s b : List ℕ) {n : ℕ} (p : PlaceAt s b n) {next end : ℕ} {s₁ : List ℕ} (built : Builds 0 0 p.term next end s s₁) where
  pub tree_stands : Holds s₁ 0 (words (term (rule_tree p.term)))
  tree_stands = rw (← rule_tree_lem ((rule_exact b p.term).0 p.is_rule)) built.stands

  pub placed_all : (w : List ℕ) (u : ℕ) {x : Making} (o : Outcome (Result Made Refusal)) → x ≡ lay (record { words = w; used = u }) (rule_tree p.term)
      → o ≡ settled u s₁ x → (t : Term) → rule b ≡ some t → o ≡ laid w u s (rule_tree t)
  unfolding laid
  placed_all w u o e q t r =
      let same : p.term ≡ t = let c : some p.term ≡ some t = sym p.is_rule ∙ r in cc in
      subst (λ (v : Term). o ≡ laid w u s (rule_tree v)) same (q ∙ same_settled u s₁ s built.same_length _ ∙ ap (settled u s) e)

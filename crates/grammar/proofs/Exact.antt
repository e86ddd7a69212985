-- The outcome of reading a rule text is what the grammar gives, and Translate takes its bytes. Assumes nothing.
use Prim.Native.Nat.{ℕ, ◌≤◌}
use mathlib.Core.Path.{◌≡◌, refl, sym, ap, ap₂, subst, ◌∙◌}
use mathlib.Core.Logic.{◌↔◌}
use mathlib.Core.Bool.{Bool, true, false, cond}
use mathlib.Core.List.{List}
use mathlib.Core.Option.{Option, none, some}
use native.Mathlib.Omega.{arith}
use lib.ListN.{length, take}
use lib.Seq.{take-append_seam}
use lib.Dec.{leb}
use borrow.Author.Tests.{leb-true, leb-false, le-leb, lt-leb}
use Rattle.std.specs.Prelude.{Err, Ok}
use Rattle.calculus.specs.Term.{Term}
use Rattle.calculus.specs.Bytes.{bytes, rule, IsRule}
use Rattle.calculus.specs.Abstraction.{rule_tree}
use Rattle.calculus.proofs.Rule.{rule_exact, bytes_unique}
use Rattle.table.specs.Outcome.{Outcome, into_out}
use Rattle.table.specs.Claims.{Lays}
use Rattle.table.specs.declared.Refusal.TheVariants.{Out}
use Rattle.table.proofs.Words.{zero_one}
use Rattle.translation.specs.Translate.{translate}
use Rattle.translation.proofs.Translates.{translate_gives}
use Rattle.grammar.specs.Expression.{Expression}
use Rattle.grammar.specs.Meaning.{term_of}
use Rattle.grammar.specs.Text.{IsText, read_text}
use Rattle.grammar.specs.Outcome.{refused_text, given_bytes, Gives, no_reading, no_rule, no_room, fits, of_bytes, of_reading, rule_text, Encoded}
use Rattle.grammar.specs.Claims.{Encodes}
use Rattle.grammar.proofs.Text.{text_exact, text_unique}

some_one : {t u : Term} → ◌≡◌ {A = Option Term} (some t) (some u) → t ≡ u
some_one e = cc

-- a term whose bytes are a rule is that rule
its_rule : (e : Expression) (t : Term) → rule (bytes (term_of e)) ≡ some t → IsRule (bytes (term_of e)) (term_of e)
its_rule e t q =
    let r = (rule_exact (bytes (term_of e)) t).0 q in
    subst (IsRule (bytes (term_of e))) (bytes_unique t (term_of e) r.whole) r

-- a term that is no rule, by its bytes
pub bytes_no_rule : (e : Expression) → (IsRule (bytes (term_of e)) (term_of e) → ⊥) → rule (bytes (term_of e)) ≡ none
bytes_no_rule e n = go (rule (bytes (term_of e))) refl
  where
    go : (o : Option Term) → rule (bytes (term_of e)) ≡ o → rule (bytes (term_of e)) ≡ none
    go none q = q
    go (some t) q = absurd (n (its_rule e t q))

module _ (text out : List ℕ) where
  given_room : (e : Expression) → IsText text e → IsRule (bytes (term_of e)) (term_of e) → Gives text out (into_out Ok Err (bytes (term_of e)) out)
  unfolding into_out
  given_room e h r = go (leb (length (bytes (term_of e))) (length out)) refl
    where
      go : (z : Bool) → leb (length (bytes (term_of e))) (length out) ≡ z
          → Gives text out (cond z (given_bytes (bytes (term_of e)) out) (refused_text Out out))
      go true q = fits h r (leb-true _ _ q) refl
      go false q = no_room h r (leb-false _ _ q) refl

  given_rule : (e : Expression) → IsText text e → (o : Option Term) → rule (bytes (term_of e)) ≡ o → Gives text out (of_bytes (bytes (term_of e)) o out)
  unfolding of_bytes
  given_rule e h none q = no_rule h (λ r. let y = (rule_exact (bytes (term_of e)) (term_of e)).1 r in zero_one (cc)) refl
  given_rule e h (some t) q = given_room e h (its_rule e t q)

  gives : Gives text out (rule_text text out)
  unfolding rule_text of_reading
  gives = go (read_text text) refl
    where
      go : (x : Option Expression) → read_text text ≡ x → Gives text out (of_reading x out)
      go none q = no_reading (λ e h. let y = (text_exact text e).1 h in zero_one (cc)) refl
      go (some e) q = given_rule e ((text_exact text e).0 q) (rule (bytes (term_of e))) refl

  no_text : ((e : Expression) → IsText text e → ⊥) → read_text text ≡ none
  no_text n = go (read_text text) refl
    where
      go : (x : Option Expression) → read_text text ≡ x → read_text text ≡ none
      go none q = q
      go (some e) q = absurd (n e ((text_exact text e).0 q))

  is_given : (o : Outcome Encoded) → Gives text out o → rule_text text out ≡ o
  unfolding rule_text of_reading of_bytes into_out
  is_given o (no_reading n q) = rw (no_text n, q)
  is_given o (no_rule {e} h n q) = rw ((text_exact text e).1 h, bytes_no_rule e n, q)
  is_given o (no_room {e} h r l q) = rw ((text_exact text e).1 h, (rule_exact (bytes (term_of e)) (term_of e)).1 r, lt-leb _ _ l, q)
  is_given o (fits {e} h r l q) = rw ((text_exact text e).1 h, (rule_exact (bytes (term_of e)) (term_of e)).1 r, le-leb _ _ l, q)

  -- "Checks: 12, text outside the grammar, with an unbound name, or too long or deep, before 5; then 10 for the term's bytes.": the outcome is o
  -- exactly where the grammar gives o.
  pub outcome_exact : (o : Outcome Encoded) → (rule_text text out ≡ o) ↔ Gives text out o
  outcome_exact o = (λ q. subst (Gives text out) q gives, is_given o)

  -- what n bytes given are
  pub given_bytes_lem : (n : ℕ) → (rule_text text out).answer ≡ Ok n → Encodes text out n
  given_bytes_lem n q = go gives
    where
      go : Gives text out (rule_text text out) → Encodes text out n
      go (no_reading m r) = zero_one (cc)
      go (no_rule h m r) = zero_one (cc)
      go (no_room h m l r) = zero_one (cc)
      go (fits {e} h m l r) =
          let k : n ≡ length (bytes (term_of e)) = cc in
          let b : take n (rule_text text out).out ≡ bytes (term_of e) =
          ap₂ (λ (i : ℕ) (x : List ℕ). take i x) k (ap (λ (x : Outcome Encoded). x.out) r) ∙ take-append_seam (bytes (term_of e)) _ in
          let t : rule (take n (rule_text text out).out) ≡ some (term_of e) = ap rule b ∙ (rule_exact (bytes (term_of e)) (term_of e)).1 m in
          record {
            reading = e;
            is_text = h;
            only = λ f g. text_unique g h;
            is_rule = m;
            given = r;
            counted = k;
            bytes_are = b;
            taken = t;
            translated = λ w u s v u' a.
                let x = translate_gives w u s (take n (rule_text text out).out) v u' a in
                let y : x.term ≡ term_of e = some_one (sym x.is_rule ∙ t) in
                subst (λ (z : Term). Lays w u (rule_tree z) (translate w u s (take n (rule_text text out).out)) v u') y x.lays;
          }

  -- "it is accepted exactly when the grammar, written without the parser, allows it and the term is a rule of document 01", where out has room for
  -- any rule
  pub accepted_exact : 4096 ≤ length out
      → ((n : ℕ) × ((rule_text text out).answer ≡ Ok n)) ↔ ((e : Expression) × (IsText text e × IsRule (bytes (term_of e)) (term_of e)))
  accepted_exact l = (
    λ p. let g = given_bytes_lem p.0 p.1 in (g.reading, (g.is_text, g.is_rule)),
    λ p.
        let x = is_given (given_bytes (bytes (term_of p.0)) out) (fits p.1.0 p.1.1 (omega (arith, p.1.1.short)) refl) in
        (length (bytes (term_of p.0)), ap (λ (o : Outcome Encoded). o.answer) x),
  )

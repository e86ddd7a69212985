-- Laws of what stands between two operands, and of symbols written. Assumes nothing.
use Prim.Native.Nat.{ℕ, zero, suc, ◌+◌, ◌≤◌, ◌<◌}
use mathlib.Core.Path.{◌≡◌, refl, sym, ap, subst, ◌∙◌}
use mathlib.Core.Bool.{Bool, true, false}
use mathlib.Core.List.{List, ◌∷◌}
use native.Mathlib.Omega.{arith}
use lib.ListN.{length, get_or, drop, length-drop}
use lib.Seq.{get_or-drop}
use lib.Dec.{eqb, ltb}
use borrow.Author.Tests.{ltb-true, ltb-false, eqb-true, eqb-false}
use mathlib.Core.Logic.{◌⊎◌, inl, inr}
use Rattle.std.specs.List.{prefix_len}
use Rattle.std.proofs.lemmas.List.Sums.{prefix_len_passes, prefix_len_stops, prefix_len-le-length}
use Rattle.grammar.specs.Tokens.{Token, is_closing, is_stop, is_bang}
use Rattle.grammar.specs.Reader.{Unclosed, unclosed, parse, Starts}
use Rattle.grammar.specs.Words.{token, tokens}
use Rattle.grammar.proofs.Enough.{NotBang, parse_any, parse_bang, more_end, more_closing, more_stop, more_bang}
use Rattle.grammar.proofs.Places.{tokens_at, tokens_end, sign_at, by_token}
use Rattle.operators.specs.Code.{JointAt, noted_by, Bangs}
use Rattle.std.specs.Prelude as code
use Rattle.operators.specs.declared.Joint.TheVariants as joint

not_bang : (w : ℕ) (r : List Token) → (w ≡ 33 → ⊥) → NotBang (token w ∷ r)
not_bang w r n = by_token (λ (t : Token). NotBang (t ∷ r)) w (λ e. tt) (λ e. tt) (λ e. tt) (λ e. tt) (λ e. tt) (λ e. absurd (n e)) (λ e. tt) (λ e. tt) (λ e. tt) tt

starts : (w : ℕ) (r : List Token) → (w ≡ 41 → ⊥) → (w ≡ 38 → ⊥) → (w ≡ 124 → ⊥) → (w ≡ 62 → ⊥) → (w ≡ 46 → ⊥) → (w ≡ 33 → ⊥) → Starts (token w ∷ r)
starts w r k a b i s n = by_token (λ (t : Token). Starts (t ∷ r)) w (λ e. tt) (λ e. tt) (λ e. tt) k s n a b i tt

module _ (ws : List ℕ) (at : ℕ) where
  pub joint_none : length ws ≤ at → JointAt ws at (code.Some joint.End)
  joint_none h = λ d Γ p e. rw (tokens_end ws at h) (more_end d Γ p e)

  pub joint_closing : at < length ws → get_or ws at 0 ≡ 41 → JointAt ws at (code.Some joint.End)
  joint_closing h q = λ d Γ p e. rw (sign_at is_closing ws at h q) (more_closing d Γ p e _)

  joint_stop : at < length ws → get_or ws at 0 ≡ 46 → JointAt ws at code.None
  joint_stop h q = λ d Γ p e. rw (sign_at is_stop ws at h q) (more_stop d Γ p e _)

  joint_bang : at < length ws → get_or ws at 0 ≡ 33 → JointAt ws at code.None
  joint_bang h q = λ d Γ p e. rw (sign_at is_bang ws at h q) (more_bang d Γ p e _)

  pub joint_broken : at < length ws → (get_or ws at 0 ≡ 33) ⊎ (get_or ws at 0 ≡ 46) → JointAt ws at code.None
  joint_broken h (inl q) = joint_bang h q
  joint_broken h (inr q) = joint_stop h q

  pub joint_operand : at < length ws → (get_or ws at 0 ≡ 41 → ⊥) → (get_or ws at 0 ≡ 38 → ⊥) → (get_or ws at 0 ≡ 124 → ⊥) → (get_or ws at 0 ≡ 62 → ⊥)
      → (get_or ws at 0 ≡ 46 → ⊥) → (get_or ws at 0 ≡ 33 → ⊥) → JointAt ws at (code.Some joint.Operand)
  joint_operand h a b c d e f = (rw (tokens_at ws at h) (starts (get_or ws at 0) (tokens (drop (at + 1) ws)) a b c d e f), h)

-- what stands after an application, where it is no operator
pub ruleset joints = (joint_none, joint_closing, joint_broken, joint_operand)

-- n times ! passed
passed : (ws : List ℕ) (from n : ℕ) → from + n ≤ length ws → ((i : ℕ) → i < n → get_or ws (from + i) 0 ≡ 33)
    → (d : ℕ) (Γ : List ℕ) (p : Unclosed) → parse d Γ p (tokens (drop from ws)) ≡ parse d Γ (noted_by n p) (tokens (drop (from + n) ws))
passed ws from zero h a d Γ p =
    let e : p.nots + 0 ≡ p.nots = omega arith in
    let f : from + 0 ≡ from = omega arith in
    rw (e, f)
passed ws from (suc n) h a d Γ p =
    let k : suc (p.nots + n) ≡ p.nots + suc n = omega arith in
    let l : from + n + 1 ≡ from + suc n = omega arith in
    passed ws from n (omega arith) (λ i l. a i (omega arith)) d Γ p
    ∙ ap (parse d Γ (noted_by n p)) (sign_at is_bang ws (from + n) (omega arith) (a n (omega arith))) ∙ parse_bang d Γ (noted_by n p) _
    ∙ ap (λ (i : ℕ). parse d Γ (unclosed p.implies p.or p.and i) (tokens (drop (from + n + 1) ws))) k
    ∙ ap (λ (i : ℕ). parse d Γ (noted_by (suc n) p) (tokens (drop i ws))) l

-- what follows is no !
stops : (ws : List ℕ) (at : ℕ) → (at < length ws → get_or ws at 0 ≡ 33 → ⊥) → (z : Bool) → ltb at (length ws) ≡ z → NotBang (tokens (drop at ws))
stops ws at h true e = let l = ltb-true at (length ws) e in rw (tokens_at ws at l) (not_bang (get_or ws at 0) (tokens (drop (at + 1) ws)) (h l))
stops ws at h false e = rw (tokens_end ws at (ltb-false at (length ws) e)) tt

pub bangs_are : (ws : List ℕ) (from n : ℕ) → from ≤ length ws → n ≡ prefix_len (λ (t : ℕ). eqb t 33) (drop from ws) → Bangs ws from n
bangs_are ws from n h e =
    let l : from + n ≤ length ws = omega (arith, prefix_len-le-length (λ (t : ℕ). eqb t 33) (drop from ws), length-drop from ws) in
    let a : (i : ℕ) → i < n → get_or ws (from + i) 0 ≡ 33 = λ i k.
    eqb-true _ 33 (rw get_or-drop at (prefix_len_passes (λ (t : ℕ). eqb t 33) (drop from ws) i 0 (omega arith))) in
    let s : from + n < length ws → get_or ws (from + n) 0 ≡ 33 → ⊥ = λ k.
    let m : n < length (drop from ws) = omega (arith, length-drop from ws) in
    eqb-false _ 33 (rw get_or-drop at (subst (λ (j : ℕ). j < length (drop from ws) → eqb (get_or (drop from ws) j 0) 33 ≡ false) (sym e) (prefix_len_stops (λ (t : ℕ). eqb t 33) (drop from ws) 0) m)) in
    record {
      within = l;
      all = a;
      ends = s;
      leads = λ d Γ p. passed ws from n l a d Γ p ∙ parse_any d Γ (noted_by n p) _ (stops ws (from + n) s (ltb (from + n) (length ws)) refl);
    }

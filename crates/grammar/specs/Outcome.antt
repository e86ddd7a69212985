-- The whole outcome of reading a rule text ([3]). Assumes nothing: these are definitions.
use Rattle.std.specs.Prelude.{ℕ, ◌≤◌, ◌<◌, ◌≡◌, List, [], ◌∷◌, ◌++◌, length, drop, Result, Ok, Err}
use Rattle.std.proofs.Math.Option.{Option, none, some}
use Rattle.calculus.specs.Term.{Term}
use Rattle.calculus.specs.Bytes.{bytes, rule, IsRule}
use Rattle.table.specs.Outcome.{Outcome, whole_out, into_out}
use Rattle.table.specs.Refusal.{number}
use Rattle.table.specs.declared.Refusal.{Refusal}
use Rattle.table.specs.declared.Refusal.TheVariants.{Rule, Out, RuleText}
use Rattle.grammar.specs.Expression.{Expression}
use Rattle.grammar.specs.Meaning.{term_of}
use Rattle.grammar.specs.Text.{IsText, read_text}

-- the answer of reading a rule text: how many bytes of a term were written, or the refusal
abbrev pub Encoded : Type 0
Encoded = Result ℕ Refusal

-- the numbers of the answer: the refusal or 0, and how many bytes were written
unfoldable pub encoded_numbers : Encoded → List ℕ
encoded_numbers (Ok n) = 0 ∷ n ∷ []
encoded_numbers (Err e) = number e ∷ 0 ∷ []

-- "Numbers 1 to 6, and any above 10 added later, leave lent memory as found." (document 01, Operations); for 10 "out bytes past what is written stay",
-- and none is written
abbrev pub refused_text : Refusal → List ℕ → Outcome Encoded
refused_text e out = whole_out (Err e) [] [] out

-- "The output is the term in bytes."; "out bytes past what is written stay"
abbrev pub given_bytes : List ℕ → List ℕ → Outcome Encoded
given_bytes l out = whole_out (Ok (length l)) [] [] (l ++ drop (length l) out)

-- "Checks: 12, text outside the grammar, with an unbound name, or too long or deep, before 5; then 10 for the term's bytes.": each outcome o with its
-- condition, by the grammar alone.
pub data Gives (text out : List ℕ) (o : Outcome Encoded) : Type 0 where
  no_reading : ((e : Expression) → IsText text e → ⊥) → o ≡ refused_text RuleText out → Gives text out o
  no_rule : {e : Expression} → IsText text e → (IsRule (bytes (term_of e)) (term_of e) → ⊥) → o ≡ refused_text Rule out → Gives text out o
  no_room : {e : Expression} → IsText text e → IsRule (bytes (term_of e)) (term_of e) → length out < length (bytes (term_of e))
      → o ≡ refused_text Out out → Gives text out o
  fits : {e : Expression} → IsText text e → IsRule (bytes (term_of e)) (term_of e) → length (bytes (term_of e)) ≤ length out
      → o ≡ given_bytes (bytes (term_of e)) out → Gives text out o

-- What follows computes the outcome; the theorem `outcome_exact` says that it is o exactly where Gives holds of o.

-- 5 where the bytes l are no rule, then 10
unfoldable pub of_bytes : List ℕ → Option Term → List ℕ → Outcome Encoded
of_bytes l none out = refused_text Rule out
of_bytes l (some t) out = into_out Ok Err l out

-- 12 where the text has no reading
unfoldable pub of_reading : Option Expression → List ℕ → Outcome Encoded
of_reading none out = refused_text RuleText out
of_reading (some e) out = of_bytes (bytes (term_of e)) (rule (bytes (term_of e))) out

unfoldable pub rule_text : List ℕ → List ℕ → Outcome Encoded
rule_text text out = of_reading (read_text text) out

-- What holds where a rule text gave bytes ([3]). Assumes nothing: these are definitions.
use Rattle.std.specs.Prelude.{ℕ, ◌≡◌, List, length, take}
use Rattle.std.proofs.Math.Option.{some}
use Rattle.calculus.specs.Bytes.{bytes, rule, IsRule}
use Rattle.calculus.specs.Abstraction.{rule_tree}
use Rattle.table.specs.Claims.{Lays}
use Rattle.table.specs.Refusal.{made}
use Rattle.translation.specs.Translate.{translate}
use Rattle.grammar.specs.Expression.{Expression}
use Rattle.grammar.specs.Meaning.{term_of}
use Rattle.grammar.specs.Text.{IsText}
use Rattle.grammar.specs.Outcome.{given_bytes, rule_text}

-- "The output is the term in bytes. Every text has at most one reading": the first n bytes of out are those of the one reading's term, a rule that
-- Translate takes, and a node that Translate gives for them has the tree of that term.
pub record Encodes (text out : List ℕ) (n : ℕ) : Type 0 where
  pub reading : Expression
  pub is_text : IsText text reading
  pub only : (e : Expression) → IsText text e → e ≡ reading
  pub is_rule : IsRule (bytes (term_of reading)) (term_of reading)
  pub given : rule_text text out ≡ given_bytes (bytes (term_of reading)) out
  pub counted : n ≡ length (bytes (term_of reading))
  pub bytes_are : take n (rule_text text out).out ≡ bytes (term_of reading)
  pub taken : rule (take n (rule_text text out).out) ≡ some (term_of reading)
  pub translated : (w : List ℕ) (u : ℕ) (s : List ℕ) (v u' : ℕ) → (translate w u s (take n (rule_text text out).out)).answer ≡ made v u'
      → Lays w u (rule_tree (term_of reading)) (translate w u s (take n (rule_text text out).out)) v u'

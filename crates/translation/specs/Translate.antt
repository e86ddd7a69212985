-- The whole outcome of Translate (Operations, Translate). Assumes nothing: these are definitions.
use Rattle.std.specs.Prelude.{ℕ, ◌*◌, true, List, Result}
use Rattle.std.proofs.Math.Option.{Option, none, some}
use Rattle.calculus.specs.Tree.{size}
use Rattle.calculus.specs.Term.{Term}
use Rattle.calculus.specs.Bytes.{rule}
use Rattle.calculus.specs.Abstraction.{rule_tree}
use Rattle.table.specs.Outcome.{Outcome, whole, at_entry, unless, laid_within}
use Rattle.table.specs.declared.Refusal.TheVariants.{Rule}
use Rattle.table.specs.Refusal.{not_made}
use Rattle.table.specs.declared.Refusal.{Refusal}
use Rattle.table.specs.declared.Made.{Made}

-- "5: bytes not a rule. [..] 9: fewer than two frames for each node of the tree. Nodes lie as Read would lay its text." (Operations, Translate), and 8 while
-- making nodes; "Translate's frames go by the tree's size unshared" ([8]): what Translate does on a table that passed 1 and 2.
unfoldable pub translate_rule : List ℕ → ℕ → List ℕ → Option Term → Outcome (Result Made Refusal)
translate_rule w u s none = whole (not_made Rule) w s
translate_rule w u s (some t) = laid_within w u s (2 * size (rule_tree t)) (rule_tree t)

-- Translate the rule b into the table w with u nodes in use, with the stack s.
unfoldable pub translate : List ℕ → ℕ → List ℕ → List ℕ → Outcome (Result Made Refusal)
translate w u s b = unless (at_entry true w u s) (λ e. whole (not_made e) w s) (translate_rule w u s (rule b))

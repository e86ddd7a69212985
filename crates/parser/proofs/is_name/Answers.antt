-- `parser::is_name` meets its contract: the nine signs. Assumes nothing.
use Rattle.std.proofs.Common.{rules}
use Rattle.parser.proofs.Names.{token_name, no_name_others, no_name_parentheses}
use Rattle.parser.proofs.is_name.Goals as goal
use Rattle.parser.proofs.is_name.Goals.{in_default, in_default-2, in-33, in-33-2}

pub returns : goal.returns
returns c = elim c.match-matches.branch [
  | in_default w ↦ rw w.matches-is (search (rules, token_name))
  | in_default-2 w ↦ rw w.matches-is (search (rules, token_name))
  | in-33 w ↦ rw w.matches-is (no_name_others _ w.in-33.is)
  | in-33-2 w ↦ rw w.matches-is (no_name_parentheses _ (search rules))
]

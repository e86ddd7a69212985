-- `parser::is_binder` meets its contract: each way to fail. Assumes nothing.
use Rattle.std.proofs.Common.{rules}
use Rattle.parser.proofs.Groups.{cut, unstopped, stopped}
use Rattle.parser.proofs.is_binder.Goals as goal

pub returns-in_default : goal.returns-in_default
returns-in_default c = cut _ _ c.in_default.len_below

pub returns-in_default-2 : goal.returns-in_default-2
returns-in_default-2 c = search (rules, unstopped)

pub returns : goal.returns
returns c = search (rules, stopped)

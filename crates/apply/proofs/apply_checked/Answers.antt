-- `apply::apply_checked` meets its contract: 3 for either number, then the application. Assumes nothing.
use Rattle.applying.specs.Ended.{applied_of}
use borrow.Author.Rules.{rules}
use Rattle.apply.proofs.Entered.{within_limit, refuse_function, refuse_argument, by_nodes}
use Rattle.apply.proofs.apply_checked.Goals as goal
use Rattle.apply.proofs.apply_checked.Goals.{then-used-function-via-then-used-function, then-used-function-via-else-used-function+then-used-argument}

pub returns-then-used-function : goal.returns-then-used-function
returns-then-used-function c =
    let a = c.args in
    elim c.then-used-function.branch [
      | then-used-function-via-then-used-function w ↦
          refuse_function a.table.now a.used a.stack.now a.function a.argument a.limit c.requires.1 w.if-used-function.true
      | then-used-function-via-else-used-function+then-used-argument w ↦
          refuse_argument a.table.now a.used a.stack.now a.function a.argument a.limit c.requires.1 w.if-used-function.false w.if-used-argument.true
    ]

pub apply_nodes-ended-requires : goal.apply_nodes-ended-requires
apply_nodes-ended-requires c =
    let a = c.args in
    (c.requires.0, c.if-used-function.false, c.if-used-argument.false, within_limit a.table.now a.used a.stack.now a.function a.argument a.limit c.requires.1)

pub returns : goal.returns
unfolding applied_of
returns c =
    let a = c.args in
    by_nodes a.table.now a.used a.stack.now a.function a.argument a.limit c.requires.1 c.if-used-function.false c.if-used-argument.false c.apply_nodes-ended.ensures.0
    (search rules)

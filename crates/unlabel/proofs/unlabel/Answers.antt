-- `unlabel::unlabel` meets its contract: 1 and 2, then 3, then what the node's tree says. Assumes nothing.
use mathlib.Core.Path.{◌≡◌, sym, ◌∙◌}
use mathlib.Core.Bool.{true}
use mathlib.Core.List.{[]}
use mathlib.Core.Option.{none}
use Rattle.std.proofs.Common.{rules}
use Rattle.table.specs.Outcome.{at_entry}
use Rattle.table.proofs.Entry.{entered}
use Rattle.unlabel.proofs.Ways.{refused_at_entry, no_node, in_use}
use Rattle.unlabel.proofs.unlabel.Goals as goal

pub returns-in_err-check : goal.returns-in_err-check
returns-in_err-check c = refused_at_entry _ _ _ c.check.ensures c.in_err-check.was (search rules)

pub returns-then-used-node : goal.returns-then-used-node
returns-then-used-node c =
    let a = c.args in
    let passed : none ≡ at_entry true a.table.now a.used [] = rw c.in_ok-check.was at c.check.ensures in
    no_node a.table.now a.used a.node passed c.if-used-node.true

pub unlabel_node-requires : goal.unlabel_node-requires
unlabel_node-requires c =
    let a = c.args in
    let passed : none ≡ at_entry true a.table.now a.used [] = rw c.in_ok-check.was at c.check.ensures in
    record {
      used = a.used;
      fine = (entered true a.table.now a.used [] (sym passed)).table;
      inside = c.if-used-node.false;
    }

pub returns : goal.returns
returns c =
    let a = c.args in
    let passed : none ≡ at_entry true a.table.now a.used [] = rw c.in_ok-check.was at c.check.ensures in
    c.ok_or.ensures.value ∙ c.unlabel_node.ensures ∙ in_use a.table.now a.used a.node passed c.if-used-node.false

-- `writer::write` meets its contract: 1 and 2, then 3, then what Write does with a node in use. Assumes nothing.
use mathlib.Core.Path.{sym, ◌∙◌}
use Rattle.std.proofs.lemmas.Result.{err_from_is_err_and}
use Rattle.std.specs.Prelude.{Err}
use Rattle.table.specs.Outcome.{whole_out}
use Rattle.table.specs.declared.Refusal.{Refusal}
use Rattle.table.proofs.Entry.{entered, check_refuses}
use Rattle.ternary.specs.Write.{Written, write}
use Rattle.writer.proofs.WriteWays.{no_node, in_use}
use Rattle.writer.proofs.write.Goals as goal

pub returns-in_err-check : goal.returns-in_err-check
unfolding write
returns-in_err-check c =
    let a = c.args in
    let p = err_from_is_err_and c.from_residual.result c.from_residual.ensures.1 in
    rw (p.1, p.2) (check_refuses (λ (e : Refusal). whole_out {A = Written} (Err e) a.table.now a.stack.now a.out.now) _ (rw c.in_err-check.was at c.check.ensures))

pub returns-then-used-node : goal.returns-then-used-node
returns-then-used-node c =
    let a = c.args in
    no_node a.table.now a.used a.stack.now a.node a.out.now (rw c.in_ok-check.was at c.check.ensures) c.if-used-node.true

pub write_node-requires : goal.write_node-requires
write_node-requires c =
    let a = c.args in
    ((entered _ a.table.now a.used a.stack.now (sym (rw c.in_ok-check.was at c.check.ensures))).table, c.if-used-node.false)

pub returns : goal.returns
returns c =
    let a = c.args in
    c.write_node.ensures
    ∙ in_use a.table.now a.used a.stack.now a.node a.out.now (rw c.in_ok-check.was at c.check.ensures) c.if-used-node.false

-- `writer::write_digits` meets its contract: the refusal at the first digit that lacks something, or the text that was measured. Assumes nothing.
use Prim.Native.Nat.{ℕ, ◌/◌}
use mathlib.Core.Path.{◌≡◌, ap}
use Rattle.std.proofs.lemmas.Result.{err_from_is_err_and}
use Rattle.table.specs.Nodes.{tree_at}
use Rattle.table.specs.Outcome.{frames}
use Rattle.writer.proofs.WriteWays.{no_room, is_written, fits}
use Rattle.writer.proofs.write_digits.Goals as goal

pub returns-in_err-measure : goal.returns-in_err-measure
returns-in_err-measure c =
    let a = c.args in
    let p = err_from_is_err_and c.from_residual.result c.from_residual.ensures.1 in
    rw (p.1, p.2) (no_room a.table.now a.stack.now a.out.now (tree_at a.table.now a.node) (rw c.in_err-measure.was at c.measure.ensures))

pub put_text-requires : goal.put_text-requires
put_text-requires c =
    let m = c.measure in
    let f : frames m.new.stack ≡ frames c.args.stack.now = ap (λ (n : ℕ). n / 3) m.auto.stack in
    (c.requires.0, c.requires.1, rw f (fits (rw c.in_ok-measure.was at m.ensures)))

pub returns : goal.returns
returns c =
    let a = c.args in
    let p = c.put_text in
    is_written a.table.now a.stack.now a.out.now (tree_at a.table.now a.node) (rw c.in_ok-measure.was at c.measure.ensures) p.ensures.0 p.ensures.1

-- `reader::read_text` meets its contract: 4, then 9, then the text's nodes. Assumes nothing.
use mathlib.Core.Path.{◌≡◌}
use Rattle.std.proofs.lemmas.Result.{err_from_is_err_and}
use Rattle.table.specs.declared.Refusal.TheVariants.{Text}
use Rattle.reader.proofs.ReadWays.{no_tree, no_frames, lays_text, is_laid}
use Rattle.reader.proofs.read_text.Goals as goal

pub returns-in_err-most : goal.returns-in_err-most
returns-in_err-most c =
    let a = c.args in
    let p = err_from_is_err_and c.from_residual.result c.from_residual.ensures.1 in
    let v = rw c.in_err-most.ensures.ok_part at c.in_err-most.ensures.value in
    let e : c.in_err-most.field-0.0 ≡ Text = cc in
    rw (p.1, p.2, e)
    (no_tree a.table.now a.used a.stack.now a.text.now a.slots _ (rw c.in_err-most.ensures.ok_part at c.most_pending.ensures))

pub returns-in_err-check_frames : goal.returns-in_err-check_frames
returns-in_err-check_frames c =
    let a = c.args in
    let p = err_from_is_err_and c.from_residual-in_err-check_frames.result c.from_residual-in_err-check_frames.ensures.1 in
    let m = rw c.in_ok-most.ensures.ok_part at c.most_pending.ensures in
    rw (p.1, p.2)
    (no_frames a.table.now a.used a.stack.now a.text.now a.slots _ _ m c.check_frames.ensures c.in_err-check_frames.was)

pub lay_text-got-requires : goal.lay_text-got-requires
lay_text-got-requires c =
    let a = c.args in
    let m = rw c.in_ok-most.ensures.ok_part at c.most_pending.ensures in
    (c.requires, lays_text a.table.now a.used a.stack.now a.text.now a.slots a.index.now _ m c.check_frames.ensures c.in_ok-check_frames.was)

pub returns : goal.returns
returns c =
    let a = c.args in
    let n = c.lay_text-got in
    let m = rw c.in_ok-most.ensures.ok_part at c.most_pending.ensures in
    is_laid a.table.now a.used a.stack.now a.text.now a.slots _ _ m c.check_frames.ensures c.in_ok-check_frames.was
    n.result n.new.table _ n.ensures.0 n.ensures.1 n.auto.stack c.settle.ensures

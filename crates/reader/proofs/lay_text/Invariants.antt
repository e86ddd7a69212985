-- `reader::lay_text` meets its contract. The loop's invariant: the digits that are left are a beginning of the text, and those after it are taken.
-- Assumes nothing.
use mathlib.Core.Path.{◌≡◌}
use mathlib.Core.List.{◌++◌}
use lib.ListN.{length, drop}
use Rattle.std.specs.Slice.Iter.{iter_rest}
use Rattle.std.specs.Iterator.Adapters.{rev_source}
use Rattle.reader.proofs.Laying.{LaidTo}
use Rattle.reader.proofs.lay_text.Given as goal

abbrev pub invariant-loop-c : goal.invariant-loop-c
invariant-loop-c l =
    let f = iter_rest (rev_source l.c-iterator) in
    (f ++ drop (length f) l.text ≡ l.text)
    × LaidTo (record { words = l.initial.table; used = l.used }) l.text l.initial.stack l.initial.index l.slots (length f) l.table l.used_now l.stack l.held l.index

-- `symbols::measure` meets its contract: the symbols in turn. Assumes nothing.
use Prim.Native.Nat.{◌*◌, ◌≤◌}
use mathlib.Core.Path.{◌≡◌}
use lib.ListN.{take}
use Rattle.grammar.specs.Postfix.{total, abstractions}
use Rattle.symbols.proofs.measure.Given as goal

abbrev pub invariant-loop-s : goal.invariant-loop-s
invariant-loop-s l = record {
  bytes : l.bytes ≡ total (take l.s-index l.s-items);
  count : l.count ≡ abstractions (take l.s-index l.s-items);
  few_bytes : l.bytes ≤ 44 * l.s-index;
  few_abstractions : l.count ≤ l.s-index;
}

-- `symbols::measure` meets its contract: the symbols in turn. Assumes nothing.
use native.Mathlib.Omega.{arith}
use mathlib.Core.Path.{refl}
use lib.ListN.{take}
use Rattle.grammar.specs.Postfix.{total, abstractions}
use Rattle.symbols.proofs.Symbols.{total_take}
use Rattle.symbols.proofs.Counting.{count_abstraction, count_other}
use Rattle.symbols.proofs.measure.Goals as goal
use Rattle.symbols.proofs.measure.Goals.{then-s-eq-ABSTRACTION, else-s-eq-ABSTRACTION}

pub loop-s-init : goal.loop-s-init
unfolding total abstractions
loop-s-init c = record { bytes = refl; count = refl; few_bytes = omega arith; few_abstractions = omega arith }

pub loop-s-preserved : goal.loop-s-preserved
loop-s-preserved c =
    let e = total_take (take c.args.n c.args.post.now) c.loop-s.s-index c.loop-s-test.true in
    record {
      bytes = omega arith;
      count = grind (arith, count_abstraction, count_other);
      few_bytes = omega arith;
      few_abstractions = grind arith;
    }

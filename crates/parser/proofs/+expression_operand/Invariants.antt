-- `parser::expression` and `parser::operand`, which call each other, meet their contracts: the loop over operands, and each kind of operand; remaining words fall. Assumes nothing.
use Prim.Native.Nat.{◌+◌, ◌*◌, ◌-◌}
use lib.ListN.{length}
use Rattle.parser.proofs.Phrases.{Carried}
use Rattle.parser.proofs.+expression_operand.Given as goal

abbrev pub decreases-expression : goal.decreases-expression
decreases-expression l = 2 * (length l.words.now - l.place.at) + 1

abbrev pub invariant-expression-loop-next : goal.invariant-expression-loop-next
invariant-expression-loop-next l = Carried l.words l.place.at l.depth l.initial.names l.place.k l.initial.post l.place.w l.names l.post l.waiting

abbrev pub decreases-expression-loop-next : goal.decreases-expression-loop-next
decreases-expression-loop-next l = length l.words - l.waiting.at

abbrev pub decreases-operand : goal.decreases-operand
decreases-operand l = 2 * (length l.words.now - l.place.at)

-- `symbols::nesting` meets its contract: the operands of a symbol. Assumes nothing.
use Rattle.symbols.proofs.+nesting.Given as goal

abbrev pub decreases-nesting : goal.decreases-nesting
decreases-nesting l = l.p

-- `parser::open_abstractions` meets its contract: the abstractions in turn. Assumes nothing.
use lib.ListN.{length-set}
use Rattle.parser.proofs.Groups.{row_more}
use Rattle.parser.proofs.open_abstractions.Goals as goal

pub loop-n-preserved : goal.loop-n-preserved
loop-n-preserved c = (row_more _ _ _ _ c.requires _ _ c.loop-n.invariant.0 c.is_binder.result c.is_binder.ensures c.loop-n.invariant.1 c.if-not-is_binder.false, simp length-set c.loop-n.invariant.1)

-- `text_reader::is_shallow` meets its contract: few abstractions, and many. Assumes nothing.
use mathlib.Core.List.{[]}
use Rattle.text_reader.proofs.Giving.{few_shallow, nests_shallow}
use Rattle.text_reader.proofs.is_shallow.Goals as goal

pub returns-then-count-le-MOST_NESTED : goal.returns-then-count-le-MOST_NESTED
returns-then-count-le-MOST_NESTED c = λ e q. few_shallow e _ _ q _ c.requires.1 c.if-count-le-MOST_NESTED.true

pub nesting-requires : goal.nesting-requires
nesting-requires c = let q = c.requires.0.is in record { e = c.requires.0.e; xs = []; stands = q.stands; within = q.within; few = q.few }

pub returns : goal.returns
returns c = λ e q. nests_shallow e _ _ q _ _ (c.nesting.ensures e [] q.stands)

-- `label::make_whole` meets its contract: Kt has no place, or the spread is wanted after it. Assumes nothing.
use Rattle.std.proofs.Common.{arith, rules}
use Rattle.label.specs.Code.{whole_nodes}
use Rattle.table.proofs.Making.{fork_words}
use Rattle.label.proofs.Ways.{one_stands, onward, no_place, goes_on}
use Rattle.label.proofs.make_whole.Goals as goal

pub returns-in_err-sixth : goal.returns-in_err-sixth
unfolding whole_nodes
returns-in_err-sixth c = no_place _ _ _ _ c.make.ensures.0 c.in_err-sixth.was (search rules) _ _

pub make_spread-requires : goal.make_spread-requires
make_spread-requires c =
    let d = onward (λ _. one_stands c.requires.0.fine _ _ (fork_words c.requires.1 c.requires.2)) c.make.ensures c.in_ok-sixth.was in
    (d.ready, omega arith, omega arith)

pub returns : goal.returns
unfolding whole_nodes
returns c = goes_on _ _ _ _ c.make.ensures.0 c.in_ok-sixth.was _ _ c.make_spread.ensures

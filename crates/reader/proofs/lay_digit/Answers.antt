-- `reader::lay_digit` meets its contract: the node that the digit wants, by its three cases. Assumes nothing.
use native.Mathlib.Omega.{arith}
use Rattle.reader.proofs.Laying.{leaf_wanted, stem_wanted, fork_wanted}
use Rattle.reader.proofs.lay_digit.Goals as goal

pub returns-in-48 : goal.returns-in-48
returns-in-48 c =
    let m = c.make.ensures in
    (leaf_wanted _ _ _ _ (omega arith) m.0, m.1)

pub returns-in-49 : goal.returns-in-49
returns-in-49 c =
    let m = c.make-in-49.ensures in
    (stem_wanted _ _ _ _ (λ e. omega arith) (omega arith) c.requires.1.branches c.word-p.ensures.0 m.0, m.1)

pub returns-in_default : goal.returns-in_default
returns-in_default c =
    let m = c.make-in_default.ensures in
    (fork_wanted _ _ _ _ (λ e. omega arith) (λ e. omega arith) c.requires.1 c.word-p-in_default.ensures.0 c.word-q.ensures.0 m.0, m.1)

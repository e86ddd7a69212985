-- `unlabel::label_under` meets its contract: the tests of Δ(Kt), one after another. Assumes nothing.
use mathlib.Core.Path.{ap, ◌∙◌}
use Rattle.table.specs.Branches.{right}
use Rattle.unlabel.proofs.Ways.{no_leaf, no_stem, no_fork, label_branch, k_of, leaf_passes, of_form, not_of_form}
use Rattle.unlabel.proofs.label_under.Goals as goal

pub returns-in_default : goal.returns-in_default
returns-in_default c = not_of_form _ (no_stem c.args.table.now c.args.node _ c.shape_at.ensures c.in_default.not-Stem).2

pub returns-in_default-shape_at : goal.returns-in_default-shape_at
returns-in_default-shape_at c = not_of_form _ (label_branch c.in-Stem.ensures (no_fork c.args.table.now c.in-Stem.constant _ c.shape_at-2.ensures c.in_default-shape_at.not-Fork).1)

pub returns-in_default-shape_at-2 : goal.returns-in_default-shape_at-2
returns-in_default-shape_at-2 c =
    not_of_form _ (label_branch c.in-Stem.ensures (k_of c.in-Fork.ensures (no_leaf c.args.table.now c.in-Fork.p _ c.shape_at-3.ensures c.in_default-shape_at-2.not-Leaf)))

pub returns : goal.returns
returns c =
    of_form (label_branch c.in-Stem.ensures (k_of c.in-Fork.ensures (leaf_passes c.in-Leaf.ensures)))
    (c.in-Fork.ensures.two_is ∙ ap (right c.args.table.now) c.in-Stem.ensures.branch_is)

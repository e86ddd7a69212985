-- `unlabel::rule_under` meets its contract: the tests of Δ(Δf)(KK), one after another. Assumes nothing.
use mathlib.Core.Path.{refl, sym, ap, ◌∙◌}
use Rattle.table.specs.Branches.{left}
use Rattle.unlabel.proofs.Ways.{no_stem, no_fork, rule_first, rule_second, not_of_form, kept}
use Rattle.unlabel.proofs.rule_under.Goals as goal

pub returns-in_default : goal.returns-in_default
returns-in_default c = not_of_form _ (no_fork c.args.table.now c.args.node _ c.shape_at.ensures c.in_default.not-Fork).2

pub returns-in_default-shape_at : goal.returns-in_default-shape_at
returns-in_default-shape_at c = not_of_form _ (rule_first c.in-Fork.ensures (no_stem c.args.table.now c.in-Fork.p _ c.shape_at-2.ensures c.in_default-shape_at.not-Stem).0)

pub returns : goal.returns
returns c =
    c.then_some.ensures ∙ kept (c.is_constant.ensures ∙ sym (rule_second c.in-Fork.ensures c.in-Stem.ensures refl)) (c.in-Stem.ensures.branch_is ∙ ap (left c.args.table.now) c.in-Fork.ensures.one_is)

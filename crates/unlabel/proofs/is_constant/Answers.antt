-- `unlabel::is_constant` meets its contract: the tests of KK, one after another. Assumes nothing.
use mathlib.Core.Path.{◌≡◌, sym}
use Rattle.std.proofs.Common.{rules}
use Rattle.calculus.specs.Tree.{leaf}
use Rattle.table.specs.Nodes.{tree_at}
use Rattle.unlabel.proofs.Ways.{no_leaf, no_stem, no_fork, kk_first, kk_second, kk_last, leaf_passes}
use Rattle.unlabel.proofs.is_constant.Goals as goal

pub returns-in_default : goal.returns-in_default
returns-in_default c = sym (no_fork c.args.table.now c.args.node _ c.shape_at.ensures c.in_default.not-Fork).0

pub returns-in_default-shape_at : goal.returns-in_default-shape_at
returns-in_default-shape_at c = sym (kk_first c.in-Fork.ensures (no_leaf c.args.table.now c.in-Fork.p _ c.shape_at-2.ensures c.in_default-shape_at.not-Leaf))

pub returns-in_default-shape_at-2 : goal.returns-in_default-shape_at-2
returns-in_default-shape_at-2 c = sym (kk_second c.in-Fork.ensures c.in-Leaf.ensures (no_stem c.args.table.now c.in-Fork.q _ c.shape_at-3.ensures c.in_default-shape_at-2.not-Stem).1)

pub returns-in-Leaf-matches : goal.returns-in-Leaf-matches
returns-in-Leaf-matches c =
    let x : tree_at c.args.table.now c.in-Stem.x ≡ leaf = search rules in
    sym (kk_last c.in-Fork.ensures c.in-Leaf.ensures c.in-Stem.ensures (leaf_passes x))

pub returns-in_default-matches : goal.returns-in_default-matches
returns-in_default-matches c =
    sym (kk_last c.in-Fork.ensures c.in-Leaf.ensures c.in-Stem.ensures (no_leaf c.args.table.now c.in-Stem.x _ c.shape_at-4.ensures c.in_default-matches.not-Leaf))

-- `term::place` meets its contract: the rule's words are built, its tree laid out, and what came of it settled. Assumes nothing.
use native.Mathlib.Omega.{arith}
use Rattle.calculus.specs.Abstraction.{rule_tree}
use Rattle.index.proofs.Ready.{settled_ready}
use Rattle.term.proofs.Outcomes.{rule_stands, rule_run, tree_stands, placed_all}
use Rattle.term.proofs.place.Goals as goal

pub build-requires : goal.build-requires
build-requires c =
    let p = c.requires.1 in
    let r = rule_run _ p.is_rule in
    record {
      read = p.term;
      stands = rule_stands _ p.is_rule;
      room = omega (arith, p.counted);
      space = omega (arith, p.counted, p.frames);
      short = p.stack;
    }

pub lay-got-requires : goal.lay-got-requires
lay-got-requires c =
    let p = c.requires.1 in
    (record { tree = rule_tree p.term; stands = tree_stands _ _ p (c.build.ensures p.term (rule_stands _ p.is_rule)) }, c.requires.0)

pub returns : goal.returns
returns c =
    let p = c.requires.1 in
    let b = c.build.ensures p.term (rule_stands _ p.is_rule) in
    let e = c.settle.ensures in (
      placed_all _ _ p b _ _ _ (c.lay-got.ensures.0 (rule_tree p.term) (tree_stands _ _ p b)) e,
      settled_ready _ _ _ _ _ _ e c.lay-got.ensures.1,
    )

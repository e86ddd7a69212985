-- `encoder::fixed_lead` meets its contract: each symbol. Assumes nothing.
use native.Mathlib.Omega.{arith}
use mathlib.Core.Path.{◌≡◌, sym, ap}
use Rattle.calculus.specs.Bytes.{bytes}
use Rattle.grammar.specs.Meaning.{K, I, stem_of_stem, and_tree, or_tree, implies_tree, not_tree}
use Rattle.grammar.specs.Postfix.{lead}
use Rattle.encoder.proofs.fixed_lead.Goals as goal

pub returns-in-0 : goal.returns-in-0
unfolding lead bytes K I stem_of_stem and_tree or_tree implies_tree not_tree
returns-in-0 c = sym (ap lead c.in-0.is)

pub returns-in-1 : goal.returns-in-1
unfolding lead bytes K I stem_of_stem and_tree or_tree implies_tree not_tree
returns-in-1 c = sym (ap lead c.in-1.is)

pub returns-in-2 : goal.returns-in-2
unfolding lead bytes K I stem_of_stem and_tree or_tree implies_tree not_tree
returns-in-2 c = sym (ap lead c.in-2.is)

pub returns-in-3 : goal.returns-in-3
unfolding lead bytes K I stem_of_stem and_tree or_tree implies_tree not_tree
returns-in-3 c = sym (ap lead c.in-3.is)

pub returns-in-4 : goal.returns-in-4
unfolding lead bytes K I stem_of_stem and_tree or_tree implies_tree not_tree
returns-in-4 c = sym (ap lead c.in-4.is)

pub returns-in-5 : goal.returns-in-5
unfolding lead bytes K I stem_of_stem and_tree or_tree implies_tree not_tree
returns-in-5 c = sym (ap lead c.in-5.is)

pub returns-in_default : goal.returns-in_default
unfolding lead
returns-in_default c = let e : c.args.s ≡ 6 = grind arith in sym (ap lead e)

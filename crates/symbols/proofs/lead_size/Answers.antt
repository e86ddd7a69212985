-- `symbols::lead_size` meets its contract: each symbol. Assumes nothing.
use native.Mathlib.Omega.{arith}
use mathlib.Core.Path.{ap}
use Prim.Native.Nat.{ℕ}
use lib.ListN.{length}
use Rattle.calculus.specs.Bytes.{bytes}
use Rattle.grammar.specs.Meaning.{K, I, stem_of_stem, and_tree, or_tree, implies_tree, not_tree}
use Rattle.grammar.specs.Postfix.{lead}
use Rattle.symbols.proofs.Symbols.{lead_var, lead_one, lead_two}
use Rattle.symbols.proofs.lead_size.Goals as goal

pub returns-in-3 : goal.returns-in-3
unfolding lead bytes K I stem_of_stem and_tree or_tree implies_tree not_tree
returns-in-3 c = let e = ap (λ (i : ℕ). length (lead i)) c.in-3.is in (omega arith, omega arith)

pub returns-in-5 : goal.returns-in-5
unfolding lead bytes K I stem_of_stem and_tree or_tree implies_tree not_tree
returns-in-5 c = let e = ap (λ (i : ℕ). length (lead i)) c.in-5.is in (omega arith, omega arith)

pub returns-in-0 : goal.returns-in-0
returns-in-0 c = let e = lead_one c.args.s (omega arith) (omega arith) (omega arith) (omega arith) (omega arith) in (omega arith, omega arith)

pub returns-in-1 : goal.returns-in-1
returns-in-1 c = let e = lead_two c.args.s (grind arith) (grind arith) in (omega arith, omega arith)

pub returns-in_default : goal.returns-in_default
returns-in_default c = let e = lead_var c.args.s (grind arith) in (omega arith, omega arith)

-- `parser::atom` meets its contract: a leaf, a bound name, and neither. Assumes nothing.
use mathlib.Core.Bool.{not}
use mathlib.Core.Path.{ap}
use native.Mathlib.Omega.{arith}
use lib.ListN.{get_or}
use Rattle.parser.proofs.Operands.{found_at, found_none, lookup_less, atom_leaf, atom_other, atom_unbound, atom_bound}
use Rattle.parser.proofs.atom.Goals as goal

pub returns-then-t-eq-CARET : goal.returns-then-t-eq-CARET
returns-then-t-eq-CARET c = λ d. atom_leaf _ _ _ _ _ _ c.requires.0 c.requires.1 d c.if-t-eq-CARET.true

pub returns-then-not-is_name : goal.returns-then-not-is_name
returns-then-not-is_name c = λ d. atom_other _ _ _ _ _ _ c.requires.0 c.requires.1 d c.is_name.result c.is_name.ensures (ap not c.if-not-is_name.true) c.if-t-eq-CARET.false c.requires.2 c.requires.3

pub returns-in_err-i : goal.returns-in_err-i
returns-in_err-i c = λ d. rw c.from_residual.ensures (atom_unbound _ _ _ _ _ _ c.requires.0 c.requires.1 d c.is_name.result c.is_name.ensures (ap not c.if-not-is_name.false) (found_none c.args.names.now c.args.place.k _ c.find.ensures c.in_err-i.was))

pub overflow_add-post : goal.overflow_add-post
overflow_add-post c = omega (arith, c.requires.0.short, lookup_less c.args.names.now c.args.place.k (get_or c.args.words.now c.args.place.at 0) c.in_ok-i.i (found_at c.args.names.now c.args.place.k _ c.find.ensures c.in_ok-i.was))

pub overflow_cast-post : goal.overflow_cast-post
overflow_cast-post c = omega (arith, c.requires.0.short, lookup_less c.args.names.now c.args.place.k (get_or c.args.words.now c.args.place.at 0) c.in_ok-i.i (found_at c.args.names.now c.args.place.k _ c.find.ensures c.in_ok-i.was))

pub returns : goal.returns
returns c = λ d. atom_bound _ _ _ _ _ _ c.requires.0 c.requires.1 d c.is_name.result c.in_ok-i.i c.is_name.ensures (ap not c.if-not-is_name.false) (found_at c.args.names.now c.args.place.k _ c.find.ensures c.in_ok-i.was)

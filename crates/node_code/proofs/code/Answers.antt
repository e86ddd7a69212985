-- `node_code::code` meets its contract: 1 and 2, then 3, then the place of the text's value, or none. Assumes nothing.
use mathlib.Core.Path.{◌≡◌, sym, ◌∙◌}
use mathlib.Core.Bool.{true}
use mathlib.Core.List.{[]}
use mathlib.Core.Option.{none}
use native.Mathlib.Omega.{arith}
use borrow.Author.Rules.{rules}
use Rattle.table.specs.Outcome.{at_entry}
use Rattle.table.proofs.Entry.{entered}
use Rattle.short_codes.specs.ShortCodes as coding
use Rattle.short_codes.proofs.Numerals.{padded_least}
use Rattle.node_code.proofs.Ways.{no_node, long_none, short_coded}
use Rattle.node_code.proofs.code.Goals as goal

pub returns-in_err-check : goal.returns-in_err-check
unfolding coding.code
returns-in_err-check c = let h = c.from_residual.ensures in search rules

pub returns-then-used-node : goal.returns-then-used-node
returns-then-used-node c = no_node _ _ _ (sym (rw c.in_ok-check.was at c.check.ensures)) c.if-used-node.true

pub take_text-requires : goal.take_text-requires
take_text-requires c =
    let passed : at_entry true c.args.table.now c.args.used [] ≡ none = sym (rw c.in_ok-check.was at c.check.ensures) in
    let a = c.args in
    (record { used = a.used; fine = (entered true a.table.now a.used [] passed).table; inside = c.if-used-node.false }, omega arith, padded_least 0 1)

pub returns-in_default : goal.returns-in_default
returns-in_default c = long_none _ _ _ (sym (rw c.in_ok-check.was at c.check.ensures)) c.if-used-node.false (sym c.take_text.ensures ∙ c.in_default.is)

pub returns : goal.returns
returns c = short_coded _ _ _ (sym (rw c.in_ok-check.was at c.check.ensures)) c.if-used-node.false (sym c.take_text.ensures ∙ c.in-Some.is) c.place_at_most.ensures

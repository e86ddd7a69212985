-- `same::same` meets its contract: 1 and 2, then 3 for either node, then whether the numbers are equal. Assumes nothing.
use mathlib.Core.Path.{◌≡◌, sym}
use mathlib.Core.Bool.{true}
use mathlib.Core.List.{[]}
use mathlib.Core.Option.{none}
use Rattle.std.specs.Prelude.{Err}
use Rattle.table.specs.Outcome.{at_entry}
use Rattle.table.specs.Same as comparing
use Rattle.table.specs.Same.{Comparable, first_not_in_use, second_not_in_use}
use Rattle.table.specs.declared.Refusal.TheVariants.{Node}
use Rattle.table.proofs.Entry.{check_refuses}
use Rattle.table.proofs.Same.{compared, same_lacks}
use borrow.Author.Rules.{rules}
use Rattle.same.proofs.same.Goals as goal

pub returns-in_err-check : goal.returns-in_err-check
unfolding comparing.same
returns-in_err-check c = let h = c.from_residual.ensures in search rules

pub returns-then-used-a : goal.returns-then-used-a
returns-then-used-a c =
    let a = c.args in
    sym ((same_lacks a.table.now a.used a.a a.b Node).1 (first_not_in_use (sym (rw c.in_ok-check.was at c.check.ensures)) c.if-used-a.true))

pub returns-then-used-b : goal.returns-then-used-b
returns-then-used-b c =
    let a = c.args in
    sym ((same_lacks a.table.now a.used a.a a.b Node).1 (second_not_in_use (sym (rw c.in_ok-check.was at c.check.ensures)) c.if-used-b.true))

pub returns : goal.returns
returns c =
    let a = c.args in
    let e : at_entry true a.table.now a.used [] ≡ none = sym (rw c.in_ok-check.was at c.check.ensures) in
    let k : Comparable a.table.now a.used a.a a.b = record { entered = e; first_in = c.if-used-a.false; second_in = c.if-used-b.false } in
    compared a.table.now a.used a.a a.b k

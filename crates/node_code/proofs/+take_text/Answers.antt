-- `node_code::take_text` meets its contract: the digit of the node, then those of its branches. Assumes nothing.
use mathlib.Core.Path.{sym, ap, ◌∙◌}
use native.Mathlib.Omega.{arith}
use Rattle.std.specs.Prelude.{Some}
use Rattle.table.proofs.Branches.{leaf_by, stem_by, fork_by}
use Rattle.node_code.proofs.Taking.{digit_fits, takes_all, full_taken, leaf_taken, stem_taken, fork_long, fork_taken, taken_fits}
use Rattle.node_code.proofs.+take_text.Goals as goal

pub returns-then-before-eq-MOST_DIGITS : goal.returns-then-before-eq-MOST_DIGITS
returns-then-before-eq-MOST_DIGITS t c = full_taken _ _ _ c.if-before-eq-MOST_DIGITS.true

pub returns-then-a-eq0 : goal.returns-then-a-eq0
returns-then-a-eq0 t c = ap Some c.and.ensures ∙ leaf_taken _ _ (leaf_by c.requires.0 c.word-a.ensures.0 c.if-a-eq0.true) c.requires.1 c.if-before-eq-MOST_DIGITS.false

pub take_text-requires : goal.take_text-requires
take_text-requires t c =
    let s = stem_by c.requires.0 c.word-a.ensures.0 c.word-b.ensures.0 c.if-a-eq0.false c.if-b-eq0.true in
    rw c.and-then-b-eq0.ensures
    (omega (arith, c.if-before-eq-MOST_DIGITS.false, c.decreases, c.requires.1), (s.branch, omega (arith, c.if-before-eq-MOST_DIGITS.false, c.requires.1), digit_fits _ _ 1 c.requires.2 (omega arith)))

pub returns-then-b-eq0 : goal.returns-then-b-eq0
returns-then-b-eq0 t c =
    let s = stem_by c.requires.0 c.word-a.ensures.0 c.word-b.ensures.0 c.if-a-eq0.false c.if-b-eq0.true in
    (rw c.and-then-b-eq0.ensures at c.take_text.ensures) ∙ stem_taken _ _ s.tree

pub take_text-requires-2 : goal.take_text-requires-2
take_text-requires-2 t c =
    let f = fork_by c.requires.0 c.word-a.ensures.0 c.word-b.ensures.0 c.if-a-eq0.false c.if-b-eq0.false in
    rw c.and-2.ensures
    (omega (arith, c.if-before-eq-MOST_DIGITS.false, c.decreases, c.requires.1), (f.one, omega (arith, c.if-before-eq-MOST_DIGITS.false, c.requires.1), digit_fits _ _ 2 c.requires.2 (omega arith)))

pub returns-in_err-first : goal.returns-in_err-first
returns-in_err-first t c =
    let f = fork_by c.requires.0 c.word-a.ensures.0 c.word-b.ensures.0 c.if-a-eq0.false c.if-b-eq0.false in
    let e = rw c.and-2.ensures at c.take_text-2.ensures in
    c.from_residual.ensures ∙ fork_long _ _ f.tree (sym e ∙ c.in_err-first.was)

pub take_text-requires-3 : goal.take_text-requires-3
take_text-requires-3 t c =
    let f = fork_by c.requires.0 c.word-a.ensures.0 c.word-b.ensures.0 c.if-a-eq0.false c.if-b-eq0.false in
    let e = rw c.and-2.ensures at c.take_text-2.ensures in
    let q = sym e ∙ c.in_ok-first.was in
    let a = takes_all _ _ _ q in
    (omega (arith, c.if-before-eq-MOST_DIGITS.false, c.decreases, c.requires.1, a.few, a.many_is), (f.two, a.few, taken_fits _ _ _ (digit_fits _ _ 2 c.requires.2 (omega arith)) q))

pub returns : goal.returns
returns t c =
    let f = fork_by c.requires.0 c.word-a.ensures.0 c.word-b.ensures.0 c.if-a-eq0.false c.if-b-eq0.false in
    let e = rw c.and-2.ensures at c.take_text-2.ensures in
    c.take_text-3.ensures ∙ fork_taken _ _ f.tree (sym e ∙ c.in_ok-first.was)

-- `weight_digits::digit_at` meets its contract: one law for each way that the code goes. Assumes nothing.
use mathlib.Core.Path.{refl, sym, ◌∙◌}
use native.Mathlib.Omega.{arith}
use Rattle.weights.specs.Digits.{digit_of}
use Rattle.weights.proofs.Trees.{too_many}
use Rattle.weight_digits.proofs.Ways.{digit_leaf, digit_other, digit_stem, digit_more}
use Rattle.weight_digits.proofs.digit_at.Goals as goal

pub loop-d-init : goal.loop-d-init
unfolding digit_of
loop-d-init c = λ i. (i, refl)

pub returns-then-at-eq0-clause-digit : goal.returns-then-at-eq0-clause-digit
returns-then-at-eq0-clause-digit c = λ i. let r = c.loop-d.invariant i in digit_leaf _ r.0 c.if-at-eq0.true (omega arith) ∙ sym r.1

pub returns-then-word-ne1-clause-digit : goal.returns-then-word-ne1-clause-digit
returns-then-word-ne1-clause-digit c = λ i.
    let r = c.loop-d.invariant i in
    digit_other _ r.0 c.word.ensures.0 c.if-at-eq0.false c.if-word-ne1.true ∙ sym r.1

pub returns-then-b-eq0-clause-digit : goal.returns-then-b-eq0-clause-digit
returns-then-b-eq0-clause-digit c = λ i.
    let r = c.loop-d.invariant i in
    digit_stem _ r.0 c.word.ensures.0 c.if-word-ne1.false c.word-b.ensures.0 c.if-b-eq0.true ∙ sym r.1

pub loop-d-preserved : goal.loop-d-preserved
loop-d-preserved c = λ i.
    let r = c.loop-d.invariant i in
    let m = digit_more _ r.0 c.word.ensures.0 c.if-word-ne1.false c.word-b.ensures.0 c.if-b-eq0.false in
    (m.0, r.1 ∙ m.1)

pub returns-clause-digit : goal.returns-clause-digit
returns-clause-digit c = λ i. sym ((c.loop-d.invariant i).1 ∙ too_many _ _ c.loop-d-test.false)

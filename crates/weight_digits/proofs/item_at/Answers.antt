-- `weight_digits::item_at` meets its contract: no item for a leaf and for a stem, the branches of a fork. Assumes nothing.
use Rattle.weight_digits.proofs.Ways.{item_leaf, item_stem, item_in, item_none, item_fork}
use Rattle.weight_digits.proofs.item_at.Goals as goal

pub returns-then-a-eq0 : goal.returns-then-a-eq0
returns-then-a-eq0 c = λ i. item_leaf i c.word-a.ensures.0 c.if-a-eq0.true

pub returns-then-b-eq0 : goal.returns-then-b-eq0
returns-then-b-eq0 c = λ i. item_stem i c.word-a.ensures.0 c.if-a-eq0.false c.word-b.ensures.0 c.if-b-eq0.true

pub returns-in_err-digit : goal.returns-in_err-digit
returns-in_err-digit c = λ i.
    let p = c.word-a.ensures.0 in
    let q = c.word-b.ensures.0 in
    rw c.from_residual.ensures (item_none i p c.if-a-eq0.false q c.if-b-eq0.false (c.in_err-digit.ensures.digit (item_in i p c.if-a-eq0.false q c.if-b-eq0.false)))

pub returns : goal.returns
returns c = λ i.
    let p = c.word-a.ensures.0 in
    let q = c.word-b.ensures.0 in
    item_fork i p c.if-a-eq0.false q c.if-b-eq0.false (c.in_ok-digit.ensures.digit (item_in i p c.if-a-eq0.false q c.if-b-eq0.false))

-- `rule_size::measure` meets its contract, by the term's first byte. Assumes nothing.
use Prim.Native.Nat.{◌+◌, ◌-◌}
use mathlib.Core.Path.{◌≡◌, ◌∙◌}
use native.Mathlib.Omega.{arith}
use Rattle.rule_size.proofs.Weights.{leaf_weight_most, found, found_less, at_end, too_deep, no_body, is_abs, no_function, no_argument, is_app}
use Rattle.rule_size.proofs.+measure.Goals as goal

pub returns-then-bytes-at : goal.returns-then-bytes-at
returns-then-bytes-at t c = λ n h. c.nothing.ensures ∙ at_end n _ _ _ c.if-bytes-at.true

pub bounds-bytes-at : goal.bounds-bytes-at
bounds-bytes-at t c = omega arith

pub overflow_add-at : goal.overflow_add-at
overflow_add-at t c = omega arith

pub measure-f-requires : goal.measure-f-requires
measure-f-requires t c = omega arith

pub returns-then-mid-eq0 : goal.returns-then-mid-eq0
returns-then-mid-eq0 t c = λ n h.
    c.nothing-then-mid-eq0.ensures ∙ no_function n _ _ _ c.if-bytes-at.false h _ c.if-b-eq1.true c.measure-f.ensures c.if-mid-eq0.true

pub measure-a-requires : goal.measure-a-requires
measure-a-requires t c =
    let f = found _ _ _ _ c.requires.1 c.measure-f.ensures c.if-mid-eq0.false in
    omega (arith, f.after, f.within, c.requires)

pub returns-then-a-eq0 : goal.returns-then-a-eq0
returns-then-a-eq0 t c = λ n h.
    let f = found _ _ _ _ c.requires.1 c.measure-f.ensures c.if-mid-eq0.false in
    c.nothing-then-a-eq0.ensures
    ∙ no_argument n _ _ _ c.if-bytes-at.false h _ c.if-b-eq1.true c.measure-f.ensures _ c.if-mid-eq0.false f.after c.measure-a.ensures c.if-a-eq0.true

pub overflow_add-result : goal.overflow_add-result
overflow_add-result t c =
    let f = found _ _ _ _ c.requires.1 c.measure-f.ensures c.if-mid-eq0.false in
    let a = found _ _ _ _ c.requires.1 c.measure-a.ensures c.if-a-eq0.false in
    omega (arith, f.after, f.most, a.after, a.within, a.most, c.requires.0)

pub returns-then-b-eq1 : goal.returns-then-b-eq1
returns-then-b-eq1 t c = λ n h.
    let f = found _ _ _ _ c.requires.1 c.measure-f.ensures c.if-mid-eq0.false in
    is_app n _ _ _ c.if-bytes-at.false h _ c.if-b-eq1.true c.measure-f.ensures _ c.if-mid-eq0.false f.after c.measure-a.ensures c.if-a-eq0.false

pub returns-then-depth-ge16 : goal.returns-then-depth-ge16
returns-then-depth-ge16 t c = λ n h.
    c.nothing-then-depth-ge16.ensures ∙ too_deep n _ _ _ c.if-bytes-at.false h c.if-b-eq2.true c.if-depth-ge16.true

pub overflow_add-at-then-b-eq2 : goal.overflow_add-at-then-b-eq2
overflow_add-at-then-b-eq2 t c = omega arith

pub overflow_add-depth : goal.overflow_add-depth
overflow_add-depth t c = omega arith

pub measure-t-requires : goal.measure-t-requires
measure-t-requires t c = omega arith

pub returns-then-t-eq0 : goal.returns-then-t-eq0
returns-then-t-eq0 t c = λ n h.
    c.nothing-then-t-eq0.ensures ∙ no_body n _ _ _ c.if-bytes-at.false h _ c.if-b-eq2.true c.if-depth-ge16.false c.measure-t.ensures c.if-t-eq0.true

pub leaf_weight-requires : goal.leaf_weight-requires
leaf_weight-requires t c = omega arith

pub overflow_mul-result : goal.overflow_mul-result
overflow_mul-result t c =
    omega (arith, leaf_weight_most c.args.depth c.requires.1, c.leaf_weight.ensures)

pub overflow_sub-result : goal.overflow_sub-result
overflow_sub-result t c =
    let e : c.args.depth + 1 - 1 ≡ c.args.depth = omega arith in
    let b = found_less _ (c.args.depth + 1) _ _ (omega arith) c.measure-t.ensures (omega arith) c.if-t-eq0.false in
    omega (arith, rw e at b, c.leaf_weight.ensures)

pub returns-then-b-eq2 : goal.returns-then-b-eq2
returns-then-b-eq2 t c = λ n h.
    is_abs n _ _ _ c.if-bytes-at.false h _ c.if-b-eq2.true c.if-depth-ge16.false c.measure-t.ensures c.leaf_weight.ensures c.if-t-eq0.false

pub measure_atom-requires : goal.measure_atom-requires
measure_atom-requires t c =
    (c.if-bytes-at.false, c.requires.1, c.if-b-eq1.false, c.if-b-eq2.false)

pub returns : goal.returns
returns t c = c.measure_atom.ensures

-- `codes::put_values` meets its contract: the values after a leaf, after a stem and after a fork, one list after another. Assumes nothing.
use native.Mathlib.Omega.{arith}
use Rattle.codes.proofs.Putting.{value_bound, room_for_one, one_put, no_digit_put, no_tree_put, leaves_ready, stems_ready, forks_ready, all_put}
use Rattle.codes.proofs.+put_values.Goals as goal

pub overflow_cast-out : goal.overflow_cast-out
overflow_cast-out t c = omega (arith, value_bound _ _ c.requires.ten_digits)

pub bounds-out-at : goal.bounds-out-at
bounds-out-at t c = room_for_one c.requires c.if-n-eq0.true c.if-wanted-eq0.true

pub returns-then-wanted-eq0 : goal.returns-then-wanted-eq0
returns-then-wanted-eq0 t c = one_put c.requires c.if-n-eq0.true c.if-wanted-eq0.true

pub returns-then-n-eq0 : goal.returns-then-n-eq0
returns-then-n-eq0 t c = no_digit_put c.requires c.if-n-eq0.true c.if-wanted-eq0.false

pub returns-then-wanted-eq0-2 : goal.returns-then-wanted-eq0-2
returns-then-wanted-eq0-2 t c = no_tree_put c.requires c.if-n-eq0.false c.if-wanted-eq0-2.true

pub overflow_mul-value : goal.overflow_mul-value
overflow_mul-value t c = omega (arith, value_bound _ _ c.requires.ten_digits)

pub put_values-after_leaf-requires : goal.put_values-after_leaf-requires
put_values-after_leaf-requires t c = (omega (arith, c.if-n-eq0.false), leaves_ready c.requires c.if-n-eq0.false c.if-wanted-eq0-2.false)

pub overflow_mul-value-2 : goal.overflow_mul-value-2
overflow_mul-value-2 t c = omega (arith, value_bound _ _ c.requires.ten_digits)

pub overflow_add-value : goal.overflow_add-value
overflow_add-value t c = omega (arith, value_bound _ _ c.requires.ten_digits)

pub put_values-after_stem-requires : goal.put_values-after_stem-requires
put_values-after_stem-requires t c =
    (omega (arith, c.if-n-eq0.false), stems_ready c.requires c.if-n-eq0.false c.if-wanted-eq0-2.false c.put_values-after_leaf.ensures c.put_values-after_leaf.auto.out)

pub overflow_mul-value-3 : goal.overflow_mul-value-3
overflow_mul-value-3 t c = omega (arith, value_bound _ _ c.requires.ten_digits)

pub overflow_add-value-2 : goal.overflow_add-value-2
overflow_add-value-2 t c = omega (arith, value_bound _ _ c.requires.ten_digits)

pub put_values-requires : goal.put_values-requires
put_values-requires t c =
    (omega (arith, c.if-n-eq0.false), forks_ready c.requires c.if-n-eq0.false c.if-wanted-eq0-2.false c.put_values-after_leaf.ensures c.put_values-after_leaf.auto.out c.put_values-after_stem.ensures c.put_values-after_stem.auto.out)

pub returns : goal.returns
returns t c =
    all_put c.requires c.if-n-eq0.false c.if-wanted-eq0-2.false c.put_values-after_leaf.ensures c.put_values-after_leaf.auto.out c.put_values-after_stem.ensures c.put_values-after_stem.auto.out c.put_values.ensures

-- `rule_size::measure_atom` meets its contract: a leaf, a variable whose abstraction is around it, or no term. Assumes nothing.
use Prim.Native.Nat.{◌+◌, ◌-◌, ◌<◌}
use mathlib.Core.Path.{◌∙◌}
use native.Mathlib.Omega.{arith}
use lib.ListN.{length, get_or}
use Rattle.rule_size.proofs.Weights.{leaf_weight_most, is_leaf, is_var, free_var, cut, other}
use Rattle.rule_size.proofs.measure_atom.Goals as goal
use Rattle.rule_size.proofs.measure_atom.Goals.{then-b-eq3+then-bytes-at-gt1+else-i-depth, then-b-eq3+else-bytes-at-gt1, else-b-eq3}

pub returns-then-b-eq0 : goal.returns-then-b-eq0
returns-then-b-eq0 c = λ n h. is_leaf n _ _ _ c.requires.0 h c.leaf_weight.ensures c.if-b-eq0.true

pub overflow_cast-i : goal.overflow_cast-i
overflow_cast-i c = omega (arith, c.type_inv.bytes (c.args.at + 1))

pub overflow_mul-result : goal.overflow_mul-result
overflow_mul-result c =
    let a = c.args in
    omega (arith, leaf_weight_most (a.depth - 1 - get_or a.bytes.now (a.at + 1) 0) (omega (arith, c.requires.1)), c.leaf_weight-then-i-depth-2.ensures)

pub overflow_add-result-then-i-depth-2 : goal.overflow_add-result-then-i-depth-2
overflow_add-result-then-i-depth-2 c =
    let a = c.args in
    omega (arith, leaf_weight_most a.depth c.requires.1, c.leaf_weight-then-i-depth.ensures, leaf_weight_most (a.depth - 1 - get_or a.bytes.now (a.at + 1) 0) (omega (arith, c.requires.1)), c.leaf_weight-then-i-depth-2.ensures)

pub returns-then-i-depth : goal.returns-then-i-depth
returns-then-i-depth c = λ n h.
    let a = c.args in
    let i : a.at + 1 < length a.bytes.now = omega (arith, c.if-bytes-at-gt1.true) in
    is_var n _ _ _ c.requires.0 h c.leaf_weight-then-i-depth.ensures c.leaf_weight-then-i-depth-2.ensures c.if-b-eq3.true i c.if-i-depth.true

pub returns : goal.returns
returns c = λ n h.
    let lt = c.requires.0 in
    c.nothing.ensures
    ∙ elim c.if-b-eq3.branch [
      | then-b-eq3+then-bytes-at-gt1+else-i-depth w ↦ free_var n _ _ _ lt h w.if-b-eq3.true (omega (arith, w.if-bytes-at-gt1.true)) w.if-i-depth.false
      | then-b-eq3+else-bytes-at-gt1 w ↦ cut n _ _ _ lt h w.if-b-eq3.true (omega (arith, w.if-bytes-at-gt1.false))
      | else-b-eq3 w ↦ other n _ _ _ lt h c.if-b-eq0.false c.requires.2 c.requires.3 w.if-b-eq3.false
    ]

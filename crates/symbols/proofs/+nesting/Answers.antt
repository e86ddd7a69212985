-- `symbols::nesting` meets its contract: the operands of a symbol. Assumes nothing.
use mathlib.Core.List.{◌++◌}
use Prim.Native.Nat.{◌-◌, ◌<◌, ◌≤◌}
use lib.ListN.{get_or}
use Rattle.grammar.specs.Postfix.{postfix}
use native.Mathlib.Omega.{arith}
use Rattle.symbols.proofs.Symbols.{has_symbol, right_stands, left_stands, left_less, only_stands, deep_parts, deep_two, deep_body, deep_abs, deep_few, deep_operand, deep_not, deep_none}
use Rattle.symbols.proofs.+nesting.Goals as goal

pub overflow_sub-p : goal.overflow_sub-p
overflow_sub-p t c = has_symbol _ _ _ _ c.requires.stands c.requires.within

pub bounds-post-p : goal.bounds-post-p
bounds-post-p t c = omega (arith, has_symbol _ _ _ _ c.requires.stands c.requires.within, c.requires.within)

pub overflow_sub-p-in-4 : goal.overflow_sub-p-in-4
overflow_sub-p-in-4 t c = has_symbol _ _ _ _ c.requires.stands c.requires.within

pub nesting-b-requires : goal.nesting-b-requires
nesting-b-requires t c =
    let q = c.requires in
    let b = deep_body q.e q.xs c.args.post.now c.args.p q.stands q.within c.in-4.is in
    (omega (arith, has_symbol q.e q.xs c.args.post.now c.args.p q.stands q.within, c.decreases), record { e = b.a; xs = q.xs; stands = only_stands q.e q.xs c.args.post.now c.args.p q.stands q.within b; within = omega (arith, q.within); few = omega (arith, q.few) })

pub overflow_add-result : goal.overflow_add-result
overflow_add-result t c =
    let q = c.requires in
    let b = deep_body q.e q.xs c.args.post.now c.args.p q.stands q.within c.in-4.is in
    omega (arith, deep_few q.e q.xs c.args.post.now c.args.p q.stands q.within c.in-4.is _ _ (c.nesting-b.ensures b.a q.xs (only_stands q.e q.xs c.args.post.now c.args.p q.stands q.within b)), q.few)

pub returns-in-4 : goal.returns-in-4
returns-in-4 t c = λ e xs h.
    let w = c.requires.within in
    let b = deep_body e xs c.args.post.now c.args.p h w c.in-4.is in
    deep_abs e xs c.args.post.now c.args.p h w c.in-4.is _ _ (c.nesting-b.ensures b.a xs (only_stands e xs c.args.post.now c.args.p h w b))

pub overflow_sub-p-in-5 : goal.overflow_sub-p-in-5
overflow_sub-p-in-5 t c = has_symbol _ _ _ _ c.requires.stands c.requires.within

pub nesting-requires : goal.nesting-requires
nesting-requires t c =
    let q = c.requires in
    let b = deep_operand q.e q.xs c.args.post.now c.args.p q.stands q.within c.in-5.is in
    (omega (arith, has_symbol q.e q.xs c.args.post.now c.args.p q.stands q.within, c.decreases), record { e = b.a; xs = q.xs; stands = only_stands q.e q.xs c.args.post.now c.args.p q.stands q.within b; within = omega (arith, q.within); few = omega (arith, q.few) })

pub returns-in-5 : goal.returns-in-5
returns-in-5 t c = λ e xs h.
    let w = c.requires.within in
    let b = deep_operand e xs c.args.post.now c.args.p h w c.in-5.is in
    deep_not e xs c.args.post.now c.args.p h w c.in-5.is _ _ (c.nesting.ensures b.a xs (only_stands e xs c.args.post.now c.args.p h w b))

pub overflow_sub-p-in-0 : goal.overflow_sub-p-in-0
overflow_sub-p-in-0 t c = has_symbol _ _ _ _ c.requires.stands c.requires.within

pub nesting-a-requires : goal.nesting-a-requires
nesting-a-requires t c =
    let q = c.requires in
    let two : get_or c.args.post.now (c.args.p - 1) 0 < 4 = grind arith in
    let b = deep_parts q.e q.xs c.args.post.now c.args.p q.stands q.within two in
    (omega (arith, has_symbol q.e q.xs c.args.post.now c.args.p q.stands q.within, c.decreases), record { e = b.a; xs = q.xs ++ postfix b.f; stands = right_stands q.e q.xs c.args.post.now c.args.p q.stands q.within b; within = omega (arith, q.within); few = omega (arith, q.few) })

pub nesting-f-requires : goal.nesting-f-requires
nesting-f-requires t c =
    let q = c.requires in
    let two : get_or c.args.post.now (c.args.p - 1) 0 < 4 = grind arith in
    let b = deep_parts q.e q.xs c.args.post.now c.args.p q.stands q.within two in
    let x = c.nesting-a.ensures b.a (q.xs ++ postfix b.f) (right_stands q.e q.xs c.args.post.now c.args.p q.stands q.within b) in
    let l = left_less q.e q.xs c.args.post.now c.args.p q.stands q.within b _ x.begins in
    (omega (arith, l, c.decreases), record { e = b.f; xs = q.xs; stands = left_stands q.e q.xs c.args.post.now c.args.p q.stands q.within b _ x.begins; within = omega (arith, l, q.within); few = omega (arith, l, q.few) })

pub returns-in-0 : goal.returns-in-0
returns-in-0 t c =
    let two : get_or c.args.post.now (c.args.p - 1) 0 < 4 = grind arith in
    λ e xs h.
    let w = c.requires.within in
    let b = deep_parts e xs c.args.post.now c.args.p h w two in
    let x = c.nesting-a.ensures b.a (xs ++ postfix b.f) (right_stands e xs c.args.post.now c.args.p h w b) in
    let y = c.nesting-f.ensures b.f xs (left_stands e xs c.args.post.now c.args.p h w b _ x.begins) in
    deep_two e xs c.args.post.now c.args.p h w two _ _ _ _ _ x y (grind arith)

pub overflow_sub-result : goal.overflow_sub-result
overflow_sub-result t c = has_symbol _ _ _ _ c.requires.stands c.requires.within

pub returns-in_default : goal.returns-in_default
returns-in_default t c =
    let none : 6 ≤ get_or c.args.post.now (c.args.p - 1) 0 = grind arith in
    λ e xs h. deep_none e xs c.args.post.now c.args.p h c.requires.within none

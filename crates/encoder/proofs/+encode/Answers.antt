-- `encoder::encode` meets its contract: the operands before their symbol, from the end. Assumes nothing.
use native.Mathlib.Omega.{arith}
use Prim.Native.Nat.{◌-◌, ◌<◌, ◌≤◌}
use lib.ListN.{get_or}
use Rattle.encoder.proofs.Writing.{the_place, two_parts, right_at, left_at, left_before, lead_asks, two_written, one_part, only_at, lead_asks_one, one_written, lead_asks_none, none_written}
use Rattle.encoder.proofs.+encode.Goals as goal

pub overflow_sub-s : goal.overflow_sub-s
overflow_sub-s t c = the_place _ _ _ _ _ _ c.requires.is

pub bounds-post-p : goal.bounds-post-p
bounds-post-p t c = omega (arith, the_place _ _ _ _ _ _ c.requires.is, c.requires.is.within)

pub overflow_sub-p : goal.overflow_sub-p
overflow_sub-p t c = the_place _ _ _ _ _ _ c.requires.is

pub encode-a-requires : goal.encode-a-requires
encode-a-requires t c =
    let q = c.requires.is in
    let two : get_or c.args.post.now (c.args.p - 1) 0 < 4 = grind arith in
    (omega (arith, the_place _ _ _ _ _ _ q, c.decreases), record { e = (two_parts _ _ _ _ _ _ q two).a; xs = _; is = right_at _ _ _ _ _ _ q two })

pub encode-f-requires : goal.encode-f-requires
encode-f-requires t c =
    let q = c.requires.is in
    let two : get_or c.args.post.now (c.args.p - 1) 0 < 4 = grind arith in
    let g = c.encode-a.ensures _ _ (right_at _ _ _ _ _ _ q two) in
    (omega (arith, left_before _ _ _ _ _ _ q two _ _ _ c.encode-a.auto.out g, c.decreases), record { e = (two_parts _ _ _ _ _ _ q two).f; xs = c.requires.xs; is = left_at _ _ _ _ _ _ q two _ _ _ c.encode-a.auto.out g })

pub put_lead-at-requires : goal.put_lead-at-requires
put_lead-at-requires t c =
    let q = c.requires.is in
    let two : get_or c.args.post.now (c.args.p - 1) 0 < 4 = grind arith in
    let g = c.encode-a.ensures _ _ (right_at _ _ _ _ _ _ q two) in
    let h = c.encode-f.ensures _ _ (left_at _ _ _ _ _ _ q two _ _ _ c.encode-a.auto.out g) in
    lead_asks _ _ _ _ _ _ q two _ _ _ c.encode-a.auto.out g _ _ _ c.encode-f.auto.out h

pub returns-in-0 : goal.returns-in-0
returns-in-0 t c =
    let two : get_or c.args.post.now (c.args.p - 1) 0 < 4 = grind arith in
    λ e xs q.
    let g = c.encode-a.ensures _ _ (right_at _ _ _ _ _ _ q two) in
    let h = c.encode-f.ensures _ _ (left_at _ _ _ _ _ _ q two _ _ _ c.encode-a.auto.out g) in
    two_written _ _ _ _ _ _ q two _ _ _ c.encode-a.auto.out g _ _ _ c.encode-f.auto.out h _ _ c.put_lead-at.ensures

pub overflow_sub-p-in-4 : goal.overflow_sub-p-in-4
overflow_sub-p-in-4 t c = the_place _ _ _ _ _ _ c.requires.is

pub encode-b-requires : goal.encode-b-requires
encode-b-requires t c =
    let q = c.requires.is in
    let one : 4 ≤ get_or c.args.post.now (c.args.p - 1) 0 = grind arith in
    let below : get_or c.args.post.now (c.args.p - 1) 0 < 6 = grind arith in
    (omega (arith, the_place _ _ _ _ _ _ q, c.decreases), record { e = (one_part _ _ _ _ _ _ q one below).a; xs = _; is = only_at _ _ _ _ _ _ q one below })

pub put_lead-at-requires-in-4 : goal.put_lead-at-requires-in-4
put_lead-at-requires-in-4 t c =
    let q = c.requires.is in
    let one : 4 ≤ get_or c.args.post.now (c.args.p - 1) 0 = grind arith in
    let below : get_or c.args.post.now (c.args.p - 1) 0 < 6 = grind arith in
    lead_asks_one _ _ _ _ _ _ q one below _ _ _ c.encode-b.auto.out (c.encode-b.ensures _ _ (only_at _ _ _ _ _ _ q one below))

pub returns-in-4 : goal.returns-in-4
returns-in-4 t c =
    let one : 4 ≤ get_or c.args.post.now (c.args.p - 1) 0 = grind arith in
    let below : get_or c.args.post.now (c.args.p - 1) 0 < 6 = grind arith in
    λ e xs q.
    one_written _ _ _ _ _ _ q one below _ _ _ c.encode-b.auto.out (c.encode-b.ensures _ _ (only_at _ _ _ _ _ _ q one below)) _ _ c.put_lead-at-in-4.ensures

pub put_lead-at-requires-in_default : goal.put_lead-at-requires-in_default
put_lead-at-requires-in_default t c =
    let none : 6 ≤ get_or c.args.post.now (c.args.p - 1) 0 = grind arith in
    lead_asks_none _ _ _ _ _ _ c.requires.is none

pub overflow_sub-result : goal.overflow_sub-result
overflow_sub-result t c = the_place _ _ _ _ _ _ c.requires.is

pub returns-in_default : goal.returns-in_default
returns-in_default t c =
    let none : 6 ≤ get_or c.args.post.now (c.args.p - 1) 0 = grind arith in
    λ e xs q. none_written _ _ _ _ _ _ q none _ _ c.put_lead-at-in_default.ensures

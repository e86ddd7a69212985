-- `bracket::build` meets its contract, by the term's first byte. Assumes nothing.
use native.Mathlib.Omega.{arith}
use lib.ListN.{length-set}
use Rattle.calculus.specs.Abstraction.{translate}
use Rattle.bracket.proofs.Terms.{begins, is_app, is_abs, is_var, unique}
use Rattle.bracket.proofs.Building.{run_pos, app_run, abs_run, body_apart, function_end, abstraction_end, build_leaf, build_var, build_app, build_abs}
use Rattle.bracket.proofs.+build.Goals as goal

pub bounds-rule-at : goal.bounds-rule-at
bounds-rule-at t c = begins _ _ _ c.requires.stands

pub bounds-stack-w : goal.bounds-stack-w
bounds-stack-w t c = let p = c.requires in omega (arith, p.room, p.space, run_pos p.read)

pub overflow_add-result : goal.overflow_add-result
overflow_add-result t c = omega (arith, begins _ _ _ c.requires.stands)

pub returns-in-0 : goal.returns-in-0
returns-in-0 t c = λ x h. let p = c.requires in build_leaf _ _ _ _ x h (omega (arith, p.room, p.space, run_pos p.read)) c.in-0.is

pub build-f-requires : goal.build-f-requires
build-f-requires t c =
    let p = c.requires in
    let k = is_app _ _ _ p.stands c.in-1.is in (
      omega (arith, begins _ _ _ p.stands),
      record {
        read = k.function;
        stands = k.first;
        room = omega (arith, p.room, app_run k);
        space = omega (arith, p.space, app_run k);
        short = p.short;
      },
    )

pub overflow_sub-stack : goal.overflow_sub-stack
overflow_sub-stack t c = omega (arith, function_end c.requires c.in-1.is c.build-f.ensures)

pub overflow_sub-stack-in-1 : goal.overflow_sub-stack-in-1
overflow_sub-stack-in-1 t c = omega (arith, function_end c.requires c.in-1.is c.build-f.ensures)

pub overflow_mul-stack : goal.overflow_mul-stack
overflow_mul-stack t c = omega (arith, function_end c.requires c.in-1.is c.build-f.ensures)

pub overflow_cast-stack : goal.overflow_cast-stack
overflow_cast-stack t c = omega (arith, function_end c.requires c.in-1.is c.build-f.ensures)

pub bounds-stack-w-in-1 : goal.bounds-stack-w-in-1
bounds-stack-w-in-1 t c =
    let p = c.requires in
    omega (arith, p.room, p.space, run_pos p.read, c.build-f.auto.stack)

pub build-requires : goal.build-requires
build-requires t c =
    let p = c.requires in
    let k = is_app _ _ _ p.stands c.in-1.is in
    let f = c.build-f.ensures k.function k.first in (
      omega (arith, f.read, begins _ _ _ p.stands),
      record {
        read = k.argument;
        stands = rw f.read k.second;
        room = omega (arith, p.room, app_run k, f.ends);
        space = simp length-set (omega (arith, p.space, app_run k, f.same_length));
        short = simp length-set (omega (arith, p.short, f.same_length));
      },
    )

pub returns-in-1 : goal.returns-in-1
returns-in-1 t c = λ x h.
    let p = c.requires in
    build_app _ _ _ _ x h _ _ _ _ _ _ (omega (arith, p.room, p.space, run_pos p.read)) c.in-1.is c.build-f.ensures c.build.ensures

pub build-body-requires : goal.build-body-requires
build-body-requires t c =
    let p = c.requires in
    let k = is_abs _ _ _ p.stands c.in-2.is in (
      omega (arith, begins _ _ _ p.stands),
      record {
        read = k.body;
        stands = k.inner;
        room = body_apart k _ _ p.room;
        space = body_apart k _ _ p.space;
        short = p.short;
      },
    )

pub bracket_at-e-requires : goal.bracket_at-e-requires
bracket_at-e-requires t c =
    let p = c.requires in
    let k = is_abs _ _ _ p.stands c.in-2.is in
    let a = c.build-body.ensures k.body k.inner in
    record {
      body = translate k.body;
      stands = a.stands;
      apart = body_apart k _ _ p.room;
      room = omega (arith, p.space, (abs_run k).1, a.same_length);
      short = omega (arith, p.short, a.same_length);
    }

pub copy_within-requires-clause-start_le_end : goal.copy_within-requires-clause-start_le_end
copy_within-requires-clause-start_le_end t c = omega (arith, abstraction_end c.requires c.in-2.is c.build-body.ensures c.bracket_at-e.ensures)

pub copy_within-requires-clause-in_bounds : goal.copy_within-requires-clause-in_bounds
copy_within-requires-clause-in_bounds t c = omega (arith, abstraction_end c.requires c.in-2.is c.build-body.ensures c.bracket_at-e.ensures)

pub copy_within-requires-clause-dest_in_bounds : goal.copy_within-requires-clause-dest_in_bounds
copy_within-requires-clause-dest_in_bounds t c = (abstraction_end c.requires c.in-2.is c.build-body.ensures c.bracket_at-e.ensures).2

pub overflow_sub-result : goal.overflow_sub-result
overflow_sub-result t c = omega (arith, abstraction_end c.requires c.in-2.is c.build-body.ensures c.bracket_at-e.ensures)

pub returns-in-2 : goal.returns-in-2
returns-in-2 t c = λ x h.
    let p = c.requires in
    let e = unique _ _ x p.read h p.stands in
    build_abs _ _ _ _ x h _ _ _ _ _ _ _ (rw e p.room) (rw e p.space) c.in-2.is c.build-body.ensures c.bracket_at-e.ensures c.copy_within.ensures.after

pub bounds-rule-at-in_default : goal.bounds-rule-at-in_default
bounds-rule-at-in_default t c =
    (is_var _ _ _ c.requires.stands (omega arith) (omega arith) (omega arith)).within

pub bounds-stack-w-in_default : goal.bounds-stack-w-in_default
bounds-stack-w-in_default t c = let p = c.requires in omega (arith, p.room, p.space, run_pos p.read)

pub returns-in_default : goal.returns-in_default
returns-in_default t c = λ x h.
    let p = c.requires in
    rw c.from.ensures (build_var _ _ _ _ x h (omega (arith, p.room, p.space, run_pos p.read)) (omega arith) (omega arith) (omega arith))

-- `bracket::bracket_at` meets its contract, by the first word of the term's run. Assumes nothing.
use mathlib.Core.Path.{ap, ◌∙◌}
use native.Mathlib.Omega.{arith}
use lib.ListN.{length}
use Rattle.bracket.proofs.Runs.{begins, is_app, app_room, app_apart, argument_end, unwritten, bracket_leaf, bracket_nearest, bracket_other, bracket_app}
use Rattle.bracket.proofs.+bracket_at.Goals as goal

pub bounds-stack-p : goal.bounds-stack-p
bounds-stack-p t c = begins _ _ _ c.requires.stands

pub put-requires : goal.put-requires
put-requires t c =
    let p = c.requires in
    omega (arith, p.room, ap length (bracket_leaf _ _ _ p.stands c.if-x-eq0.true))

pub returns-then-x-eq0 : goal.returns-then-x-eq0
returns-then-x-eq0 t c = λ x h l. rw (bracket_leaf _ _ x h c.if-x-eq0.true) c.put.ensures

pub put-requires-then-x-eq1 : goal.put-requires-then-x-eq1
put-requires-then-x-eq1 t c =
    let p = c.requires in
    omega (arith, p.room, ap length (bracket_nearest _ _ _ p.stands c.if-x-eq1.true))

pub returns-then-x-eq1 : goal.returns-then-x-eq1
returns-then-x-eq1 t c = λ x h l.
    rw (bracket_nearest _ _ x h c.if-x-eq1.true) c.put-then-x-eq1.ensures

pub put-requires-then-x-eq1-2 : goal.put-requires-then-x-eq1-2
put-requires-then-x-eq1-2 t c =
    let p = c.requires in
    omega (arith, p.room, ap length (bracket_other _ _ _ p.stands c.if-x-eq1.false c.if-x-eq1-2.true))

pub returns-then-x-eq1-2 : goal.returns-then-x-eq1-2
returns-then-x-eq1-2 t c = λ x h l.
    rw (bracket_other _ _ x h c.if-x-eq1.false c.if-x-eq1-2.true) c.put-then-x-eq1-2.ensures

pub bracket_at-e-requires : goal.bracket_at-e-requires
bracket_at-e-requires t c =
    let p = c.requires in
    let k = is_app _ _ _ p.stands c.if-x-eq0.false c.if-x-eq1-2.false in (
      omega (arith, begins _ _ _ p.stands),
      record {
        body = k.argument;
        stands = k.second;
        apart = app_apart k _ p.apart;
        room = omega (arith, p.room, app_room k);
        short = p.short;
      },
    )

pub overflow_sub-e : goal.overflow_sub-e
overflow_sub-e t c = omega (arith, argument_end c.requires c.if-x-eq0.false c.if-x-eq1-2.false c.bracket_at-e.ensures)

pub overflow_sub-e-2 : goal.overflow_sub-e-2
overflow_sub-e-2 t c = omega (arith, argument_end c.requires c.if-x-eq0.false c.if-x-eq1-2.false c.bracket_at-e.ensures)

pub overflow_mul-e : goal.overflow_mul-e
overflow_mul-e t c = omega (arith, argument_end c.requires c.if-x-eq0.false c.if-x-eq1-2.false c.bracket_at-e.ensures)

pub overflow_cast-e : goal.overflow_cast-e
overflow_cast-e t c = omega (arith, argument_end c.requires c.if-x-eq0.false c.if-x-eq1-2.false c.bracket_at-e.ensures)

pub put-requires-2 : goal.put-requires-2
put-requires-2 t c =
    let p = c.requires in
    let k = is_app _ _ _ p.stands c.if-x-eq0.false c.if-x-eq1-2.false in
    omega (arith, p.room, app_room k, c.bracket_at-e.auto.stack)

pub bracket_at-requires : goal.bracket_at-requires
bracket_at-requires t c =
    let p = c.requires in
    let k = is_app _ _ _ p.stands c.if-x-eq0.false c.if-x-eq1-2.false in
    let same = c.put-2.auto.stack ∙ c.bracket_at-e.auto.stack in
    let v = c.bracket_at-e.ensures k.argument k.second (app_apart k _ p.apart) in (
      omega (arith, begins _ _ _ p.stands, same),
      record {
        body = k.function;
        stands = unwritten _ _ k.first (omega (arith, p.apart, k.long)) v c.put-2.ensures;
        apart = omega (arith, p.apart, k.long, v.end);
        room = omega (arith, p.room, app_room k, v.end, same);
        short = omega (arith, p.short, same);
      },
    )

pub returns : goal.returns
returns t c = λ x h l.
    bracket_app _ _ x h _ _ _ _ _ _ _ l c.if-x-eq0.false c.if-x-eq1-2.false c.bracket_at-e.ensures c.put-2.ensures c.bracket_at.ensures

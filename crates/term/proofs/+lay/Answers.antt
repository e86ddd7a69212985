-- `term::lay` meets its contract, by the first word of the tree's run. Assumes nothing.
use native.Mathlib.Omega.{arith}
use Rattle.bracket.proofs.Runs.{begins}
use Rattle.table.proofs.Making.{leaf_words}
use Rattle.term.proofs.Laying.{is_stem_lem, is_fork, stem_next, fork_next, next_ready, full_ready, lay_leaf, stem_stops, lay_stem, second_stops, first_stops, lay_fork}
use Rattle.term.proofs.+lay.Goals as goal

pub offset_bounds-stack-p : goal.offset_bounds-stack-p
offset_bounds-stack-p t c = omega (arith, begins _ _ _ c.requires.0.stands)

pub bounds-stack-p : goal.bounds-stack-p
bounds-stack-p t c = begins _ _ _ c.requires.0.stands

pub make-requires : goal.make-requires
make-requires t c = (c.requires.1, leaf_words)

pub returns-then-x-eq0 : goal.returns-then-x-eq0
returns-then-x-eq0 t c =
    (λ x h. lay_leaf _ _ _ _ x h _ _ c.if-x-eq0.true c.make.ensures.0, c.make.ensures.1)

pub lay-requires : goal.lay-requires
lay-requires t c =
    let k = is_stem_lem _ _ _ c.requires.0.stands c.if-x-eq2.true in
    (omega (arith, begins _ _ _ k.only), (record { tree = k.branch; stands = k.only }, c.requires.1))

pub returns-in_err-only : goal.returns-in_err-only
returns-in_err-only t c =
    rw c.from_residual.ensures (λ x h. stem_stops _ _ _ _ x h _ c.if-x-eq2.true c.in_err-only.ensures.0, full_ready _ _ _)

pub overflow_add-only : goal.overflow_add-only
overflow_add-only t c =
    let k = is_stem_lem _ _ _ c.requires.0.stands c.if-x-eq2.true in
    let e = c.in_ok-only.ensures in
    let o = stem_next c.requires.1 k.branch _ _ _ (e.0 k.branch k.only) e.1 in
    omega (arith, o.1.first_in, o.0.fine.within, o.0.fine.short)

pub make-requires-then-x-eq2 : goal.make-requires-then-x-eq2
make-requires-then-x-eq2 t c =
    let k = is_stem_lem _ _ _ c.requires.0.stands c.if-x-eq2.true in
    let e = c.in_ok-only.ensures in
    stem_next c.requires.1 k.branch _ _ _ (e.0 k.branch k.only) e.1

pub returns-then-x-eq2 : goal.returns-then-x-eq2
returns-then-x-eq2 t c =
    let m = c.make-then-x-eq2.ensures in
    (λ x h. lay_stem _ _ _ _ x h _ _ c.if-x-eq2.true c.in_ok-only.ensures.0 _ _ m.0, m.1)

pub lay-requires-2 : goal.lay-requires-2
lay-requires-2 t c =
    let k = is_fork _ _ _ c.requires.0.stands c.if-x-eq0.false c.if-x-eq2.false in
    (omega (arith, begins _ _ _ c.requires.0.stands), (record { tree = k.further; stands = k.second }, c.requires.1))

pub returns-in_err-b : goal.returns-in_err-b
returns-in_err-b t c =
    rw c.from_residual-in_err-b.ensures (λ x h. second_stops _ _ _ _ x h c.if-x-eq0.false c.if-x-eq2.false _ c.in_err-b.ensures.0, full_ready _ _ _)

pub lay-requires-3 : goal.lay-requires-3
lay-requires-3 t c =
    let k = is_fork _ _ _ c.requires.0.stands c.if-x-eq0.false c.if-x-eq2.false in
    (omega (arith, begins _ _ _ k.first), (record { tree = k.branch; stands = k.first }, next_ready _ _ _ _ c.in_ok-b.ensures.1))

pub returns-in_err-a : goal.returns-in_err-a
returns-in_err-a t c =
    rw c.from_residual-in_err-a.ensures
    (λ x h. first_stops _ _ _ _ x h c.if-x-eq0.false c.if-x-eq2.false _ _ c.in_ok-b.ensures.0 _ c.in_err-a.ensures.0, full_ready _ _ _)

pub overflow_add-a : goal.overflow_add-a
overflow_add-a t c =
    let k = is_fork _ _ _ c.requires.0.stands c.if-x-eq0.false c.if-x-eq2.false in
    let e = c.in_ok-a.ensures in
    let o = fork_next c.requires.1 k.branch k.further _ _ _ _ _ (c.in_ok-b.ensures.0 k.further k.second) (e.0 k.branch k.first) e.1 in
    omega (arith, o.1.first_in, o.0.fine.within, o.0.fine.short)

pub overflow_add-b : goal.overflow_add-b
overflow_add-b t c =
    let k = is_fork _ _ _ c.requires.0.stands c.if-x-eq0.false c.if-x-eq2.false in
    let e = c.in_ok-a.ensures in
    let o = fork_next c.requires.1 k.branch k.further _ _ _ _ _ (c.in_ok-b.ensures.0 k.further k.second) (e.0 k.branch k.first) e.1 in
    omega (arith, o.1.second_in, o.0.fine.within, o.0.fine.short)

pub make-requires-2 : goal.make-requires-2
make-requires-2 t c =
    let k = is_fork _ _ _ c.requires.0.stands c.if-x-eq0.false c.if-x-eq2.false in
    let e = c.in_ok-a.ensures in
    fork_next c.requires.1 k.branch k.further _ _ _ _ _ (c.in_ok-b.ensures.0 k.further k.second) (e.0 k.branch k.first) e.1

pub returns : goal.returns
returns t c =
    let m = c.make-2.ensures in
    (λ x h. lay_fork _ _ _ _ x h c.if-x-eq0.false c.if-x-eq2.false _ _ c.in_ok-b.ensures.0 _ _ c.in_ok-a.ensures.0 _ _ m.0, m.1)

-- `fill::fill` meets its contract. The loop keeps: the nodes below i are sound and in the index. Assumes nothing.
use Prim.Native.Nat.{ℕ, ◌<◌}
use mathlib.Core.Path.{◌≡◌, refl, sym, ◌∙◌, subst}
use native.Mathlib.Omega.{arith}
use lib.ListN.{length, length-set}
use Rattle.table.proofs.Words.{unbroken}
use Rattle.index.specs.Index.{Ready}
use Rattle.index.proofs.Ready.{ready_none}
use Rattle.index.proofs.Making.{place_in, ready_next}
use Rattle.fill.proofs.Filled.{filled_broken, filled_equal}
use Rattle.fill.proofs.fill.Goals as goal

pub loop-i-init : goal.loop-i-init
loop-i-init c = (ready_none c.requires.1 c.requires.0, refl)

pub shape_of-index-then-is_broken : goal.shape_of-index-then-is_broken
shape_of-index-then-is_broken c = c.loop-i.invariant.1

pub returns-then-is_broken : goal.returns-then-is_broken
returns-then-is_broken c =
    let a = c.args in
    filled_broken a.table.now c.loop-i.i a.used a.slots c.loop-i.index _ _ (omega arith) c.word-a.ensures.0 c.word-b.ensures.0 (sym c.if-is_broken.true ∙ c.is_broken.ensures)

pub search-requires : goal.search-requires
search-requires c =
    let l = c.loop-i in
    let o = unbroken l.i _ _ (sym c.is_broken.ensures ∙ c.if-is_broken.false) in
    (l.invariant.0, omega (arith, c.word-a.ensures.1), omega (arith, c.word-b.ensures.1), λ e. omega (arith, e, o.no_gap e))

pub shape_of-index-in_default : goal.shape_of-index-in_default
shape_of-index-in_default c = c.loop-i.invariant.1

pub returns-in_default : goal.returns-in_default
returns-in_default c =
    let a = c.args in
    filled_equal a.table.now c.loop-i.i a.used a.slots c.loop-i.index _ _ (omega arith) c.word-a.ensures.0 c.word-b.ensures.0 _ _ c.search.ensures c.in_default.is

pub offset_bounds-index-p : goal.offset_bounds-index-p
offset_bounds-index-p c =
    let a = c.args in
    let h : c.in-Place.p < length c.loop-i.index = place_in a.table.now c.loop-i.i a.slots c.loop-i.index _ _ _ _ c.loop-i.invariant.0 c.search.ensures c.in-Place.is in
    let l : length c.loop-i.index ≡ length a.index.now = c.loop-i.invariant.1 in
    omega arith

pub bounds-index-p : goal.bounds-index-p
bounds-index-p c =
    let a = c.args in
    place_in a.table.now c.loop-i.i a.slots c.loop-i.index _ _ _ _ c.loop-i.invariant.0 c.search.ensures c.in-Place.is

pub loop-i-preserved : goal.loop-i-preserved
loop-i-preserved c =
    let a = c.args in (
      ready_next a.table.now c.loop-i.i a.slots c.loop-i.index _ _ _ _ c.loop-i.invariant.0 c.search.ensures c.in-Place.is (omega arith) c.word-a.ensures.0 c.word-b.ensures.0 (sym c.if-is_broken.false ∙ c.is_broken.ensures),
      simp length-set c.loop-i.invariant.1,
    )

pub shape_of-index : goal.shape_of-index
shape_of-index c = c.loop-i.invariant.1

pub returns : goal.returns
returns c =
    let a = c.args in
    let e : c.loop-i.i ≡ a.used = omega arith in
    let x = subst (λ (k : ℕ). Ready a.table.now k a.slots c.loop-i.index) e c.loop-i.invariant.0 in
    (sym x.fine.unbroken, λ q. x)

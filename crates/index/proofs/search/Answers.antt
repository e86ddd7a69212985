-- `index::search` meets its contract. Both loops keep what the entries from the home on up to the next one say: none is empty and none is the node. Assumes nothing.
use Prim.Native.Nat.{◌+◌}
use mathlib.Core.Path.{◌≡◌, refl, sym, ◌∙◌}
use native.Mathlib.Omega.{arith}
use Rattle.index.proofs.Indexing.{passed_none, passed_entry, sought_first, sought_leaf, sought_place, sought_node}
use Rattle.index.proofs.search.Goals as goal

pub returns-then-used-eq0 : goal.returns-then-used-eq0
returns-then-used-eq0 c =
    let a = c.args in
    sought_first a.table.now a.used a.slots a.index.now a.a a.b c.requires.0 c.if-a-eq0.true (c.requires.3 c.if-a-eq0.true) c.if-used-eq0.true

pub returns-then-a-eq0 : goal.returns-then-a-eq0
returns-then-a-eq0 c =
    let a = c.args in
    sought_leaf a.table.now a.used a.slots a.index.now a.a a.b c.requires.0 c.if-a-eq0.true (c.requires.3 c.if-a-eq0.true) (omega (arith, c.if-used-eq0.false))

pub blocks-2-init : goal.blocks-2-init
blocks-2-init c = let a = c.args in passed_none a.table.now a.used a.slots a.index.now a.a a.b _ c.home-from.ensures.0 c.home-from.ensures.1

pub loop-at-init : goal.loop-at-init
loop-at-init c = c.blocks-2.invariant

pub blocks-2-smaller : goal.blocks-2-smaller
blocks-2-smaller c = omega arith

pub blocks-2-preserved : goal.blocks-2-preserved
blocks-2-preserved c =
    let e : c.loop-at.at ≡ c.blocks-2.from + 8 = omega arith in
    rw e at c.loop-at.invariant

pub bounds-index-at : goal.bounds-index-at
bounds-index-at c = omega arith

pub overflow_cast-n : goal.overflow_cast-n
overflow_cast-n c = omega (arith, c.type_inv.index c.loop-at.at)

pub has_words-requires : goal.has_words-requires
has_words-requires c =
    omega (arith, c.requires.0.indexed.inside c.loop-at.at (omega arith))

pub loop-at-preserved : goal.loop-at-preserved
loop-at-preserved c =
    let a = c.args in
    passed_entry a.table.now a.used a.slots a.index.now a.a a.b c.loop-at.at _ refl c.requires.0.indexed c.loop-at.invariant (omega arith) (sym c.if-has_words.false ∙ c.has_words.ensures)

pub returns-then-n-eq0 : goal.returns-then-n-eq0
returns-then-n-eq0 c =
    let a = c.args in
    sought_place a.table.now a.used a.slots a.index.now a.a a.b c.loop-at.at _ refl c.requires.0 c.if-a-eq0.false c.loop-at.invariant c.if-n-eq0.true

pub returns-then-has_words : goal.returns-then-has_words
returns-then-has_words c =
    let a = c.args in
    sought_node a.table.now a.used a.slots a.index.now a.a a.b c.loop-at.at _ refl c.requires.0 (omega arith) (sym c.if-has_words.true ∙ c.has_words.ensures)

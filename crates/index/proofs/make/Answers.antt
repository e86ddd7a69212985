-- `index::make` meets its contract: what the search says leads to each of its three answers. Assumes nothing.
use Prim.Native.Nat.{◌<◌}
use lib.ListN.{length}
use Rattle.index.proofs.Making.{place_in, got_found, got_new, got_full}
use borrow.Author.Rules.{rules}
use Rattle.index.proofs.make.Goals as goal

pub offset_bounds-index-p : goal.offset_bounds-index-p
offset_bounds-index-p c =
    let a = c.args in
    let h : c.in-Place.p < length a.index.now = place_in a.table.now a.used a.slots a.index.now a.a a.b _ _ c.requires.0 c.search.ensures c.in-Place.is in
    search rules

pub bounds-index-p : goal.bounds-index-p
bounds-index-p c =
    let a = c.args in
    place_in a.table.now a.used a.slots a.index.now a.a a.b _ _ c.requires.0 c.search.ensures c.in-Place.is

pub returns-in-Node : goal.returns-in-Node
returns-in-Node c =
    let a = c.args in
    got_found a.table.now a.used a.slots a.index.now a.a a.b _ _ c.requires.0 c.search.ensures c.in-Node.is

pub returns-then-used-table : goal.returns-then-used-table
returns-then-used-table c =
    let a = c.args in
    got_new a.table.now a.used a.slots a.index.now a.a a.b _ _ c.requires.0 c.search.ensures c.in-Place.is c.requires.1 c.new_node.result _ c.if-used-table.true c.new_node.ensures

pub returns-else-used-table : goal.returns-else-used-table
returns-else-used-table c =
    let a = c.args in
    got_full a.table.now a.used a.slots a.index.now a.a a.b _ _ c.requires.0 c.search.ensures c.in-Place.is c.if-used-table.false

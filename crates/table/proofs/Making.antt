-- Laws of nodes wanted one at a time and of trees laid out. Assumes nothing.
use Prim.Native.Nat.{ℕ, ◌+◌, ◌≤◌, ◌<◌}
use mathlib.Core.Path.{◌≡◌, refl, sym, ap, ap₂, ◌∙◌, subst}
use mathlib.Core.Bool.{Bool, true, false, cond}
use mathlib.Core.Option.{Option, none, some}
use mathlib.Core.Logic.{◌↔◌}
use native.Mathlib.Omega.{arith}
use native.Mathlib.Numerals.{add-one}
use lib.ListN.{length}
use lib.Dec.{ltb}
use borrow.Author.Tests.{ltb-true, ltb-false, lt-ltb, le-ltb}
use Rattle.calculus.specs.Tree.{Tree, leaf, stem, fork, size}
use Rattle.table.specs.Nodes.{Table, Placed, Making, got, full, capacity, find, sound, Sound, branches, tree_at, new_node, or_new, make, and_then, lay}
use Rattle.table.specs.Claims.{Kept, Extends, Places, Has, Makes, Wants, Lacking, Filled, Unbroken}
use Rattle.table.specs.Claims.Makes.{found, made, no_place}
use Rattle.table.specs.Claims.Wants.{the_leaf, in_stem, the_stem, in_second, in_first, the_fork}
use Rattle.table.proofs.Words.{zero_one, finds, wrote, wrote_other, wrote_first, wrote_second, length_wrote, sound_wrote}
use Rattle.table.proofs.Trees.{extends_refl, extends_trans, kept_tree, same_branches, tree_node}

-- the next node changes no word but its own
pub new_extends : (t : Table) (a b : ℕ) → Extends t (new_node t a b).table
unfolding new_node
new_extends t a b =
    record {
      kept = record {
        up = omega arith;
        same_length = length_wrote t.words t.used a b;
        below = λ i h. wrote_other t.words t.used a b i (λ q. omega arith) (λ q. omega arith);
      };
      beyond = λ i h. wrote_other t.words t.used a b i (λ q. omega arith) (λ q. omega arith);
    }

-- what a wanted node comes to
pub make_case : (t : Table) (a b : ℕ) → Makes t a b (make t a b)
unfolding make or_new
make_case t a b = go (find t.words t.used a b) refl
  where
    at : find t.words t.used a b ≡ none → (z : Bool) → ltb t.used (capacity t.words) ≡ z → Makes t a b (cond z (got (new_node t a b)) (full t))
    at f true h = made f (ltb-true t.used (capacity t.words) h)
    at f false h = no_place f (ltb-false t.used (capacity t.words) h)

    go : (o : Option ℕ) → find t.words t.used a b ≡ o → Makes t a b (or_new t a b o)
    go none f = at f (ltb t.used (capacity t.words)) refl
    go (some i) f = found f

-- the three ways back
module _ (t : Table) (a b : ℕ) where
  pub make_found : {i : ℕ} → find t.words t.used a b ≡ some i → make t a b ≡ got (record { table = t; node = i })
  unfolding make or_new
  make_found f = rw f

  pub make_new : find t.words t.used a b ≡ none → t.used < capacity t.words → make t a b ≡ got (new_node t a b)
  unfolding make or_new
  make_new f h = rw (f, lt-ltb t.used (capacity t.words) h)

  pub make_full : find t.words t.used a b ≡ none → capacity t.words ≤ t.used → make t a b ≡ full t
  unfolding make or_new
  make_full f h = rw (f, le-ltb t.used (capacity t.words) h)

-- "8 comes only when a node not yet in the table is wanted and the table is full" ([8]): the table is the one in which it is wanted
pub record NoPlace (t : Table) (a b : ℕ) (z : Table) : Type 0 where
  pub same : z ≡ t
  pub absent : find t.words t.used a b ≡ none
  pub all_used : capacity t.words ≤ t.used

pub full_case : (t : Table) (a b : ℕ) {z : Table} → make t a b ≡ full z → NoPlace t a b z
full_case t a b {z} e = go (make_case t a b) e
  where
    go : {x : Making} → Makes t a b x → x ≡ full z → NoPlace t a b z
    go (found f) q = zero_one (cc)
    go (made f h) q = zero_one (cc)
    go (no_place f h) q = record { same = let r : t ≡ z = cc in sym r; absent = f; all_used = h }

-- a node that is got takes at most one new number
pub make_most : (t : Table) (a b : ℕ) {m : Placed} → make t a b ≡ got m → m.table.used ≤ t.used + 1
unfolding new_node
make_most t a b {m} e = go (make_case t a b) e
  where
    go : {x : Making} → Makes t a b x → x ≡ got m → m.table.used ≤ t.used + 1
    go (found {i} f) q = let r : record { table = t; node = i } ≡ m = cc in rw (← r) (omega arith)
    go (made f h) q = let r : new_node t a b ≡ m = cc in rw (← r) (omega arith)
    go (no_place f h) q = zero_one (cc)

-- the tree of the next node
module _ {t : Table} (s : Sound t) (a b : ℕ) (o : Unbroken t.used a b) where
  new_places : find t.words t.used a b ≡ none → t.used < capacity t.words → Places t (new_node t a b) (branches (tree_at t.words) a b)
  unfolding new_node
  new_places f h =
      let w = t.words in
      let u = t.used in
      let z = wrote w u a b in
      let l : length z ≡ length w = length_wrote w u a b in
      let g : sound z (u + 1) ≡ true = sound_wrote w u a b (omega arith) o f s.unbroken in
      let k = new_extends t a b in
      record {
        fine = record { short = omega (arith, s.short); within = omega arith; unbroken = g };
        extends = k;
        inside = omega arith;
        tree = tree_node z (u + 1) u g (omega arith)
            ∙ ap₂ (branches (tree_at z)) (wrote_first w u a b (omega arith)) (wrote_second w u a b (omega arith))
            ∙ same_branches (tree_at z) (tree_at w) u a b o (λ (j : ℕ) (h : j < u). kept_tree s k.kept j h);
      }

  found_places : {i : ℕ} → find t.words t.used a b ≡ some i → Places t (record { table = t; node = i }) (branches (tree_at t.words) a b)
  found_places {i} f =
      let x = finds t.words t.used a b i f in
      record {
        fine = s;
        extends = extends_refl t;
        inside = x.inside;
        tree = tree_node t.words t.used i s.unbroken x.inside ∙ ap₂ (branches (tree_at t.words)) x.first_is x.second_is;
      }

  -- a node that is got has the tree of its words
  pub make_places : {m : Placed} → make t a b ≡ got m → Places t m (branches (tree_at t.words) a b)
  make_places {m} e = go (make_case t a b) e
    where
      go : {x : Making} → Makes t a b x → x ≡ got m → Places t m (branches (tree_at t.words) a b)
      go (found {i} f) q = let r : record { table = t; node = i } ≡ m = cc in subst (λ (n : Placed). Places t n (branches (tree_at t.words) a b)) r (found_places f)
      go (made f h) q = let r : new_node t a b ≡ m = cc in subst (λ (n : Placed). Places t n (branches (tree_at t.words) a b)) r (new_places f h)
      go (no_place f h) q = zero_one (cc)

pub has : {t : Table} {m : Placed} {x : Tree} → Places t m x → Has m.table m.node x
has p = record { inside = p.inside; tree = p.tree }

-- old nodes keep their trees
pub stays : {t z : Table} {i : ℕ} {x : Tree} → Sound t → Kept t z → Has t i x → Has z i x
stays {i = i} s k h = record { inside = omega (arith, h.inside, k.up); tree = kept_tree s k i h.inside ∙ h.tree }

-- the words of a leaf, and of a stem and a fork of nodes in use
pub leaf_words : {u : ℕ} → Unbroken u 0 0
leaf_words = record { first_in = omega arith; second_in = omega arith; no_gap = λ q. q }

pub stem_words : {u p : ℕ} → p < u → Unbroken u (p + 1) 0
stem_words h = record { first_in = omega arith; second_in = omega arith; no_gap = λ q. refl }

pub fork_words : {u p q : ℕ} → p < u → q < u → Unbroken u (p + 1) (q + 1)
fork_words h k = record { first_in = omega arith; second_in = omega arith; no_gap = λ q. absurd (omega arith) }

-- a leaf, and a stem and a fork of nodes whose trees are known
module _ {t : Table} (s : Sound t) where
  of_tree : {m : Placed} {x y : Tree} → x ≡ y → Places t m x → Places t m y
  of_tree {m} e p = subst (Places t m) e p

  pub leaf_of : {m : Placed} → make t 0 0 ≡ got m → Places t m leaf
  unfolding branches
  leaf_of e = make_places s 0 0 leaf_words e

  pub stem_of : {p : ℕ} {x : Tree} → Has t p x → {m : Placed} → make t (p + 1) 0 ≡ got m → Places t m (stem x)
  unfolding branches
  stem_of {p} h e =
      of_tree (rw (add-one p) (ap stem h.tree))
      (make_places s (p + 1) 0 (stem_words h.inside) e)

  pub fork_of : {p q : ℕ} {x y : Tree} → Has t p x → Has t q y → {m : Placed} → make t (p + 1) (q + 1) ≡ got m → Places t m (fork x y)
  unfolding branches
  fork_of {p} {q} h k e =
      of_tree (rw (add-one p, add-one q) (ap₂ fork h.tree k.tree))
      (make_places s (p + 1) (q + 1) (fork_words h.inside k.inside) e)

-- a further node, in a table that extends t
pub further : {t : Table} {m n : Placed} {x y : Tree} → Places t m x → Places m.table n y → Places t n y
further p q = record { fine = q.fine; extends = extends_trans p.extends q.extends; inside = q.inside; tree = q.tree }

-- A further node that is got, or has no place, and what came before it.
pub record Got (x : Making) (next : Placed → Making) (n : Placed) : Type 0 where
  pub first : Placed
  pub first_is : x ≡ got first
  pub rest : next first ≡ got n

pub and_got : (x : Making) (next : Placed → Making) {n : Placed} → and_then x next ≡ got n → Got x next n
unfolding and_then
and_got (got m) next e = record { first = m; first_is = refl; rest = e }
and_got (full z) next e = zero_one (cc)

pub data Full (x : Making) (next : Placed → Making) (z : Table) : Type 0 where
  at_first : x ≡ full z → Full x next z
  at_rest : {m : Placed} → x ≡ got m → next m ≡ full z → Full x next z

pub and_full : (x : Making) (next : Placed → Making) {z : Table} → and_then x next ≡ full z → Full x next z
unfolding and_then
and_full (got m) next e = at_rest refl e
and_full (full y) next e = at_first e

pub then_got : {x : Making} (next : Placed → Making) {m : Placed} → x ≡ got m → and_then x next ≡ next m
unfolding and_then
then_got next e = rw e

pub then_full : {x : Making} (next : Placed → Making) {z : Table} → x ≡ full z → and_then x next ≡ full z
unfolding and_then
then_full next e = rw e

-- Where a table became full, one that it extends did too.
pub filled_further : {t : Table} {m : Placed} {x : Tree} {z : Table} → Places t m x → Filled m.table z → Filled t z
filled_further p f =
    record {
      fine = f.fine;
      extends = extends_trans p.extends f.extends;
      all_used = omega (arith, f.all_used, p.extends.kept.same_length);
    }

pub make_fills : {t : Table} → Sound t → (a b : ℕ) {z : Table} → make t a b ≡ full z → Filled t z
make_fills {t} s a b {z} e =
    let n = full_case t a b e in
    subst (λ (y : Table). Filled t y) (sym n.same)
    (record { fine = s; extends = extends_refl t; all_used = omega (arith, n.all_used, s.within) })

pub size_pos : (x : Tree) → 1 ≤ size x
unfolding size
size_pos leaf = omega arith
size_pos (stem p) = omega arith
size_pos (fork p q) = omega arith

-- a tree is laid out as that tree
pub lay_places : {t : Table} → Sound t → (x : Tree) {m : Placed} → lay t x ≡ got m → Places t m x
unfolding lay
lay_places {t} s leaf e = leaf_of s e
lay_places {t} s (stem p) e =
    let g = and_got (lay t p) (λ m. make m.table (m.node + 1) 0) e in
    let x = lay_places s p g.first_is in
    further x (stem_of x.fine (has x) g.rest)
lay_places {t} s (fork p q) e =
    let g = and_got (lay t q) (λ m. and_then (lay m.table p) (λ n. make n.table (n.node + 1) (m.node + 1))) e in
    let m = g.first in
    let h = and_got (lay m.table p) (λ n. make n.table (n.node + 1) (m.node + 1)) g.rest in
    let x = lay_places s q g.first_is in
    let z = lay_places {t = m.table} x.fine p h.first_is in
    further (further x z) (fork_of z.fine (has z) (stays x.fine z.extends.kept (has x)) h.rest)

-- at most one new node for each node of the tree
pub lay_most : (t : Table) (x : Tree) {m : Placed} → lay t x ≡ got m → m.table.used ≤ t.used + size x
unfolding lay size
lay_most t leaf e = make_most t 0 0 e
lay_most t (stem p) e =
    let g = and_got (lay t p) (λ m. make m.table (m.node + 1) 0) e in
    omega (arith, lay_most t p g.first_is, make_most g.first.table (g.first.node + 1) 0 g.rest)
lay_most t (fork p q) e =
    let g = and_got (lay t q) (λ m. and_then (lay m.table p) (λ n. make n.table (n.node + 1) (m.node + 1))) e in
    let m = g.first in
    let h = and_got (lay m.table p) (λ n. make n.table (n.node + 1) (m.node + 1)) g.rest in
    omega (arith, lay_most t q g.first_is, lay_most m.table p h.first_is, make_most h.first.table (h.first.node + 1) (m.node + 1) h.rest)

-- a tree that has no place wants a node that is not there, in a table that is full
pub lay_lacks : (t : Table) (x : Tree) {z : Table} → lay t x ≡ full z → Lacking t x z
unfolding lay
lay_lacks t leaf {z} e =
    let n = full_case t 0 0 e in
    subst (λ (y : Table). Lacking t leaf y) (sym n.same) (record { a = 0; b = 0; wanted = the_leaf; absent = n.absent; all_used = n.all_used })
lay_lacks t (stem p) {z} e = go (and_full (lay t p) (λ m. make m.table (m.node + 1) 0) e) (λ f. lay_lacks t p f)
  where
    go : Full (lay t p) (λ m. make m.table (m.node + 1) 0) z → (lay t p ≡ full z → Lacking t p z) → Lacking t (stem p) z
    go (at_first f) r = let k = r f in record { a = k.a; b = k.b; wanted = in_stem k.wanted; absent = k.absent; all_used = k.all_used }
    go (at_rest {m} f g) r =
        let n = full_case m.table (m.node + 1) 0 g in
        subst (λ (y : Table). Lacking t (stem p) y) (sym n.same)
        (record { a = m.node + 1; b = 0; wanted = the_stem f; absent = n.absent; all_used = n.all_used })
lay_lacks t (fork p q) {z} e =
    go (and_full (lay t q) (λ m. and_then (lay m.table p) (λ n. make n.table (n.node + 1) (m.node + 1))) e)
    (λ f. lay_lacks t q f) (λ y f. lay_lacks y p f)
  where
    at : (m : Placed) → lay t q ≡ got m → Full (lay m.table p) (λ n. make n.table (n.node + 1) (m.node + 1)) z
        → (lay m.table p ≡ full z → Lacking m.table p z) → Lacking t (fork p q) z
    at m d (at_first f) r = let k = r f in record { a = k.a; b = k.b; wanted = in_first d k.wanted; absent = k.absent; all_used = k.all_used }
    at m d (at_rest {m = n} f g) r =
        let c = full_case n.table (n.node + 1) (m.node + 1) g in
        subst (λ (y : Table). Lacking t (fork p q) y) (sym c.same)
        (record { a = n.node + 1; b = m.node + 1; wanted = the_fork d f; absent = c.absent; all_used = c.all_used })

    go : Full (lay t q) (λ m. and_then (lay m.table p) (λ n. make n.table (n.node + 1) (m.node + 1))) z
        → (lay t q ≡ full z → Lacking t q z) → ((y : Table) → lay y p ≡ full z → Lacking y p z) → Lacking t (fork p q) z
    go (at_first f) r k = let l = r f in record { a = l.a; b = l.b; wanted = in_second l.wanted; absent = l.absent; all_used = l.all_used }
    go (at_rest {m} f g) r k = at m f (and_full (lay m.table p) (λ n. make n.table (n.node + 1) (m.node + 1)) g) (k m.table)

-- and such a node has no place
wants_full : (t : Table) (x : Tree) {z : Table} {a b : ℕ} → Wants t x z a b → make z a b ≡ full z → lay t x ≡ full z
unfolding lay
wants_full t leaf the_leaf e = e
wants_full t (stem p) (in_stem w) e = then_full (λ m. make m.table (m.node + 1) 0) (wants_full t p w e)
wants_full t (stem p) (the_stem d) e = then_got (λ m. make m.table (m.node + 1) 0) d ∙ e
wants_full t (fork p q) (in_second w) e = then_full (λ m. and_then (lay m.table p) (λ n. make n.table (n.node + 1) (m.node + 1))) (wants_full t q w e)
wants_full t (fork p q) (in_first {m = m} d w) e =
    then_got (λ m. and_then (lay m.table p) (λ n. make n.table (n.node + 1) (m.node + 1))) d
    ∙ then_full (λ n. make n.table (n.node + 1) (m.node + 1)) (wants_full m.table p w e)
wants_full t (fork p q) (the_fork {m = m} d f) e =
    then_got (λ m. and_then (lay m.table p) (λ n. make n.table (n.node + 1) (m.node + 1))) d
    ∙ then_got (λ n. make n.table (n.node + 1) (m.node + 1)) f
    ∙ e

pub lay_full : (t : Table) (x : Tree) (z : Table) → (lay t x ≡ full z) ↔ Lacking t x z
lay_full t x z = (lay_lacks t x, λ (k : Lacking t x z). wants_full t x k.wanted (make_full z k.a k.b k.absent k.all_used))

-- the table that became full
pub lay_fills : {t : Table} → Sound t → (x : Tree) {z : Table} → lay t x ≡ full z → Filled t z
unfolding lay
lay_fills {t} s leaf e = make_fills s 0 0 e
lay_fills {t} s (stem p) {z} e = go (and_full (lay t p) (λ m. make m.table (m.node + 1) 0) e) (λ f. lay_fills s p f)
  where
    go : Full (lay t p) (λ m. make m.table (m.node + 1) 0) z → (lay t p ≡ full z → Filled t z) → Filled t z
    go (at_first f) r = r f
    go (at_rest {m} f g) r = let x = lay_places s p f in filled_further x (make_fills x.fine (m.node + 1) 0 g)
lay_fills {t} s (fork p q) {z} e =
    go (and_full (lay t q) (λ m. and_then (lay m.table p) (λ n. make n.table (n.node + 1) (m.node + 1))) e)
    (λ f. lay_fills s q f) (λ (y : Table) (k : Sound y) f. lay_fills k p f)
  where
    at : (m : Placed) → Places t m q → Full (lay m.table p) (λ n. make n.table (n.node + 1) (m.node + 1)) z
        → (lay m.table p ≡ full z → Filled m.table z) → Filled t z
    at m x (at_first f) r = filled_further x (r f)
    at m x (at_rest {m = n} f g) r = let y = lay_places x.fine p f in filled_further x (filled_further y (make_fills y.fine (n.node + 1) (m.node + 1) g))

    go : Full (lay t q) (λ m. and_then (lay m.table p) (λ n. make n.table (n.node + 1) (m.node + 1))) z
        → (lay t q ≡ full z → Filled t z) → ((y : Table) → Sound y → lay y p ≡ full z → Filled y z) → Filled t z
    go (at_first f) r k = r f
    go (at_rest {m} f g) r k =
        let x = lay_places s q f in
        at m x (and_full (lay m.table p) (λ n. make n.table (n.node + 1) (m.node + 1)) g) (λ h. k m.table x.fine h)

-- before a node lacks a place, fewer nodes were made than the tree has
pub full_most : (t : Table) (x : Tree) {z : Table} → lay t x ≡ full z → z.used + 1 ≤ t.used + size x
unfolding lay size
full_most t leaf e = let n = full_case t 0 0 e in rw n.same (omega arith)
full_most t (stem p) {z} e = go (and_full (lay t p) (λ m. make m.table (m.node + 1) 0) e) (λ f. full_most t p f)
  where
    go : Full (lay t p) (λ m. make m.table (m.node + 1) 0) z → (lay t p ≡ full z → z.used + 1 ≤ t.used + size p) → z.used + 1 ≤ t.used + (size p + 1)
    go (at_first f) r = omega (arith, r f)
    go (at_rest {m} f g) r = let n = full_case m.table (m.node + 1) 0 g in rw n.same (omega (arith, lay_most t p f))
full_most t (fork p q) {z} e =
    go (and_full (lay t q) (λ m. and_then (lay m.table p) (λ n. make n.table (n.node + 1) (m.node + 1))) e)
    (λ f. full_most t q f) (λ y f. full_most y p f)
  where
    at : (m : Placed) → lay t q ≡ got m → Full (lay m.table p) (λ n. make n.table (n.node + 1) (m.node + 1)) z
        → (lay m.table p ≡ full z → z.used + 1 ≤ m.table.used + size p) → z.used + 1 ≤ t.used + (size p + size q + 1)
    at m d (at_first f) r = omega (arith, r f, lay_most t q d)
    at m d (at_rest {m = n} f g) r =
        let c = full_case n.table (n.node + 1) (m.node + 1) g in
        rw c.same (omega (arith, lay_most t q d, lay_most m.table p f))

    go : Full (lay t q) (λ m. and_then (lay m.table p) (λ n. make n.table (n.node + 1) (m.node + 1))) z
        → (lay t q ≡ full z → z.used + 1 ≤ t.used + size q) → ((y : Table) → lay y p ≡ full z → z.used + 1 ≤ y.used + size p)
        → z.used + 1 ≤ t.used + (size p + size q + 1)
    go (at_first f) r k = omega (arith, r f)
    go (at_rest {m} f g) r k = at m f (and_full (lay m.table p) (λ n. make n.table (n.node + 1) (m.node + 1)) g) (k m.table)

-- where a node is free for each of the tree's, it has its places
pub lay_room : {t : Table} → Sound t → (x : Tree) → t.used + size x ≤ capacity t.words → (m : Placed) × (lay t x ≡ got m)
lay_room {t} s x h = go (lay t x) refl
  where
    go : (y : Making) → lay t x ≡ y → (m : Placed) × (lay t x ≡ got m)
    go (got m) e = (m, e)
    go (full z) e = absurd (omega (arith, full_most t x e, (lay_fills s x e).all_used))

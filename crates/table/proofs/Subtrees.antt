-- Which nodes a tree laid out makes: one for each distinct tree in it that was not there. Assumes nothing.
use Prim.Native.Nat.{ℕ, ◌+◌, ◌≤◌, ◌<◌}
use mathlib.Core.Path.{◌≡◌, refl, ◌∙◌}
use mathlib.Core.Bool.{Bool, true, false}
use native.Mathlib.Omega.{arith}
use lib.Dec.{ltb}
use borrow.Author.Tests.{ltb-true, ltb-false}
use Rattle.calculus.specs.Tree.{Tree, leaf, stem, fork}
use Rattle.table.specs.Nodes.{Table, Placed, Making, got, Sound, tree_at, new_node, make, and_then, lay}
use Rattle.table.specs.Claims.{Has, Kept, Places, Makes, Within, MakesOnly}
use Rattle.table.specs.Claims.Within.{itself, in_stem, in_first, in_second}
use Rattle.table.specs.Claims.Makes.{found, made, no_place}
use Rattle.table.proofs.Words.{zero_one}
use Rattle.table.proofs.Trees.{kept_tree}
use Rattle.table.proofs.Making.{make_case, has, stays, and_got, leaf_of, stem_of, fork_of, lay_places}
use Rattle.table.proofs.Once.{one_number, Branched, is_leaf, is_stem_lem, is_fork, branched}

-- the nodes from u on that z has are all of trees in x
abbrev New : ℕ → Table → Tree → Type 0
New u z x = (i : ℕ) → u ≤ i → i < z.used → Within (tree_at z.words i) x

-- a node that is wanted makes at most itself
make_only : (t : Table) (a b : ℕ) {m : Placed} → make t a b ≡ got m → (i : ℕ) → t.used ≤ i → i < m.table.used → i ≡ m.node
unfolding new_node
make_only t a b {m} e i h l = go (make_case t a b) e
  where
    go : {x : Making} → Makes t a b x → x ≡ got m → i ≡ m.node
    go (found {i = j} f) d = let c : m ≡ record { table = t; node = j } = cc in absurd (omega (arith, rw c at l))
    go (made f k) d = let c : m ≡ new_node t a b = cc in rw c (omega (arith, rw c at l))
    go (no_place f k) d = zero_one (cc)

-- nodes made before, seen in a later table and a larger tree
new_kept : {u : ℕ} {t z : Table} {x y : Tree} → Sound t → Kept t z → ((w : Tree) → Within w x → Within w y) → New u t x → (i : ℕ) → u ≤ i → i < t.used
    → Within (tree_at z.words i) y
new_kept s k up n i h l = rw (kept_tree s k i l) (up _ (n i h l))

-- a node that is wanted, after those before
and_made : {u : ℕ} {t : Table} (a b : ℕ) {m : Placed} {x : Tree} → make t a b ≡ got m → Places t m x
    → ((i : ℕ) → u ≤ i → i < t.used → Within (tree_at m.table.words i) x) → New u m.table x
and_made {u} {t} a b {m} {x} e p n i h l = go (ltb i t.used) refl
  where
    go : (c : Bool) → ltb i t.used ≡ c → Within (tree_at m.table.words i) x
    go true q = n i h (ltb-true i t.used q)
    go false q = rw (make_only t a b e i (ltb-false i t.used q) l, p.tree) itself

lay_new : {t : Table} → Sound t → (x : Tree) {m : Placed} → lay t x ≡ got m → New t.used m.table x
unfolding lay
lay_new {t} s leaf e = and_made 0 0 e (leaf_of s e) (λ i h l. absurd (omega arith))
lay_new {t} s (stem p) e =
    let g = and_got (lay t p) (λ m. make m.table (m.node + 1) 0) e in
    let x = lay_places s p g.first_is in
    let y = stem_of x.fine (has x) g.rest in
    and_made (g.first.node + 1) 0 g.rest y (new_kept x.fine y.extends.kept (λ w. in_stem) (lay_new s p g.first_is))
lay_new {t} s (fork p q) e =
    let g = and_got (lay t q) (λ m. and_then (lay m.table p) (λ n. make n.table (n.node + 1) (m.node + 1))) e in
    let m = g.first in
    let h = and_got (lay m.table p) (λ n. make n.table (n.node + 1) (m.node + 1)) g.rest in
    let x = lay_places s q g.first_is in
    let z = lay_places x.fine p h.first_is in
    let y = fork_of z.fine (has z) (stays x.fine z.extends.kept (has x)) h.rest in
    let both : (i : ℕ) → t.used ≤ i → i < h.first.table.used → Within (tree_at h.first.table.words i) (fork p q) =
    λ i k l. parts m.table h.first.table i (λ c. new_kept x.fine z.extends.kept (λ w. in_second) (lay_new s q g.first_is) i k c)
    (λ c. in_first (lay_new {t = m.table} x.fine p h.first_is i c l)) in
    and_made (h.first.node + 1) (m.node + 1) h.rest y (new_kept z.fine y.extends.kept (λ w v. v) both)
  where
    parts : (a b : Table) (i : ℕ) → (i < a.used → Within (tree_at b.words i) (fork p q)) → (a.used ≤ i → Within (tree_at b.words i) (fork p q))
        → Within (tree_at b.words i) (fork p q)
    parts a b i f g = go (ltb i a.used) refl
      where
        go : (c : Bool) → ltb i a.used ≡ c → Within (tree_at b.words i) (fork p q)
        go true e = f (ltb-true i a.used e)
        go false e = g (ltb-false i a.used e)

-- a table that has a tree has each tree in it
pub within_has : {t : Table} → Sound t → {y x : Tree} → Within y x → (i : ℕ) → Has t i x → (j : ℕ) × Has t j y
within_has s itself i h = (i, h)
within_has {t} s (in_stem {p = p} w) i h = go (branched s i h.inside) h.tree (λ j k. within_has s w j k)
  where
    go : {x y : Tree} → Branched s i x → x ≡ stem p → ((j : ℕ) → Has t j p → (k : ℕ) × Has t k y) → (j : ℕ) × Has t j y
    go (is_leaf a b) e r = zero_one (cc)
    go (is_stem_lem {j} l a b) e r = r j (record { inside = l; tree = cc })
    go (is_fork l k a b) e r = zero_one (cc)
within_has {t} s (in_first {p = p} {q = q} w) i h = go (branched s i h.inside) h.tree (λ j k. within_has s w j k)
  where
    go : {x y : Tree} → Branched s i x → x ≡ fork p q → ((j : ℕ) → Has t j p → (k : ℕ) × Has t k y) → (j : ℕ) × Has t j y
    go (is_leaf a b) e r = zero_one (cc)
    go (is_stem_lem l a b) e r = zero_one (cc)
    go (is_fork {j} l k a b) e r = r j (record { inside = l; tree = cc })
within_has {t} s (in_second {p = p} {q = q} w) i h = go (branched s i h.inside) h.tree (λ j k. within_has s w j k)
  where
    go : {x y : Tree} → Branched s i x → x ≡ fork p q → ((j : ℕ) → Has t j q → (k : ℕ) × Has t k y) → (j : ℕ) × Has t j y
    go (is_leaf a b) e r = zero_one (cc)
    go (is_stem_lem l a b) e r = zero_one (cc)
    go (is_fork {k = k} l n a b) e r = r k (record { inside = n; tree = cc })

-- "used is compared with the number of distinct trees made" ([8]): the nodes made while x is laid out are one for each tree in x that was not there
pub lay_only : {t : Table} → Sound t → (x : Tree) {m : Placed} → lay t x ≡ got m → MakesOnly t m x
lay_only {t} s x {m} e =
    let p = lay_places s x e in
    record {
      of_tree = lay_new s x e;
      not_before = λ i j h l k q.
          let n : j ≡ i = (one_number p.fine j i (omega (arith, p.extends.kept.up)) l).1 (kept_tree s p.extends.kept j k ∙ q) in
          omega arith;
      all_there = λ y w. within_has p.fine w m.node (has p);
    }

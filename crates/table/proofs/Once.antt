-- Each tree once: in a sound table two node numbers are equal exactly when their trees are; a tree that is there is found; what refusal 2 finds.
-- Assumes nothing.
use Prim.Native.Nat.{ℕ, zero, suc, ◌+◌, ◌<◌}
use mathlib.Core.Path.{◌≡◌, refl, sym, ap, ◌∙◌}
use mathlib.Core.Bool.{Bool, true, false, not, ◌&&◌}
use mathlib.Core.List.{List}
use mathlib.Core.Option.{Option, none, some}
use mathlib.Core.Logic.{◌↔◌}
use native.Mathlib.Omega.{arith}
use native.Mathlib.Numerals.{add-one}
use Rattle.calculus.specs.Tree.{Tree, leaf, stem, fork}
use Rattle.table.specs.Nodes.{Table, got, first, second, broken, find, is_none, sound, Sound, branches, tree_at, make, and_then, lay}
use Rattle.table.specs.Claims.{Has, Flawed, Unbroken}
use Rattle.table.specs.Claims.Flawed.{broken_node, equal_nodes}
use Rattle.table.proofs.Words.{zero_one, told_apart, finds, find_has, same_words, sound_node, sound_below}
use Rattle.table.proofs.Trees.{tree_node}
use Rattle.table.proofs.Making.{make_found, then_got}

-- Where branches with the same tree are one, so are the words of nodes with the same tree.
words_of : (f : ℕ → Tree) (i j a b c d : ℕ) → Unbroken i a b → Unbroken j c d → ((p q : ℕ) → p < i → q < j → f p ≡ f q → p ≡ q) → branches f a b ≡ branches f c d → (a ≡ c) × (b ≡ d)
unfolding branches
words_of f i j zero b zero d x y r e = (refl, x.no_gap refl ∙ sym (y.no_gap refl))
words_of f i j (suc p) zero (suc q) zero x y r e = let h : f p ≡ f q = cc in (ap suc (r p q x.first_in y.first_in h), refl)
words_of f i j (suc p) (suc q) (suc p') (suc q') x y r e =
    let h : f p ≡ f p' = cc in
    let k : f q ≡ f q' = cc in
    (ap suc (r p p' x.first_in y.first_in h), ap suc (r q q' x.second_in y.second_in k))
words_of f i j zero b (suc q) zero x y r e = zero_one (cc)
words_of f i j zero b (suc q) (suc q') x y r e = zero_one (cc)
words_of f i j (suc p) zero zero d x y r e = zero_one (cc)
words_of f i j (suc p) (suc q) zero d x y r e = zero_one (cc)
words_of f i j (suc p) zero (suc q) (suc q') x y r e = zero_one (cc)
words_of f i j (suc p) (suc q) (suc p') zero x y r e = zero_one (cc)

one : (w : List ℕ) (u : ℕ) → sound w u ≡ true → (n i j : ℕ) → i < n → i < u → j < u → tree_at w i ≡ tree_at w j → i ≡ j
one w u s zero i j l h k e = absurd (omega arith)
one w u s (suc n) i j l h k e =
    let m =
    words_of (tree_at w) i j (first w i) (second w i) (first w j) (second w j) (sound_node w u i h s) (sound_node w u j k s)
    (λ (p q : ℕ) (a : p < i) (b : q < j) (t : tree_at w p ≡ tree_at w q). one w u s n p q (omega arith) (omega arith) (omega arith) t)
    (sym (tree_node w u i s h) ∙ e ∙ tree_node w u j s k) in
    same_words w u i j s h k m.0 m.1

-- "Two node numbers are equal exactly when their trees are" ([8])
pub one_number : {t : Table} → Sound t → (i j : ℕ) → i < t.used → j < t.used → (i ≡ j) ↔ (tree_at t.words i ≡ tree_at t.words j)
one_number {t} s i j h k = (λ e. ap (tree_at t.words) e, one t.words t.used s.unbroken (suc i) i j (omega arith) h k)

-- A tree that the table has is that node, and no node is made for it.
module _ {t : Table} (s : Sound t) where
  -- the words of a node by its tree
  by_words : (i : ℕ) → i < t.used → (a b : ℕ) → first t.words i ≡ a → second t.words i ≡ b → make t a b ≡ got (record { table = t; node = i })
  by_words i h a b p q = make_found t a b (find_has t.words t.used a b i s.unbroken h p q)

  pub data Branched (i : ℕ) : Tree → Type 0 where
    is_leaf : first t.words i ≡ 0 → second t.words i ≡ 0 → Branched i leaf
    is_stem_lem : {j : ℕ} → j < t.used → first t.words i ≡ j + 1 → second t.words i ≡ 0 → Branched i (stem (tree_at t.words j))
    is_fork : {j k : ℕ} → j < t.used → k < t.used → first t.words i ≡ j + 1 → second t.words i ≡ k + 1 → Branched i (fork (tree_at t.words j) (tree_at t.words k))

  pub branched : (i : ℕ) → i < t.used → Branched i (tree_at t.words i)
  unfolding branches
  branched i h = rw (tree_node t.words t.used i s.unbroken h) (go (first t.words i) (second t.words i) refl refl (sound_node t.words t.used i h s.unbroken))
    where
      go : (a b : ℕ) → first t.words i ≡ a → second t.words i ≡ b → Unbroken i a b → Branched i (branches (tree_at t.words) a b)
      go zero b p q o = is_leaf p (q ∙ o.no_gap refl)
      go (suc j) zero p q o = is_stem_lem {j = j} (omega (arith, o.first_in)) (p ∙ sym (add-one j)) q
      go (suc j) (suc k) p q o = is_fork {j = j} {k = k} (omega (arith, o.first_in)) (omega (arith, o.second_in)) (p ∙ sym (add-one j)) (q ∙ sym (add-one k))

  pub lay_found : (x : Tree) (i : ℕ) → Has t i x → lay t x ≡ got (record { table = t; node = i })
  unfolding lay
  lay_found leaf i h = go (branched i h.inside) h.tree
    where
      go : {y : Tree} → Branched i y → y ≡ leaf → make t 0 0 ≡ got (record { table = t; node = i })
      go (is_leaf p q) e = by_words i h.inside 0 0 p q
      go (is_stem_lem l p q) e = zero_one (cc)
      go (is_fork l m p q) e = zero_one (cc)
  lay_found (stem x) i h = go (branched i h.inside) h.tree (λ j k. lay_found x j k)
    where
      go : {y : Tree} → Branched i y → y ≡ stem x → ((j : ℕ) → Has t j x → lay t x ≡ got (record { table = t; node = j }))
          → and_then (lay t x) (λ m. make m.table (m.node + 1) 0) ≡ got (record { table = t; node = i })
      go (is_leaf p q) e r = zero_one (cc)
      go (is_stem_lem {j} l p q) e r =
          let d : tree_at t.words j ≡ x = cc in
          then_got (λ m. make m.table (m.node + 1) 0) (r j (record { inside = l; tree = d })) ∙ by_words i h.inside (j + 1) 0 p q
      go (is_fork l m p q) e r = zero_one (cc)
  lay_found (fork x y) i h = go (branched i h.inside) h.tree (λ j k. lay_found x j k) (λ j k. lay_found y j k)
    where
      go : {z : Tree} → Branched i z → z ≡ fork x y → ((j : ℕ) → Has t j x → lay t x ≡ got (record { table = t; node = j }))
          → ((j : ℕ) → Has t j y → lay t y ≡ got (record { table = t; node = j }))
          → and_then (lay t y) (λ m. and_then (lay m.table x) (λ n. make n.table (n.node + 1) (m.node + 1))) ≡ got (record { table = t; node = i })
      go (is_leaf p q) e r f = zero_one (cc)
      go (is_stem_lem l p q) e r f = zero_one (cc)
      go (is_fork {j} {k} l m p q) e r f =
          let c : tree_at t.words j ≡ x = cc in
          let d : tree_at t.words k ≡ y = cc in
          then_got (λ m. and_then (lay m.table x) (λ n. make n.table (n.node + 1) (m.node + 1))) (f k (record { inside = m; tree = d }))
          ∙ then_got (λ n. make n.table (n.node + 1) (k + 1)) (r j (record { inside = l; tree = c }))
          ∙ by_words i h.inside (j + 1) (k + 1) p q

  -- "a word exceeds its own number" is broken: the words of node 0 are 0, and a leaf is there as soon as a node is
  pub first_leaf : 0 < t.used → make t 0 0 ≡ got (record { table = t; node = 0 })
  first_leaf h =
      let o = sound_node t.words t.used 0 h s.unbroken in
      by_words 0 h 0 0 (omega (arith, o.first_in)) (omega (arith, o.second_in))

-- What refusal 2 finds, exactly: a broken node or two equal ones.
pub flawed : (w : List ℕ) (u : ℕ) → sound w u ≡ false → Flawed w u
unfolding sound is_none
flawed w zero e = zero_one (cc)
flawed w (suc k) e =
    go (broken k (first w k) (second w k)) (find w k (first w k) (second w k)) refl refl e (λ q. flawed w k q)
  where
    up : Flawed w k → Flawed w (suc k)
    up (broken_node {i} h q) = broken_node {i = i} (omega arith) q
    up (equal_nodes {i} {j} h l p q) = equal_nodes {i = i} {j = j} h (omega arith) p q

    go : (a : Bool) (o : Option ℕ) → broken k (first w k) (second w k) ≡ a → find w k (first w k) (second w k) ≡ o
        → (not a && (is_none o && sound w k)) ≡ false → (sound w k ≡ false → Flawed w k) → Flawed w (suc k)
    go true o p q d r = broken_node {i = k} (omega arith) p
    go false none p q d r = up (r d)
    go false (some i) p q d r = let x = finds w k (first w k) (second w k) i q in equal_nodes {i = i} {j = k} x.inside (omega arith) x.first_is x.second_is

pub unsound : (w : List ℕ) (u : ℕ) → Flawed w u → sound w u ≡ false
unsound w u f = go (sound w u) refl f
  where
    go : (a : Bool) → sound w u ≡ a → Flawed w u → a ≡ false
    go false e x = refl
    go true e (broken_node {i} h q) = told_apart q (sound_below w u i h e).unbroken_last
    go true e (equal_nodes {i} {j} h k p q) = let n : i ≡ j = same_words w u i j e (omega arith) k p q in absurd (omega arith)

pub flawed_exactly : (w : List ℕ) (u : ℕ) → (sound w u ≡ false) ↔ Flawed w u
flawed_exactly w u = (flawed w u, unsound w u)

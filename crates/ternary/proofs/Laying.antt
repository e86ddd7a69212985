-- The nodes that the digits of a text want, last to first, are those of its tree. Assumes nothing.
use Prim.Native.Nat.{ℕ, ◌+◌}
use mathlib.Core.Path.{◌≡◌, refl, sym, ap, ap₂, ◌∙◌, subst}
use mathlib.Core.Bool.{Bool, true, false, cond}
use mathlib.Core.List.{List, [], ◌∷◌, ◌++◌, append_assoc, append-nil}
use mathlib.Core.Option.{Option, none, some}
use mathlib.Core.Logic.{◌↔◌}
use lib.Dec.{eqb}
use native.Mathlib.Omega.{arith}
use Rattle.calculus.specs.Tree.{Tree, leaf, stem, fork}
use Rattle.table.specs.Nodes.{Table, Placed, Making, got, full, Sound, find, new_node, make, and_then, lay}
use Rattle.table.specs.Claims.{Extends, Places, Makes}
use Rattle.table.specs.Claims.Makes.{found, made}
use Rattle.table.proofs.Words.{zero_one, finds, wrote_first, wrote_second}
use Rattle.table.proofs.Trees.{extends_refl, extends_trans}
use Rattle.table.proofs.Making.{has, stays, make_case, leaf_of, stem_of, fork_of}
use Rattle.ternary.specs.Text.{text, take_leaf, take_stem, take_fork, take_digit, pending, tree_of}
use Rattle.ternary.specs.Laying.{Laying, awaits, no_place, no_text, keep, want_leaf, want_stem, want_fork, lay_digit, lay_digits, Numbered, was_there, the_next, HaveTrees, no_nodes, one_more}
use Rattle.ternary.proofs.OneText.{whole_text}

-- a node that has no place ends the laying, whatever digits come before
pub full_digits : (t : Table) (l r : List ℕ) {z : Table} → lay_digits t r ≡ no_place z → lay_digits t (l ++ r) ≡ no_place z
unfolding lay_digits lay_digit
full_digits t [] r e = e
full_digits t (c ∷ l) r e = rw (full_digits t l r e)

-- The digits of a tree's text want the nodes of the tree, in the order in which it is laid out: with the nodes ns pending in the table z, they leave the
-- tree's node before these, or the table in which a node has no place.
pub lay_text : (t : Table) (x : Tree) (l : List ℕ) {z : Table} {ns : List ℕ} → lay_digits t l ≡ awaits z ns → lay_digits t (text x ++ l) ≡ keep ns (lay z x)
unfolding lay_digits lay_digit want_leaf want_stem want_fork keep and_then lay text
lay_text t leaf l e = rw e
lay_text t (stem p) l {z} {ns} e = ap (lay_digit 49) (lay_text t p l e) ∙ go (lay z p)
  where
    go : (y : Making) → lay_digit 49 (keep ns y) ≡ keep ns (and_then y (λ m. make m.table (m.node + 1) 0))
    go (got m) = refl
    go (full w) = refl
lay_text t (fork p q) l {z} {ns} e =
    ap (λ (r : List ℕ). lay_digit 50 (lay_digits t r)) (append_assoc (text p) (text q) l) ∙ second (lay z q) (lay_text t q l e) (λ y ms. lay_text t p (text q ++ l) {z = y} {ns = ms})
  where
    first : (m : Placed) (y : Making) → lay_digit 50 (keep (m.node ∷ ns) y) ≡ keep ns (and_then y (λ n. make n.table (n.node + 1) (m.node + 1)))
    first m (got n) = refl
    first m (full w) = refl

    second : (y : Making) → lay_digits t (text q ++ l) ≡ keep ns y
        → ((w : Table) (ms : List ℕ) → lay_digits t (text q ++ l) ≡ awaits w ms → lay_digits t (text p ++ (text q ++ l)) ≡ keep ms (lay w p))
        → lay_digit 50 (lay_digits t (text p ++ (text q ++ l))) ≡ keep ns (and_then y (λ m. and_then (lay m.table p) (λ n. make n.table (n.node + 1) (m.node + 1))))
    second (got m) d r = ap (lay_digit 50) (r m.table (m.node ∷ ns) d) ∙ first m (lay m.table p)
    second (full w) d r = ap (lay_digit 50) (full_digits t (text p) (text q ++ l) d)

-- "Nodes are wanted in the order in which document 01 numbers them" ([8]): a tree is laid out as the digits of its text, taken last to first, want nodes.
pub lay_digits_lem : (t : Table) (x : Tree) → lay_digits t (text x) ≡ keep [] (lay t x)
unfolding lay_digits
lay_digits_lem t x = ap (lay_digits t) (sym (append-nil (text x))) ∙ lay_text t x [] refl

-- one node pending tells what came of it
keep_one : (x y : Making) → keep [] x ≡ keep [] y → x ≡ y
unfolding keep
keep_one (got m) (got n) e =
    let a : m.table ≡ n.table = cc in
    let b : m.node ≡ n.node = cc in
    ap₂ (λ (z : Table) (k : ℕ). got (record { table = z; node = k })) a b
keep_one (got m) (full w) e = zero_one (cc)
keep_one (full z) (got n) e = zero_one (cc)
keep_one (full z) (full w) e = cc

-- so one node is pending, as it is laid out, or the table is full where it is found full
pub digits_got : (t : Table) (x : Tree) (m : Placed) → (lay t x ≡ got m) ↔ (lay_digits t (text x) ≡ awaits m.table (m.node ∷ []))
unfolding keep
digits_got t x m = (λ e. lay_digits_lem t x ∙ rw e, λ e. keep_one (lay t x) (got m) (sym (lay_digits_lem t x) ∙ e))

pub digits_full : (t : Table) (x : Tree) (z : Table) → (lay t x ≡ full z) ↔ (lay_digits t (text x) ≡ no_place z)
unfolding keep
digits_full t x z = (λ e. lay_digits_lem t x ∙ rw e, λ e. keep_one (lay t x) (full z) (sym (lay_digits_lem t x) ∙ e))

-- what the digits of a whole text come to is its tree laid out
pub digits_whole : (t : Table) (l : List ℕ) {x : Tree} → tree_of l ≡ some x → {y : Making} → keep [] y ≡ lay_digits t l → y ≡ lay t x
digits_whole t l {x} e {y} d = keep_one y (lay t x) (d ∙ ap (lay_digits t) (whole_text l x e) ∙ lay_digits_lem t x)

-- ---- the trees of the nodes pending

-- what holds of the nodes pending where the trees ts are, since the table was t
pub record Awaits (t z : Table) (ns : List ℕ) (ts : List Tree) : Type 0 where
  pub fine : Sound z
  pub extends : Extends t z
  pub trees : HaveTrees z ns ts

have_kept : {z y : Table} {ns : List ℕ} {ts : List Tree} → Sound z → Extends z y → HaveTrees z ns ts → HaveTrees y ns ts
have_kept s k no_nodes = no_nodes
have_kept s k (one_more h r) = one_more (stays s k.kept h) (have_kept s k r)

-- the node of a digit is pending before those that were
kept_trees : {t z : Table} {ns : List ℕ} {ts : List Tree} {x : Tree} → Awaits t z ns ts → {m : Placed} → Places z m x → Awaits t m.table (m.node ∷ ns) (x ∷ ts)
kept_trees a p = record { fine = p.fine; extends = extends_trans a.extends p.extends; trees = one_more (has p) (have_kept a.fine p.extends a.trees) }

-- what a digit that is taken in the table z, with its trees, leaves
pub record Took (t z y : Table) (ns : List ℕ) (o : Option (List Tree)) : Type 0 where
  pub trees : List Tree
  pub took : o ≡ some trees
  pub awaiting : Awaits t y ns trees
  pub extends : Extends z y

-- a digit's node that is got has the tree that the digit makes of those pending
got_kept : {t z y : Table} {ms ns : List ℕ} {ts : List Tree} {x : Tree} → Awaits t z ms ts → (k : Making) → ((m : Placed) → k ≡ got m → Places z m x) → keep ms k ≡ awaits y ns
    → Took t z y ns (some (x ∷ ts))
unfolding keep
got_kept {t} {z} {y} {ms} {ns} {ts} {x} a (got m) p e =
    let b : m.table ≡ y = cc in
    let c : m.node ∷ ms ≡ ns = cc in
    subst (λ (w : Table). Took t z w ns (some (x ∷ ts))) b
    (subst (λ (ks : List ℕ). Took t z m.table ks (some (x ∷ ts))) c
    (record { trees = x ∷ ts; took = refl; awaiting = kept_trees a (p m refl); extends = (p m refl).extends }))
got_kept a (full w) p e = zero_one (cc)

module _ {t z y : Table} {ms ns : List ℕ} where
  leaf_kept : {ts : List Tree} → Awaits t z ms ts → want_leaf z ms ≡ awaits y ns → Took t z y ns (take_leaf ts)
  unfolding want_leaf take_leaf
  leaf_kept a e = got_kept a (make z 0 0) (λ m d. leaf_of a.fine d) e

  stem_kept : {ts : List Tree} → Awaits t z ms ts → want_stem z ms ≡ awaits y ns → Took t z y ns (take_stem ts)
  unfolding want_stem take_stem
  stem_kept {ts} a = go a.trees
    where
      go : {ks : List ℕ} {xs : List Tree} → HaveTrees z ks xs → want_stem z ks ≡ awaits y ns → Took t z y ns (take_stem xs)
      go no_nodes e = zero_one (cc)
      go (one_more {n = n} h r) e = got_kept (record { fine = a.fine; extends = a.extends; trees = r }) (make z (n + 1) 0) (λ m d. stem_of a.fine h d) e

  fork_kept : {ts : List Tree} → Awaits t z ms ts → want_fork z ms ≡ awaits y ns → Took t z y ns (take_fork ts)
  unfolding want_fork take_fork
  fork_kept {ts} a = go a.trees
    where
      go : {ks : List ℕ} {xs : List Tree} → HaveTrees z ks xs → want_fork z ks ≡ awaits y ns → Took t z y ns (take_fork xs)
      go no_nodes e = zero_one (cc)
      go (one_more h no_nodes) e = zero_one (cc)
      go (one_more {n = n} h (one_more {n = k} i r)) e =
          got_kept (record { fine = a.fine; extends = a.extends; trees = r }) (make z (n + 1) (k + 1)) (λ m d. fork_of a.fine h i d) e

  digit_kept : (c : ℕ) {ts : List Tree} → Awaits t z ms ts → lay_digit c (awaits z ms) ≡ awaits y ns → Took t z y ns (take_digit c (some ts))
  unfolding lay_digit take_digit
  digit_kept c {ts} a = go (eqb c 48) (eqb c 49) (eqb c 50)
    where
      go : (f g h : Bool) → cond f (want_leaf z ms) (cond g (want_stem z ms) (cond h (want_fork z ms) no_text)) ≡ awaits y ns
          → Took t z y ns (cond f (take_leaf ts) (cond g (take_stem ts) (cond h (take_fork ts) none)))
      go true g h e = leaf_kept a e
      go false true h e = stem_kept a e
      go false false true e = fork_kept a e
      go false false false e = zero_one (cc)

-- a digit that leaves nodes pending found nodes pending
pub before_digit : (c : ℕ) (k : Laying) {z : Table} {ns : List ℕ} → lay_digit c k ≡ awaits z ns → (y : Table) × ((ms : List ℕ) × (k ≡ awaits y ms))
unfolding lay_digit
before_digit c (awaits y ms) e = (y, (ms, refl))
before_digit c (no_place w) e = zero_one (cc)
before_digit c no_text e = zero_one (cc)

-- a node that is wanted was there, or none had its words and it has the next number
make_numbered : (z : Table) (a b : ℕ) {m : Placed} → make z a b ≡ got m → Numbered z m.node m.table
unfolding new_node
make_numbered z a b {m} e = go (make_case z a b) e
  where
    go : {x : Making} → Makes z a b x → x ≡ got m → Numbered z m.node m.table
    go (found {i = i} f) d = let c : record { table = z; node = i } ≡ m = cc in rw (← c) (was_there (finds z.words z.used a b i f).inside refl)
    go (made f h) d =
        let c : new_node z a b ≡ m = cc in
        rw (← c)
        (the_next
        (ap₂ (find z.words z.used) (wrote_first z.words z.used a b (omega arith)) (wrote_second z.words z.used a b (omega arith)) ∙ f)
        refl
        refl)
    go (Makes.no_place f h) d = zero_one (cc)

module _ {z y : Table} {n : ℕ} {ns : List ℕ} where
  keep_numbered : (a b : ℕ) (ms : List ℕ) → keep ms (make z a b) ≡ awaits y (n ∷ ns) → Numbered z n y
  unfolding keep
  keep_numbered a b ms e = go (make z a b) refl e
    where
      go : (k : Making) → make z a b ≡ k → keep ms k ≡ awaits y (n ∷ ns) → Numbered z n y
      go (got m) d f =
          let c : m.table ≡ y = cc in
          let h : m.node ≡ n = cc in
          rw (← c, ← h) (make_numbered z a b d)
      go (full w) d f = zero_one (cc)

  -- the number that a digit's node gets
  pub digit_numbered : (c : ℕ) (ms : List ℕ) → lay_digit c (awaits z ms) ≡ awaits y (n ∷ ns) → Numbered z n y
  unfolding lay_digit want_leaf want_stem want_fork
  digit_numbered c ms = go (eqb c 48) (eqb c 49) (eqb c 50)
    where
      of_stem : (ks : List ℕ) → want_stem z ks ≡ awaits y (n ∷ ns) → Numbered z n y
      of_stem [] e = zero_one (cc)
      of_stem (p ∷ ks) e = keep_numbered (p + 1) 0 ks e

      of_fork : (ks : List ℕ) → want_fork z ks ≡ awaits y (n ∷ ns) → Numbered z n y
      of_fork [] e = zero_one (cc)
      of_fork (p ∷ []) e = zero_one (cc)
      of_fork (p ∷ (q ∷ ks)) e = keep_numbered (p + 1) (q + 1) ks e

      go : (f g h : Bool) → cond f (want_leaf z ms) (cond g (want_stem z ms) (cond h (want_fork z ms) no_text)) ≡ awaits y (n ∷ ns) → Numbered z n y
      go true g h e = keep_numbered 0 0 ms e
      go false true h e = of_stem ms e
      go false false true e = of_fork ms e
      go false false false e = zero_one (cc)

-- The nodes pending are those of the trees pending.
pub digits_trees : {t : Table} → Sound t → (l : List ℕ) {z : Table} {ns : List ℕ} → lay_digits t l ≡ awaits z ns → (ts : List Tree) × ((pending l ≡ some ts) × Awaits t z ns ts)
unfolding lay_digits pending
digits_trees {t} s [] {z} {ns} e =
    let a : t ≡ z = cc in
    let b : [] ≡ ns = cc in
    ([], (refl, subst (λ (w : Table). Awaits t w ns []) a (subst (λ (ks : List ℕ). Awaits t t ks []) b (record { fine = s; extends = extends_refl t; trees = no_nodes }))))
digits_trees {t} s (c ∷ l) {z} {ns} e =
    let b = before_digit c (lay_digits t l) e in
    let a = digits_trees s l b.1.1 in
    let k = digit_kept c a.1.1 (rw b.1.1 at e) in
    (k.trees, (rw a.1.0 k.took, k.awaiting))

-- the digits taken before, and the table that they left
pub digits_part : {t : Table} → Sound t → (l r : List ℕ) {z : Table} {ns : List ℕ} → lay_digits t (l ++ r) ≡ awaits z ns
    → (y : Table) × ((ms : List ℕ) × ((lay_digits t r ≡ awaits y ms) × Extends y z))
unfolding lay_digits
digits_part s [] r {z} {ns} e = (z, (ns, (e, extends_refl z)))
digits_part {t} s (c ∷ l) r e =
    let b = before_digit c (lay_digits t (l ++ r)) e in
    let a = digits_trees s (l ++ r) b.1.1 in
    let k = digit_kept c a.1.1 (rw b.1.1 at e) in
    let d = digits_part s l r b.1.1 in
    (d.0, (d.1.0, (d.1.1.0, extends_trans d.1.1.1 k.extends)))

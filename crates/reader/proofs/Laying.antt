-- Laws of wanting the nodes of a text digit by digit, one for each way that its code goes. Assumes nothing.
use Prim.Native.Nat.{ℕ, zero, suc, ◌+◌, ◌-◌, ◌*◌, ◌≤◌, ◌<◌}
use mathlib.Core.Path.{◌≡◌, refl, sym, ap, ◌∙◌}
use mathlib.Core.Bool.{Bool, true, false, cond}
use mathlib.Core.List.{List, [], ◌∷◌, ◌++◌, append_assoc, append-nil}
use mathlib.Core.Option.{Option, none, some}
use native.Mathlib.Omega.{arith}
use lib.ListN.{length, get_or, set, take, drop, take-append-drop, length-set, length-append}
use lib.Seq.{get_or-set_same, get_or-set_other, drop-length, drop-append_seam}
use lib.Dec.{eqb}
use Rattle.std.specs.List.{push}
use borrow.Author.Tests.{eqb-true, eq-eqb, ne_eqb}
use Rattle.calculus.specs.Tree.{Tree}
use Rattle.table.specs.Nodes.{Table, Making, capacity, make}
use Rattle.table.proofs.Words.{zero_one}
use Rattle.ternary.specs.Text.{take_leaf, take_stem, take_fork, take_digit, pending, many_pending, most_pending}
use Rattle.ternary.specs.Laying.{awaits, no_place, keep, want_leaf, want_stem, want_fork, lay_digit, lay_digits, HaveTrees, no_nodes, one_more}
use Rattle.ternary.proofs.OneText.{whole_pending}
use Rattle.ternary.proofs.Laying.{full_digits, digits_trees}
use Rattle.index.specs.Index.{Ready}
use Rattle.index.specs.Code.{got_by, ReadyGot}
use Rattle.std.specs.Prelude as code
use Rattle.std.specs.Prelude.{Some, None}
use Rattle.table.specs.declared.Made.{Made}
use Rattle.index.proofs.Ready.{node_ready}
use Rattle.reader.specs.Code.{nodes_in, TakesDigit, LaysText}

-- ---- the nodes in frames

-- the last of them
nodes_last : (s : List ℕ) (n : ℕ) → 1 ≤ n → nodes_in s n ≡ get_or s ((n - 1) * 3) 0 ∷ nodes_in s (n - 1)
unfolding nodes_in
nodes_last s zero h = absurd (omega arith)
nodes_last s (suc n) h = let q : suc n - 1 ≡ n = omega arith in rw q

nodes_set : (s : List ℕ) (k v n : ℕ) → n ≤ k → nodes_in (set s (k * 3) v) n ≡ nodes_in s n
unfolding nodes_in
nodes_set s k v zero h = refl
nodes_set s k v (suc n) h = rw (get_or-set_other s (k * 3) (n * 3) v 0 (λ e. omega arith), nodes_set s k v n (omega arith))

-- one more
nodes_more : (s : List ℕ) (k v : ℕ) → k * 3 < length s → nodes_in (set s (k * 3) v) (k + 1) ≡ v ∷ nodes_in s k
nodes_more s k v h =
    let q : k + 1 - 1 ≡ k = omega arith in
    nodes_last (set s (k * 3) v) (k + 1) (omega arith) ∙ rw (q, get_or-set_same s (k * 3) v 0 h, nodes_set s k v k (omega arith))

-- as many as the trees that they have, and in use
have_length : {t : Table} (s : List ℕ) (n : ℕ) {ts : List Tree} → HaveTrees t (nodes_in s n) ts → length ts ≡ n
unfolding nodes_in
have_length s zero no_nodes = refl
have_length s (suc n) (one_more h r) = ap suc (have_length s n r)

have_inside : {t : Table} (s : List ℕ) (n : ℕ) {ts : List Tree} → HaveTrees t (nodes_in s n) ts → (k : ℕ) → k < n → get_or s (k * 3) 0 < t.used
unfolding nodes_in
have_inside s zero h k l = absurd (omega arith)
have_inside {t} s (suc n) (one_more h r) k l = go (eqb k n) refl (have_inside s n r k)
  where
    go : (z : Bool) → eqb k n ≡ z → (k < n → get_or s (k * 3) 0 < t.used) → get_or s (k * 3) 0 < t.used
    go true e f = rw (eqb-true k n e) h.inside
    go false e f = let q : (k ≡ n → ⊥) = borrow.Author.Tests.eqb-false k n e in f (omega arith)

first_inside : {t : Table} {n : ℕ} {ns : List ℕ} {ts : List Tree} → HaveTrees t (n ∷ ns) ts → n < t.used
first_inside (one_more h r) = h.inside

-- ---- the node of a digit, and the branches that it takes

nodes_two : (s : List ℕ) (n : ℕ) → 2 ≤ n → nodes_in s n ≡ get_or s ((n - 1) * 3) 0 ∷ (get_or s ((n - 2) * 3) 0 ∷ nodes_in s (n - 2))
nodes_two s n h = let q : n - 1 - 1 ≡ n - 2 = omega arith in nodes_last s n (omega arith) ∙ rw (nodes_last s (n - 1) (omega arith), q)

fork_branches : (c held : ℕ) → c ≡ 50 → c - 48 ≤ held → (2 ≤ held) × (held - (c - 48) ≡ held - 2)
fork_branches c held e h = (omega arith, omega arith)

module _ (t : Table) (s : List ℕ) (held c : ℕ) where
  pub leaf_wanted : c ≡ 48 → {g : Making} → g ≡ make t 0 0 → keep (nodes_in s (held - (c - 48))) g ≡ lay_digit c (awaits t (nodes_in s held))
  unfolding lay_digit want_leaf
  leaf_wanted e p = let q : held - (c - 48) ≡ held = omega arith in rw (q, p, eq-eqb c 48 e)

  pub stem_wanted : (c ≡ 48 → ⊥) → c ≡ 49 → c - 48 ≤ held → {g : Making} {a : ℕ} → a ≡ get_or s ((held - 1) * 3) 0 → g ≡ make t (a + 1) 0
      → keep (nodes_in s (held - (c - 48))) g ≡ lay_digit c (awaits t (nodes_in s held))
  unfolding lay_digit want_stem
  stem_wanted n e h a p =
      let q : held - (c - 48) ≡ held - 1 = omega arith in
      rw (q, p, a, ne_eqb c 48 n, eq-eqb c 49 e, nodes_last s held (omega arith))

  pub fork_wanted : (c ≡ 48 → ⊥) → (c ≡ 49 → ⊥) → TakesDigit t.used s held c → {g : Making} {a b : ℕ} → a ≡ get_or s ((held - 1) * 3) 0 → b ≡ get_or s ((held - 2) * 3) 0
      → g ≡ make t (a + 1) (b + 1) → keep (nodes_in s (held - (c - 48))) g ≡ lay_digit c (awaits t (nodes_in s held))
  unfolding lay_digit want_fork
  fork_wanted n m x a b p =
      let e : c ≡ 50 = omega (arith, x.from_leaf, x.to_fork) in
      let k = fork_branches c held e x.branches in
      rw (k.1, p, a, b, nodes_two s held k.0, ne_eqb c 48 n, ne_eqb c 49 m, eq-eqb c 50 e)

-- ---- a whole text

-- what a digit that is taken finds and leaves
record Takes (c : ℕ) (ts us : List Tree) : Type 0 where
  pub from_leaf : 48 ≤ c
  pub to_fork : c ≤ 50
  pub branches : c - 48 ≤ length ts
  pub leaves : length us ≡ length ts - (c - 48) + 1

takes_stem : (c : ℕ) → c ≡ 49 → (ts : List Tree) {us : List Tree} → take_stem ts ≡ some us → Takes c ts us
unfolding take_stem
takes_stem c e [] q = zero_one (cc)
takes_stem c e (p ∷ ts) {us} q =
    let n : length us ≡ suc (length ts) = let r : Rattle.calculus.specs.Tree.stem p ∷ ts ≡ us = cc in sym (ap length r) in
    record { from_leaf = omega arith; to_fork = omega arith; branches = omega arith; leaves = omega arith }

takes_fork : (c : ℕ) → c ≡ 50 → (ts : List Tree) {us : List Tree} → take_fork ts ≡ some us → Takes c ts us
unfolding take_fork
takes_fork c e [] q = zero_one (cc)
takes_fork c e (p ∷ []) q = zero_one (cc)
takes_fork c e (p ∷ (o ∷ ts)) {us} q =
    let n : length us ≡ suc (length ts) = let r : Rattle.calculus.specs.Tree.fork p o ∷ ts ≡ us = cc in sym (ap length r) in
    record { from_leaf = omega arith; to_fork = omega arith; branches = omega arith; leaves = omega arith }

takes_leaf : (c : ℕ) → c ≡ 48 → (ts : List Tree) {us : List Tree} → take_leaf ts ≡ some us → Takes c ts us
unfolding take_leaf
takes_leaf c e ts {us} q =
    let n : length us ≡ suc (length ts) = let r : Rattle.calculus.specs.Tree.leaf ∷ ts ≡ us = cc in sym (ap length r) in
    record { from_leaf = omega arith; to_fork = omega arith; branches = omega arith; leaves = omega arith }

takes : (c : ℕ) (ts : List Tree) {us : List Tree} → take_digit c (some ts) ≡ some us → Takes c ts us
unfolding take_digit
takes c ts {us} = go (eqb c 48) (eqb c 49) (eqb c 50) refl refl refl
  where
    go : (x y z : Bool) → eqb c 48 ≡ x → eqb c 49 ≡ y → eqb c 50 ≡ z → cond x (take_leaf ts) (cond y (take_stem ts) (cond z (take_fork ts) none)) ≡ some us → Takes c ts us
    go true y z p q r e = takes_leaf c (eqb-true c 48 p) ts e
    go false true z p q r e = takes_stem c (eqb-true c 49 q) ts e
    go false false true p q r e = takes_fork c (eqb-true c 50 r) ts e
    go false false false p q r e = zero_one (cc)

-- the digits not taken yet, whose last is c, and those after them
pub front_less : (l f r : List ℕ) (c : ℕ) → f ++ drop (length f) l ≡ l → f ≡ push r c
    → (length f ≡ suc (length r)) × (drop (length r) l ≡ c ∷ drop (length f) l) × (r ++ drop (length r) l ≡ l)
front_less l f r c e q =
    let n : length f ≡ suc (length r) = omega (arith, ap length q, length-append r (c ∷ [])) in
    let m : r ++ (c ∷ drop (length f) l) ≡ l = sym (append_assoc r (c ∷ []) (drop (length f) l)) ∙ ap (λ (y : List ℕ). y ++ drop (length f) l) (sym q) ∙ e in
    let d : drop (length r) l ≡ c ∷ drop (length f) l = ap (drop (length r)) (sym m) ∙ drop-append_seam r (c ∷ drop (length f) l) in
    (n, d, ap (λ (y : List ℕ). r ++ y) d ∙ m)

-- what is no tree from some digit on is none
pending_none : (l : List ℕ) (i : ℕ) → i ≤ length l → pending (drop i l) ≡ none → pending l ≡ none
unfolding pending take_digit
pending_none l zero h e = e
pending_none [] (suc i) h e = e
pending_none (c ∷ l) (suc i) h e = rw (pending_none l i (omega arith) e)

-- every end of a whole text leaves trees pending, and no more than the most
pending_drop : (l : List ℕ) (i : ℕ) {ts : List Tree} → i ≤ length l → pending l ≡ some ts → (us : List Tree) × (pending (drop i l) ≡ some us)
pending_drop l i {ts} h e = go (pending (drop i l)) refl
  where
    go : (o : Option (List Tree)) → pending (drop i l) ≡ o → (us : List Tree) × (pending (drop i l) ≡ some us)
    go none q = zero_one (cc (pending_none l i h q))
    go (some us) q = (us, q)

none_pending : {ts : List Tree} → pending [] ≡ some ts → length ts ≤ 0
unfolding pending
none_pending {ts} e = let q : [] ≡ ts = cc in rw (← q) (omega arith)

pending_most : (l : List ℕ) (i : ℕ) {ts : List Tree} → pending (drop i l) ≡ some ts → length ts ≤ most_pending l
unfolding most_pending many_pending
pending_most [] zero e = none_pending e
pending_most [] (suc i) e = none_pending e
pending_most (c ∷ l) zero {ts} e = let k : many_pending (pending (c ∷ l)) ≡ length ts = ap many_pending e in omega arith
pending_most (c ∷ l) (suc i) e = omega (arith, pending_most l i e)

-- The state before digit i: the digits from i on are taken from the table t on, and their nodes are pending, in a table, a stack and an index as long as
-- at the start.
pub record LaidTo (t : Table) (l s₀ ix₀ : List ℕ) (slots i : ℕ) (w : List ℕ) (u : ℕ) (s : List ℕ) (held : ℕ) (ix : List ℕ) : Type 0 where
  pub inside : i ≤ length l
  pub laid : lay_digits t (drop i l) ≡ awaits (record { words = w; used = u }) (nodes_in s held)
  pub ready : Ready w u slots ix
  pub same_words : length w ≡ length t.words
  pub same_stack : length s ≡ length s₀
  pub same_index : length ix ≡ length ix₀

module _ {w₀ : List ℕ} {u₀ slots : ℕ} {ix₀ s₀ l : List ℕ} where
  -- no digit is taken
  pub laid_none : Ready w₀ u₀ slots ix₀ → {f : List ℕ} → f ≡ l
      → (f ++ drop (length f) l ≡ l) × LaidTo (record { words = w₀; used = u₀ }) l s₀ ix₀ slots (length f) w₀ u₀ s₀ 0 ix₀
  unfolding lay_digits nodes_in
  laid_none r e =
      rw e (
        ap (λ (d : List ℕ). l ++ d) (drop-length l) ∙ append-nil l,
        record { inside = omega arith; laid = rw (drop-length l); ready = r; same_words = refl; same_stack = refl; same_index = refl },
      )

  module _ (r : Ready w₀ u₀ slots ix₀) (y : LaysText s₀ l) {i : ℕ} {w : List ℕ} {u : ℕ} {s : List ℕ} {held : ℕ} {ix : List ℕ}
      (x : LaidTo (record { words = w₀; used = u₀ }) l s₀ ix₀ slots i w u s held ix) where
    t₀ : Table
    t₀ = record { words = w₀; used = u₀ }

    -- the trees of the nodes pending
    trees : (ts : List Tree) × ((pending (drop i l) ≡ some ts) × HaveTrees (record { words = w; used = u }) (nodes_in s held) ts)
    unfolding t₀
    trees = let a = digits_trees r.fine (drop i l) x.laid in (a.0, (a.1.0, a.1.1.trees))

    many : length trees.0 ≡ held
    many = have_length s held trees.1.1

    -- all of them have frames
    pub held_frames : held * 3 ≤ length s
    held_frames = omega (arith, y.frames_free, x.same_stack, many, pending_most l i trees.1.0)

    -- the next digit
    module _ {j c : ℕ} (h : i ≡ suc j) (b : drop j l ≡ c ∷ drop i l) where
      next_trees : (us : List Tree) × (pending (drop j l) ≡ some us)
      next_trees = pending_drop l j (omega (arith, x.inside)) (whole_pending l y.tree_is)

      next_takes : Takes c trees.0 next_trees.0
      unfolding pending
      next_takes = takes c trees.0 (rw (← trees.1.0) (ap pending (sym b) ∙ next_trees.1))

      pub takes_digit : TakesDigit u s held c
      takes_digit =
          record {
            from_leaf = next_takes.from_leaf;
            to_fork = next_takes.to_fork;
            branches = omega (arith, next_takes.branches, many);
            frames_held = held_frames;
            in_use = have_inside s held trees.1.1;
          }

      -- its frame
      pub digit_frame : (held - (c - 48)) * 3 < length s
      digit_frame = omega (arith, y.frames_free, x.same_stack, many, next_takes.leaves, pending_most l j next_trees.1)

      -- what its node leaves pending
      module _ (g : code.Option Made) (w' ix' : List ℕ)
          (e : keep (nodes_in s (held - (c - 48))) (got_by g w') ≡ lay_digit c (awaits (record { words = w; used = u }) (nodes_in s held)))
          (f : ReadyGot g w' slots ix') where
        next_laid : lay_digits t₀ (drop j l) ≡ keep (nodes_in s (held - (c - 48))) (got_by g w')
        unfolding lay_digits t₀
        next_laid = ap (lay_digits t₀) b ∙ ap (lay_digit c) x.laid ∙ sym e

        pub none_laid : g ≡ None → (keep [] (got_by None w') ≡ lay_digits (record { words = w₀; used = u₀ }) l) × ReadyGot None w' slots ix'
        unfolding keep got_by ReadyGot t₀
        none_laid q =
            let p : lay_digits t₀ (drop j l) ≡ no_place (record { words = w'; used = capacity w' }) = next_laid ∙ rw q in
            (sym (ap (lay_digits t₀) (sym (take-append-drop j l)) ∙ full_digits t₀ (take j l) (drop j l) p), tt)

        module _ {m : Made} (q : g ≡ Some m) where
          node_laid : lay_digits t₀ (drop j l) ≡ awaits (record { words = w'; used = m.used }) (m.node ∷ nodes_in s (held - (c - 48)))
          unfolding keep got_by
          node_laid = next_laid ∙ rw q

          pub node_small : m.node < 4294967296
          unfolding t₀
          node_small =
              let k = node_ready f q in
              let a = digits_trees r.fine (drop j l) node_laid in
              omega (arith, first_inside a.1.1.trees, k.fine.within, k.fine.short)

          pub laid_next : length w' ≡ length w → length ix' ≡ length ix
              → LaidTo (record { words = w₀; used = u₀ }) l s₀ ix₀ slots j w' m.used (set s ((held - (c - 48)) * 3) m.node) (held - (c - 48) + 1) ix'
          unfolding t₀
          laid_next a d =
              record {
                inside = omega (arith, x.inside);
                laid = node_laid ∙ ap (awaits (record { words = w'; used = m.used })) (sym (nodes_more s (held - (c - 48)) m.node digit_frame));
                ready = node_ready f q;
                same_words = a ∙ x.same_words;
                same_stack = length-set s _ m.node ∙ x.same_stack;
                same_index = d ∙ x.same_index;
              }

    -- all digits are taken: one node is pending
    module _ (h : i ≤ 0) where
      one_held : held ≡ 1
      one_held =
          let q : i ≡ 0 = omega arith in
          let p : pending l ≡ some trees.0 = ap (λ (j : ℕ). pending (drop j l)) (sym q) ∙ trees.1.0 in
          let e : trees.0 ≡ y.tree ∷ [] = cc (p, whole_pending l y.tree_is) in
          omega (arith, many, ap length e)

      pub one_frame : 0 < length s
      one_frame = omega (arith, one_held, held_frames)

      pub all_laid : {v : ℕ} → v ≡ get_or s 0 0 → (keep [] (got_by (Some (record { node = v; used = u })) w) ≡ lay_digits (record { words = w₀; used = u₀ }) l) × ReadyGot (Some (record { node = v; used = u })) w slots ix
      unfolding keep got_by ReadyGot nodes_in
      all_laid e =
          let q : i ≡ 0 = omega arith in
          let p : lay_digits (record { words = w₀; used = u₀ }) l ≡ awaits (record { words = w; used = u }) (nodes_in s 1) = rw (q, one_held) at x.laid in
          (rw e (sym p), x.ready)

-- Label's eight nodes, one after another, and what a Label that gave a node says. Assumes nothing.
use Prim.Native.Nat.{ℕ, ◌+◌, ◌≤◌, ◌<◌}
use mathlib.Core.Path.{◌≡◌, refl, sym, subst, ap, ◌∙◌}
use mathlib.Core.Bool.{Bool, true, false, cond, ◌&&◌}
use mathlib.Core.List.{List, []}
use mathlib.Core.Logic.{◌↔◌}
use mathlib.Core.Option.{Option, none, some}
use native.Mathlib.Omega.{arith}
use lib.Dec.{ltb}
use borrow.Author.Tests.{lt-ltb, ltb-true}
use Rattle.std.specs.Prelude.{Err, Result}
use Rattle.calculus.specs.Tree.{Tree}
use Rattle.table.specs.Nodes.{Table, Placed, Making, got, full, capacity, Sound, tree_at, make, and_then}
use Rattle.table.specs.Outcome.{Outcome, Entered, whole, placed, settled, at_entry, unless}
use Rattle.table.specs.declared.Refusal.{Refusal}
use Rattle.table.specs.declared.Refusal.TheVariants as refusal
use Rattle.table.specs.Claims.{Extends, Has, Places, Filled}
use Rattle.table.proofs.Words.{zero_one, and_left, and_right}
use Rattle.table.proofs.Trees.{extends_refl, extends_trans}
use Rattle.table.proofs.Making.{has, stays, leaf_of, stem_of, fork_of, make_most, make_full, full_case}
use Rattle.table.proofs.Once.{first_leaf}
use Rattle.table.proofs.Entry.{entered, enters, entry_lacks}
use Rattle.table.proofs.Laid.{full_outcome, made_is}
use Rattle.table.specs.Refusal.{made, not_made}
use Rattle.table.specs.declared.Made.{Made}
use Rattle.labelled.specs.Label.{labelled, nodes, label_rule, label}
use Rattle.labelled.specs.Claims.{LabelWants, LabelLacking, LabelLacks, of_entry, not_in_use, no_nodes, Labels}
use Rattle.labelled.specs.Claims.LabelWants.{the_leaf, its_stem, their_fork, stem_of_rule, fork_of_rule, fork_of_label, stem_of_label, the_whole}

-- z is t with at most k nodes more
record Grown (t : Table) (k : ℕ) (z : Table) : Type 0 where
  fine : Sound z
  extends : Extends t z
  used_most : z.used ≤ t.used + k

none_yet : {t : Table} → Sound t → Grown t 0 t
none_yet {t} s = record { fine = s; extends = extends_refl t; used_most = omega arith }

one_more : {t z : Table} {k : ℕ} → Grown t k z → (a b : ℕ) {m : Placed} {x : Tree} → make z a b ≡ got m → Places z m x → Grown t (k + 1) m.table
one_more {z = z} g a b e p = record { fine = p.fine; extends = extends_trans g.extends p.extends; used_most = omega (arith, make_most z a b e, g.used_most) }

-- What Label's nodes come to: the labelled tree, or one of them that has no place.
data Comes (t : Table) (f l : ℕ) : Making → Type 0 where
  all_there : {m : Placed} → Places t m (labelled (tree_at t.words f) (tree_at t.words l)) → m.table.used ≤ t.used + 7 → Comes t f l (got m)
  one_lacks : {z : Table} → Filled t z → z.used < t.used + 7 → LabelLacking t f l z → Comes t f l (full z)

module _ {t z : Table} {f l k : ℕ} (a b : ℕ) (g : Grown t k z) (h : k < 7) (w : LabelWants t f l z a b) where
  no_place : {y : Table} → make z a b ≡ full y → Comes t f l (full y)
  no_place e =
      let n = full_case z a b e in
      subst (λ (y : Table). Comes t f l (full y)) (sym n.same)
      (one_lacks
      (record { fine = g.fine; extends = g.extends; all_used = omega (arith, n.all_used, g.fine.within, g.extends.kept.same_length) })
      (omega (arith, g.used_most))
      (record { a = a; b = b; wanted = w; absent = n.absent; all_used = n.all_used }))

  -- a node that is wanted, and what is wanted after it
  wanted : (next : Placed → Making) → ((m : Placed) → make z a b ≡ got m → Comes t f l (next m)) → Comes t f l (and_then (make z a b) next)
  unfolding and_then
  wanted next r = go (make z a b) refl
    where
      go : (x : Making) → make z a b ≡ x → Comes t f l (and_then x next)
      go (got m) e = r m e
      go (full y) e = no_place e

  last_wanted : ((m : Placed) → make z a b ≡ got m → Comes t f l (got m)) → Comes t f l (make z a b)
  last_wanted r = go (make z a b) refl
    where
      go : (x : Making) → make z a b ≡ x → Comes t f l x
      go (got m) e = r m e
      go (full y) e = no_place e

module _ {t : Table} (s : Sound t) (f l : ℕ) (hf : f < t.used) (hl : l < t.used) where
  known : (i : ℕ) → i < t.used → Has t i (tree_at t.words i)
  known i h = record { inside = h; tree = refl }

  -- the first of Label's nodes is there
  leaf_there_lem : {m : Placed} → make t 0 0 ≡ got m → Grown t 0 m.table
  leaf_there_lem {m} e =
      let q : got m ≡ got (record { table = t; node = 0 }) = sym e ∙ first_leaf s (omega arith) in
      let r : m ≡ record { table = t; node = 0 } = cc in
      rw r (none_yet s)

  -- the eight nodes, each with its tree
  nodes_come : Comes t f l (nodes t f l)
  unfolding nodes
  nodes_come =
      let g0 = none_yet s in
      wanted 0 0 g0 (omega arith) the_leaf _ (λ n1 e1.
      let p1 = leaf_of s e1 in
      let g1 = leaf_there_lem e1 in
      wanted _ 0 g1 (omega arith) (its_stem e1) _ (λ n2 e2.
      let p2 = stem_of p1.fine (has p1) e2 in
      let g2 = one_more g1 _ 0 e2 p2 in
      let leaf_in = stays p1.fine p2.extends.kept (has p1) in
      wanted _ _ g2 (omega arith) (their_fork e1 e2) _ (λ n3 e3.
      let p3 = fork_of p2.fine leaf_in (has p2) e3 in
      let g3 = one_more g2 _ _ e3 p3 in
      wanted (f + 1) 0 g3 (omega arith) (stem_of_rule e1 e2 e3) _ (λ n4 e4.
      let p4 = stem_of p3.fine (stays s g3.extends.kept (known f hf)) e4 in
      let g4 = one_more g3 (f + 1) 0 e4 p4 in
      wanted _ _ g4 (omega arith) (fork_of_rule e1 e2 e3 e4) _ (λ n5 e5.
      let p5 = fork_of p4.fine (has p4) (stays p3.fine p4.extends.kept (has p3)) e5 in
      let g5 = one_more g4 _ _ e5 p5 in
      let leaf_stays = stays p4.fine p5.extends.kept (stays p3.fine p4.extends.kept (stays p2.fine p3.extends.kept leaf_in)) in
      wanted _ (l + 1) g5 (omega arith) (fork_of_label e1 e2 e3 e4 e5) _ (λ n6 e6.
      let p6 = fork_of p5.fine leaf_stays (stays s g5.extends.kept (known l hl)) e6 in
      let g6 = one_more g5 _ (l + 1) e6 p6 in
      wanted _ 0 g6 (omega arith) (stem_of_label e1 e2 e3 e4 e5 e6) _ (λ n7 e7.
      let p7 = stem_of p6.fine (has p6) e7 in
      let g7 = one_more g6 _ 0 e7 p7 in
      let fifth = stays p6.fine p7.extends.kept (stays p5.fine p6.extends.kept (has p5)) in
      last_wanted _ _ g7 (omega arith) (the_whole e1 e2 e3 e4 e5 e6 e7) (λ n8 e8.
      let p8 = fork_of p7.fine (has p7) fifth e8 in
      let g8 = one_more g7 _ _ e8 p8 in
      all_there (record { fine = p8.fine; extends = g8.extends; inside = p8.inside; tree = p8.tree }) (omega (arith, g8.used_most))))))))))

  pub nodes_place : {m : Placed} → nodes t f l ≡ got m → Places t m (labelled (tree_at t.words f) (tree_at t.words l)) × (m.table.used ≤ t.used + 7)
  nodes_place {m} e = go (subst (Comes t f l) e nodes_come)
    where
      go : Comes t f l (got m) → Places t m (labelled (tree_at t.words f) (tree_at t.words l)) × (m.table.used ≤ t.used + 7)
      go (all_there p h) = (p, h)

  -- the table that became full
  pub nodes_fill : {z : Table} → nodes t f l ≡ full z → Filled t z
  nodes_fill {z} e = go (subst (Comes t f l) e nodes_come)
    where
      go : Comes t f l (full z) → Filled t z
      go (one_lacks h m k) = h

  -- with seven free nodes none lacks a place
  pub nodes_room : t.used + 7 ≤ capacity t.words → {z : Table} → nodes t f l ≡ full z → ⊥
  nodes_room r {z} e = go (subst (Comes t f l) e nodes_come)
    where
      go : Comes t f l (full z) → ⊥
      go (one_lacks h m k) = omega (arith, h.all_used)

  wants_full : {z : Table} {a b : ℕ} → LabelWants t f l z a b → make z a b ≡ full z → nodes t f l ≡ full z
  unfolding nodes and_then
  wants_full the_leaf e = rw e
  wants_full (its_stem e1) e = rw (e1, e)
  wants_full (their_fork e1 e2) e = rw (e1, e2, e)
  wants_full (stem_of_rule e1 e2 e3) e = rw (e1, e2, e3, e)
  wants_full (fork_of_rule e1 e2 e3 e4) e = rw (e1, e2, e3, e4, e)
  wants_full (fork_of_label e1 e2 e3 e4 e5) e = rw (e1, e2, e3, e4, e5, e)
  wants_full (stem_of_label e1 e2 e3 e4 e5 e6) e = rw (e1, e2, e3, e4, e5, e6, e)
  wants_full (the_whole e1 e2 e3 e4 e5 e6 e7) e = rw (e1, e2, e3, e4, e5, e6, e7, e)

  -- "Refusal 8 comes only when a node not yet in the table is wanted and the table is full." ([8]): exactly then
  pub nodes_full : (z : Table) → (nodes t f l ≡ full z) ↔ LabelLacking t f l z
  nodes_full z = (λ e. go (subst (Comes t f l) e nodes_come), λ (k : LabelLacking t f l z). wants_full k.wanted (make_full z k.a k.b k.absent k.all_used))
    where
      go : Comes t f l (full z) → LabelLacking t f l z
      go (one_lacks h m k) = k

-- the two kinds of Label's outcome o
pub data Case (w : List ℕ) (u f t : ℕ) (o : Outcome (Result Made Refusal)) : Type 0 where
  refuses : {e : Refusal} {x : List ℕ} → LabelLacks w u f t e x → o ≡ whole (not_made e) x [] → Case w u f t o
  gives : at_entry true w u [] ≡ none → f < u → t < u → {m : Placed} → nodes (record { words = w; used = u }) f t ≡ got m → o ≡ placed m [] → Case w u f t o

module _ (w : List ℕ) (u f t : ℕ) where
  pub label_case : Case w u f t (label w u f t)
  unfolding label label_rule settled
  label_case = go (at_entry true w u []) (ltb f u && ltb t u) refl refl
    where
      at : at_entry true w u [] ≡ none → f < u → t < u → (x : Making) → nodes (record { words = w; used = u }) f t ≡ x → Case w u f t (settled u [] x)
      at p h k (got m) e = gives p h k e refl
      at p h k (full z) e =
          let s = (entered true w u [] p).table in
          refuses (no_nodes p h k ((nodes_full s f t h k z).0 e)) (full_outcome w u [] (nodes_fill s f t h k e))

      go : (a : Option Refusal) (b : Bool) → at_entry true w u [] ≡ a → (ltb f u && ltb t u) ≡ b
          → Case w u f t (unless a (λ e. whole (Err e) w []) (cond b (settled u [] (nodes (record { words = w; used = u }) f t)) (whole (not_made refusal.Node) w [])))
      go (some e) b p q = refuses (of_entry (entry_lacks true w u [] p)) refl
      go none false p q = refuses (not_in_use p (λ h k. zero_one (cc (lt-ltb f u h, lt-ltb t u k)))) refl
      go none true p q =
          at p (ltb-true f u (and_left (ltb f u) (ltb t u) q)) (ltb-true t u (and_right (ltb f u) (ltb t u) q)) (nodes (record { words = w; used = u }) f t) refl

  -- where Label gives a node, it has the labelled tree
  pub label_gives : (v u' : ℕ) → (label w u f t).answer ≡ made v u' → Labels w u f t v u'
  unfolding placed
  label_gives v u' q = go label_case
    where
      z : Table
      z = record { words = w; used = u }

      x : Tree
      x = labelled (tree_at w f) (tree_at w t)

      placed_is : {m : Placed} → m.node ≡ v → m.table.used ≡ u' → m.table.words ≡ (label w u f t).table
          → m ≡ record { table = record { words = (label w u f t).table; used = u' }; node = v }
      placed_is a b c = rw (← a, ← b, ← c)

      go : Case w u f t (label w u f t) → Labels w u f t v u'
      go (refuses k r) = zero_one (cc)
      go (gives p h k {m} e r) =
          let n = nodes_place (entered true w u [] p).table f t h k e in
          let y : made m.node m.table.used ≡ made v u' = cc in
          let a : m.node ≡ v = (made_is y).0 in
          let b : m.table.used ≡ u' = (made_is y).1 in
          let c : m.table.words ≡ (label w u f t).table = cc in
          record {
            entered = p;
            rule_in = h;
            label_in = k;
            places =
                subst (λ (i : ℕ). Places z (record { table = record { words = (label w u f t).table; used = u' }; node = i }) x) a
                (subst (λ (i : ℕ). Places z (record { table = record { words = (label w u f t).table; used = i }; node = m.node }) x) b
                (subst (λ (i : List ℕ). Places z (record { table = record { words = i; used = m.table.used }; node = m.node }) x) c n.0));
            nodes_are = e ∙ ap got (placed_is a b c);
            used_most = omega (arith, n.1);
          }

-- on an entered table, with both nodes in use, Label is what its inner definition says
pub entered_label : {w : List ℕ} {u f t : ℕ} → Entered true w u [] → f < u → t < u → label_rule w u f t ≡ label w u f t
unfolding label
entered_label {u = u} {f = f} {t = t} e h k = rw (enters e, lt-ltb f u h, lt-ltb t u k)

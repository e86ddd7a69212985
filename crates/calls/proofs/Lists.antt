-- Demand 3 in lists of Read, Translate and Apply calls on one table, whole. Assumes nothing.
use Prim.Native.Nat.{ℕ, ◌<◌}
use mathlib.Core.Path.{◌≡◌, refl, sym, ap, ap₂, ◌∙◌, subst}
use mathlib.Core.List.{List, [], ◌∷◌, ◌++◌, map, append_assoc}
use mathlib.Core.Logic.{◌⊎◌, inl, inr, ⊎_elim}
use mathlib.Core.Option.{some}
use native.Mathlib.Omega.{arith}
use lib.ListN.{length, length-map}
use Rattle.calculus.specs.Tree.{Tree}
use Rattle.calculus.specs.Uses.{no_uses, ◌⊕◌, InSteps}
use Rattle.calculus.specs.Rules.{ApplyAll}
use Rattle.calculus.specs.Rules as rules
use Rattle.calculus.specs.Term.{Term}
use Rattle.calculus.specs.Bytes.{rule}
use Rattle.calculus.specs.Abstraction.{rule_tree}
use Rattle.calculus.specs.Runs.{Translated}
use Rattle.calculus.proofs.Rule.{rule_leads}
use Rattle.calculus.proofs.Demand3.{demand_3}
use Rattle.table.specs.Nodes.{Table, Sound, tree_at}
use Rattle.table.specs.Claims.{Has}
use Rattle.table.proofs.Trees.{kept_tree}
use Rattle.table.proofs.Entry.{entered}
use Rattle.ternary.proofs.Reading.{read_gives}
use Rattle.translation.proofs.Translates.{translate_gives}
use Rattle.applying.proofs.Follows.{apply_follows}
use Rattle.calls.specs.Calls.{Call, left, left_by, Argument, argument_tree, Applied, at_end, applies, Completed, translates, Gave, reads}
use Rattle.calls.specs.Calls as calls
use Rattle.calls.specs.Claim.{ArgumentTrees, of_node, of_read, Claim, ListClaim}
use Rattle.calls.proofs.Tables.{left_goes, left_read, left_translate, left_apply, stays_by}

-- the same trees by another name
applies_as : {f g r : Tree} {args : List Tree} {k : ℕ} → f ≡ g → InSteps (ApplyAll f args r) k → InSteps (ApplyAll g args r) k
applies_as {r = r} {args = args} {k = k} e a = subst (λ (x : Tree). InSteps (ApplyAll x args r) k) e a

-- one call more
left_by_more : (before : List Call) (c : Call) (t : Table) → left_by (before ++ (c ∷ [])) t ≡ left c (left_by before t)
unfolding left_by
left_by_more [] c t = refl
left_by_more (d ∷ before) c t = left_by_more before c (left d t)

-- Apply calls one after another, each on the node last given, are applications one after another by the five rules.
applied_all : {t : Table} {before cs : List Call} {f : ℕ} {args : List Argument} {r : Tree} {k : ℕ} → Sound (left_by before t) → f < (left_by before t).used
    → Applied t before cs f args r k → InSteps (ApplyAll (tree_at (left_by before t).words f) (map (argument_tree t) args) r) k
unfolding argument_tree
applied_all s h at_end = record { uses = no_uses; gives = rules.at_end; counted = refl }
applied_all {t = t} {f = f} s h (Applied.other {before = before} {c = c} a) =
    let g = left_goes c (left_by before t) in
    let e = left_by_more before c t in
    applies_as (ap (λ (y : Table). tree_at y.words f) e ∙ kept_tree s g.kept f h)
    (applied_all (rw e (g.sound_too s)) (rw e (omega (arith, g.kept.up))) a)
applied_all {t = t} s h (applies {before = before} {s = st} {f = f} {n = n} {limit = limit} {v = v} {u = u} {j = j} {i = i} e a) =
    let z = left_by before t in
    let q = apply_follows z.words z.used st f n limit v u j i e in
    let l = left_by_more before (calls.apply st f n limit) t ∙ left_apply st f n limit z e in
    let x = applies_as (ap (λ (y : Table). tree_at y.words v) l) (applied_all (rw l q.fine) (rw l q.inside) a) in
    record { uses = i ⊕ x.uses; gives = rules.and_next q.applies x.gives; counted = omega (arith, q.steps_are, x.counted) }

-- a node that a Read gave keeps the tree of its text
given : {cs : List Call} {t : Table} {v : ℕ} {x : Tree} → Gave cs t v x → tree_at (left_by cs t).words v ≡ x
unfolding left_by
given (Gave.other g) = given g
given (reads {s = s} {l = l} {v = v} {u = u} {cs = cs} {t = t} {x = x} e w) =
    let q = read_gives t.words t.used s l v u e in
    let p = q.places in
    let y : q.tree ≡ x = cc q.whole_text in
    let h : Has (left (calls.read s l) t) v x = rw (left_read s l t e) (record { inside = p.inside; tree = p.tree ∙ y }) in
    (stays_by cs (rw (left_read s l t e) p.fine) h).tree

-- a Read of a list that is in two parts stands in one of them
gave_in : (before rest : List Call) {t : Table} {v : ℕ} {x : Tree} → Gave (before ++ rest) t v x → Gave before t v x ⊎ Gave rest (left_by before t) v x
unfolding left_by
gave_in [] rest g = inr g
gave_in (c ∷ before) rest (Gave.other g) = ⊎_elim (λ a. inl (Gave.other a)) inr (gave_in before rest g)
gave_in (calls.read s l ∷ before) rest (reads e w) = inl (reads e w)

-- A node in use after the calls `before`, which a Read anywhere in the list gave, has the tree of that Read's text: it was given before, or a later Read
-- found it, and a node keeps its tree.
pub gave_tree : (before rest : List Call) {t : Table} {n : ℕ} {x : Tree} → Sound (left_by before t) → n < (left_by before t).used → Gave (before ++ rest) t n x
    → tree_at (left_by before t).words n ≡ x
gave_tree before rest s h g =
    ⊎_elim given (λ a. sym (stays_by rest s (record { inside = h; tree = refl })).tree ∙ given a) (gave_in before rest g)

-- the trees of the arguments of the Apply calls are those of the nodes, also where they are named by Reads
trees_agree : {t : Table} {before cs : List Call} {f : ℕ} {args : List Argument} {r : Tree} {k : ℕ} → Applied t before cs f args r k
    → (xs : List Tree) → ArgumentTrees (before ++ cs) t args xs → xs ≡ map (argument_tree t) args
unfolding argument_tree
trees_agree at_end xs ArgumentTrees.at_end = refl
trees_agree (Applied.other a) xs n = trees_agree a xs (rw append_assoc n)
trees_agree {t = t} (applies {before = before} {s = s} {f = f} {n = n} {limit = limit} {v = v} {u = u} {j = j} {i = i} {cs = cs} {args = args} e a) xs m =
    go m (λ ys p. trees_agree a ys (rw append_assoc p))
  where
    y : Argument
    y = record { before = before; node = n }

    go : {xs : List Tree} → ArgumentTrees (before ++ (calls.apply s f n limit ∷ cs)) t (y ∷ args) xs
        → ((ys : List Tree) → ArgumentTrees (before ++ (calls.apply s f n limit ∷ cs)) t args ys → ys ≡ map (argument_tree t) args)
        → xs ≡ argument_tree t y ∷ map (argument_tree t) args
    go (of_node {xs = ys} p) next = ap (λ (l : List Tree). argument_tree t y ∷ l) (next ys p)
    go (of_read {xs = ys} g p) next =
        let z = left_by before t in
        let q = apply_follows z.words z.used s f n limit v u j i e in
        ap₂ (λ (x : Tree) (l : List Tree). x ∷ l) (sym (gave_tree before _ (entered _ z.words z.used s q.entered).table q.argument_in g)) (next ys p)

-- a run of the five rules on the arguments' trees, by whatever name
claim : {cs : List Call} {z : Table} {b : List ℕ} {args : List Argument} {r : Tree} {k : ℕ} → (t : Term) → rule b ≡ some t
    → ((xs : List Tree) → ArgumentTrees cs z args xs → xs ≡ map (argument_tree z) args)
    → InSteps (ApplyAll (rule_tree t) (map (argument_tree z) args) r) k → Claim cs z b args r k
unfolding Translated
claim {cs} {z} {b} {args} {r} {k} t e m a =
    let n : length (map (argument_tree z) args) ≡ length args = length-map args (argument_tree z) in
    record {
      term = t;
      is_rule = e;
      of_reads = m;
      direct = λ xs p h l. rw (m xs p) ((demand_3 b t e (map (argument_tree z) args) (omega arith) (omega arith) r).0.0 (k, a));
      steps = λ xs p o j d.
          (demand_3 b t e (map (argument_tree z) args) (omega arith) (omega (arith, rule_leads b e)) r).1 k j (n ∙ o) a (rw (m xs p) at d);
    }

completed : {t : Table} {before cs : List Call} {b : List ℕ} {args : List Argument} {r : Tree} {k : ℕ} → Completed t before cs b args r k
    → Claim (before ++ cs) t b args r k
completed (Completed.other a) = rw append_assoc at (completed a)
completed {t = t} (translates {before = before} {s = s} {b = b} {v = v} {u = u} {cs = cs} {args = args} e a) =
    let y = left_by before t in
    let q = translate_gives y.words y.used s b v u e in
    let z = left_by_more before (calls.translate s b) t ∙ left_translate s b y e in
    let p = q.lays.places in
    claim q.term q.is_rule
    (λ xs m. trees_agree a xs (rw append_assoc m))
    (applies_as (ap (λ (x : Table). tree_at x.words v) z ∙ p.tree) (applied_all (rw z p.fine) (rw z p.inside) a))

-- "That is a single claim about the whole list, and not one for each call." Demand 3 in lists of calls: from any words and any used, refused calls
-- included.
pub demand_3_in_lists : (cs : List Call) (t : Table) → ListClaim cs t
demand_3_in_lists cs t b args r k c = completed c

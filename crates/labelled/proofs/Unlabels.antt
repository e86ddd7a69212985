-- Where `unlabel` gives nodes and which, and where it is refused, each exactly. Assumes nothing.
use Prim.Native.Nat.{ℕ, ◌<◌}
use mathlib.Core.Path.{◌≡◌, refl, ap, subst}
use mathlib.Core.Bool.{Bool, true, false, cond}
use mathlib.Core.List.{List, []}
use mathlib.Core.Logic.{◌↔◌}
use mathlib.Core.Option.{Option, none, some}
use native.Mathlib.Omega.{arith}
use lib.Dec.{ltb}
use borrow.Author.Tests.{lt-ltb, le-ltb, ltb-true, ltb-false}
use Rattle.calculus.specs.Tree.{Tree, leaf, stem, fork}
use Rattle.table.specs.Nodes.{tree_at}
use Rattle.table.specs.Branches.{left, right, InUse}
use Rattle.table.specs.Outcome.{at_entry, unless}
use Rattle.table.specs.declared.Refusal.{Refusal}
use Rattle.table.specs.declared.Refusal.TheVariants.{Node, Label}
use Rattle.table.proofs.Words.{zero_one}
use Rattle.table.proofs.Branches.{branch_of, branches_of}
use Rattle.table.proofs.Entry.{entered, entry_lacks, lacks_entry}
use Rattle.table.proofs.Laid.{same_ok}
use Rattle.labelled.specs.declared.Parts.{Parts}
use Rattle.labelled.specs.Label.{labelled}
use Rattle.labelled.specs.Unlabel.{is_labelled, label_node, rule_node, unlabel_node, unlabel, Unlabelled, no_parts, parts}
use Rattle.labelled.specs.UnlabelClaims.{IsLabelled, Found, Given, Unlabels, TakenApart, UnlabelLacks, of_entry, not_in_use, not_labelled, labelled_earlier, IsKOf}
use Rattle.labelled.proofs.Forms.{is_labelled_exact, not_labelled_fails, earlier_exact}

-- the nodes of rule and label in the labelled tree of a node in use
record Holds (w : List ℕ) (v : ℕ) (f t : Tree) : Type 0 where
  rule_before : rule_node w v < v
  label_before : label_node w v < v
  rule_tree_lem : tree_at w (rule_node w v) ≡ f
  label_tree : tree_at w (label_node w v) ≡ t

holds : {w : List ℕ} {v : ℕ} (f t : Tree) → InUse w v → tree_at w v ≡ labelled f t → Holds w v f t
unfolding rule_node label_node
holds {w} {v} f t i e =
    let k = branches_of i e in
    let x : tree_at w (left w v) ≡ stem (fork leaf t) = cc k.tree in
    let y : tree_at w (right w v) ≡ fork (stem f) (fork leaf (stem leaf)) = cc k.tree in
    let s = branch_of k.one x in
    let a : tree_at w (left w (left w v)) ≡ fork leaf t = cc s.tree in
    let l = branches_of s.branch a in
    let m = branches_of k.two y in
    let z : tree_at w (left w (right w v)) ≡ stem f = cc m.tree in
    let n = branch_of m.one z in
    record {
      rule_before = omega (arith, n.branch_before, m.one_before, k.two_before);
      label_before = omega (arith, l.two_before, s.branch_before, k.one_before);
      rule_tree_lem = cc n.tree;
      label_tree = cc l.tree;
    }

-- the answer, case by case
data Case (w : List ℕ) (u v : ℕ) : Unlabelled → Type 0 where
  refuses : {e : Refusal} → UnlabelLacks w u v e → Case w u v (no_parts e)
  gives : Found w u v → Case w u v (parts (rule_node w v) (label_node w v))

module _ (w : List ℕ) (u v : ℕ) where
  by_case : Case w u v (unlabel w u v)
  unfolding unlabel unlabel_node
  by_case = go (at_entry true w u []) (ltb v u) (is_labelled (tree_at w v)) refl refl refl
    where
      go : (a : Option Refusal) (b c : Bool) → at_entry true w u [] ≡ a → ltb v u ≡ b → is_labelled (tree_at w v) ≡ c
          → Case w u v (unless a no_parts (cond b (cond c (parts (rule_node w v) (label_node w v)) (no_parts Label)) (no_parts Node)))
      go (some e) b c p q r = refuses (of_entry (entry_lacks true w u [] p))
      go none false c p q r = refuses (not_in_use p (ltb-false v u q))
      go none true false p q r = refuses (not_labelled p (ltb-true v u q) (λ i. zero_one (cc ((is_labelled_exact (tree_at w v)).1 i))))
      go none true true p q r = gives (record { entered = p; inside = ltb-true v u q; tree = (is_labelled_exact (tree_at w v)).0 r })

  -- on each condition its refusal comes
  stops : {e : Refusal} → UnlabelLacks w u v e → unlabel w u v ≡ no_parts e
  unfolding unlabel unlabel_node
  stops (of_entry l) = rw (lacks_entry l)
  stops (not_in_use p h) = rw (p, le-ltb v u h)
  stops (not_labelled p h n) = rw (p, lt-ltb v u h, not_labelled_fails (tree_at w v) n)

  -- "Checks: 11, the tree isn't of the labelled form, after 3.": 1, 2, 3 and 11, each exactly on its condition, and no other refusal
  pub unlabel_lacks : (e : Refusal) → (unlabel w u v ≡ no_parts e) ↔ UnlabelLacks w u v e
  unlabel_lacks e = (λ q. go by_case q, stops)
    where
      go : {o : Unlabelled} → Case w u v o → o ≡ no_parts e → UnlabelLacks w u v e
      go (refuses {e = c} l) q = let p : c ≡ e = cc in subst (UnlabelLacks w u v) p l
      go (gives h) q = zero_one (cc)

  -- the nodes that are given
  pub found_parts : Found w u v → unlabel w u v ≡ parts (rule_node w v) (label_node w v)
  unfolding unlabel unlabel_node
  found_parts h = rw (h.entered, lt-ltb v u h.inside, (is_labelled_exact (tree_at w v)).1 h.tree)

  -- nodes are given exactly where 1 and 2 are passed, the node is in use and its tree is labelled
  pub unlabel_exact : Given w u v ↔ Found w u v
  unlabel_exact = (λ g. go by_case g.answer, λ h. record { rule = rule_node w v; label = label_node w v; answer = found_parts h })
    where
      go : {o : Unlabelled} {a b : ℕ} → Case w u v o → o ≡ parts a b → Found w u v
      go (refuses l) q = zero_one (cc)
      go (gives h) q = h

  -- "gives the nodes of label and rule out of a labelled tree"
  pub unlabel_gives : {a b : ℕ} → unlabel w u v ≡ parts a b → Unlabels w u v a b
  unlabel_gives {a} {b} q =
      let h = unlabel_exact.0 (record { rule = a; label = b; answer = q }) in
      let p = found_parts h in
      let z : parts (rule_node w v) (label_node w v) ≡ parts a b = cc in
      let x : rule_node w v ≡ a = ap (λ (m : Parts). m.rule) (same_ok z) in
      let y : label_node w v ≡ b = ap (λ (m : Parts). m.label) (same_ok z) in
      let i : InUse w v = record { used = u; fine = (entered true w u [] h.entered).table; inside = h.inside } in
      let k = holds h.tree.rule h.tree.label i h.tree.form in
      record {
        rule_in = omega (arith, k.rule_before, h.inside);
        label_in = omega (arith, k.label_before, h.inside);
        tree = cc (k.rule_tree_lem, k.label_tree, h.tree.form);
        only = λ f t e. let m = holds f t i e in (cc m.rule_tree_lem, cc m.label_tree);
      }

  module _ (p : at_entry true w u [] ≡ none) (h : v < u) where
    -- "The office reader of [1] expects this form" ([4])
    pub unlabel_takes : (f t : Tree) → tree_at w v ≡ labelled f t → TakenApart w u v f t
    unlabel_takes f t e =
        let a = found_parts (record { entered = p; inside = h; tree = record { rule = f; label = t; form = e } }) in
        let o = (unlabel_gives a).only f t e in
        record { rule = _; label = _; answer = a; rule_tree_lem = o.0; label_tree = o.1 }

    -- "trees labelled earlier" ([4]): 11 comes for such a tree exactly where its label is not itself a K of something.
    pub unlabel_earlier : (f t : Tree) → tree_at w v ≡ labelled_earlier f t → (unlabel w u v ≡ no_parts Label) ↔ (IsKOf t → ⊥)
    unlabel_earlier f t e =
        (λ q k. go ((unlabel_lacks Label).0 q) (rw e ((earlier_exact f t).1 k)), λ n. stops (not_labelled p h (λ i. n ((earlier_exact f t).0 (rw e at i)))))
      where
        go : UnlabelLacks w u v Label → IsLabelled (tree_at w v) → ⊥
        go (not_labelled a b n) i = n i
        go (of_entry l) i = zero_one (cc (p, lacks_entry l))

    -- Where it is the K of x, x is taken for the label.
    pub unlabel_earlier_k : (f x : Tree) → tree_at w v ≡ labelled_earlier f (fork leaf x) → TakenApart w u v f x
    unlabel_earlier_k f x e = unlabel_takes f x e

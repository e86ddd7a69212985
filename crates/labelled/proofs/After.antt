-- `unlabel` after Label gives both node numbers back. Assumes nothing.
use Prim.Native.Nat.{ℕ}
use mathlib.Core.Path.{◌≡◌, refl, sym, ap₂, ◌∙◌}
use mathlib.Core.Bool.{true}
use mathlib.Core.List.{List, []}
use native.Mathlib.Omega.{arith}
use Rattle.table.specs.Nodes.{tree_at}
use Rattle.table.proofs.Trees.{kept_tree}
use Rattle.table.proofs.Entry.{entered, enters}
use Rattle.table.proofs.Once.{one_number}
use Rattle.table.specs.Refusal.{made}
use Rattle.labelled.specs.Label.{label}
use Rattle.labelled.specs.Unlabel.{unlabel, parts}
use Rattle.labelled.proofs.Labels.{label_gives}
use Rattle.labelled.proofs.Unlabels.{unlabel_gives, unlabel_takes}

-- "gives the nodes of label and rule out of a labelled tree" ([1]): out of the tree that Label made, the two that it was given, since no others have their
-- trees
pub unlabel_label : (w : List ℕ) (u f t v u' : ℕ) → (label w u f t).answer ≡ made v u' → unlabel (label w u f t).table u' v ≡ parts f t
unlabel_label w u f t v u' q =
    let g = label_gives w u f t v u' q in
    let p = g.places in
    let s = (entered true w u [] g.entered).table in
    let x = (label w u f t).table in
    let a = unlabel_takes x u' v (enters (record { table = p.fine; stack = omega arith; limits_kept = refl })) p.inside (tree_at w f) (tree_at w t) p.tree in
    let i = unlabel_gives x u' v a.answer in
    let up = p.extends.kept.up in
    let f-is = (one_number p.fine a.rule f i.rule_in (omega (arith, g.rule_in))).1 (a.rule_tree_lem ∙ sym (kept_tree s p.extends.kept f g.rule_in)) in
    let t-is = (one_number p.fine a.label t i.label_in (omega (arith, g.label_in))).1 (a.label_tree ∙ sym (kept_tree s p.extends.kept t g.label_in)) in
    a.answer ∙ ap₂ parts f-is t-is

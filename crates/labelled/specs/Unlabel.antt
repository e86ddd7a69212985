-- Which trees are of the labelled form, and the nodes of rule and label out of such a tree (document 02, [1] and [4]). Assumes nothing: these are
-- definitions.
use Rattle.std.specs.Prelude.{ℕ, Bool, true, false, cond, ◌&&◌, List, [], ◌∷◌, ltb, Result, Ok, Err}
use Rattle.calculus.specs.Tree.{Tree, leaf, stem, fork}
use Rattle.table.specs.Nodes.{tree_at}
use Rattle.table.specs.Branches.{left, right}
use Rattle.table.specs.Outcome.{at_entry, unless}
use Rattle.table.specs.Refusal.{number}
use Rattle.table.specs.declared.Refusal.{Refusal}
use Rattle.table.specs.declared.Refusal.TheVariants.{Node, Label}
use Rattle.labelled.specs.declared.Parts.{Parts}

-- whether a tree is Δ, a stem, K that is ΔΔ, and KK that is ΔΔ(ΔΔ)
unfoldable pub is_leaf : Tree → Bool
is_leaf leaf = true
is_leaf (stem p) = false
is_leaf (fork p q) = false

unfoldable pub is_stem : Tree → Bool
is_stem leaf = false
is_stem (stem p) = true
is_stem (fork p q) = false

unfoldable pub is_k : Tree → Bool
is_k leaf = false
is_k (stem p) = is_leaf p
is_k (fork p q) = false

unfoldable pub is_kk : Tree → Bool
is_kk leaf = false
is_kk (stem p) = false
is_kk (fork p q) = is_leaf p && is_k q

-- whether a tree is Kt, that is ΔΔt, for some t, and Δ(Kt), the first branch of a labelled tree
unfoldable pub is_k_of : Tree → Bool
is_k_of leaf = false
is_k_of (stem p) = false
is_k_of (fork p q) = is_leaf p

unfoldable pub is_label_branch : Tree → Bool
is_label_branch leaf = false
is_label_branch (stem p) = is_k_of p
is_label_branch (fork p q) = false

-- whether a tree is Δ(Δf)(KK) for some f, the second branch of a labelled tree
unfoldable pub is_rule_branch : Tree → Bool
is_rule_branch leaf = false
is_rule_branch (stem p) = false
is_rule_branch (fork p q) = is_stem p && is_kk q

-- "the tree isn't of the labelled form" ([1]): whether it is. "The office reader of [1] expects this form", "Δ(Δ(Kt))(Δ(Δf)(KK))" ([4]).
unfoldable pub is_labelled : Tree → Bool
is_labelled leaf = false
is_labelled (stem p) = false
is_labelled (fork p q) = is_label_branch p && is_rule_branch q

-- the node of t under Δ(Kt) at node v, and that of f under Δ(Δf)(KK)
abbrev pub label_under : List ℕ → ℕ → ℕ
label_under w v = right w (left w v)

abbrev pub rule_under : List ℕ → ℕ → ℕ
rule_under w v = left w (left w v)

-- "the nodes of label and rule out of a labelled tree": of Δ(Δ(Kt))(Δ(Δf)(KK)) at node v, the node of t, and that of f
unfoldable pub label_node : List ℕ → ℕ → ℕ
label_node w v = label_under w (left w v)

unfoldable pub rule_node : List ℕ → ℕ → ℕ
rule_node w v = rule_under w (right w v)

-- the answer of `unlabel`: the nodes of rule and label, or the refusal
abbrev pub Unlabelled : Type 0
Unlabelled = Result Parts Refusal

abbrev pub parts : ℕ → ℕ → Unlabelled
parts rule label = Ok (record { rule = rule; label = label })

abbrev pub no_parts : Refusal → Unlabelled
no_parts e = Err e

-- "11, the tree isn't of the labelled form": of node v, in use in a table that passed 1 and 2
unfoldable pub unlabel_node : List ℕ → ℕ → Unlabelled
unlabel_node w v = cond (is_labelled (tree_at w v)) (parts (rule_node w v) (label_node w v)) (no_parts Label)

-- "It also takes a node number and gives the nodes of label and rule out of a labelled tree. Checks: 11, the tree isn't of the labelled form, after
-- 3.": node v of the table w with u nodes in use. 1 and 2 come before 3, as in every operation on a table; there is no stack.
unfoldable pub unlabel : List ℕ → ℕ → ℕ → Unlabelled
unlabel w u v = unless (at_entry true w u []) no_parts (cond (ltb v u) (unlabel_node w v) (no_parts Node))

-- The numbers of the answer, with `used` as at entry: refusal, the rule's node, used, steps, digits, the label's node. "A refusal returns its number,
-- used as at entry, and 0 for node number, steps and digits." (document 01, Operations)
unfoldable pub unlabelled_numbers : ℕ → Unlabelled → List ℕ
unlabelled_numbers used (Ok m) = 0 ∷ m.rule ∷ used ∷ 0 ∷ 0 ∷ m.label ∷ []
unlabelled_numbers used (Err e) = number e ∷ 0 ∷ used ∷ 0 ∷ 0 ∷ 0 ∷ []

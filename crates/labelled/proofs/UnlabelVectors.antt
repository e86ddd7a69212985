-- Worked examples of `unlabel`: K labelled with KK, as Read lays it out and with its nodes elsewhere; a tree that lacks KK; two in document 01's form; and
-- the numbers of an answer. Assumes nothing.
use mathlib.Core.Path.{◌≡◌, refl}
use mathlib.Core.List.{[], ◌∷◌}
use lib.ListN.{replicate}
use Rattle.calculus.specs.Tree.{leaf, stem, fork}
use Rattle.table.specs.Nodes as table
use Rattle.table.specs.Nodes.{got, lay}
use Rattle.table.specs.Outcome as outcome
use Rattle.table.specs.Refusal as refusal
use Rattle.table.specs.declared.Refusal.TheVariants.{Label}
use Rattle.labelled.specs.Label.{labelled}
use Rattle.labelled.specs.Unlabel as unlabelling
use Rattle.labelled.specs.Unlabel.{unlabel, unlabelled_numbers, no_parts, parts}

-- 2120201021102010: a leaf, K, KK, the stem of K, its fork with KK, K of KK, its stem, the whole
pub as_read : lay (record { words = replicate 16 0; used = 0 }) (labelled (stem leaf) (fork leaf (stem leaf)))
    ≡ got (record { table = record { words = 0 ∷ 0 ∷ 1 ∷ 0 ∷ 1 ∷ 2 ∷ 2 ∷ 0 ∷ 4 ∷ 3 ∷ 1 ∷ 3 ∷ 6 ∷ 0 ∷ 7 ∷ 5 ∷ []; used = 8 }; node = 7 })
unfolding table.has_words table.find table.new_node table.or_new table.make table.and_then table.lay
as_read = refl

-- its nodes of K and KK, which are also those of the K and the KK that the form has
pub shared : unlabel (0 ∷ 0 ∷ 1 ∷ 0 ∷ 1 ∷ 2 ∷ 2 ∷ 0 ∷ 4 ∷ 3 ∷ 1 ∷ 3 ∷ 6 ∷ 0 ∷ 7 ∷ 5 ∷ []) 8 7 ≡ parts 1 2
unfolding table.broken table.has_words table.find table.is_none table.sound table.branches table.tree_to outcome.fits outcome.at_entry unlabelling.is_leaf unlabelling.is_stem unlabelling.is_k unlabelling.is_kk unlabelling.is_k_of unlabelling.is_label_branch unlabelling.is_rule_branch unlabelling.is_labelled unlabelling.label_node unlabelling.rule_node unlabelling.unlabel_node unlabelling.unlabel
shared = refl

-- the same tree with its nodes in another order: a leaf, K, the stem of K, KK, K of KK, its stem, the fork of the stem of K with KK, the whole
pub elsewhere : unlabel (0 ∷ 0 ∷ 1 ∷ 0 ∷ 2 ∷ 0 ∷ 1 ∷ 2 ∷ 1 ∷ 4 ∷ 5 ∷ 0 ∷ 3 ∷ 4 ∷ 6 ∷ 7 ∷ []) 8 7 ≡ parts 1 3
unfolding table.broken table.has_words table.find table.is_none table.sound table.branches table.tree_to outcome.fits outcome.at_entry unlabelling.is_leaf unlabelling.is_stem unlabelling.is_k unlabelling.is_kk unlabelling.is_k_of unlabelling.is_label_branch unlabelling.is_rule_branch unlabelling.is_labelled unlabelling.label_node unlabelling.rule_node unlabelling.unlabel_node unlabelling.unlabel
elsewhere = refl

-- KΔ where the form has KK
pub no_constant : unlabel (0 ∷ 0 ∷ 1 ∷ 0 ∷ 1 ∷ 1 ∷ 2 ∷ 0 ∷ 4 ∷ 3 ∷ 1 ∷ 3 ∷ 6 ∷ 0 ∷ 7 ∷ 5 ∷ []) 8 7 ≡ no_parts Label
unfolding table.broken table.has_words table.find table.is_none table.sound table.branches table.tree_to outcome.fits outcome.at_entry unlabelling.is_leaf unlabelling.is_stem unlabelling.is_k unlabelling.is_kk unlabelling.is_k_of unlabelling.is_label_branch unlabelling.is_rule_branch unlabelling.is_labelled unlabelling.label_node unlabelling.rule_node unlabelling.unlabel_node unlabelling.unlabel
no_constant = refl

-- "trees labelled earlier" ([4]): K labelled with a leaf, which is no K of anything, and with KK, which is the K of K
pub earlier : (unlabel (0 ∷ 0 ∷ 1 ∷ 0 ∷ 1 ∷ 2 ∷ 2 ∷ 0 ∷ 4 ∷ 3 ∷ 2 ∷ 5 ∷ []) 6 5 ≡ no_parts Label)
    × (unlabel (0 ∷ 0 ∷ 1 ∷ 0 ∷ 1 ∷ 2 ∷ 2 ∷ 0 ∷ 4 ∷ 3 ∷ 3 ∷ 0 ∷ 6 ∷ 5 ∷ []) 7 6 ≡ parts 1 1)
unfolding table.broken table.has_words table.find table.is_none table.sound table.branches table.tree_to outcome.fits outcome.at_entry unlabelling.is_leaf unlabelling.is_stem unlabelling.is_k unlabelling.is_kk unlabelling.is_k_of unlabelling.is_label_branch unlabelling.is_rule_branch unlabelling.is_labelled unlabelling.label_node unlabelling.rule_node unlabelling.unlabel_node unlabelling.unlabel
earlier = (refl, refl)

-- the rule's node stands where other operations have theirs, the label's node last
pub numbers : (unlabelled_numbers 7 (parts 1 2) ≡ 0 ∷ 1 ∷ 7 ∷ 0 ∷ 0 ∷ 2 ∷ []) × (unlabelled_numbers 7 (no_parts Label) ≡ 11 ∷ 0 ∷ 7 ∷ 0 ∷ 0 ∷ 0 ∷ [])
unfolding unlabelling.unlabelled_numbers refusal.number
numbers = (refl, refl)

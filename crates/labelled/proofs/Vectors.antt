-- Worked examples of Label, every word of the outcome: they pin the order of the nodes, which no law of trees sees. A node in use is never without a
-- leaf, node 0, so the leaf is always found. Assumes nothing.
use mathlib.Core.Path.{◌≡◌, refl}
use mathlib.Core.List.{[], ◌∷◌}
use lib.ListN.{replicate}
use Rattle.table.specs.Nodes as table
use Rattle.table.specs.Outcome as outcome
use Rattle.table.specs.Outcome.{whole}
use Rattle.table.specs.declared.Refusal.TheVariants.{Nodes}
use Rattle.table.specs.Refusal.{made, not_made}
use Rattle.labelled.specs.Label as labelling
use Rattle.labelled.specs.Label.{label}

-- "leaf; its stem; fork of these; stem of f; fork of it and the third" (Operations, Label); "the sixth is the fork of the first and t, then its stem, then
-- the whole" ([4]): f is 200 at node 1, t is 2200200 at node 2, seven nodes are new, and the words beyond them are as found
pub order : label (0 ∷ 0 ∷ 1 ∷ 1 ∷ 2 ∷ 2 ∷ replicate 16 9) 3 1 2
    ≡ whole (made 9 10) (0 ∷ 0 ∷ 1 ∷ 1 ∷ 2 ∷ 2 ∷ 1 ∷ 0 ∷ 1 ∷ 4 ∷ 2 ∷ 0 ∷ 6 ∷ 5 ∷ 1 ∷ 3 ∷ 8 ∷ 0 ∷ 9 ∷ 7 ∷ 9 ∷ 9 ∷ []) []
unfolding table.broken table.has_words table.find table.is_none table.sound table.new_node table.or_new table.make table.and_then outcome.fits outcome.at_entry outcome.placed outcome.settled labelling.nodes labelling.label_rule labelling.label
order = refl

-- "a found one takes no new number" ([8]): f is K at node 1, which is also the leaf's stem, and t the leaf
pub found : label (0 ∷ 0 ∷ 1 ∷ 0 ∷ replicate 14 9) 2 1 0
    ≡ whole (made 7 8) (0 ∷ 0 ∷ 1 ∷ 0 ∷ 1 ∷ 2 ∷ 2 ∷ 0 ∷ 4 ∷ 3 ∷ 1 ∷ 1 ∷ 6 ∷ 0 ∷ 7 ∷ 5 ∷ 9 ∷ 9 ∷ []) []
unfolding table.broken table.has_words table.find table.is_none table.sound table.new_node table.or_new table.make table.and_then outcome.fits outcome.at_entry outcome.placed outcome.settled labelling.nodes labelling.label_rule labelling.label
found = refl

-- the same once more, in a table that is full: every node is there, so none is made and no word changes
pub all_found : label (0 ∷ 0 ∷ 1 ∷ 0 ∷ 1 ∷ 2 ∷ 2 ∷ 0 ∷ 4 ∷ 3 ∷ 1 ∷ 1 ∷ 6 ∷ 0 ∷ 7 ∷ 5 ∷ []) 8 1 0
    ≡ whole (made 7 8) (0 ∷ 0 ∷ 1 ∷ 0 ∷ 1 ∷ 2 ∷ 2 ∷ 0 ∷ 4 ∷ 3 ∷ 1 ∷ 1 ∷ 6 ∷ 0 ∷ 7 ∷ 5 ∷ []) []
unfolding table.broken table.has_words table.find table.is_none table.sound table.new_node table.or_new table.make table.and_then outcome.fits outcome.at_entry outcome.placed outcome.settled labelling.nodes labelling.label_rule labelling.label
all_found = refl

-- the same with one node too few: the whole has no place, the five nodes made before it are cleared, and the odd word beyond the capacity is as found
pub no_place : label (0 ∷ 0 ∷ 1 ∷ 0 ∷ replicate 11 9) 2 1 0 ≡ whole (not_made Nodes) (0 ∷ 0 ∷ 1 ∷ 0 ∷ 0 ∷ 0 ∷ 0 ∷ 0 ∷ 0 ∷ 0 ∷ 0 ∷ 0 ∷ 0 ∷ 0 ∷ 9 ∷ []) []
unfolding table.broken table.has_words table.find table.is_none table.sound table.new_node table.or_new table.make table.and_then outcome.fits outcome.at_entry outcome.placed outcome.stopped outcome.settled labelling.nodes labelling.label_rule labelling.label
no_place = refl

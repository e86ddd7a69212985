-- Worked examples of Apply, every word of the outcome: they pin the order of the new nodes, which no law of trees and uses sees. Assumes nothing.
use Prim.Native.Nat.{ℕ}
use mathlib.Core.Path.{◌≡◌, refl}
use mathlib.Core.List.{List, [], ◌∷◌, ◌++◌, map}
use lib.ListN.{replicate}
use Rattle.std.specs.Prelude.{Result}
use Rattle.calculus.specs.Uses.{counts, no_uses}
use Rattle.table.specs.Nodes as nodes
use Rattle.table.specs.Outcome as outcome
use Rattle.table.specs.Outcome.{Outcome, whole}
use Rattle.table.specs.Refusal as refusal
use Rattle.table.specs.Refusal.{number}
use Rattle.table.specs.declared.Refusal.TheVariants.{Limits, Broken, Steps, Nodes, Frames}
use Rattle.table.specs.declared.Refusal.TheVariants as refusals
use Rattle.table.specs.declared.Refusal.{Refusal}
use Rattle.applying.specs.Machine as machine
use Rattle.applying.specs.Apply as machine-apply
use Rattle.applying.specs.Apply.{applied_numbers, applied_uses, apply, applied, not_applied}
use Rattle.applying.specs.declared.Applied.{Applied}

-- 212101021010 as Read lays its text, each tree once: 0 in node 0, 10 in node 1, 21010 in node 2, its stem in node 3, the whole in node 4
abbrev texts : List ℕ
texts = 0 ∷ 0 ∷ 1 ∷ 0 ∷ 2 ∷ 2 ∷ 3 ∷ 0 ∷ 4 ∷ 3 ∷ []

-- "212101021010; on 0": with so many free words, which have 9 in them, and so many stack words, which have 5
abbrev on_leaf : ℕ → ℕ → ℕ → Outcome (Result Applied Refusal)
on_leaf free held limit = apply (texts ++ replicate free 9) 5 (replicate held 5) 4 0 limit

-- "on 0 it gives 10 in 10 steps", 1 new node, "2 frames": 200 is made once, 10 is there. One free node is enough: the full table still gives what it has.
pub gives : on_leaf 4 7 10 ∷ on_leaf 3 7 10 ∷ []
    ≡ whole (applied 1 6 10 (counts 3 2 2 3 0)) (texts ++ (1 ∷ 1 ∷ 9 ∷ 9 ∷ [])) (replicate 7 0)
    ∷ whole (applied 1 6 10 (counts 3 2 2 3 0)) (texts ++ (1 ∷ 1 ∷ 9 ∷ [])) (replicate 7 0)
    ∷ []
unfolding nodes.broken nodes.has_words nodes.find nodes.is_none nodes.sound nodes.new_node nodes.or_new nodes.make outcome.fits outcome.at_entry outcome.stopped
    machine.fork_rule machine.rule machine.resume machine.grow_by machine.grow machine.hold machine.use_rule machine.take_rule machine.turn machine.after machine.uses
    machine-apply.settle machine-apply.apply_nodes machine-apply.apply
gives = refl

-- "with limit 9: 7", the node made is cleared; without a free node 8, also with limit 9, for the third use wants it; "With 1 frame: 9"; with limit 2 and
-- without a free node 7
pub refuses : on_leaf 4 7 9 ∷ on_leaf 1 7 10 ∷ on_leaf 1 7 9 ∷ on_leaf 4 5 10 ∷ on_leaf 1 7 2 ∷ []
    ≡ whole (not_applied Steps) (texts ++ (0 ∷ 0 ∷ 9 ∷ 9 ∷ [])) (replicate 7 0)
    ∷ whole (not_applied Nodes) (texts ++ replicate 1 9) (replicate 7 0)
    ∷ whole (not_applied Nodes) (texts ++ replicate 1 9) (replicate 7 0)
    ∷ whole (not_applied Frames) (texts ++ replicate 4 9) (replicate 5 0)
    ∷ whole (not_applied Steps) (texts ++ replicate 1 9) (replicate 7 0)
    ∷ []
unfolding nodes.broken nodes.has_words nodes.find nodes.is_none nodes.sound nodes.new_node nodes.or_new nodes.make outcome.fits outcome.at_entry outcome.stopped
    machine.fork_rule machine.rule machine.resume machine.grow_by machine.grow machine.hold machine.use_rule machine.take_rule machine.turn machine.after machine.uses
    machine-apply.settle machine-apply.apply_nodes machine-apply.apply
refuses = refl

-- 21010 on 10, with so many free words: it gives 10 in 4 steps. y is applied to N before p, so its node 2010 comes before p's, which is 110; with one free
-- node p's has no place.
abbrev on_stem : ℕ → Outcome (Result Applied Refusal)
on_stem free = apply (0 ∷ 0 ∷ 1 ∷ 0 ∷ 2 ∷ 2 ∷ replicate free 9) 3 (5 ∷ 5 ∷ 5 ∷ []) 2 1 4

pub orders : on_stem 5 ∷ on_stem 3 ∷ []
    ≡ whole (applied 1 5 4 (counts 1 1 1 1 0)) (0 ∷ 0 ∷ 1 ∷ 0 ∷ 2 ∷ 2 ∷ 1 ∷ 2 ∷ 2 ∷ 0 ∷ 9 ∷ []) (0 ∷ 0 ∷ 0 ∷ [])
    ∷ whole (not_applied Nodes) (0 ∷ 0 ∷ 1 ∷ 0 ∷ 2 ∷ 2 ∷ 0 ∷ 0 ∷ 9 ∷ []) (0 ∷ 0 ∷ 0 ∷ [])
    ∷ []
unfolding nodes.broken nodes.has_words nodes.find nodes.is_none nodes.sound nodes.new_node nodes.or_new nodes.make outcome.fits outcome.at_entry outcome.stopped
    machine.fork_rule machine.rule machine.resume machine.grow_by machine.grow machine.hold machine.use_rule machine.take_rule machine.turn machine.after machine.uses
    machine-apply.settle machine-apply.apply_nodes machine-apply.apply
orders = refl

-- "22000 on 0 gives 200 in 3 steps": triage, with one frame; 0, 200 and 22000 are nodes 0 to 2, one node is made for 10, and 200 is there
pub triages : apply (0 ∷ 0 ∷ 1 ∷ 1 ∷ 2 ∷ 1 ∷ 9 ∷ 9 ∷ 9 ∷ []) 3 (5 ∷ 5 ∷ 5 ∷ []) 2 0 3
    ≡ whole (applied 1 4 3 (counts 1 1 0 0 1)) (0 ∷ 0 ∷ 1 ∷ 1 ∷ 2 ∷ 1 ∷ 1 ∷ 0 ∷ 9 ∷ []) (0 ∷ 0 ∷ 0 ∷ [])
unfolding nodes.broken nodes.has_words nodes.find nodes.is_none nodes.sound nodes.new_node nodes.or_new nodes.make outcome.fits outcome.at_entry outcome.stopped
    machine.fork_rule machine.rule machine.resume machine.grow_by machine.grow machine.hold machine.use_rule machine.take_rule machine.turn machine.after machine.uses
    machine-apply.settle machine-apply.apply_nodes machine-apply.apply
triages = refl

-- The checks in order, each of which leaves the words as found: "1, also for a step limit above 1,000,000. 2. 3 for either number."
-- "Refusal 2 now also covers two equal used nodes." ([8])
pub checks : apply (1 ∷ 0 ∷ []) 1 (5 ∷ []) 7 7 1000001 ∷ apply (1 ∷ 0 ∷ []) 1 (5 ∷ []) 7 7 1000000 ∷ apply (0 ∷ 0 ∷ 0 ∷ 0 ∷ []) 2 (5 ∷ []) 7 7 0 ∷ apply (0 ∷ 0 ∷ []) 1 (5 ∷ []) 1 0 0 ∷ apply (0 ∷ 0 ∷ []) 1 (5 ∷ []) 0 1 0 ∷ []
    ≡ whole (not_applied Limits) (1 ∷ 0 ∷ []) (5 ∷ [])
    ∷ whole (not_applied Broken) (1 ∷ 0 ∷ []) (5 ∷ [])
    ∷ whole (not_applied Broken) (0 ∷ 0 ∷ 0 ∷ 0 ∷ []) (5 ∷ [])
    ∷ whole (not_applied refusals.Node) (0 ∷ 0 ∷ []) (5 ∷ [])
    ∷ whole (not_applied refusals.Node) (0 ∷ 0 ∷ []) (5 ∷ [])
    ∷ []
unfolding nodes.broken nodes.has_words nodes.find nodes.is_none nodes.sound outcome.fits outcome.at_entry machine-apply.apply
checks = refl

-- the numbers of an answer: "A refusal returns its number, used as at entry, and 0 for node number, steps and digits."
pub numbers : map (applied_numbers 5) (applied 1 6 10 (counts 3 2 2 3 0) ∷ not_applied Steps ∷ [])
    ≡ record { refusal = 0; node = 1; used = 6; steps = 10; digits = 0 } ∷ record { refusal = 7; node = 0; used = 5; steps = 0; digits = 0 } ∷ []
unfolding applied_numbers number refusal.refused_numbers
numbers = refl

-- "five counts in document 01's order, all 0 on refusal" ([5])
pub counted : map applied_uses (applied 1 6 10 (counts 3 2 2 3 0) ∷ not_applied Steps ∷ []) ≡ counts 3 2 2 3 0 ∷ no_uses ∷ []
unfolding applied_uses
counted = refl

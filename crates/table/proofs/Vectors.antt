-- Worked examples: the numbers of refusals and answers, which no theorem pins; bytes into out; nodes found, made in order or without a place; nodes that
-- are equal. Assumes nothing.
use Prim.Native.Nat.{ℕ}
use mathlib.Core.Path.{◌≡◌, refl}
use mathlib.Core.Bool.{true, false}
use mathlib.Core.List.{[], ◌∷◌, map}
use lib.ListN.{replicate}
use Rattle.std.specs.Prelude.{Some, None, Ok, Err}
use Rattle.calculus.specs.Tree.{leaf, stem, fork}
use Rattle.table.specs.Nodes.{got, full, broken, has_words, find, is_none, sound, new_node, or_new, make, and_then, lay}
use Rattle.table.specs.Outcome.{whole_out, into_out}
use Rattle.table.specs.Refusal.{number, refused_numbers, made, not_made, made_numbers, given_numbers, clears}
use Rattle.table.specs.Same.{same_numbers}
use Rattle.table.specs.declared.Refusal.TheVariants.{Limits, Broken, Node, Text, Rule, Packet, Steps, Nodes, Frames, Out, Label, RuleText, Week, Weight}

-- the refusals in the order of their numbers
pub numbers : map number (Limits ∷ Broken ∷ Node ∷ Text ∷ Rule ∷ Packet ∷ Steps ∷ Nodes ∷ Frames ∷ Out ∷ Label ∷ RuleText ∷ Week ∷ Weight ∷ [])
    ≡ 1 ∷ 2 ∷ 3 ∷ 4 ∷ 5 ∷ 6 ∷ 7 ∷ 8 ∷ 9 ∷ 10 ∷ 11 ∷ 12 ∷ 13 ∷ 14 ∷ []
unfolding number
numbers = refl

-- "Numbers 1 to 6, and any above 10 added later, leave lent memory as found. Numbers 7 to 10 set to 0 [..]", in the same order
pub clearing : map clears (Limits ∷ Broken ∷ Node ∷ Text ∷ Rule ∷ Packet ∷ Steps ∷ Nodes ∷ Frames ∷ Out ∷ Label ∷ RuleText ∷ Week ∷ Weight ∷ [])
    ≡ false ∷ false ∷ false ∷ false ∷ false ∷ false ∷ true ∷ true ∷ true ∷ true ∷ false ∷ false ∷ false ∷ false ∷ []
unfolding clears number
clearing = refl

-- "A refusal returns its number, used as at entry, and 0 for node number, steps and digits."
pub answers : (made_numbers 5 (not_made Nodes) ≡ record { refusal = 8; node = 0; used = 5; steps = 0; digits = 0 })
    × (made_numbers 5 (made 6 7) ≡ record { refusal = 0; node = 6; used = 7; steps = 0; digits = 0 })
unfolding made_numbers refused_numbers number
answers = (refl, refl)

-- two bytes into one, two and three out bytes, with the answer as a number: 10, and the byte stays; 2; 2, and the third byte stays
pub into_out_lem : map (into_out (λ (n : ℕ). n) number (1 ∷ 2 ∷ [])) ((7 ∷ []) ∷ (7 ∷ 8 ∷ []) ∷ (7 ∷ 8 ∷ 9 ∷ []) ∷ [])
    ≡ whole_out 10 [] [] (7 ∷ []) ∷ whole_out 2 [] [] (1 ∷ 2 ∷ []) ∷ whole_out 2 [] [] (1 ∷ 2 ∷ 9 ∷ []) ∷ []
unfolding into_out number
into_out_lem = refl

-- 2010 where node 0 is a leaf: the leaf of the second branch is there, its stem is made, the leaf of the first is there, then their fork is made
pub shared : lay (record { words = replicate 8 0; used = 1 }) (fork leaf (stem leaf))
    ≡ got (record { table = record { words = 0 ∷ 0 ∷ 1 ∷ 0 ∷ 1 ∷ 2 ∷ 0 ∷ 0 ∷ []; used = 3 }; node = 2 })
unfolding lay make or_new new_node and_then find has_words
shared = refl

-- 210200 in an empty table: the leaf and the fork of the second branch, the stem of the first, then the whole
pub order : lay (record { words = replicate 8 0; used = 0 }) (fork (stem leaf) (fork leaf leaf))
    ≡ got (record { table = record { words = 0 ∷ 0 ∷ 1 ∷ 1 ∷ 1 ∷ 0 ∷ 3 ∷ 2 ∷ []; used = 4 }; node = 3 })
unfolding lay make or_new new_node and_then find has_words
order = refl

-- the same with one node fewer: the whole has no place
pub no_place : lay (record { words = replicate 6 0; used = 0 }) (fork (stem leaf) (fork leaf leaf))
    ≡ full (record { words = 0 ∷ 0 ∷ 1 ∷ 1 ∷ 1 ∷ 0 ∷ []; used = 3 })
unfolding lay make or_new new_node and_then find has_words
no_place = refl

-- Two nodes with the same words are refused; nodes that share one word are not.
pub equals : (sound (0 ∷ 0 ∷ 1 ∷ 0 ∷ 1 ∷ 0 ∷ []) 3 ≡ false) × (sound (0 ∷ 0 ∷ 1 ∷ 0 ∷ 1 ∷ 1 ∷ []) 3 ≡ true)
unfolding sound broken find has_words is_none
equals = (refl, refl)

-- the numbers of a comparison
pub comparisons : map same_numbers (Ok true ∷ Ok false ∷ Err Node ∷ []) ≡ (0 ∷ 1 ∷ []) ∷ (0 ∷ 0 ∷ []) ∷ (3 ∷ 0 ∷ []) ∷ []
unfolding same_numbers number
comparisons = refl

-- a number, none and a refusal as an answer's three numbers
pub givens : map given_numbers (Ok (Some 28) ∷ Ok None ∷ Err Week ∷ []) ≡ (0 ∷ 1 ∷ 28 ∷ []) ∷ (0 ∷ 0 ∷ 0 ∷ []) ∷ (13 ∷ 0 ∷ 0 ∷ []) ∷ []
unfolding given_numbers number
givens = refl

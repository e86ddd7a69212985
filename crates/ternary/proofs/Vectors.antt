-- Worked examples of the definitions: which nodes the digits want and which refusal comes first, which frames are held at a digit, when trees are counted,
-- how many are wanted. Assumes nothing.
use Prim.Native.Nat.{ℕ}
use mathlib.Core.Path.{◌≡◌, refl}
use mathlib.Core.List.{[], ◌∷◌, map}
use mathlib.Core.Option.{none, some}
use lib.ListN.{take, replicate}
use Rattle.std.specs.Prelude.{Err, Ok}
use Rattle.calculus.specs.Tree.{Tree, leaf, stem, fork, size}
use Rattle.table.specs.Nodes.{Table, make, or_new, new_node, and_then, lay, find, has_words, is_none, broken, sound}
use Rattle.table.specs.Outcome.{whole, fits, at_entry, placed, stopped, settled, laid, laid_within}
use Rattle.table.specs.Refusal.{number, refused_numbers, made, not_made}
use Rattle.table.specs.declared.Refusal.TheVariants.{Text, Nodes, Frames, Out}
use Rattle.ternary.specs.Text.{text, take_leaf, take_stem, take_fork, take_digit, pending, single, tree_of, many_pending, most_pending}
use Rattle.ternary.specs.Laying.{awaits, no_place, no_text, keep, want_leaf, want_stem, want_fork, lay_digit, lay_digits}
use Rattle.ternary.specs.Read.{readable, read_tree, read}
use Rattle.ternary.specs.Wanted.{wanted_after, wanted_from, wanted}
use Rattle.ternary.specs.Write.{left, lacks, next, spend, digits, written_numbers}
use Rattle.ternary.specs.Held.{held}

-- "A refusal returns its number, used as at entry, and 0 for node number, steps and digits."
pub answers : (written_numbers 5 (Err Out) ≡ record { refusal = 10; node = 0; used = 5; steps = 0; digits = 0 })
    × (written_numbers 5 (Ok 6) ≡ record { refusal = 0; node = 0; used = 5; steps = 0; digits = 6 })
unfolding written_numbers refused_numbers number
answers = (refl, refl)

-- "10 if out is full" comes before "9 if the digit is 2": with no frame, a fork's digit lacks a byte first and a frame then
pub full_first : (digits 0 0 (fork leaf leaf) 0 ≡ lacks Out) × (digits 0 0 (fork leaf leaf) 1 ≡ lacks Frames)
unfolding digits spend
full_first = (refl, refl)

-- a frame is held "by a fork whose second branch is not begun": one frame serves 20200, and two are needed for 22000
pub one_frame : (digits 1 0 (fork leaf (fork leaf leaf)) 5 ≡ left 0) × (digits 1 0 (fork (fork leaf leaf) leaf) 5 ≡ lacks Frames)
unfolding digits spend next
one_frame = (refl, refl)

-- the frames held at each digit of 20200 and of 22000
pub held_at : (map (held (fork leaf (fork leaf leaf))) (0 ∷ 1 ∷ 2 ∷ 3 ∷ 4 ∷ []) ≡ 0 ∷ 1 ∷ 0 ∷ 1 ∷ 0 ∷ [])
    × (map (held (fork (fork leaf leaf) leaf)) (0 ∷ 1 ∷ 2 ∷ 3 ∷ 4 ∷ []) ≡ 0 ∷ 1 ∷ 2 ∷ 1 ∷ 0 ∷ [])
unfolding held size
held_at = (refl, refl)

-- trees pending are counted after each digit: 0 needs one frame, 10 one, 200 two, 20200 two, 22000 three
pub most : map (λ (t : Tree). most_pending (text t)) (leaf ∷ stem leaf ∷ fork leaf leaf ∷ fork leaf (fork leaf leaf) ∷ fork (fork leaf leaf) leaf ∷ [])
    ≡ 1 ∷ 1 ∷ 2 ∷ 2 ∷ 3 ∷ []
unfolding text most_pending pending take_digit take_leaf take_stem take_fork many_pending
most = refl

-- the trees wanted after each beginning of 210200, and after one digit more; after a byte that is no digit; the empty beginning wants one
pub wants : (map (λ (n : ℕ). wanted (take n (50 ∷ 49 ∷ 48 ∷ 50 ∷ 48 ∷ 48 ∷ 48 ∷ []))) (0 ∷ 1 ∷ 2 ∷ 3 ∷ 4 ∷ 5 ∷ 6 ∷ 7 ∷ [])
    ≡ some 1 ∷ some 2 ∷ some 2 ∷ some 1 ∷ some 2 ∷ some 1 ∷ some 0 ∷ none ∷ []) × (wanted (50 ∷ 51 ∷ []) ≡ none)
unfolding wanted wanted_from wanted_after
wants = (refl, refl)

-- a table of three nodes in which node 0 is a leaf
abbrev leaf_there : Table
leaf_there = record { words = replicate 6 0; used = 1 }

-- 2010, last to first: the leaf is there, its stem is node 1, the leaf is there, the fork of the leaf and the stem is node 2
pub digit_by_digit : map (lay_digits leaf_there) ((48 ∷ []) ∷ (49 ∷ 48 ∷ []) ∷ (48 ∷ 49 ∷ 48 ∷ []) ∷ (50 ∷ 48 ∷ 49 ∷ 48 ∷ []) ∷ [])
    ≡ awaits leaf_there (0 ∷ []) ∷ awaits (record { words = 0 ∷ 0 ∷ 1 ∷ 0 ∷ 0 ∷ 0 ∷ []; used = 2 }) (1 ∷ [])
    ∷ awaits (record { words = 0 ∷ 0 ∷ 1 ∷ 0 ∷ 0 ∷ 0 ∷ []; used = 2 }) (0 ∷ 1 ∷ []) ∷ awaits (record { words = 0 ∷ 0 ∷ 1 ∷ 0 ∷ 1 ∷ 2 ∷ []; used = 3 }) (2 ∷ []) ∷ []
unfolding lay_digits lay_digit want_leaf want_stem want_fork keep make or_new new_node find has_words
digit_by_digit = refl

-- a stem or a fork without branches and another byte are no text; a fork's node that has no place
pub digits_stop : (map (lay_digits leaf_there) ((49 ∷ []) ∷ (50 ∷ 48 ∷ []) ∷ (51 ∷ 48 ∷ []) ∷ []) ≡ no_text ∷ no_text ∷ no_text ∷ [])
    × (lay_digits (record { words = replicate 4 0; used = 1 }) (50 ∷ 48 ∷ 49 ∷ 48 ∷ []) ≡ no_place (record { words = 0 ∷ 0 ∷ 1 ∷ 0 ∷ []; used = 2 }))
unfolding lay_digits lay_digit want_leaf want_stem want_fork keep make or_new new_node find has_words
digits_stop = (refl, refl)

-- Read of 10 in a full table that has the leaf alone: 9 without a frame; with one, 8 for the stem. 0 is there and needs no place. 00 is 4.
pub full_table : (read (0 ∷ 0 ∷ []) 1 (7 ∷ 7 ∷ []) (49 ∷ 48 ∷ []) ≡ whole (not_made Frames) (0 ∷ 0 ∷ []) (0 ∷ 0 ∷ []))
    × (read (0 ∷ 0 ∷ []) 1 (7 ∷ 7 ∷ 7 ∷ []) (49 ∷ 48 ∷ []) ≡ whole (not_made Nodes) (0 ∷ 0 ∷ []) (0 ∷ 0 ∷ 0 ∷ []))
    × (read (0 ∷ 0 ∷ []) 1 (7 ∷ 7 ∷ 7 ∷ []) (48 ∷ []) ≡ whole (made 0 1) (0 ∷ 0 ∷ []) (0 ∷ 0 ∷ 0 ∷ []))
    × (read (0 ∷ 0 ∷ []) 1 (7 ∷ 7 ∷ 7 ∷ []) (48 ∷ 48 ∷ []) ≡ whole (not_made Text) (0 ∷ 0 ∷ []) (7 ∷ 7 ∷ 7 ∷ []))
unfolding read read_tree readable tree_of single pending take_digit take_leaf take_stem most_pending many_pending at_entry fits sound broken is_none find has_words laid_within laid settled placed stopped lay and_then make or_new new_node
full_table = (refl, refl, refl, refl)

-- Read of 2010 with a place for the stem alone: 8 at the fork, with the stem's words set to 0 and the odd word left
pub cleared_again : read (0 ∷ 0 ∷ 5 ∷ 6 ∷ 9 ∷ []) 1 (7 ∷ 7 ∷ 7 ∷ 7 ∷ 7 ∷ 7 ∷ []) (50 ∷ 48 ∷ 49 ∷ 48 ∷ []) ≡ whole (not_made Nodes) (0 ∷ 0 ∷ 0 ∷ 0 ∷ 9 ∷ []) (replicate 6 0)
unfolding read read_tree readable tree_of single pending take_digit take_leaf take_stem take_fork most_pending many_pending at_entry fits sound broken is_none find has_words laid_within laid settled stopped lay and_then make or_new new_node
cleared_again = refl

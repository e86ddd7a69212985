-- The starred lines of document 01 (its examples), and its packet's line, as one table of inputs and the lines that they give. The numbers of nodes are those
-- of request [8].
use Rattle.std.specs.Prelude.{List, [], ◌∷◌}
use Rattle.examples.specs.Rows.{Input, reads, applies, packet, rule, tree, Line, refused, gives}

pub record Row : Type 0 where
  pub input : Input
  pub outcome : Line

abbrev row : Input → Line → Row
row i o = record { input = i; outcome = o }

unfoldable pub rows : List Row
rows =
    -- Texts 0, 10, 21010 are whole; empty, 1, 00 and 3 give 4.
    row (reads (0 ∷ [])) (gives 0 1 (0 ∷ []))
    ∷ row (reads (1 ∷ 0 ∷ [])) (gives 0 2 (1 ∷ 0 ∷ []))
    ∷ row (reads (2 ∷ 1 ∷ 0 ∷ 1 ∷ 0 ∷ [])) (gives 0 3 (2 ∷ 1 ∷ 0 ∷ 1 ∷ 0 ∷ []))
    ∷ row (reads []) (refused 4)
    ∷ row (reads (1 ∷ [])) (refused 4)
    ∷ row (reads (0 ∷ 0 ∷ [])) (refused 4)
    ∷ row (reads (3 ∷ [])) (refused 4)
    -- Rule 02 03 00 is 21010; on 0 it gives 0 in 4 steps.
    ∷ row (applies (rule (2 ∷ 3 ∷ 0 ∷ [])) [] 0 0 0) (gives 0 0 (2 ∷ 1 ∷ 0 ∷ 1 ∷ 0 ∷ []))
    ∷ row (applies (rule (2 ∷ 3 ∷ 0 ∷ [])) ((0 ∷ []) ∷ []) 10000 1 1) (gives 4 1 (0 ∷ []))
    ∷ row (packet (2 ∷ 3 ∷ 0 ∷ []) ((0 ∷ []) ∷ [])) (gives 4 4 (0 ∷ []))
    -- Rule 02 00 is 200; on 10 it gives 0 in 1 step.
    ∷ row (applies (rule (2 ∷ 0 ∷ [])) [] 0 0 0) (gives 0 0 (2 ∷ 0 ∷ 0 ∷ []))
    ∷ row (applies (rule (2 ∷ 0 ∷ [])) ((1 ∷ 0 ∷ []) ∷ []) 10000 0 0) (gives 1 0 (0 ∷ []))
    ∷ row (packet (2 ∷ 0 ∷ []) ((1 ∷ 0 ∷ []) ∷ [])) (gives 1 3 (0 ∷ []))
    -- Rule 02 01 03 00 03 00 is 212101021010; on 0 it gives 10 in 10 steps, 2 frames; of its 5 new nodes 4 are there already ([8]), and 200 is new.
    ∷ row (applies (rule (2 ∷ 1 ∷ 3 ∷ 0 ∷ 3 ∷ 0 ∷ [])) [] 0 0 0) (gives 0 0 (2 ∷ 1 ∷ 2 ∷ 1 ∷ 0 ∷ 1 ∷ 0 ∷ 2 ∷ 1 ∷ 0 ∷ 1 ∷ 0 ∷ []))
    ∷ row (applies (rule (2 ∷ 1 ∷ 3 ∷ 0 ∷ 3 ∷ 0 ∷ [])) ((0 ∷ []) ∷ []) 10 1 2) (gives 10 1 (1 ∷ 0 ∷ []))
    -- The same with limit 9: 7. With a free node too few: 8, at the third use. With 1 frame: 9. With both too few at one use: 7.
    ∷ row (applies (rule (2 ∷ 1 ∷ 3 ∷ 0 ∷ 3 ∷ 0 ∷ [])) ((0 ∷ []) ∷ []) 9 1 2) (refused 7)
    ∷ row (applies (rule (2 ∷ 1 ∷ 3 ∷ 0 ∷ 3 ∷ 0 ∷ [])) ((0 ∷ []) ∷ []) 10 0 2) (refused 8)
    ∷ row (applies (rule (2 ∷ 1 ∷ 3 ∷ 0 ∷ 3 ∷ 0 ∷ [])) ((0 ∷ []) ∷ []) 10 1 1) (refused 9)
    ∷ row (applies (rule (2 ∷ 1 ∷ 3 ∷ 0 ∷ 3 ∷ 0 ∷ [])) ((0 ∷ []) ∷ []) 2 0 2) (refused 7)
    ∷ row (applies (rule (2 ∷ 1 ∷ 3 ∷ 0 ∷ 3 ∷ 0 ∷ [])) ((0 ∷ []) ∷ []) 3 0 2) (refused 8)
    -- Rule 02 02 03 01 is 212101021200200; on 0 then 10 it gives 0 in 11 steps. Every node wanted is there ([8]), so that a full table is enough.
    ∷ row (applies (rule (2 ∷ 2 ∷ 3 ∷ 1 ∷ [])) [] 0 0 0) (gives 0 0 (2 ∷ 1 ∷ 2 ∷ 1 ∷ 0 ∷ 1 ∷ 0 ∷ 2 ∷ 1 ∷ 2 ∷ 0 ∷ 0 ∷ 2 ∷ 0 ∷ 0 ∷ []))
    ∷ row (applies (rule (2 ∷ 2 ∷ 3 ∷ 1 ∷ [])) ((0 ∷ []) ∷ (1 ∷ 0 ∷ []) ∷ []) 10000 0 2) (gives 11 0 (0 ∷ []))
    ∷ row (packet (2 ∷ 2 ∷ 3 ∷ 1 ∷ []) ((0 ∷ []) ∷ (1 ∷ 0 ∷ []) ∷ [])) (gives 11 8 (0 ∷ []))
    -- 22000 on 0 gives 200 in 3 steps; 10 is new, 200 is there.
    ∷ row (applies (tree (2 ∷ 2 ∷ 0 ∷ 0 ∷ 0 ∷ [])) ((0 ∷ []) ∷ []) 10000 1 1) (gives 3 1 (2 ∷ 0 ∷ 0 ∷ []))
    -- Standard input in hexadecimal 01 0006 020103000300 02 0001 30 prints 0 10 6 10. ([8])
    ∷ row (packet (2 ∷ 1 ∷ 3 ∷ 0 ∷ 3 ∷ 0 ∷ []) ((0 ∷ []) ∷ [])) (gives 10 6 (1 ∷ 0 ∷ []))
    ∷ []

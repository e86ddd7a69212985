-- Ternary text: the text of a tree, and the trees pending while digits are taken last to first. Assumes nothing: these are definitions.
use Rattle.std.specs.Prelude.{ℕ, max, cond, List, [], ◌∷◌, ◌++◌, length, eqb}
use Rattle.std.proofs.Math.Option.{Option, none, some}
use Rattle.calculus.specs.Tree.{Tree, leaf, stem, fork}

-- "Its text is one ASCII digit a node, parent before branches, first branch before second: leaf 0, stem 1, fork 2." (Trees and their table)
unfoldable pub text : Tree → List ℕ
text leaf = 48 ∷ []
text (stem p) = 49 ∷ text p
text (fork p q) = 50 ∷ (text p ++ text q)

-- the texts of trees one after another
unfoldable pub texts : List Tree → List ℕ
texts [] = []
texts (x ∷ xs) = text x ++ texts xs

-- What a digit makes of the trees pending, the first of them that of the digit after it: 0 a leaf more, 1 a stem of the first, 2 a fork of the
-- first two. None where there are too few.
unfoldable pub take_leaf : List Tree → Option (List Tree)
take_leaf ts = some (leaf ∷ ts)

unfoldable pub take_stem : List Tree → Option (List Tree)
take_stem [] = none
take_stem (p ∷ ts) = some (stem p ∷ ts)

unfoldable pub take_fork : List Tree → Option (List Tree)
take_fork [] = none
take_fork (p ∷ []) = none
take_fork (p ∷ (q ∷ ts)) = some (fork p q ∷ ts)

-- any other byte is no digit
unfoldable pub take_digit : ℕ → Option (List Tree) → Option (List Tree)
take_digit c none = none
take_digit c (some ts) = cond (eqb c 48) (take_leaf ts) (cond (eqb c 49) (take_stem ts) (cond (eqb c 50) (take_fork ts) none))

-- the trees pending once all digits of a text are taken, last to first
unfoldable pub pending : List ℕ → Option (List Tree)
pending [] = some []
pending (c ∷ l) = take_digit c (pending l)

-- the one tree pending
unfoldable pub single : Option (List Tree) → Option Tree
single none = none
single (some []) = none
single (some (t ∷ [])) = some t
single (some (t ∷ (u ∷ ts))) = none

-- A whole text is one tree's: the tree that is left, and none where a text is not whole.
unfoldable pub tree_of : List ℕ → Option Tree
tree_of l = single (pending l)

-- how many trees are pending
unfoldable pub many_pending : Option (List Tree) → ℕ
many_pending none = 0
many_pending (some ts) = length ts

-- "the most trees pending while the digits are taken last to first", counted after each digit (Operations, Read)
unfoldable pub most_pending : List ℕ → ℕ
most_pending [] = 0
most_pending (c ∷ l) = max (many_pending (pending (c ∷ l))) (most_pending l)

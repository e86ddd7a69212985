-- An expression as symbols, operands before their operator: what the parser writes and the encoder reads, and no part of the grammar. Assumes
-- nothing: these are definitions.
use Rattle.std.specs.Prelude.{ℕ, zero, suc, ◌+◌, cond, List, [], ◌∷◌, ◌++◌, length, eqb}
use Rattle.calculus.specs.Bytes.{bytes}
use Rattle.grammar.specs.Expression.{Expression, leaf, var, app, abs, not, and, or, implies}
use Rattle.grammar.specs.Meaning.{and_tree, or_tree, implies_tree, not_tree}

-- Symbols below 4 have two operands, 4 and 5 one, the others none.
unfoldable pub postfix : Expression → List ℕ
postfix leaf = 6 ∷ []
postfix (var i) = (i + 7) ∷ []
postfix (app f a) = postfix f ++ (postfix a ++ (0 ∷ []))
postfix (abs b) = postfix b ++ (4 ∷ [])
postfix (not a) = postfix a ++ (5 ∷ [])
postfix (and a b) = postfix a ++ (postfix b ++ (1 ∷ []))
postfix (or a b) = postfix a ++ (postfix b ++ (2 ∷ []))
postfix (implies a b) = postfix a ++ (postfix b ++ (3 ∷ []))

-- the bytes that a symbol puts before those of its operands
unfoldable pub lead : ℕ → List ℕ
lead zero = 1 ∷ []
lead (suc zero) = 1 ∷ (1 ∷ bytes and_tree)
lead (suc (suc zero)) = 1 ∷ (1 ∷ bytes or_tree)
lead (suc (suc (suc zero))) = 1 ∷ (1 ∷ bytes implies_tree)
lead (suc (suc (suc (suc zero)))) = 2 ∷ []
lead (suc (suc (suc (suc (suc zero))))) = 1 ∷ bytes not_tree
lead (suc (suc (suc (suc (suc (suc zero)))))) = 0 ∷ []
lead (suc (suc (suc (suc (suc (suc (suc i))))))) = 3 ∷ (i ∷ [])

-- how many bytes the term of symbols has
unfoldable pub total : List ℕ → ℕ
total [] = 0
total (s ∷ l) = length (lead s) + total l

-- how many of the symbols are abstractions
unfoldable pub abstractions : List ℕ → ℕ
abstractions [] = 0
abstractions (s ∷ l) = cond (eqb s 4) (suc (abstractions l)) (abstractions l)

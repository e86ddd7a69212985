-- The number of trees still wanted while the digits of a text are taken first to last, and the fewest digits that complete a beginning of a text.
-- Assumes nothing: these are definitions.
use Rattle.std.specs.Prelude.{ℕ, zero, suc, ◌≤◌, max, ◌≡◌, cond, List, [], ◌∷◌, ◌++◌, length, replicate, eqb}
use Rattle.std.proofs.Math.Option.{Option, none, some}
use Rattle.calculus.specs.Tree.{Tree}
use Rattle.ternary.specs.Text.{tree_of}

-- "three cases, saying what a leaf, stem and fork do to the number of trees still wanted" ([7]): a leaf takes one away, a stem leaves it, a fork adds
-- one. None where no tree is wanted, and for any other byte.
unfoldable pub wanted_after : ℕ → Option ℕ → Option ℕ
wanted_after c none = none
wanted_after c (some zero) = none
wanted_after c (some (suc n)) = cond (eqb c 48) (some n) (cond (eqb c 49) (some (suc n)) (cond (eqb c 50) (some (suc (suc n))) none))

-- the number wanted once digits are taken, first to last, where n trees are wanted before them
unfoldable pub wanted_from : Option ℕ → List ℕ → Option ℕ
wanted_from n [] = n
wanted_from n (c ∷ l) = wanted_from (wanted_after c n) l

-- A text is one tree's, so that before its first digit one tree is wanted.
unfoldable pub wanted : List ℕ → Option ℕ
wanted l = wanted_from (some 1) l

-- how many trees are wanted
unfoldable pub many_wanted : Option ℕ → ℕ
many_wanted none = 0
many_wanted (some n) = n

-- the most trees wanted before a digit
unfoldable pub most_wanted : Option ℕ → List ℕ → ℕ
most_wanted n [] = 0
most_wanted n (c ∷ l) = max (many_wanted n) (most_wanted (wanted_after c n) l)

-- these digits make a beginning a whole text, "length aside" ([7]): also one above 65,535 bytes
abbrev pub Completes : List ℕ → List ℕ → Type 0
Completes l r = (t : Tree) × (tree_of (l ++ r) ≡ some t)

-- "any beginning that can still become whole, length aside" ([7])
abbrev pub CanBecomeWhole : List ℕ → Type 0
CanBecomeWhole l = (r : List ℕ) × Completes l r

-- "the fewest digits that complete it" ([7]): so many leaves do, and nothing shorter does.
pub record Fewest (l : List ℕ) (n : ℕ) : Type 0 where
  pub leaves : Completes l (replicate n 48)
  pub least : (r : List ℕ) → Completes l r → n ≤ length r

-- The nodes of a text wanted digit by digit, last to first. Assumes nothing: these are definitions.
use Rattle.std.specs.Prelude.{ℕ, ◌+◌, ◌<◌, ◌≡◌, cond, List, [], ◌∷◌, eqb}
use Rattle.std.proofs.Math.Option.{none}
use Rattle.calculus.specs.Tree.{Tree}
use Rattle.table.specs.Nodes.{Table, Making, got, full, first, second, find, make}
use Rattle.table.specs.Claims.{Has}

-- What comes of the digits taken so far: the table with the nodes pending, the first of them that of the digit taken last; or the table in which a node
-- has no place; or no text, where a digit lacks its branches or a byte is no digit.
pub data Laying : Type 0 where
  awaits : Table → List ℕ → Laying
  no_place : Table → Laying
  no_text : Laying

-- the node wanted is pending before the others
unfoldable pub keep : List ℕ → Making → Laying
keep ns (got m) = awaits m.table (m.node ∷ ns)
keep ns (full z) = no_place z

-- What a digit wants: 0 a leaf, 1 a stem of the first node pending, 2 a fork of the first two.
unfoldable pub want_leaf : Table → List ℕ → Laying
want_leaf t ns = keep ns (make t 0 0)

unfoldable pub want_stem : Table → List ℕ → Laying
want_stem t [] = no_text
want_stem t (p ∷ ns) = keep ns (make t (p + 1) 0)

unfoldable pub want_fork : Table → List ℕ → Laying
want_fork t [] = no_text
want_fork t (p ∷ []) = no_text
want_fork t (p ∷ (q ∷ ns)) = keep ns (make t (p + 1) (q + 1))

unfoldable pub lay_digit : ℕ → Laying → Laying
lay_digit c (awaits t ns) = cond (eqb c 48) (want_leaf t ns) (cond (eqb c 49) (want_stem t ns) (cond (eqb c 50) (want_fork t ns) no_text))
lay_digit c (no_place z) = no_place z
lay_digit c no_text = no_text

-- "Nodes are wanted in the order in which document 01 numbers them" ([8]), which is "Digit p of n becomes node used + n − 1 − p" (Operations, Read): the last
-- digit wants its node first.
unfoldable pub lay_digits : Table → List ℕ → Laying
lay_digits t [] = awaits t []
lay_digits t (c ∷ l) = lay_digit c (lay_digits t l)

-- "a found one takes no new number" ([8]): the node that is wanted in the table t was there, and t is left as it was; or no used node had its words, and it
-- has the next number.
pub data Numbered (t : Table) (node : ℕ) (left : Table) : Type 0 where
  was_there : node < t.used → left ≡ t → Numbered t node left
  the_next : find t.words t.used (first left.words node) (second left.words node) ≡ none → node ≡ t.used → left.used ≡ t.used + 1 → Numbered t node left

-- the nodes are in use and have these trees, one by one
pub data HaveTrees (t : Table) : List ℕ → List Tree → Type 0 where
  no_nodes : HaveTrees t [] []
  one_more : {n : ℕ} {x : Tree} {ns : List ℕ} {xs : List Tree} → Has t n x → HaveTrees t ns xs → HaveTrees t (n ∷ ns) (x ∷ xs)

-- The nodes of a table: which are broken, which are equal, the tree of a node, the node that is made, a tree laid out, words cleared.
-- Assumes nothing: these are definitions.
use Rattle.std.specs.Prelude.{ℕ, zero, suc, ◌+◌, ◌-◌, ◌*◌, ◌/◌, ◌≤◌, ◌≡◌, Bool, true, false, cond, not, ◌&&◌, ◌||◌, List, ◌++◌, length, get_or, set, take, drop, replicate, ltb, eqb}
use Rattle.std.proofs.Math.Option.{Option, none, some}
use Rattle.calculus.specs.Tree.{Tree, leaf, stem, fork}

-- "The table is a lent run of 32-bit words, two a node [..] Nodes 0 to used − 1 are in use." (Trees and their table)
pub record Table : Type 0 where
  pub words : List ℕ
  pub used : ℕ

-- "Capacity is words divided by 2, rounded down."
abbrev pub capacity : List ℕ → ℕ
capacity w = length w / 2

-- the first and the second branch word of node i
abbrev pub first : List ℕ → ℕ → ℕ
first w i = get_or w (i * 2) 0

abbrev pub second : List ℕ → ℕ → ℕ
second w i = get_or w (i * 2 + 1) 0

-- "A used node is broken if its first word is 0 and its second isn't, or if a word exceeds its own number": node i with the words a and b
unfoldable pub broken : ℕ → ℕ → ℕ → Bool
broken i a b = (eqb a 0 && not (eqb b 0)) || (ltb i a || ltb i b)

-- "has both words equal to those of a used node" ([8]): whether node i has the words a and b
unfoldable pub has_words : List ℕ → ℕ → ℕ → ℕ → Bool
has_words w i a b = eqb (first w i) a && eqb (second w i) b

-- the node below n with the words a and b; the last of them, should there be several
unfoldable pub find : List ℕ → ℕ → ℕ → ℕ → Option ℕ
find w zero a b = none
find w (suc i) a b = cond (has_words w i a b) (some i) (find w i a b)

unfoldable pub is_none : Option ℕ → Bool
is_none none = true
is_none (some i) = false

-- None of the nodes below n is broken, and none has the words of one before it: "Refusal 2 now also covers two equal used nodes." ([8])
unfoldable pub sound : List ℕ → ℕ → Bool
sound w zero = true
sound w (suc i) = not (broken i (first w i) (second w i)) && (is_none (find w i (first w i) (second w i)) && sound w i)

-- What holds of a table that passes refusals 1 and 2; `unbroken` says of its used nodes also that no two are equal.
pub record Sound (t : Table) : Type 0 where
  pub short : length t.words ≤ 131072
  pub within : t.used ≤ capacity t.words
  pub unbroken : sound t.words t.used ≡ true

-- "A branch word is 0 for no branch, else the branch's node number plus 1.": the tree of a node by its branch words, where `tree` gives the tree
-- of a branch
unfoldable pub branches : (ℕ → Tree) → ℕ → ℕ → Tree
branches tree zero b = leaf
branches tree (suc p) zero = stem (tree p)
branches tree (suc p) (suc q) = fork (tree p) (tree q)

-- The tree of a node, going at most k branches deep; "branches come before parents", so node i has at most i below it on any way down.
unfoldable pub tree_to : ℕ → List ℕ → ℕ → Tree
tree_to zero w i = leaf
tree_to (suc k) w i = branches (tree_to k w) (first w i) (second w i)

abbrev pub tree_at : List ℕ → ℕ → Tree
tree_at w i = tree_to (suc i) w i

-- a table and the node that was made in it, or found in it
pub record Placed : Type 0 where
  pub table : Table
  pub node : ℕ

-- the next node, with the branch words a and b
unfoldable pub new_node : Table → ℕ → ℕ → Placed
new_node t a b =
    record {
      table = record { words = set (set t.words (t.used * 2) a) (t.used * 2 + 1) b; used = t.used + 1 };
      node = t.used;
    }

-- What comes of wanting nodes: the last of them, or the table in which one has no place.
pub data Making : Type 0 where
  got : Placed → Making
  full : Table → Making

-- the node found, else the next one, if it has a place
unfoldable pub or_new : Table → ℕ → ℕ → Option ℕ → Making
or_new t a b (some i) = got (record { table = t; node = i })
or_new t a b none = cond (ltb t.used (capacity t.words)) (got (new_node t a b)) (full t)

-- "When a node about to be made has both words equal to those of a used node, that node's number is taken instead." ([8]) The node that is wanted with
-- the branch words a and b; every node is wanted by this definition.
unfoldable pub make : Table → ℕ → ℕ → Making
make t a b = or_new t a b (find t.words t.used a b)

-- a further node is wanted, once there is the one before
unfoldable pub and_then : Making → (Placed → Making) → Making
and_then (got m) next = next m
and_then (full t) next = full t

-- A tree laid out: the nodes of the second branch, of the first branch, then their parent. "Nodes are wanted in the order in which document 01 numbers
-- them" ([8]), that is by the digits of the tree's text last to first: the theorem `lay_digits_lem` of the crate `ternary`.
unfoldable pub lay : Table → Tree → Making
lay t leaf = make t 0 0
lay t (stem p) = and_then (lay t p) (λ m. make m.table (m.node + 1) 0)
lay t (fork p q) = and_then (lay t q) (λ m. and_then (lay m.table p) (λ n. make n.table (n.node + 1) (m.node + 1)))

-- the words from index a up to b set to 0
abbrev pub cleared : List ℕ → ℕ → ℕ → List ℕ
cleared w a b = take a w ++ (replicate (b - a) 0 ++ drop b w)

-- What theorems claim of a table that an operation changed, of a tree that is laid out, and of the checks at entry. Assumes nothing: these are definitions.
use Rattle.std.specs.Prelude.{ℕ, ◌+◌, ◌*◌, ◌≤◌, ◌<◌, ◌≡◌, Bool, true, false, ◌&&◌, List, length, get_or, Result}
use Rattle.std.proofs.Math.Option.{none, some}
use Rattle.calculus.specs.Tree.{Tree, leaf, stem, fork, size}
use Rattle.table.specs.Nodes.{Table, Placed, Making, got, full, capacity, first, second, broken, find, Sound, tree_at, new_node, lay}
use Rattle.table.specs.Outcome.{Outcome, whole, frames, zeros, fits, stopped, placed}
use Rattle.table.specs.Refusal.{not_made}
use Rattle.table.specs.declared.Refusal.{Refusal}
use Rattle.table.specs.declared.Refusal.TheVariants.{Limits, Broken, Nodes, Frames}
use Rattle.table.specs.declared.Made.{Made}

-- What is known of a node i with words a and b that is not broken.
pub record Unbroken (i a b : ℕ) : Type 0 where
  pub first_in : a ≤ i
  pub second_in : b ≤ i
  pub no_gap : a ≡ 0 → b ≡ 0

-- The table z has all the nodes of t as they were, and perhaps more.
pub record Kept (t z : Table) : Type 0 where
  pub up : t.used ≤ z.used
  pub same_length : length z.words ≡ length t.words
  pub below : (i : ℕ) → i < t.used * 2 → get_or z.words i 0 ≡ get_or t.words i 0

-- "no other table word than those of new nodes changes" (Operations)
pub record Extends (t z : Table) : Type 0 where
  pub kept : Kept t z
  pub beyond : (i : ℕ) → z.used * 2 ≤ i → get_or z.words i 0 ≡ get_or t.words i 0

-- the node made in, or found in, a table that was t has the tree x
pub record Places (t : Table) (m : Placed) (x : Tree) : Type 0 where
  pub fine : Sound m.table
  pub extends : Extends t m.table
  pub inside : m.node < m.table.used
  pub tree : tree_at m.table.words m.node ≡ x

-- node i of t is in use and has the tree x
pub record Has (t : Table) (i : ℕ) (x : Tree) : Type 0 where
  pub inside : i < t.used
  pub tree : tree_at t.words i ≡ x

-- What a node wanted with the words a and b in the table t comes to. "Refusal 8 comes only when a node not yet in the table is wanted and the table is
-- full." ([8])
pub data Makes (t : Table) (a b : ℕ) : Making → Type 0 where
  found : {i : ℕ} → find t.words t.used a b ≡ some i → Makes t a b (got (record { table = t; node = i }))
  made : find t.words t.used a b ≡ none → t.used < capacity t.words → Makes t a b (got (new_node t a b))
  no_place : find t.words t.used a b ≡ none → capacity t.words ≤ t.used → Makes t a b (full t)

-- "Nodes are wanted in the order in which document 01 numbers them" ([8]): laying the tree x in the table t comes, once the nodes wanted before are there,
-- to want the node with the words a and b in the table z.
pub data Wants : Table → Tree → Table → ℕ → ℕ → Type 0 where
  the_leaf : {t : Table} → Wants t leaf t 0 0
  in_stem : {t z : Table} {p : Tree} {a b : ℕ} → Wants t p z a b → Wants t (stem p) z a b
  the_stem : {t : Table} {p : Tree} {m : Placed} → lay t p ≡ got m → Wants t (stem p) m.table (m.node + 1) 0
  in_second : {t z : Table} {p q : Tree} {a b : ℕ} → Wants t q z a b → Wants t (fork p q) z a b
  in_first : {t z : Table} {p q : Tree} {m : Placed} {a b : ℕ} → lay t q ≡ got m → Wants m.table p z a b → Wants t (fork p q) z a b
  the_fork : {t : Table} {p q : Tree} {m n : Placed} → lay t q ≡ got m → lay m.table p ≡ got n → Wants t (fork p q) n.table (n.node + 1) (m.node + 1)

-- A node of the tree x is wanted that is not yet in the table, which t has become and which is full.
pub record Lacking (t : Table) (x : Tree) (z : Table) : Type 0 where
  pub a : ℕ
  pub b : ℕ
  pub wanted : Wants t x z a b
  pub absent : find z.words z.used a b ≡ none
  pub all_used : capacity z.words ≤ z.used

-- A table that was t and became full as z.
pub record Filled (t z : Table) : Type 0 where
  pub fine : Sound z
  pub extends : Extends t z
  pub all_used : z.used ≡ capacity t.words

-- the tree x is in the other, or is it
pub data Within (x : Tree) : Tree → Type 0 where
  itself : Within x x
  in_stem : {p : Tree} → Within x p → Within x (stem p)
  in_first : {p q : Tree} → Within x p → Within x (fork p q)
  in_second : {p q : Tree} → Within x q → Within x (fork p q)

-- Which nodes are made where the tree x is laid out in a table that was t: each has a tree in x that no node had, and each tree in x has a node then. No two
-- nodes have one tree ("Two node numbers are equal exactly when their trees are"), so they are as many as the distinct trees in x that were not there: "used
-- is compared with the number of distinct trees made" ([8]).
pub record MakesOnly (t : Table) (m : Placed) (x : Tree) : Type 0 where
  pub of_tree : (i : ℕ) → t.used ≤ i → i < m.table.used → Within (tree_at m.table.words i) x
  pub not_before : (i j : ℕ) → t.used ≤ i → i < m.table.used → j < t.used → tree_at t.words j ≡ tree_at m.table.words i → ⊥
  pub all_there : (y : Tree) → Within y x → (i : ℕ) × Has m.table i y

-- An outcome o that gave node v, of the tree x, in a table that was w with u nodes in use: at most one new node for each of the tree's.
pub record Lays (w : List ℕ) (u : ℕ) (x : Tree) (o : Outcome (Result Made Refusal)) (v u' : ℕ) : Type 0 where
  pub places : Places (record { words = w; used = u }) (record { table = record { words = o.table; used = u' }; node = v }) x
  pub used_most : u' ≤ u + size x

-- "Read, Translate and Label meet it while making nodes, after 9 where there is one." ([8]): the outcome o where a tree x that takes so many frames is to
-- be laid out. 9 and 8 come only on their conditions; 9 leaves the table as found.
pub data Room (w : List ℕ) (u : ℕ) (s : List ℕ) (held : ℕ) (x : Tree) (o : Outcome (Result Made Refusal)) : Type 0 where
  no_frames : frames s < held → o ≡ whole (not_made Frames) w (zeros s) → Room w u s held x o
  no_nodes : held ≤ frames s → {z : Table} → lay (record { words = w; used = u }) x ≡ full z → o ≡ stopped (not_made Nodes) z u s → Room w u s held x o
  enough : held ≤ frames s → {m : Placed} → lay (record { words = w; used = u }) x ≡ got m → o ≡ placed m s → Room w u s held x o

-- "Numbers 7 to 10 set to 0 the words of the nodes made in the call and the whole stack": of a table that was t and stopped as z, every other word
-- is as found.
pub record Undone {A : Type 0} (t z : Table) (o : Outcome A) (s : List ℕ) : Type 0 where
  pub same_length : length o.table ≡ length t.words
  pub made_cleared : (i : ℕ) → t.used * 2 ≤ i → i < z.used * 2 → get_or o.table i 0 ≡ 0
  pub below : (i : ℕ) → i < t.used * 2 → get_or o.table i 0 ≡ get_or t.words i 0
  pub beyond : (i : ℕ) → z.used * 2 ≤ i → get_or o.table i 0 ≡ get_or t.words i 0
  pub stack : o.stack ≡ zeros s

-- "2: a broken node." (Operations); "Refusal 2 now also covers two equal used nodes." ([8])
pub data Flawed (w : List ℕ) (u : ℕ) : Type 0 where
  broken_node : {i : ℕ} → i < u → broken i (first w i) (second w i) ≡ true → Flawed w u
  equal_nodes : {i j : ℕ} → i < j → j < u → first w i ≡ first w j → second w i ≡ second w j → Flawed w u

-- "1: table or stack too long, or used above capacity. 2: a broken node." (Operations); "Refusal 2 now also covers two equal used nodes." ([8]): what the
-- checks at entry find where they refuse. `within` says whether the operation's own limits are kept.
pub data EntryLacks (within : Bool) (w : List ℕ) (u : ℕ) (s : List ℕ) : Refusal → Type 0 where
  too_long : (within && fits w u s) ≡ false → EntryLacks within w u s Limits
  is_broken : (within && fits w u s) ≡ true → Flawed w u → EntryLacks within w u s Broken

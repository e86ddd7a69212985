-- What Read and Write lacked where they refuse, and what they had where they do not (Operations, Read and Write). Assumes nothing: these are
-- definitions.
use Rattle.std.specs.Prelude.{ℕ, ◌+◌, ◌*◌, ◌≤◌, ◌<◌, ◌≡◌, true, List, ◌∷◌, ◌++◌, length, drop, leb, Err, Ok, Result}
use Rattle.std.proofs.Math.Option.{none, some}
use Rattle.calculus.specs.Tree.{Tree, size}
use Rattle.table.specs.Nodes.{Table, Placed, got, capacity, tree_at, lay, cleared}
use Rattle.table.specs.Outcome.{Outcome, Entered, whole, whole_out, frames, zeros, at_entry, placed}
use Rattle.table.specs.Claims.{Places, Lacking, EntryLacks}
use Rattle.table.specs.declared.Refusal.{Refusal}
use Rattle.table.specs.declared.Refusal.TheVariants.{Node, Text, Nodes, Frames}
use Rattle.table.specs.Refusal.{not_made}
use Rattle.table.specs.declared.Made.{Made}
use Rattle.ternary.specs.Text.{text, tree_of, most_pending}
use Rattle.ternary.specs.Read.{readable, read}
use Rattle.ternary.specs.Laying.{awaits, lay_digits, Numbered}
use Rattle.ternary.specs.Write.{lacks, write, Written}
use Rattle.ternary.specs.Held.{Framed, Spent}

-- "4: text not one whole tree, or above 65,535 bytes": what holds where neither is so.
pub record Readable (l : List ℕ) (t : Tree) : Type 0 where
  pub short : length l ≤ 65535
  pub tree_is : tree_of l ≡ some t

-- What Read lacked where it refuses with e and leaves the table w' and the stack s': "4: text not one whole tree [..] 9: fewer frames than the most trees
-- pending" (Operations, Read), then 8 "only when a node not yet in the table is wanted and the table is full" ([8]), each met only where the checks before
-- it were passed. On 8 the nodes made are all from the first new one to the capacity.
pub data ReadLacks (w : List ℕ) (u : ℕ) (s l : List ℕ) : Refusal → List ℕ → List ℕ → Type 0 where
  of_entry : {e : Refusal} → EntryLacks true w u s e → ReadLacks w u s l e w s
  no_text : at_entry true w u s ≡ none → readable l ≡ none → ReadLacks w u s l Text w s
  no_frames : at_entry true w u s ≡ none → {t : Tree} → Readable l t → frames s < most_pending l → ReadLacks w u s l Frames w (zeros s)
  no_nodes : at_entry true w u s ≡ none → {t : Tree} → Readable l t → most_pending l ≤ frames s → {z : Table} → Lacking (record { words = w; used = u }) t z
      → ReadLacks w u s l Nodes (cleared w (u * 2) (capacity w * 2)) (zeros s)

-- What Read had where it lays out the tree t.
pub record ReadHas (w : List ℕ) (u : ℕ) (s l : List ℕ) (t : Tree) : Type 0 where
  pub entered : at_entry true w u s ≡ none
  pub readable_as : Readable l t
  pub frames_enough : most_pending l ≤ frames s
  pub placed_as : Placed
  pub nodes_enough : lay (record { words = w; used = u }) t ≡ got placed_as

-- the two kinds of Read's outcome o
pub data ReadCase (w : List ℕ) (u : ℕ) (s l : List ℕ) (o : Outcome (Result Made Refusal)) : Type 0 where
  refuses : {e : Refusal} {w' s' : List ℕ} → ReadLacks w u s l e w' s' → o ≡ whole (not_made e) w' s' → ReadCase w u s l o
  lays : {t : Tree} → (h : ReadHas w u s l t) → o ≡ placed h.placed_as s → ReadCase w u s l o

-- What a node v that Read gave is: it has the tree of the text, old nodes keep their trees, at most one new node is made for a digit, and "success also
-- sets the stack to 0".
pub record Reads (w : List ℕ) (u : ℕ) (s l : List ℕ) (v u' : ℕ) : Type 0 where
  pub entered : Entered true w u s
  pub tree : Tree
  pub whole_text : tree_of l ≡ some tree
  pub had : ReadHas w u s l tree
  pub laid_is : read w u s l ≡ placed had.placed_as s
  pub used_most : u' ≤ u + length l
  pub places : Places (record { words = w; used = u }) (record { table = record { words = (read w u s l).table; used = u' }; node = v }) tree
  pub stack : (read w u s l).stack ≡ zeros s

-- the text of node i's tree begins the digits l
abbrev pub Begins : List ℕ → ℕ → List ℕ → Type 0
Begins w i l = (rest : List ℕ) × (l ≡ text (tree_at w i) ++ rest)

-- The node that digit p of l wants, once the digits after it are taken from the table t on, which is the order of "Digit p of n becomes node
-- used + n − 1 − p" (Operations, Read); "a found one takes no new number" ([8]). In the table z it has the tree whose text begins at digit p.
pub record DigitNode (t z : Table) (l : List ℕ) (p : ℕ) : Type 0 where
  pub node : ℕ
  pub others : List ℕ
  pub left : Table
  pub wanted : lay_digits t (drop p l) ≡ awaits left (node ∷ others)
  -- the table, and the nodes pending, once the digits after it are taken
  pub before : Table
  pub pending : List ℕ
  pub after_taken : lay_digits t (drop (p + 1) l) ≡ awaits before pending
  pub numbered : Numbered before node left
  pub inside : node < left.used
  pub begins : Begins z.words node (drop p l)

-- "Then digit by digit": what holds where none of 1 to 3 is met
abbrev pub Begun : List ℕ → ℕ → List ℕ → ℕ → List ℕ → Type 0
Begun w u s i o = (at_entry (leb (length o) 65535) w u s ≡ none) × (i < u)

-- What Write lacked where it refuses with e and leaves the stack s': "3: node number not below used. Then digit by digit: 10 if out is full; 9 if
-- the digit is 2 and every frame is held", each met only where the checks before it were passed.
pub data WriteLacks (w : List ℕ) (u : ℕ) (s : List ℕ) (i : ℕ) (o : List ℕ) : Refusal → List ℕ → Type 0 where
  of_entry : {e : Refusal} → EntryLacks (leb (length o) 65535) w u s e → WriteLacks w u s i o e s
  no_node : at_entry (leb (length o) 65535) w u s ≡ none → u ≤ i → WriteLacks w u s i o Node s
  no_room : {e : Refusal} → at_entry (leb (length o) 65535) w u s ≡ none → i < u → Spent (frames s) 0 (tree_at w i) (length o) (lacks e) → WriteLacks w u s i o e (zeros s)

-- What Write had where it writes the tree of node i: a byte for each digit, and a frame for each fork.
pub record WriteHas (w : List ℕ) (u : ℕ) (s : List ℕ) (i : ℕ) (o : List ℕ) : Type 0 where
  pub entered : at_entry (leb (length o) 65535) w u s ≡ none
  pub inside : i < u
  pub bytes_enough : size (tree_at w i) ≤ length o
  pub frames_enough : Framed (frames s) 0 (tree_at w i) (length (text (tree_at w i)))

-- "Bytes past the text stay": the outcome where every digit is written
abbrev pub all_written : List ℕ → List ℕ → List ℕ → Tree → Outcome Written
all_written w s o t = whole_out (Ok (length (text t))) w (zeros s) (text t ++ drop (length (text t)) o)

-- the two kinds of Write's outcome z
pub data WriteCase (w : List ℕ) (u : ℕ) (s : List ℕ) (i : ℕ) (o : List ℕ) (z : Outcome Written) : Type 0 where
  refuses : {e : Refusal} {s' : List ℕ} → WriteLacks w u s i o e s' → z ≡ whole_out (Err e) w s' o → WriteCase w u s i o z
  writes : WriteHas w u s i o → z ≡ all_written w s o (tree_at w i) → WriteCase w u s i o z

-- What the n digits that Write wrote are: the text of node i's tree. "Bytes past the text stay."
pub record Writes (w : List ℕ) (u : ℕ) (s : List ℕ) (i : ℕ) (o : List ℕ) (n : ℕ) : Type 0 where
  pub had : WriteHas w u s i o
  pub digits_are : n ≡ length (text (tree_at w i))
  pub out_is : (write w u s i o).out ≡ text (tree_at w i) ++ drop n o
  pub fits : n ≤ length o
  pub table : (write w u s i o).table ≡ w
  pub stack : (write w u s i o).stack ≡ zeros s

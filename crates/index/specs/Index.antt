-- The index of a table's used nodes: a node stands at its home or after it, behind entries that are not empty. Assumes nothing: these are definitions.
use Rattle.std.specs.Prelude.{ℕ, ◌+◌, ◌-◌, ◌*◌, ◌/◌, ◌≤◌, ◌<◌, ◌≡◌, List, length, get_or}
use Rattle.std.specs.Int.Bits.{bit_and}
use Rattle.table.specs.Nodes.{capacity, first, second, Sound}

-- The entry at which the search for the words a and b begins, among s slots, a power of two. The factors spread chains and grids of nodes; their sum is
-- below 2^32, so that no two words overflow 64 bits.
unfoldable pub home : ℕ → ℕ → ℕ → ℕ
home a b s = bit_and (a * 2122696415 + b * 735350203) (s - 1)

-- Node i stands in the index ix, and no entry from its home up to there is empty. The leaf, node 0, does not: an entry 0 is empty.
pub record Reached (w : List ℕ) (s : ℕ) (ix : List ℕ) (i : ℕ) : Type 0 where
  pub place : ℕ
  pub from : home (first w i) (second w i) s ≤ place
  pub holds : get_or ix place 0 ≡ i
  pub run : (k : ℕ) → home (first w i) (second w i) s ≤ k → k < place → get_or ix k 0 ≡ 0 → ⊥

-- Each of the first u nodes of w but the leaf stands in the index ix of s slots. An entry that is not empty is at a home or right after another, so none
-- lies beyond s slots and one entry for each node.
pub record Indexed (w : List ℕ) (u s : ℕ) (ix : List ℕ) : Type 0 where
  pub each : (i : ℕ) → 0 < i → i < u → Reached w s ix i
  pub inside : (p : ℕ) → (get_or ix p 0 ≡ 0 → ⊥) → get_or ix p 0 < u
  pub low : (p : ℕ) → (get_or ix p 0 ≡ 0 → ⊥) → p + 1 < s + u

-- a sound table and its index, which has room for every node that may be made
pub record Ready (w : List ℕ) (u s : ℕ) (ix : List ℕ) : Type 0 where
  pub fine : Sound (record { words = w; used = u })
  pub indexed : Indexed w u s ix
  pub room : s + capacity w ≤ length ix
  pub some_slots : 0 < s

-- an index without entries, for a table of these words
pub record Empty (w : List ℕ) (s : ℕ) (ix : List ℕ) : Type 0 where
  pub none_yet : (p : ℕ) → get_or ix p 0 ≡ 0
  pub room : s + capacity w ≤ length ix
  pub some_slots : 0 < s

-- An index of n entries, of which two thirds are slots, has room for each node of a table of these words.
abbrev pub Serves : ℕ → List ℕ → Type 0
Serves n w = (3 ≤ n) × (n ≤ 196608) × (length w ≤ n / 3 * 2)

-- p is the first empty entry from the home of a and b on
pub record Vacant (u s : ℕ) (ix : List ℕ) (a b p : ℕ) : Type 0 where
  pub below : p < s + u
  pub from : home a b s ≤ p
  pub free : get_or ix p 0 ≡ 0
  pub run : (k : ℕ) → home a b s ≤ k → k < p → get_or ix k 0 ≡ 0 → ⊥

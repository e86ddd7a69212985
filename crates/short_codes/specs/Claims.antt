-- What is claimed of values and codes, without the definitions that compute them but for the value of a text ([12]). Assumes nothing: these are
-- definitions.
use Rattle.std.specs.Prelude.{ℕ, ◌+◌, ◌≤◌, ◌<◌, ◌≡◌, true, ◌↔◌, length, get_or, drop}
use mathlib.Core.List.{List, [], ◌++◌, Memᴰ}
use Rattle.std.proofs.Math.Option.{none}
use Rattle.calculus.specs.Tree.{Tree, size}
use Rattle.table.specs.Nodes.{tree_at}
use Rattle.table.specs.Outcome.{Outcome, whole_out, at_entry}
use Rattle.table.specs.Claims.{EntryLacks}
use Rattle.table.specs.Ascending.{NumbersAscend}
use Rattle.table.specs.declared.Refusal.{Refusal}
use Rattle.table.specs.declared.Refusal.TheVariants.{Node, Out}
use Rattle.table.specs.Refusal.{Given, given, not_given, nothing}
use Rattle.ternary.specs.Text.{text}
use Rattle.short_codes.specs.Values.{value}

-- "A table holds the values of all trees of at most ten nodes, ascending, 1,374 of them" ([12]): the list l does, and holds nothing else
pub record HoldsValues (l : List ℕ) : Type 0 where
  pub exactly : (x : ℕ) → Memᴰ x l ↔ ((t : Tree) × (size t ≤ 10) × (x ≡ value (text t)))
  pub ascending : NumbersAscend 0 l
  pub many : length l ≡ 1374

-- the number x stands at place i of a list, counting from 0
abbrev pub AtPlace : List ℕ → ℕ → ℕ → Type 0
AtPlace l x i = (i < length l) × (get_or l i 0 ≡ x)

-- The same of each place of the list: each is that of a tree of at most ten nodes, every such tree has exactly one, and each number is below the next.
pub record EachPlace (l : List ℕ) : Type 0 where
  pub of_tree : (i : ℕ) → i < length l → (t : Tree) × (size t ≤ 10) × (get_or l i 0 ≡ value (text t))
  pub of_each : (t : Tree) → size t ≤ 10 → (i : ℕ) × AtPlace l (value (text t)) i
  pub one : (x i j : ℕ) → AtPlace l x i → AtPlace l x j → i ≡ j
  pub next : (i : ℕ) → i + 1 < length l → get_or l i 0 < get_or l (i + 1) 0

-- "a tree's code is its place there, counting from 0" ([12]): c is the code of t. A code is the paper's term.
pub record IsCode (t : Tree) (c : ℕ) : Type 0 where
  pub list : List ℕ
  pub holds : HoldsValues list
  pub inside : c < length list
  pub there : get_or list c 0 ≡ value (text t)

-- where a node is asked for its code: 1, 2 and 3 are passed
pub record Askable (w : List ℕ) (u v : ℕ) : Type 0 where
  pub entered : at_entry true w u [] ≡ none
  pub in_use : v < u

-- Each answer with its condition: "the code of a node's tree (after 1, 2 and 3), or none exactly when its text has more than ten digits" ([12])
pub data Coded (w : List ℕ) (u v : ℕ) : Given → Type 0 where
  of_entry : {e : Refusal} → EntryLacks true w u [] e → Coded w u v (not_given e)
  not_in_use : at_entry true w u [] ≡ none → u ≤ v → Coded w u v (not_given Node)
  too_many : Askable w u v → 10 < length (text (tree_at w v)) → Coded w u v nothing
  coded : Askable w u v → {c : ℕ} → IsCode (tree_at w v) c → Coded w u v (given c)

-- Each outcome o with its condition: "a code's text, or none from 1,374 on, then 10 if out is shorter" ([12]), on which
-- "the out bytes stay as at entry" (document 01, Operations); "out bytes past what is written stay" ([3]).
pub data CodeTexts (c : ℕ) (out : List ℕ) (o : Outcome Given) : Type 0 where
  no_code : 1374 ≤ c → o ≡ whole_out nothing [] [] out → CodeTexts c out o
  no_room : {t : Tree} → IsCode t c → length out < length (text t) → o ≡ whole_out (not_given Out) [] [] out → CodeTexts c out o
  written : {t : Tree} → IsCode t c → length (text t) ≤ length out
      → o ≡ whole_out (given (length (text t))) [] [] (text t ++ drop (length (text t)) out) → CodeTexts c out o

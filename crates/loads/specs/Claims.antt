-- What is claimed of loads, without the definitions that compute them but for what is drawn ([10]). Assumes nothing: these are definitions.
use Rattle.std.specs.Prelude.{ℕ, zero, suc, ◌%◌, ◌≤◌, ◌<◌, ◌≡◌, true, ◌↔◌, length, get_or, take, drop, Err, Ok}
use mathlib.Core.List.{List, [], ◌∷◌, ◌++◌, Memᴰ}
use Rattle.std.proofs.Math.Option.{none, some}
use Rattle.calculus.specs.Tree.{Tree}
use Rattle.table.specs.Nodes.{Table}
use Rattle.table.specs.Outcome.{Outcome, whole_out, frames, at_entry}
use Rattle.table.specs.Claims.{Lacking, EntryLacks}
use Rattle.table.specs.Ascending.{NumbersAscend}
use Rattle.table.specs.declared.Refusal.{Refusal}
use Rattle.table.specs.declared.Refusal.TheVariants.{Nodes, Frames, Out}
use Rattle.ternary.specs.Text.{tree_of, most_pending}
use Rattle.ternary.specs.Wanted.{Completes}
use Rattle.ternary.specs.Write.{Written}
use Rattle.loads.specs.Loads.{next_state, drawn}

-- "A digit is allowed if the text can still become a whole tree of exactly n digits." ([10]): the digit c after the digits l
abbrev pub Allowed : ℕ → List ℕ → ℕ → Type 0
Allowed n l c = (r : List ℕ) × Completes l (c ∷ r) × (length (l ++ (c ∷ r)) ≡ n)

-- "digits allowed there, in ascending order" ([10]): cs are all that are allowed after the digits l, and no others
pub record AllowedAre (n : ℕ) (l cs : List ℕ) : Type 0 where
  pub exactly : (c : ℕ) → Memᴰ c cs ↔ Allowed n l c
  pub ascending : NumbersAscend 0 cs

-- "takes the remainder by the number of digits allowed there" ([10]): the digit c after the digits l, for what is drawn
pub record TakenFor (n : ℕ) (l : List ℕ) (draw c : ℕ) : Type 0 where
  pub digits : List ℕ
  pub all_allowed : AllowedAre n l digits
  pub not_empty : 0 < length digits
  pub taken : c ≡ get_or digits (draw % length digits) 0

-- "From a 32-bit seed" ([10]): the state after so many draws
unfoldable pub state_after : ℕ → ℕ → ℕ
state_after zero seed = seed
state_after (suc k) seed = state_after k (next_state seed)

-- "draws once a digit, left to right" ([10]): l is n digits, and digit i, counting from 0, is taken for what is drawn after i draws.
pub record Draws (seed n : ℕ) (l : List ℕ) : Type 0 where
  pub many : length l ≡ n
  pub each : (i : ℕ) → i < n → TakenFor n (take i l) (drawn (state_after i seed)) (get_or l i 0)

-- "n from 1 to 4,095" ([10])
pub record IsCount (n : ℕ) : Type 0 where
  pub from_one : 1 ≤ n
  pub to_most : n ≤ 4095

-- "A load of n digits, n from 1 to 4,095 [..] For any n outside, the load is empty" ([10])
pub data IsLoad (seed n : ℕ) : List ℕ → Type 0 where
  outside : (IsCount n → ⊥) → IsLoad seed n []
  inside : IsCount n → {l : List ℕ} → Draws seed n l → IsLoad seed n l

-- Each outcome o with its condition: "For any n outside, the load is empty, whatever the output. Otherwise an output shorter than n gives 10 and stays as it
-- was." ([10]) "out bytes past what is written stay" ([3]).
pub data Generates (seed n : ℕ) (out : List ℕ) (o : Outcome Written) : Type 0 where
  empty : (IsCount n → ⊥) → o ≡ whole_out (Ok 0) [] [] out → Generates seed n out o
  no_room : IsCount n → length out < n → o ≡ whole_out (Err Out) [] [] out → Generates seed n out o
  written : IsCount n → n ≤ length out → {l : List ℕ} → Draws seed n l → o ≡ whole_out (Ok n) [] [] (l ++ drop n out) → Generates seed n out o

-- "Every nonempty load is a whole text that Read accepts given a table that passes 1 and 2, nodes and frames." ([10]): what is lacking where Read refuses the
-- load l with e, which is never 4
pub data LoadLacks (w : List ℕ) (u : ℕ) (s l : List ℕ) : Refusal → Type 0 where
  of_entry : {e : Refusal} → EntryLacks true w u s e → LoadLacks w u s l e
  no_frames : at_entry true w u s ≡ none → frames s < most_pending l → LoadLacks w u s l Frames
  no_nodes : at_entry true w u s ≡ none → most_pending l ≤ frames s → {t : Tree} → tree_of l ≡ some t → {z : Table} → Lacking (record { words = w; used = u }) t z
      → LoadLacks w u s l Nodes

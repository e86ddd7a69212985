-- What the code's own values say in terms of the definitions, and what Write's inner functions ask and give. Assumes nothing: these are definitions.
use Rattle.std.specs.Prelude.{ℕ, suc, ◌+◌, ◌-◌, ◌*◌, ◌≤◌, ◌<◌, ◌≡◌, cond, Option, Some, None, Result, Ok, Err, List, [], ◌∷◌, length, get_or, set, leb, eqb}
use Rattle.calculus.specs.Tree.{Tree}
use Rattle.table.specs.Nodes.{Sound, tree_at}
use Rattle.table.specs.Outcome.{frames}
use Rattle.table.specs.declared.Refusal.{Refusal}
use Rattle.table.specs.declared.Refusal.TheVariants.{Frames}
use Rattle.ternary.specs.Text.{texts}
use Rattle.ternary.specs.Write.{Room, left, lacks, next, digits}
use Rattle.writer.specs.declared.Walk.{Walk}
use Rattle.writer.specs.declared.Digit.{Digit}

-- a digit or a refusal, and the stack after it
pub record Stepped : Type 0 where
  pub digit : Result Digit Refusal
  pub stack : List ℕ

abbrev pub digit_with : Result Digit Refusal → List ℕ → Stepped
digit_with d s = record { digit = d; stack = s }

abbrev walk_at : ℕ → ℕ → Option Walk
walk_at at held = Some (record { at = at; held = held })

-- a leaf's digit
abbrev pub leaf_digit : List ℕ → ℕ → Digit
leaf_digit s held = record { value = 48; next = cond (eqb held 0) None (walk_at (get_or s ((held - 1) * 3) 0) (held - 1)) }

-- the digit of a fork of the nodes p and q
abbrev pub fork_digit : List ℕ → ℕ → ℕ → ℕ → Stepped
fork_digit s held p q =
    cond (leb (frames s) held) (digit_with (Err Frames) s)
    (digit_with (Ok (record { value = 50; next = walk_at p (held + 1) })) (set s (held * 3) q))

-- the lowest frames of the stack hold the nodes of these trees, the first of the list in the last of them
unfoldable pub HoldsTrees : List ℕ → ℕ → List ℕ → List Tree → Type 0
HoldsTrees w u s [] = Unit {0}
HoldsTrees w u s (x ∷ xs) = (get_or s (length xs * 3) 0 < u) × (tree_at w (get_or s (length xs * 3) 0) ≡ x) × HoldsTrees w u s xs

-- the tree x comes next, and then the trees xs, the second branches of forks
pub record Stands (w : List ℕ) (u : ℕ) (s : List ℕ) (k : Walk) (x : Tree) (xs : List Tree) : Type 0 where
  pub fine : Sound (record { words = w; used = u })
  pub inside : k.at < u
  pub tree : tree_at w k.at ≡ x
  pub held_is : k.held ≡ length xs
  pub holds : HoldsTrees w u s xs
  pub frames_held : k.held ≤ frames s

abbrev pub StandsSome : List ℕ → ℕ → List ℕ → Walk → Type 0
StandsSome w u s k = (x : Tree) × (xs : List Tree) × Stands w u s k x xs

-- the trees that come next, of which there is none at the end
unfoldable pub StandsAt : List ℕ → ℕ → List ℕ → Option Walk → List Tree → Type 0
StandsAt w u s None ts = ts ≡ []
StandsAt w u s (Some k) ts = (x : Tree) × (xs : List Tree) × (ts ≡ x ∷ xs) × Stands w u s k x xs

-- the digits of trees one after another, where those after the first wait for it in frames
unfoldable pub rest_of : ℕ → List Tree → ℕ → Room
rest_of all [] n = left n
rest_of all (x ∷ xs) n = next (rest_of all xs) (digits all (length xs) x n)

-- What a digit of x says, or its refusal, whatever the out bytes: s is the stack before it and s' after it.
unfoldable pub DigitSays : List ℕ → ℕ → List ℕ → List ℕ → Tree → List Tree → Result Digit Refusal → Type 0
DigitSays w u s s' x xs (Ok d) =
    (ys : List Tree) × StandsAt w u s' d.next ys × ((n : ℕ) → rest_of (frames s) (x ∷ xs) (suc n) ≡ rest_of (frames s) ys n)
    × (texts (x ∷ xs) ≡ d.value ∷ texts ys)
DigitSays w u s s' x xs (Err e) = (n : ℕ) → rest_of (frames s) (x ∷ xs) (suc n) ≡ lacks e

-- the out bytes left after a text, or the refusal at the first digit that lacks something
abbrev pub room_of : Result ℕ Refusal → Room
room_of (Ok n) = left n
room_of (Err e) = lacks e

-- the digits fit
unfoldable pub FitsIn : Room → Type 0
FitsIn (left n) = Unit {0}
FitsIn (lacks e) = ⊥

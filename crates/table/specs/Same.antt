-- Whether two nodes of a table have the same tree (document 02, [8]), and what is claimed of the answer. Assumes nothing: these are definitions.
use Rattle.std.specs.Prelude.{ℕ, ◌≤◌, ◌<◌, ◌≡◌, Bool, true, false, cond, ◌&&◌, List, [], ◌∷◌, ltb, Result, Ok, Err}
use Rattle.std.proofs.Math.Option.{none}
use Rattle.calculus.specs.Tree.{Tree, leaf, stem, fork}
use Rattle.table.specs.Nodes.{tree_at}
use Rattle.table.specs.Outcome.{at_entry, unless}
use Rattle.table.specs.Refusal.{number}
use Rattle.table.specs.Claims.{EntryLacks}
use Rattle.table.specs.declared.Refusal.{Refusal}
use Rattle.table.specs.declared.Refusal.TheVariants.{Node}

-- whether two trees are equal
unfoldable pub same_tree : Tree → Tree → Bool
same_tree leaf leaf = true
same_tree leaf (stem r) = false
same_tree leaf (fork r s) = false
same_tree (stem p) leaf = false
same_tree (stem p) (stem r) = same_tree p r
same_tree (stem p) (fork r s) = false
same_tree (fork p q) leaf = false
same_tree (fork p q) (stem r) = false
same_tree (fork p q) (fork r s) = same_tree p r && same_tree q s

-- "Two node numbers are equal exactly when their trees are, and a new operation answers that after 1, 2 and 3." ([8]): nodes a and b of the table w with u
-- nodes in use. There is no stack.
unfoldable pub same : List ℕ → ℕ → ℕ → ℕ → Result Bool Refusal
same w u a b = unless (at_entry true w u []) Err (cond (ltb a u && ltb b u) (Ok (same_tree (tree_at w a) (tree_at w b))) (Err Node))

-- the numbers of the answer: the refusal, and 1 if the trees are equal
unfoldable pub same_numbers : Result Bool Refusal → List ℕ
same_numbers (Ok true) = 0 ∷ 1 ∷ []
same_numbers (Ok false) = 0 ∷ 0 ∷ []
same_numbers (Err e) = number e ∷ 0 ∷ []

-- where there is something to compare: 1, 2 and 3 are passed
pub record Comparable (w : List ℕ) (u a b : ℕ) : Type 0 where
  pub entered : at_entry true w u [] ≡ none
  pub first_in : a < u
  pub second_in : b < u

-- "after 1, 2 and 3" ([8]): each refusal with its condition
pub data SameLacks (w : List ℕ) (u a b : ℕ) : Refusal → Type 0 where
  of_entry : {e : Refusal} → EntryLacks true w u [] e → SameLacks w u a b e
  first_not_in_use : at_entry true w u [] ≡ none → u ≤ a → SameLacks w u a b Node
  second_not_in_use : at_entry true w u [] ≡ none → u ≤ b → SameLacks w u a b Node

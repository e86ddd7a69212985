-- What is claimed of `unlabel`: where it gives nodes, what these are, and what it lacked where it is refused; and the form of trees that were labelled
-- earlier. Assumes nothing: these are definitions.
use Rattle.std.specs.Prelude.{ℕ, ◌≤◌, ◌<◌, ◌≡◌, true, List, []}
use Rattle.std.proofs.Math.Option.{none}
use Rattle.calculus.specs.Tree.{Tree, leaf, stem, fork}
use Rattle.table.specs.Nodes.{tree_at}
use Rattle.table.specs.Outcome.{at_entry}
use Rattle.table.specs.Claims.{EntryLacks}
use Rattle.table.specs.declared.Refusal.{Refusal}
use Rattle.table.specs.declared.Refusal.TheVariants.{Node, Label}
use Rattle.labelled.specs.Label.{labelled}
use Rattle.labelled.specs.Unlabel.{unlabel, parts}

-- the tree x is the labelled tree of some rule and some label
pub record IsLabelled (x : Tree) : Type 0 where
  pub rule : Tree
  pub label : Tree
  pub form : x ≡ labelled rule label

-- where nodes are to be given: 1 and 2 are passed, node v is in use, and its tree is labelled
pub record Found (w : List ℕ) (u v : ℕ) : Type 0 where
  pub entered : at_entry true w u [] ≡ none
  pub inside : v < u
  pub tree : IsLabelled (tree_at w v)

-- nodes are given
pub record Given (w : List ℕ) (u v : ℕ) : Type 0 where
  pub rule : ℕ
  pub label : ℕ
  pub answer : unlabel w u v ≡ parts rule label

-- "gives the nodes of label and rule out of a labelled tree" ([1]): the nodes a and b, given for node v, are in use, and theirs are the trees of which
-- v's is the labelled one; no others are.
pub record Unlabels (w : List ℕ) (u v a b : ℕ) : Type 0 where
  pub rule_in : a < u
  pub label_in : b < u
  pub tree : tree_at w v ≡ labelled (tree_at w a) (tree_at w b)
  pub only : (f t : Tree) → tree_at w v ≡ labelled f t → (tree_at w a ≡ f) × (tree_at w b ≡ t)

-- `unlabel` gives nodes of the trees f and t out of node v
pub record TakenApart (w : List ℕ) (u v : ℕ) (f t : Tree) : Type 0 where
  pub rule : ℕ
  pub label : ℕ
  pub answer : unlabel w u v ≡ parts rule label
  pub rule_tree_lem : tree_at w rule ≡ f
  pub label_tree : tree_at w label ≡ t

-- "Checks: 11, the tree isn't of the labelled form, after 3." ([1]): each refusal with its condition
pub data UnlabelLacks (w : List ℕ) (u v : ℕ) : Refusal → Type 0 where
  of_entry : {e : Refusal} → EntryLacks true w u [] e → UnlabelLacks w u v e
  not_in_use : at_entry true w u [] ≡ none → u ≤ v → UnlabelLacks w u v Node
  not_labelled : at_entry true w u [] ≡ none → v < u → (IsLabelled (tree_at w v) → ⊥) → UnlabelLacks w u v Label

-- The form of "trees labelled earlier" ([4]): document 01's, "Δ(Δt)(Δ(Δf)(KK))" (Operations, Label).
abbrev pub labelled_earlier : Tree → Tree → Tree
labelled_earlier f t = fork (stem t) (fork (stem f) (fork leaf (stem leaf)))

-- the tree is Kx, that is ΔΔx, for some x
pub record IsKOf (t : Tree) : Type 0 where
  pub inner : Tree
  pub form : t ≡ fork leaf inner

-- A node in use, and its branches. Assumes nothing: these are definitions.
use Rattle.std.specs.Prelude.{ℕ, ◌-◌, ◌<◌, ◌≡◌, List}
use Rattle.calculus.specs.Tree.{stem, fork}
use Rattle.table.specs.Nodes.{first, second, Sound, tree_at}

-- the node of a node's first branch, and of its second
abbrev pub left : List ℕ → ℕ → ℕ
left w v = first w v - 1

abbrev pub right : List ℕ → ℕ → ℕ
right w v = second w v - 1

-- node v is in use in a sound table that has these words
pub record InUse (w : List ℕ) (v : ℕ) : Type 0 where
  pub used : ℕ
  pub fine : Sound (record { words = w; used = used })
  pub inside : v < used

-- Node v is the stem of node p, or the fork of nodes p and q. "branches come before parents"
pub record IsStem (w : List ℕ) (v p : ℕ) : Type 0 where
  pub branch : InUse w p
  pub branch_is : p ≡ left w v
  pub branch_before : p < v
  pub tree : tree_at w v ≡ stem (tree_at w p)

pub record IsFork (w : List ℕ) (v p q : ℕ) : Type 0 where
  pub one : InUse w p
  pub two : InUse w q
  pub one_is : p ≡ left w v
  pub two_is : q ≡ right w v
  pub one_before : p < v
  pub two_before : q < v
  pub tree : tree_at w v ≡ fork (tree_at w p) (tree_at w q)

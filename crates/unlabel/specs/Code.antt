-- What the code's own values say in terms of the definitions. Assumes nothing: these are definitions.
use Rattle.std.specs.Prelude.{ℕ, ◌≡◌, Bool, cond, List, Option, Some, None}
use Rattle.calculus.specs.Tree.{leaf}
use Rattle.table.specs.Nodes.{tree_at}
use Rattle.table.specs.Branches.{IsStem, IsFork}
use Rattle.unlabel.specs.declared.Shape.{Shape}
use Rattle.unlabel.specs.declared.Shape.TheVariants.{Leaf, Stem, Fork}

-- what the shape of node v says
abbrev pub Shaped : List ℕ → ℕ → Shape → Type 0
Shaped w v Leaf = tree_at w v ≡ leaf
Shaped w v (Stem p) = IsStem w v p
Shaped w v (Fork p q) = IsFork w v p q

-- the node i under a branch, where the branch has its form, b
abbrev pub where_form : Bool → ℕ → Option ℕ
where_form b i = cond b (Some i) None

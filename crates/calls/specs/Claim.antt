-- What demand 3 claims of a list of calls (The two runs of demand 3). Assumes nothing: these are definitions.
use Rattle.std.specs.Prelude.{ℕ, ◌+◌, ◌≤◌, ◌≡◌, List, [], ◌∷◌, map, length}
use Rattle.std.proofs.Math.Option.{some}
use Rattle.calculus.specs.Tree.{Tree}
use Rattle.calculus.specs.Term.{Term, parameters}
use Rattle.calculus.specs.Bytes.{rule}
use Rattle.calculus.specs.Runs.{Direct, difference}
use Rattle.table.specs.Nodes.{Table}
use Rattle.calls.specs.Calls.{Call, Argument, argument_tree, Completed, Gave}

-- "Its arguments are the trees of the nodes applied to; for a node that a Read in the list gave, this is the tree of that Read's text." Trees that are
-- named for a run's arguments in the list cs from the table t: for each, the tree of its node, or the tree of the text of a Read that gave the node,
-- wherever in the list that Read stands.
pub data ArgumentTrees (cs : List Call) (t : Table) : List Argument → List Tree → Type 0 where
  at_end : ArgumentTrees cs t [] []
  of_node : {a : Argument} {args : List Argument} {xs : List Tree} → ArgumentTrees cs t args xs → ArgumentTrees cs t (a ∷ args) (argument_tree t a ∷ xs)
  of_read : {a : Argument} {x : Tree} {args : List Argument} {xs : List Tree} → Gave cs t a.node x → ArgumentTrees cs t args xs → ArgumentTrees cs t (a ∷ args) (x ∷ xs)

-- What is claimed of a run that is completed in the list cs from the table t: of the rule b, on the arguments args, with the tree r of the last node
-- given, in k steps. "The planner's run then has a tree, and it is this one; for n = 1 the steps that Apply returned are the planner's plus
-- 2L + 5X − 1." It is claimed of the arguments' trees by either name, so also of the texts' trees where each argument was given by a Read; `of_reads`
-- says that the names agree.
pub record Claim (cs : List Call) (t : Table) (b : List ℕ) (args : List Argument) (r : Tree) (k : ℕ) : Type 0 where
  pub term : Term
  pub is_rule : rule b ≡ some term
  pub of_reads : (xs : List Tree) → ArgumentTrees cs t args xs → xs ≡ map (argument_tree t) args
  pub direct : (xs : List Tree) → ArgumentTrees cs t args xs → 1 ≤ length args → length args ≤ parameters term → (j : ℕ) × Direct term xs r j
  pub steps : (xs : List Tree) → ArgumentTrees cs t args xs → length args ≡ 1 → (j : ℕ) → Direct term xs r j → k ≡ j + difference term

-- "That is a single claim about the whole list, and not one for each call.": of every run that is completed in it
abbrev pub ListClaim : List Call → Table → Type 0
ListClaim cs t = (b : List ℕ) (args : List Argument) (r : Tree) (k : ℕ) → Completed t [] cs b args r k → Claim cs t b args r k

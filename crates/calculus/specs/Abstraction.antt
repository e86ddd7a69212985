-- Terms without abstraction, bracket abstraction, and the tree of a translated rule. Assumes nothing: these are definitions.
use Rattle.std.specs.Prelude.{ℕ, zero, suc, ◌+◌, ◌<◌}
use Rattle.calculus.specs.Tree.{Tree, stem, fork}
use Rattle.calculus.specs.Term.{Term}

-- A term of leaves, variables and applications. A variable counts the parameters between it and its own.
pub data Combination : Type 0 where
  leaf : Combination
  app : Combination → Combination → Combination
  var : ℕ → Combination

-- Every variable's parameter is among d around the term. A closed term is one with d = 0.
abbrev pub ClosedOver : ℕ → Combination → Type 0
ClosedOver d leaf = Unit {0}
ClosedOver d (app u v) = ClosedOver d u × ClosedOver d v
ClosedOver d (var i) = i < d

-- "K = ΔΔ and I = Δ(ΔΔ)(ΔΔ)" (Translation)
abbrev pub K : Combination
K = app leaf leaf

abbrev pub I : Combination
I = app (app leaf (app leaf leaf)) (app leaf leaf)

-- "abstracting x from x gives I; from another variable y, Ky; from Δ, KΔ; from uv, Δ(Δv')u', where u' and v' are the abstractions of u and v.
-- No shortcut is taken". The variable abstracted is the nearest one, so the others count one parameter less.
unfoldable pub bracket : Combination → Combination
bracket (var zero) = I
bracket (var (suc i)) = app K (var i)
bracket leaf = app K leaf
bracket (app u v) = app (app leaf (app leaf (bracket v))) (bracket u)

-- "Inner abstractions are translated first."
unfoldable pub translate : Term → Combination
translate Term.leaf = leaf
translate (Term.app f a) = app (translate f) (translate a)
translate (Term.abs b) = bracket (translate b)
translate (Term.var i) = var i

-- the term that makes a tree, with nothing in it to evaluate
unfoldable pub term : Tree → Combination
term Tree.leaf = leaf
term (stem p) = app leaf (term p)
term (fork p q) = app (app leaf (term p)) (term q)

-- a tree with one branch more, as the leaf and the stem rule give it; a fork takes none
unfoldable pub grown : Tree → Tree → Tree
grown Tree.leaf t = stem t
grown (stem p) t = fork p t
grown (fork p q) t = Tree.leaf

-- The tree that such a term makes. It is the leaf for a variable and for a term that is no tree's, which the theorem `rule_tree_lem` excludes.
unfoldable pub tree_of : Combination → Tree
tree_of leaf = Tree.leaf
tree_of (app u v) = grown (tree_of u) (tree_of v)
tree_of (var i) = Tree.leaf

-- the tree of a translated rule
unfoldable pub rule_tree : Term → Tree
rule_tree t = tree_of (translate t)

-- how many leaves a term has, and how many variables of the nearest parameter (L and X of document 01's demand 3)
unfoldable pub leaves : Combination → ℕ
leaves leaf = 1
leaves (app u v) = leaves u + leaves v
leaves (var i) = 0

unfoldable pub nearest : Combination → ℕ
nearest leaf = 0
nearest (app u v) = nearest u + nearest v
nearest (var zero) = 1
nearest (var (suc i)) = 0

-- leaves and variables together
unfoldable pub width : Combination → ℕ
width leaf = 1
width (app u v) = width u + width v
width (var i) = 1

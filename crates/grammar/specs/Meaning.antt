-- The term of an expression ([3]). Assumes nothing: these are definitions.
use Rattle.calculus.specs.Term.{Term}
use Rattle.grammar.specs.Expression.{Expression, leaf, var, app, abs, not, and, or, implies}

-- a term applied to two, left first
abbrev pub two : Term → Term → Term → Term
two o a b = Term.app (Term.app o a) b

-- "K = ΔΔ and I = Δ(ΔΔ)(ΔΔ)" (document 01, Translation), as terms
unfoldable pub K : Term
K = Term.app Term.leaf Term.leaf

unfoldable pub I : Term
unfolding K
I = two Term.leaf K K

-- Δ(Δx): of a tree x, the stem of the stem of x
unfoldable pub stem_of_stem : Term → Term
stem_of_stem x = Term.app Term.leaf (Term.app Term.leaf x)

-- "The trees are those of section 5.5 of source document 001, untyped: and Δ(Δ(K(KI)))"
unfoldable pub and_tree : Term
unfolding K I stem_of_stem
and_tree = stem_of_stem (Term.app K (Term.app K I))

-- "implies Δ(Δ(KK))"
unfoldable pub implies_tree : Term
unfolding K stem_of_stem
implies_tree = stem_of_stem (Term.app K K)

-- "or Δ(Δ(KK))I"
unfoldable pub or_tree : Term
unfolding K I stem_of_stem implies_tree
or_tree = Term.app implies_tree I

-- "For not, where 001 misplaces a parenthesis, it is Δ(Δ(KK))(Δ(Δ(K(KI)))I)."
unfoldable pub not_tree : Term
unfolding K I stem_of_stem implies_tree and_tree
not_tree = Term.app implies_tree (Term.app and_tree I)

-- "Each operator stands for applying its tree to its operands, left first."
unfoldable pub term_of : Expression → Term
term_of leaf = Term.leaf
term_of (var i) = Term.var i
term_of (app f a) = Term.app (term_of f) (term_of a)
term_of (abs b) = Term.abs (term_of b)
term_of (not a) = Term.app not_tree (term_of a)
term_of (and a b) = two and_tree (term_of a) (term_of b)
term_of (or a b) = two or_tree (term_of a) (term_of b)
term_of (implies a b) = two implies_tree (term_of a) (term_of b)

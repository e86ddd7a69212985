-- Worked examples of the definitions: what the four trees compute, how many leaves they have, and readings of texts. Assumes nothing.
use mathlib.Core.Path.{◌≡◌, refl}
use mathlib.Core.List.{[], ◌∷◌, map}
use mathlib.Core.Option.{none, some}
use Rattle.calculus.specs.Abstraction.{Combination, translate, leaves}
use Rattle.calculus.specs.Abstraction as calculus
use Rattle.calculus.specs.Equations.{of_drop, of_spread, Equal, same, joined, equated}
use Rattle.grammar.specs.Expression.{Expression, leaf, var, app, abs, not, and, or, implies}
use Rattle.grammar.specs.Meaning.{term_of, K, I, stem_of_stem, and_tree, or_tree, implies_tree, not_tree}
use Rattle.grammar.specs.Words.{token, tokens, flush, before, is_sign, separate, lex}
use Rattle.grammar.specs.Reader.{start, next, parse, operand_by, inside, binder, body, enclosed, abstracted, follow, variable, lookup, up, negated, conjoined, disjoined, implied}
use Rattle.grammar.specs.Text.{all_read, of_words, read_text}

-- The truth values of source 001, section 3.5: true is K and false is KI.
abbrev yes : Expression
yes = app leaf leaf

abbrev no : Expression
no = app yes (app (app leaf yes) yes)

identity : (u : Combination) → Equal (calculus.app calculus.I u) u
identity u = joined (equated of_spread) (equated of_drop)

-- what K and KI give for two arguments
first : (u v : Combination) → Equal (calculus.app (calculus.app calculus.K u) v) u
first u v = equated of_drop

second : (u v : Combination) → Equal (calculus.app (calculus.app (calculus.app calculus.K calculus.I) u) v) v
second u v = joined (Equal.inside (equated of_drop) same) (identity v)

module _ (a b : Expression) where
  -- each operator on its operands, by the equations
  of_and : Equal (translate (term_of (and a b))) (calculus.app (calculus.app (translate (term_of a)) (translate (term_of b))) (translate (term_of no)))
  unfolding term_of translate and_tree stem_of_stem K I
  of_and = joined (equated of_spread) (Equal.inside same (equated of_drop))

  of_or : Equal (translate (term_of (or a b))) (calculus.app (calculus.app (translate (term_of a)) (translate (term_of yes))) (translate (term_of b)))
  unfolding term_of translate or_tree implies_tree stem_of_stem K I
  of_or = Equal.inside (joined (equated of_spread) (Equal.inside (identity _) (equated of_drop))) same

  of_implies : Equal (translate (term_of (implies a b))) (calculus.app (calculus.app (translate (term_of a)) (translate (term_of b))) (translate (term_of yes)))
  unfolding term_of translate implies_tree stem_of_stem K I
  of_implies = joined (equated of_spread) (Equal.inside same (equated of_drop))

  of_not : Equal (translate (term_of (not a))) (calculus.app (calculus.app (translate (term_of a)) (translate (term_of no))) (translate (term_of yes)))
  unfolding term_of translate not_tree and_tree implies_tree stem_of_stem K I
  of_not = joined (equated of_spread) (Equal.inside (joined (equated of_spread) (Equal.inside (identity _) (equated of_drop))) (equated of_drop))

-- "Each operator stands for applying its tree to its operands, left first.": on a true and on a false left operand, and on a right one e
module _ (e : Expression) where
  pub and_table : Equal (translate (term_of (and yes e))) (translate (term_of e)) × Equal (translate (term_of (and no e))) (translate (term_of no))
  unfolding term_of translate
  and_table = (joined (of_and yes e) (first _ _), joined (of_and no e) (second _ _))

  pub or_table : Equal (translate (term_of (or yes e))) (translate (term_of yes)) × Equal (translate (term_of (or no e))) (translate (term_of e))
  unfolding term_of translate
  or_table = (joined (of_or yes e) (first _ _), joined (of_or no e) (second _ _))

  pub implies_table : Equal (translate (term_of (implies yes e))) (translate (term_of e)) × Equal (translate (term_of (implies no e))) (translate (term_of yes))
  unfolding term_of translate
  implies_table = (joined (of_implies yes e) (first _ _), joined (of_implies no e) (second _ _))

pub not_table : Equal (translate (term_of (not yes))) (translate (term_of no)) × Equal (translate (term_of (not no))) (translate (term_of yes))
unfolding term_of translate
not_table = (joined (of_not yes yes) (first _ _), joined (of_not no yes) (second _ _))

-- and, or, implies and not have so many leaves
pub tree_leaves : map (λ (t : Combination). leaves t) (translate and_tree ∷ translate or_tree ∷ translate implies_tree ∷ translate not_tree ∷ []) ≡ 11 ∷ 11 ∷ 6 ∷ 22 ∷ []
unfolding translate leaves and_tree or_tree implies_tree not_tree stem_of_stem K I
tree_leaves = refl

-- Readings of texts, each under its text.
pub readings : map read_text (
    -- \x.\y.x & y
    (92 ∷ 120 ∷ 46 ∷ 92 ∷ 121 ∷ 46 ∷ 120 ∷ 32 ∷ 38 ∷ 32 ∷ 121 ∷ []) ∷
    -- \f.\y.f \x.x y
    (92 ∷ 102 ∷ 46 ∷ 92 ∷ 121 ∷ 46 ∷ 102 ∷ 32 ∷ 92 ∷ 120 ∷ 46 ∷ 120 ∷ 32 ∷ 121 ∷ []) ∷
    -- \y.(\x.x)y
    (92 ∷ 121 ∷ 46 ∷ 40 ∷ 92 ∷ 120 ∷ 46 ∷ 120 ∷ 41 ∷ 121 ∷ []) ∷
    -- \x.\x.x
    (92 ∷ 120 ∷ 46 ∷ 92 ∷ 120 ∷ 46 ∷ 120 ∷ []) ∷
    -- \a.!a a&a|a>a>a
    (92 ∷ 97 ∷ 46 ∷ 33 ∷ 97 ∷ 32 ∷ 97 ∷ 38 ∷ 97 ∷ 124 ∷ 97 ∷ 62 ∷ 97 ∷ 62 ∷ 97 ∷ []) ∷
    -- ^^^
    (94 ∷ 94 ∷ 94 ∷ []) ∷
    -- \x.^ !x
    (92 ∷ 120 ∷ 46 ∷ 94 ∷ 32 ∷ 33 ∷ 120 ∷ []) ∷
    -- \ab.a b
    (92 ∷ 97 ∷ 98 ∷ 46 ∷ 97 ∷ 32 ∷ 98 ∷ []) ∷
    -- \abcdefgh.abcdefgh
    (92 ∷ 97 ∷ 98 ∷ 99 ∷ 100 ∷ 101 ∷ 102 ∷ 103 ∷ 104 ∷ 46 ∷ 97 ∷ 98 ∷ 99 ∷ 100 ∷ 101 ∷ 102 ∷ 103 ∷ 104 ∷ []) ∷
    -- \abcdefghi.^
    (92 ∷ 97 ∷ 98 ∷ 99 ∷ 100 ∷ 101 ∷ 102 ∷ 103 ∷ 104 ∷ 105 ∷ 46 ∷ 94 ∷ []) ∷
    []) ≡ (some (abs (abs (and (var 1) (var 0)))) ∷ some (abs (abs (app (var 1) (abs (app (var 0) (var 1)))))) ∷ some (abs (app (abs (var 0)) (var 0))) ∷ some (abs (abs (var 0))) ∷ some (abs (implies (or (and (not (app (var 0) (var 0))) (var 0)) (var 0)) (implies (var 0) (var 0)))) ∷ some (app (app leaf leaf) leaf) ∷ none ∷ none ∷ some (abs (var 0)) ∷ none ∷ [])
unfolding read_text of_words all_read lex flush before is_sign separate token tokens parse start next operand_by inside binder body enclosed abstracted follow variable lookup up negated conjoined disjoined implied
readings = refl

-- The five rules, and the evaluation of closed terms by them. Assumes nothing: these are definitions.
use Rattle.std.specs.Prelude.{List, [], ◌∷◌}
use Rattle.calculus.specs.Tree.{Tree, leaf, stem, fork}
use Rattle.calculus.specs.declared.Uses.{Uses}
use Rattle.calculus.specs.Uses.{no_uses, one_leaf, one_stem, one_drop, one_spread, one_triage, ◌⊕◌}

-- "Applying program f to program N" (The five rules): Apply f N r k says that f applied to N gives r, with the uses k of the rules.
-- "Each use is one step, counted when taken, before the applications under it." "Each use of a rule tells which of the five it was." ([5])
pub data Apply : Tree → Tree → Tree → Uses → Type 0 where
  -- f = Δ gives ΔN
  by_leaf : {N : Tree} → Apply leaf N (stem N) one_leaf
  -- f = Δp gives ΔpN
  by_stem : {p N : Tree} → Apply (stem p) N (fork p N) one_stem
  -- f = ΔΔy gives y
  by_drop : {y N : Tree} → Apply (fork leaf y) N y one_drop
  -- f = Δ(Δp)y applies y to N giving v, then p to N giving w, then v to w
  by_spread : {p y N v w r : Tree} {a b c : Uses} → Apply y N v a → Apply p N w b → Apply v w r c → Apply (fork (stem p) y) N r (one_spread ⊕ a ⊕ b ⊕ c)
  -- f = Δ(Δpq)y applies N to p giving v, then v to q
  by_triage : {p q y N v r : Tree} {a b : Uses} → Apply N p v a → Apply v q r b → Apply (fork (fork p q) y) N r (one_triage ⊕ a ⊕ b)

-- A closed term: a tree that was put in (a leaf among them), or an application.
pub data Closed : Type 0 where
  tree : Tree → Closed
  app : Closed → Closed → Closed

-- "A closed term is evaluated function part first, then argument part, then applied. A tree put in as an argument costs nothing."
pub data Eval : Closed → Tree → Uses → Type 0 where
  of_tree : {t : Tree} → Eval (tree t) t no_uses
  of_app : {u v : Closed} {f N r : Tree} {a b c : Uses} → Eval u f a → Eval v N b → Apply f N r c → Eval (app u v) r (a ⊕ b ⊕ c)

-- A program applied to the first of several trees, the outcome to the second, and so on.
pub data ApplyAll : Tree → List Tree → Tree → Uses → Type 0 where
  at_end : {f : Tree} → ApplyAll f [] f no_uses
  and_next : {f N g r : Tree} {Ns : List Tree} {a b : Uses} → Apply f N g a → ApplyAll g Ns r b → ApplyAll f (N ∷ Ns) r (a ⊕ b)

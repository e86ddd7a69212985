-- Which use comes next by the five rules, on trees. Assumes nothing: these are definitions.
use Rattle.std.specs.Prelude.{ℕ, ◌+◌, ◌≡◌, List, ◌∷◌, ◌++◌, length}
use Rattle.calculus.specs.Tree.{Tree, leaf, stem, fork}
use Rattle.calculus.specs.declared.Uses.{Uses}
use Rattle.calculus.specs.Uses.{no_uses, one_spread, one_triage, ◌⊕◌}
use Rattle.calculus.specs.Rules.{Apply, ApplyAll}
use Rattle.stopping.specs.declared.Kind.{Kind}
use Rattle.stopping.specs.declared.Kind.TheVariants.{Leaf, Stem, Drop, Spread, Triage}

-- the rule by which a program is applied: "leaf: f = Δ [..] stem: f = Δp [..] drop: f = ΔΔy [..] spread: f = Δ(Δp)y [..] triage: f = Δ(Δpq)y" (The five
-- rules)
unfoldable pub rule_of : Tree → Kind
rule_of leaf = Leaf
rule_of (stem p) = Stem
rule_of (fork leaf y) = Drop
rule_of (fork (stem p) y) = Spread
rule_of (fork (fork p q) y) = Triage

-- Next f N k r: where f is applied to N, the uses k are taken and the next is one of the rule r. "Each use is one step, counted when taken, before the
-- applications under it" (The five rules), and these come in the order in which the rules name them, each once those before it are completed.
pub data Next : Tree → Tree → Uses → Kind → Type 0 where
  at_first : {f N : Tree} → Next f N no_uses (rule_of f)
  -- "applies y to N giving v, then p to N giving w, then v to w"
  spread_first : {p y N : Tree} {k : Uses} {r : Kind} → Next y N k r → Next (fork (stem p) y) N (one_spread ⊕ k) r
  spread_second : {p y N v : Tree} {a k : Uses} {r : Kind} → Apply y N v a → Next p N k r → Next (fork (stem p) y) N (one_spread ⊕ a ⊕ k) r
  spread_third : {p y N v w : Tree} {a b k : Uses} {r : Kind} → Apply y N v a → Apply p N w b → Next v w k r → Next (fork (stem p) y) N (one_spread ⊕ a ⊕ b ⊕ k) r
  -- "applies N to p giving v, then v to q"
  triage_first : {p q y N : Tree} {k : Uses} {r : Kind} → Next N p k r → Next (fork (fork p q) y) N (one_triage ⊕ k) r
  triage_second : {p q y N v : Tree} {a k : Uses} {r : Kind} → Apply N p v a → Next v q k r → Next (fork (fork p q) y) N (one_triage ⊕ a ⊕ k) r

-- "Apply in order" (Operations, Run): a program is applied to the trees in order, the uses k are taken, and the next is one of the rule r, while it is
-- applied to the i-th of them
pub record NextAll (f : Tree) (args : List Tree) (i : ℕ) (k : Uses) (r : Kind) : Type 0 where
  pub before : List Tree
  pub argument : Tree
  pub after : List Tree
  pub arguments_are : args ≡ before ++ (argument ∷ after)
  pub place : i ≡ length before + 1
  pub outcome : Tree
  -- the uses for the trees before, and those for this one
  pub taken_before : Uses
  pub taken_here : Uses
  pub so_far : ApplyAll f before outcome taken_before
  pub next : Next outcome argument taken_here r
  pub uses_are : k ≡ taken_before ⊕ taken_here

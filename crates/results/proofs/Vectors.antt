-- An example of source 001, section 6.4: a part that never ends, is dropped on paper, and keeps Apply busy. Assumes nothing.
use Prim.Native.Nat.{ℕ, zero, suc, ◌≤◌}
use mathlib.Core.Path.{◌≡◌, refl}
use mathlib.Core.List.{List, [], ◌∷◌}
use lib.ListN.{replicate}
use borrow.Author.Tests.{le-leb}
use Rattle.calculus.specs.Tree.{Tree, leaf, stem, fork}
use Rattle.calculus.specs.declared.Uses.{Uses}
use Rattle.calculus.specs.Uses.{counts}
use Rattle.calculus.specs.Rules.{Apply, by_spread}
use Rattle.calculus.specs.Abstraction.{app, term}
use Rattle.calculus.specs.Equations.{the_drop, the_spread, of_drop, of_spread}
use Rattle.calculus.proofs.Endless.{ω, endless}
use Rattle.table.specs.Nodes as nodes
use Rattle.table.specs.Nodes.{tree_at}
use Rattle.table.specs.Outcome as outcome
use Rattle.table.specs.declared.Refusal.TheVariants.{Steps}
use Rattle.rewriting.specs.Ways.{at_root, in_function, Way, arrived, goes_by, use_of, uses_of}
use Rattle.rewriting.specs.Claims.{OnlyResult}
use Rattle.rewriting.proofs.Normal.{term_closed}
use Rattle.rewriting.proofs.Rules.{way_by, result_by}
use Rattle.applying.specs.declared.Frame.TheVariants.{SpreadSecond}
use Rattle.applying.specs.Machine as machine
use Rattle.applying.specs.Machine.{State, Turn, more, done, stop, turn, after, uses}
use Rattle.applying.specs.Apply as machine-apply
use Rattle.applying.specs.Apply.{begin, apply, applied, not_applied}
use Rattle.applying.proofs.Follows.{apply_follows}

-- Δ(Δω)(K(KΔ)), where ω is 001's self_apply and document 01's 212101021010
abbrev unneeded : Tree
unneeded = fork (stem ω) (fork leaf (fork leaf leaf))

-- "Δ(Δ self_apply)(K(KΔ)) self_apply = K(KΔ) self_apply (self_apply self_apply) = KΔ (self_apply self_apply)" (001, section 6.4), and then Δ
pub dropped : Way (app (term unneeded) (term ω)) (the_spread ∷ the_drop ∷ the_drop ∷ []) (term leaf)
unfolding term
dropped = goes_by (at_root of_spread) (goes_by (in_function (at_root of_drop)) (goes_by (at_root of_drop) arrived))

-- so that every way from there that ends, ends in Δ
pub dropped_only : OnlyResult (app (term unneeded) (term ω)) leaf (counts 0 0 2 1 0)
unfolding uses_of use_of
dropped_only = result_by leaf (term_closed unneeded, term_closed ω) (way_by (the_spread ∷ the_drop ∷ the_drop ∷ []) (counts 0 0 2 1 0) dropped refl)

-- by the five rules it has no tree, for spread applies ω to itself
pub no_tree : (r : Tree) (k : Uses) → Apply unneeded ω r k → ⊥
no_tree r k (by_spread a b c) = endless _ _ b

-- and Apply gives no node for it, whatever it is lent and whatever the limit
pub never : (w : List ℕ) (u : ℕ) (s : List ℕ) (f n limit : ℕ) → tree_at w f ≡ unneeded → tree_at w n ≡ ω
    → (v u' j : ℕ) (k : Uses) → (apply w u s f n limit).answer ≡ applied v u' j k → ⊥
never w u s f n limit p q v u' j k e = no_tree _ k (rw (p, q) at (apply_follows w u s f n limit v u' j k e).applies)

-- a table with ω in node 4 and the program in node 8, and one free node
abbrev words : List ℕ
words = 0 ∷ 0 ∷ 1 ∷ 0 ∷ 2 ∷ 2 ∷ 3 ∷ 0 ∷ 4 ∷ 3 ∷ 5 ∷ 0 ∷ 1 ∷ 1 ∷ 1 ∷ 7 ∷ 6 ∷ 8 ∷ 9 ∷ 9 ∷ []

pub trees : (tree_at words 8 ≡ unneeded) × (tree_at words 4 ≡ ω)
unfolding nodes.tree_to nodes.branches
trees = (refl, refl)

-- a further application is wanted
abbrev GoesOn : Turn → Type 0
GoesOn (more z) = Unit {0}
GoesOn (done p k) = ⊥
GoesOn (stop e z) = ⊥

-- ω is to be applied to itself, after Kω was made as node 9
abbrev again : Uses → State
again k =
    record {
      table = record { words = 0 ∷ 0 ∷ 1 ∷ 0 ∷ 2 ∷ 2 ∷ 3 ∷ 0 ∷ 4 ∷ 3 ∷ 5 ∷ 0 ∷ 1 ∷ 1 ∷ 1 ∷ 7 ∷ 6 ∷ 8 ∷ 1 ∷ 5 ∷ []; used = 10 };
      function = 4;
      argument = 4;
      frames = SpreadSecond 6 ∷ [];
      uses = k;
    }

-- what goes on after one use more goes on now, and so after two and eight more
one : (k : ℕ) (s : State) → GoesOn (uses 3 (suc k) s) → GoesOn (uses 3 k s)
unfolding uses after
one zero s h = tt
one (suc k) s h = go (turn 3 s) h (one k)
  where
    go : (x : Turn) → GoesOn (after (uses 3 (suc k)) x) → ((z : State) → GoesOn (uses 3 (suc k) z) → GoesOn (uses 3 k z)) → GoesOn (after (uses 3 k) x)
    go (more z) h r = r z h
    go (done _ _) h r = elim h [ ]
    go (stop _ _) h r = elim h [ ]

two : (k : ℕ) (s : State) → GoesOn (uses 3 (suc (suc k)) s) → GoesOn (uses 3 k s)
two k s h = one k s (one (suc k) s h)

eight : (k : ℕ) (s : State) → GoesOn (uses 3 (suc (suc (suc (suc (suc (suc (suc (suc k)))))))) s) → GoesOn (uses 3 k s)
eight k s h = two k s (two (suc (suc k)) s (two (suc (suc (suc (suc k)))) s (two (suc (suc (suc (suc (suc (suc k)))))) s h)))

-- nine uses, spread and twice I on ω, lead there again
rounds : (k : ℕ) (i : Uses) → GoesOn (uses 3 k (again i))
unfolding nodes.has_words nodes.find nodes.is_none nodes.new_node nodes.or_new nodes.make
    machine.fork_rule machine.rule machine.resume machine.grow_by machine.grow machine.hold machine.use_rule machine.take_rule machine.turn machine.after machine.uses
rounds zero i = tt
rounds (suc k) i = eight (suc k) (again i) (rounds k _)

-- two uses, spread and drop, and the first such nine lead there at first
goes_on : (k : ℕ) → GoesOn (uses 3 k (begin words 9 8 4))
unfolding nodes.has_words nodes.find nodes.is_none nodes.new_node nodes.or_new nodes.make
    machine.fork_rule machine.rule machine.resume machine.grow_by machine.grow machine.hold machine.use_rule machine.take_rule machine.turn machine.after machine.uses
goes_on k = let s = begin words 9 8 4 in one k s (two (suc k) s (eight (suc (suc (suc k))) s (rounds k _)))

-- On the table above, with three frames, Apply takes as many steps as it is allowed.
pub busy : (limit : ℕ) → limit ≤ 1000000 → (apply words 9 (replicate 9 5) 8 4 limit).answer ≡ not_applied Steps
unfolding nodes.broken nodes.has_words nodes.find nodes.is_none nodes.sound outcome.fits outcome.at_entry outcome.stopped
    machine-apply.settle machine-apply.apply_nodes machine-apply.apply
busy limit h = rw (le-leb limit 1000000 h) (go (uses 3 limit (begin words 9 8 4)) (goes_on limit))
  where
    go : (x : Turn) → GoesOn x → (machine-apply.settle 9 (replicate 9 5) x).answer ≡ not_applied Steps
    go (more z) g = refl
    go (done _ _) g = elim g [ ]
    go (stop _ _) g = elim g [ ]

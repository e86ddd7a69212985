-- Each use of the machine is one equation on paper or none, and all of them together are a way. Assumes nothing.
use Prim.Native.Nat.{ℕ, zero, suc, ◌+◌, ◌<◌}
use mathlib.Core.Path.{◌≡◌, refl, sym, ap, ◌∙◌, subst}
use mathlib.Core.List.{List, [], ◌∷◌}
use mathlib.Core.Option.{none}
use lib.ListN.{length}
use lib.Dec.{ltb, leb}
use Rattle.calculus.specs.Tree.{Tree, stem, fork}
use Rattle.calculus.specs.declared.Uses.{Uses}
use Rattle.calculus.specs.Uses.{no_uses, ◌⊕◌}
use Rattle.calculus.specs.Abstraction.{Combination, app, term}
use Rattle.calculus.specs.Equations.{Equation, of_drop, of_spread, of_triage}
use Rattle.calculus.proofs.Counts.{uses_none, none_uses, uses_assoc}
use Rattle.table.specs.Nodes.{Table, Placed, Making, got, full, Sound, tree_at, make}
use Rattle.table.specs.Outcome.{frames, at_entry}
use Rattle.table.specs.Claims.{Kept, Places}
use Rattle.table.proofs.Trees.{kept_tree}
use Rattle.table.proofs.Entry.{entered}
use Rattle.table.proofs.Making.{stem_of, fork_of}
use Rattle.rewriting.specs.Ways.{Reduces, at_root, in_function, in_argument, use_of}
use Rattle.rewriting.specs.Claims.{WayBy}
use Rattle.rewriting.proofs.Rules.{none_by, one_by, then_by}
use Rattle.applying.specs.declared.Rule.{Rule}
use Rattle.applying.specs.declared.Rule.TheVariants.{Leaf, Stem, Drop, Spread, Triage}
use Rattle.applying.specs.declared.Frame.{Frame}
use Rattle.applying.specs.declared.Frame.TheVariants.{SpreadFirst, SpreadSecond, TriageFirst}
use Rattle.applying.specs.Machine.{State, Turn, more, done, stop, wanted, resume, grow_by, grow, hold, use_rule, turn, after, uses}
use Rattle.applying.specs.States.{FramesIn, Good, TreeBy}
use Rattle.applying.specs.Apply.{begin}
use Rattle.applying.proofs.States.{one_use, uses_next, turn_is, RuleIn, rule_in, cond_by, in_use, Later, turn_later, uses_later, Took, turn_took}
use Rattle.applying.proofs.Leads.{tree_by}
use Rattle.applying.proofs.Cases.{good_begin}
use Rattle.results.specs.Terms.{node_term, frames_term, state_term, turn_term, turn_uses}
use Rattle.results.specs.Claims.{RuleIs, UseIs, StandsOnPaper}

-- an equation under frames
frames_reduce : {e : Equation} (t : Table) (fs : List Frame) {u v : Combination} → Reduces e u v → Reduces e (frames_term t fs u) (frames_term t fs v)
unfolding frames_term
frames_reduce t [] r = r
frames_reduce t (SpreadFirst p n ∷ fs) r = frames_reduce t fs (in_function r)
frames_reduce t (SpreadSecond v ∷ fs) r = frames_reduce t fs (in_argument r)
frames_reduce t (TriageFirst q ∷ fs) r = frames_reduce t fs (in_function r)

-- in a later table frames are the same term, for old nodes keep their trees
module _ {t z : Table} (s : Sound t) (k : Kept t z) where
  later_node : {i : ℕ} → i < t.used → node_term z i ≡ node_term t i
  unfolding node_term
  later_node {i} h = ap term (kept_tree s k i h)

  later_frames : (fs : List Frame) (u : Combination) → FramesIn t.used fs → frames_term z fs u ≡ frames_term t fs u
  unfolding frames_term
  later_frames [] u i = refl
  later_frames (SpreadFirst p n ∷ fs) u i = rw (later_node i.0.0, later_node i.0.1) (later_frames fs _ i.1)
  later_frames (SpreadSecond v ∷ fs) u i = rw (later_node i.0) (later_frames fs _ i.1)
  later_frames (TriageFirst q ∷ fs) u i = rw (later_node i.0) (later_frames fs _ i.1)

-- What the last frame does with a node is no use of a rule, and no equation.
resumes : (s : State) (r : Rule) (t : Table) (fs : List Frame) (k : Uses) (v : ℕ)
    → RuleIs r (state_term s) (frames_term t fs (node_term t v)) → UseIs s r (resume t fs k v)
unfolding resume state_term frames_term
resumes s r t [] k v h = h
resumes s r t (SpreadFirst p n ∷ fs) k v h = h
resumes s r t (SpreadSecond u ∷ fs) k v h = h
resumes s r t (TriageFirst q ∷ fs) k v h = h

module _ {all : ℕ} {s : State} (g : Good all s) where
  -- an equation whose left side is x applied to the argument, under the frames
  at_function : {e : Equation} {v : Combination} (x : Tree) → tree_at s.table.words s.function ≡ x
      → Reduces e (app (term x) (node_term s.table s.argument)) v → Reduces e (state_term s) (frames_term s.table s.frames v)
  unfolding state_term node_term
  at_function x p r = rw p (frames_reduce s.table s.frames r)

  -- a new node, or one that is found, is the application's own term
  placed_term : (m : Placed) {x : Tree} → Places s.table m x → term x ≡ app (node_term s.table s.function) (node_term s.table s.argument)
      → frames_term m.table s.frames (node_term m.table m.node) ≡ state_term s
  unfolding state_term node_term
  placed_term m q same =
      later_frames g.fine q.extends.kept s.frames _ g.frames_in ∙ ap (frames_term s.table s.frames) (ap term q.tree ∙ same)

  grow_is : (r : Rule) → ((u v : Combination) → v ≡ u → RuleIs r u v) → (k : Uses) (a b : ℕ) (x : Tree)
      → term x ≡ app (node_term s.table s.function) (node_term s.table s.argument)
      → ((m : Placed) → make s.table a b ≡ got m → Places s.table m x) → UseIs s r (grow s k a b)
  unfolding grow grow_by
  grow_is r is k a b x same p = go (make s.table a b) refl
    where
      go : (y : Making) → make s.table a b ≡ y → UseIs s r (grow_by s k y)
      go (got m) e = let q : Places s.table m x = p m e in resumes s r m.table s.frames k m.node (is _ _ (placed_term m q same))
      go (full z) e = refl

  hold_is : (r : Rule) (k : Uses) (e : Frame) (f n : ℕ)
      → RuleIs r (state_term s) (state_term (record { table = s.table; function = f; argument = n; frames = e ∷ s.frames; uses = k })) → UseIs s r (hold all s k e f n)
  unfolding hold
  hold_is r k e f n h = cond_by (UseIs s r) (ltb (length s.frames) all) (λ b. h) (λ b. refl)

  use_is : (k : Uses) (r : Rule) → RuleIn s.table.used r → TreeBy s.table.words r (tree_at s.table.words s.function) → UseIs s r (use_rule all s k r)
  unfolding use_rule term node_term state_term frames_term
  use_is k Leaf i e = grow_is Leaf (λ u v h. h) k (s.argument + 1) 0 (stem (tree_at s.table.words s.argument)) (rw e) (λ m. stem_of g.fine (in_use g g.argument_in))
  use_is k (Stem p) i e =
      grow_is (Stem p) (λ u v h. h) k (p + 1) (s.argument + 1) (fork (tree_at s.table.words p) (tree_at s.table.words s.argument)) (rw e)
      (λ m. fork_of g.fine (in_use g i) (in_use g g.argument_in))
  use_is k (Drop y) i e = resumes s (Drop y) s.table s.frames k y (at_function _ e (at_root of_drop))
  use_is k (Spread p y) i e = hold_is (Spread p y) k (SpreadFirst p s.argument) y s.argument (at_function _ e (at_root of_spread))
  use_is k (Triage p q) i e = hold_is (Triage p q) k (TriageFirst q) s.argument p (at_function _ e.1 (at_root of_triage))

  -- "Each use of drop, spread and triage is shown to be one equation on paper, and of leaf and stem none." ([11])
  pub use_on_paper : UseIs s (wanted s) (turn all s)
  use_on_paper =
      rw (turn_is all s) (use_is (uses_next s) (wanted s) (rule_in g.fine s.function g.function_in) (tree_by g.fine s.function g.function_in))

-- the use of a rule as a way
rule_by : (r : Rule) {u v : Combination} → RuleIs r u v → WayBy u v (one_use r)
unfolding use_of
rule_by Leaf {u} h = rw h (none_by refl u)
rule_by (Stem p) {u} h = rw h (none_by refl u)
rule_by (Drop y) h = one_by h
rule_by (Spread p y) h = one_by h
rule_by (Triage p q) h = one_by h

-- the turn x is reached on paper from the state s, and what it has counted since is what was taken
record Since (s : State) (x : Turn) : Type 0 where
  taken : Uses
  way : WayBy (state_term s) (turn_term x) taken
  counted : turn_uses x ≡ s.uses ⊕ taken

turn_since : (s : State) (x : Turn) → UseIs s (wanted s) x → Took (uses_next s) x → Since s x
unfolding turn_term turn_uses
turn_since s (more z) h t = record { taken = one_use (wanted s); way = rule_by (wanted s) h; counted = t }
turn_since s (done p k) h t = record { taken = one_use (wanted s); way = rule_by (wanted s) h; counted = t }
turn_since s (stop e z) h t = rw h (record { taken = no_uses; way = none_by refl (state_term s); counted = sym (uses_none s.uses) })

uses_since : (k : ℕ) {all : ℕ} {s : State} → Good all s → Since s (uses all k s)
unfolding uses after turn_term turn_uses
uses_since zero {all} {s} g = record { taken = no_uses; way = none_by refl (state_term s); counted = sym (uses_none s.uses) }
uses_since (suc k) {all} {s} g = go (turn all s) (turn_later g) (turn_since s (turn all s) (use_on_paper g) (turn_took all s)) (λ (z : State) (h : Good all z). uses_since k h)
  where
    go : (x : Turn) → Later all s.table x → Since s x → ((z : State) → Good all z → Since z (uses all k z)) → Since s (after (uses all k) x)
    go (more z) l a r =
        let b = r z l.ready in
        record {
          taken = a.taken ⊕ b.taken;
          way = then_by a.way b.way;
          counted = b.counted ∙ ap (λ (k : Uses). k ⊕ b.taken) a.counted ∙ uses_assoc s.uses a.taken b.taken;
        }
    go (done p j) l a r = a
    go (stop e z) l a r = a

module _ (w : List ℕ) (u : ℕ) (s : List ℕ) (f n limit : ℕ) (enters : at_entry (leb limit 1000000) w u s ≡ none) (function_in : f < u) (argument_in : n < u) where
  begins : Good (frames s) (begin w u f n)
  begins = good_begin (entered (leb limit 1000000) w u s enters) function_in argument_in

  -- So it is of each use of an application of two nodes, on a table that passed the checks of Apply.
  pub each_use : (j : ℕ) {z : State} → uses (frames s) j (begin w u f n) ≡ more z → UseIs z (wanted z) (turn (frames s) z)
  each_use j {z} e =
      let l : Later (frames s) (record { words = w; used = u }) (more z) = subst (Later (frames s) (record { words = w; used = u })) e (uses_later j begins) in
      use_on_paper l.ready

  -- And in sum: "Each use of drop, spread and triage is shown to be one equation on paper, and of leaf and stem none." ([11])
  pub stands_on_paper : (j : ℕ) → StandsOnPaper w u s f n j
  unfolding state_term frames_term node_term
  stands_on_paper j = let a = uses_since j begins in subst (WayBy _ _) (sym (a.counted ∙ none_uses a.taken)) a.way

-- What an application still has to do by the five rules: what a use leaves of it, read off the state of the machine. Assumes nothing.
use Prim.Native.Nat.{ℕ, ◌+◌, ◌-◌, ◌*◌, ◌<◌}
use mathlib.Core.Path.{◌≡◌, refl, sym, ap, ◌∙◌, transport, transport⁻¹}
use mathlib.Core.List.{List, [], ◌∷◌}
use native.Mathlib.Omega.{arith}
use lib.ListN.{length, get_or}
use lib.Dec.{ltb}
use Rattle.calculus.specs.Tree.{Tree, leaf, stem, fork}
use Rattle.calculus.specs.declared.Uses.{Uses}
use Rattle.calculus.specs.Uses.{no_uses, one_leaf, one_stem, one_drop, one_spread, one_triage, ◌⊕◌, steps}
use Rattle.calculus.specs.Rules.{Apply, by_leaf, by_stem, by_drop, by_spread, by_triage}
use Rattle.calculus.proofs.Counts.{uses_assoc}
use Rattle.table.specs.Nodes.{Table, Placed, Making, got, full, first, second, Sound, tree_at, make}
use Rattle.table.specs.Claims.{Has, Kept, Places}
use Rattle.table.proofs.Words.{sound_node}
use Rattle.table.proofs.Trees.{tree_leaf, tree_stem, tree_fork, kept_tree, kept_trans}
use Rattle.table.proofs.Making.{stem_of, fork_of}
use Rattle.applying.specs.declared.Rule.{Rule}
use Rattle.applying.specs.declared.Rule.TheVariants.{Leaf, Stem, Drop, Spread, Triage}
use Rattle.applying.specs.declared.Frame.{Frame}
use Rattle.applying.specs.declared.Frame.TheVariants.{SpreadFirst, SpreadSecond, TriageFirst}
use Rattle.applying.specs.Machine.{fork_rule, rule, State, wanted, Turn, more, done, stop, resume, grow_by, grow, hold, use_rule, turn}
use Rattle.applying.specs.States.{Good, FramesIn, TreeBy}
use Rattle.applying.proofs.States.{cond_by, words_by, RuleIn, rule_in, table_of, resume_table, turn_later, one_use, uses_next, turn_is}

-- f is applied to n, and P goes on from the outcome; k are the uses of all that
pub record Then (f n : Tree) (P : Tree → Uses → Type 0) (k : Uses) : Type 0 where
  pub outcome : Tree
  pub taken : Uses
  pub left : Uses
  pub applies : Apply f n outcome taken
  pub goes : P outcome left
  pub counted : k ≡ taken ⊕ left

pub and_then : {f n r : Tree} {P : Tree → Uses → Type 0} {a k : Uses} (b : Uses) → Apply f n r a → P r b → k ≡ a ⊕ b → Then f n P k
and_then {r = r} {a = a} b d x e = record { outcome = r; taken = a; left = b; applies = d; goes = x; counted = e }

-- an application takes at least one use
pub uses_some : {f n r : Tree} {k : Uses} → Apply f n r k → 0 < steps k
uses_some by_leaf = omega arith
uses_some by_stem = omega arith
uses_some by_drop = omega arith
uses_some (by_spread c d e) = omega arith
uses_some (by_triage c d) = omega arith

-- What the first use leaves, by the five rules: a tree to go on from, or the applications of spread ("applies y to N giving v, then p to N
-- giving w, then v to w") and of triage ("applies N to p giving v, then v to q").
-- `App f n P k` says how f is applied to n before P goes on.
abbrev pub Applying : Type 1
Applying = Tree → Tree → (Tree → Uses → Type 0) → Uses → Type 0

abbrev pub UseBy : Applying → Tree → Tree → (Tree → Uses → Type 0) → Uses → Type 0
UseBy App leaf n P k = P (stem n) k
UseBy App (stem p) n P k = P (fork p n) k
UseBy App (fork leaf y) n P k = P y k
UseBy App (fork (stem p) y) n P k = App y n (λ v. App p n (λ w. App v w P)) k
UseBy App (fork (fork p q) y) n P k = App n p (λ v. App v q P) k

-- where each application is completed
abbrev pub Use : Tree → Tree → (Tree → Uses → Type 0) → Uses → Type 0
Use = UseBy Then

-- the first use alone
abbrev pub first_use : Tree → Uses
first_use leaf = one_leaf
first_use (stem p) = one_stem
first_use (fork leaf y) = one_drop
first_use (fork (stem p) y) = one_spread
first_use (fork (fork p q) y) = one_triage

-- the uses of spread and of triage, in the order in which they are taken
in_triage : (o a b d : Uses) → o ⊕ a ⊕ b ⊕ d ≡ o ⊕ (a ⊕ (b ⊕ d))
in_triage o a b d = uses_assoc (o ⊕ a) b d ∙ uses_assoc o a (b ⊕ d)

in_spread : (o a b c d : Uses) → o ⊕ a ⊕ b ⊕ c ⊕ d ≡ o ⊕ (a ⊕ (b ⊕ (c ⊕ d)))
in_spread o a b c d = in_triage (o ⊕ a) b c d ∙ uses_assoc o a (b ⊕ (c ⊕ d))

-- An application is its first use and what that leaves: "Each use is one step, counted when taken, before the applications under it."
pub first_use_lem : {f n : Tree} {P : Tree → Uses → Type 0} {k : Uses} → Then f n P k → (j : Uses) × Use f n P j × (k ≡ first_use f ⊕ j)
first_use_lem {P = P} {k = k} x = go x.applies x.goes x.counted
  where
    go : {f n r : Tree} {a b : Uses} → Apply f n r a → P r b → k ≡ a ⊕ b → (j : Uses) × Use f n P j × (k ≡ first_use f ⊕ j)
    go by_leaf y e = (_, y, e)
    go by_stem y e = (_, y, e)
    go by_drop y e = (_, y, e)
    go {b = b} (by_spread {a = i} {b = j} {c = l} c d e) y q =
        (_, and_then (j ⊕ (l ⊕ b)) c (and_then (l ⊕ b) d (and_then b e y refl) refl) refl, q ∙ in_spread one_spread i j l b)
    go {b = b} (by_triage {a = i} {b = j} c d) y q = (_, and_then (j ⊕ b) c (and_then b d y refl) refl, q ∙ in_triage one_triage i j b)

pub before_use : (f : Tree) {n : Tree} {P : Tree → Uses → Type 0} (k : Uses) → Use f n P k → Then f n P (first_use f ⊕ k)
before_use leaf k x = and_then k by_leaf x refl
before_use (stem p) k x = and_then k by_stem x refl
before_use (fork leaf y) k x = and_then k by_drop x refl
before_use (fork (stem p) y) k x =
    let v = x.goes in
    let w = v.goes in
    and_then w.left (by_spread x.applies v.applies w.applies) w.goes
    (rw (x.counted, v.counted, w.counted, in_spread one_spread x.taken v.taken w.taken w.left))
before_use (fork (fork p q) y) k x =
    let v = x.goes in
    and_then v.left (by_triage x.applies v.applies) v.goes (rw (x.counted, v.counted, in_triage one_triage x.taken v.taken v.left))

-- The frames, handed a tree, go on so; End is said of the tree in the end and of the uses left. The trees of nodes are read in the words w.
module _ (App : Applying) (End : Tree → Uses → Type 0) (w : List ℕ) where
  abbrev pub ContBy : List Frame → Tree → Uses → Type 0
  ContBy [] = End
  ContBy (SpreadFirst p n ∷ fs) = λ r. App (tree_at w p) (tree_at w n) (λ x. App r x (ContBy fs))
  ContBy (SpreadSecond v ∷ fs) = λ r. App (tree_at w v) r (ContBy fs)
  ContBy (TriageFirst q ∷ fs) = λ r. App r (tree_at w q) (ContBy fs)

  -- a state goes on so with the uses k
  abbrev pub GoesBy : State → Uses → Type 0
  GoesBy s k = App (tree_at w s.function) (tree_at w s.argument) (ContBy s.frames) k

  -- and a turn; S is what is said of a stop
  abbrev pub TurnBy : Uses → Type 0 → Turn → Type 0
  TurnBy k S (more z) = GoesBy z k
  TurnBy k S (done p j) = End (tree_at w p.node) k
  TurnBy k S (stop e z) = S

  said : (k : Uses) {R S : Type 0} (x : Turn) → (R → S) → TurnBy k R x → TurnBy k S x
  said k (more z) f l = l
  said k (done p j) f l = l
  said k (stop e z) f l = f l

-- the tree in the end is o, and no uses are left
abbrev pub Comes : Tree → Tree → Uses → Type 0
Comes o r k = (r ≡ o) × (k ≡ no_uses)

-- the state s leads to the tree o with the uses k, and a turn does
abbrev pub Leads : List ℕ → State → Tree → Uses → Type 0
Leads w s o k = GoesBy Then (Comes o) w s k

abbrev pub TurnLeads : List ℕ → Tree → Uses → Type 0 → Turn → Type 0
TurnLeads w o k S x = TurnBy Then (Comes o) w k S x

-- in a later table it is the same, for old nodes keep their trees
module _ (App : Applying) (End : Tree → Uses → Type 0) {t z : Table} (s : Sound t) (k : Kept t z) where
  cont_same : (fs : List Frame) → FramesIn t.used fs → ContBy App End z.words fs ≡ ContBy App End t.words fs
  cont_same [] i = refl
  cont_same (SpreadFirst p n ∷ fs) i = λ d r. App (kept_tree s k p i.0.0 d) (kept_tree s k n i.0.1 d) (λ x. App r x (cont_same fs i.1 d))
  cont_same (SpreadSecond v ∷ fs) i = λ d r. App (kept_tree s k v i.0 d) r (cont_same fs i.1 d)
  cont_same (TriageFirst q ∷ fs) i = λ d r. App r (kept_tree s k q i.0 d) (cont_same fs i.1 d)

pub goes_same : (App : Applying) (End : Tree → Uses → Type 0) {all : ℕ} {s : State} {z : Table} → Good all s → Kept s.table z → (k : Uses)
    → GoesBy App End z.words s k ≡ GoesBy App End s.table.words s k
goes_same App End {s = s} g k j =
    let t = kept_tree g.fine k in
    rw (t s.function g.function_in, t s.argument g.argument_in, cont_same App End g.fine k s.frames g.frames_in) refl

pub leads_same : {all : ℕ} {s : State} {z : Table} → Good all s → Kept s.table z → (o : Tree) (k : Uses)
    → Leads s.table.words s o k → Leads z.words s o k
leads_same g k o j x = transport⁻¹ (goes_same Then (Comes o) g k j) x

-- The rule that a node in use takes is that of its tree's shape.
pub tree_by : {t : Table} → Sound t → (i : ℕ) → i < t.used → TreeBy t.words (rule t.words i) (tree_at t.words i)
unfolding rule fork_rule
tree_by {t} s i h =
    let w = t.words in
    let x = first w i - 1 in
    let y = second w i - 1 in
    let l : x < t.used = omega (arith, (sound_node w t.used i h s.unbroken).first_in) in
    let on : Tree → Tree = λ z. fork z (tree_at w y) in
    words_by (λ r. TreeBy w r (tree_at w i)) (first w i) (second w i)
    (λ a. tree_leaf w t.used i s.unbroken h a)
    (λ a b. tree_stem w t.used i s.unbroken h x a b)
    (λ a b. rw (tree_fork w t.used i s.unbroken h x y a b)
    (words_by (λ r. TreeBy w r (on (tree_at w x))) (first w x) (second w x)
    (λ c. ap on (tree_leaf w t.used x s.unbroken l c))
    (λ c d. ap on (tree_stem w t.used x s.unbroken l (first w x - 1) c d))
    (λ c d. (tree_at w y, ap on (tree_fork w t.used x s.unbroken l (first w x - 1) (second w x - 1) c d)))))

-- where the words of the nodes in use are the same, so is the rule that each of them takes
pub same_rule : {t : Table} (z : List ℕ) → Sound t → ((i : ℕ) → i < t.used * 2 → get_or z i 0 ≡ get_or t.words i 0) → (i : ℕ) → i < t.used → rule z i ≡ rule t.words i
unfolding rule fork_rule
same_rule {t} z s k i h =
    let a : (j : ℕ) → j < t.used → first z j ≡ first t.words j = λ j l. k (j * 2) (omega arith) in
    let b : (j : ℕ) → j < t.used → second z j ≡ second t.words j = λ j l. k (j * 2 + 1) (omega arith) in
    let x = first t.words i - 1 in
    let l : x < t.used = omega (arith, (sound_node t.words t.used i h s.unbroken).first_in) in
    rw (a i h, b i h, a x l, b x l)

-- What a turn from a good state leads to is what the use of its rule leaves. Trees are read in a later table y.
module _ (App : Applying) (End : Tree → Uses → Type 0) {all : ℕ} {s : State} (g : Good all s) {y : Table} (fine : Sound y) (kept : Kept s.table y) (k : Uses) where
  abbrev tree : ℕ → Tree
  tree = tree_at y.words

  abbrev Cont : List Frame → Tree → Uses → Type 0
  Cont = ContBy App End y.words

  abbrev Turns : Type 0 → Turn → Type 0
  Turns = TurnBy App End y.words k

  abbrev Left : Tree → Type 0
  Left x = UseBy App x (tree s.argument) (Cont s.frames) k

  resume_leads : (S : Type 0) (t : Table) (fs : List Frame) (j : Uses) (v : ℕ) → Turns S (resume t fs j v) ≡ Cont fs (tree v) k
  unfolding resume
  resume_leads S t [] j v = refl
  resume_leads S t (SpreadFirst p n ∷ fs) j v = refl
  resume_leads S t (SpreadSecond u ∷ fs) j v = refl
  resume_leads S t (TriageFirst q ∷ fs) j v = refl

  old : {i : ℕ} → i < s.table.used → Has s.table i (tree i)
  old {i} h = record { inside = h; tree = sym (kept_tree g.fine kept i h) }

  grow_leads : (i : Uses) (a b : ℕ) {x : Tree} → ((m : Placed) → make s.table a b ≡ got m → Places s.table m x)
      → Kept (table_of (grow s i a b)) y
      → Turns (Cont s.frames x k) (grow s i a b) ≡ Cont s.frames x k
  unfolding grow grow_by
  grow_leads i a b {x} p = go (make s.table a b) refl
    where
      go : (z : Making) → make s.table a b ≡ z → Kept (table_of (grow_by s i z)) y
          → Turns (Cont s.frames x k) (grow_by s i z) ≡ Cont s.frames x k
      go (got m) e j =
          let q : Places s.table m x = p m e in
          resume_leads _ m.table s.frames i m.node
          ∙ ap (λ (z : Tree). Cont s.frames z k)
          (kept_tree q.fine (rw (resume_table m.table s.frames i m.node) at j) m.node q.inside ∙ q.tree)
      go (full z) e j = refl

  hold_leads : (i : Uses) (e : Frame) (f n : ℕ) {S : Type 0}
      → S ≡ GoesBy App End y.words (record { table = s.table; function = f; argument = n; frames = e ∷ s.frames; uses = i }) k
      → Turns S (hold all s i e f n) ≡ S
  unfolding hold
  hold_leads i e f n {S} q = cond_by (λ z. Turns S z ≡ S) (ltb (length s.frames) all) (λ b. sym q) (λ b. refl)

  use_leads : (c : Uses) (r : Rule) (x : Tree) → RuleIn s.table.used r → TreeBy y.words r x → Kept (table_of (use_rule all s c r)) y
      → Turns (Left x) (use_rule all s c r) ≡ Left x
  unfolding use_rule
  use_leads c Leaf x i e j = rw e (grow_leads c (s.argument + 1) 0 (λ m. stem_of g.fine (old g.argument_in)) j)
  use_leads c (Stem p) x i e j = rw e (grow_leads c (p + 1) (s.argument + 1) (λ m. fork_of g.fine (old i) (old g.argument_in)) j)
  use_leads c (Drop z) x i e j = rw e (resume_leads _ s.table s.frames c z)
  use_leads c (Spread p z) x i e j = rw e (hold_leads c (SpreadFirst p s.argument) z s.argument refl)
  use_leads c (Triage p q) x i e j = rw e.1 (hold_leads c (TriageFirst q) s.argument p refl)

  turn_leads : Kept (table_of (turn all s)) y → Turns (Left (tree s.function)) (turn all s) ≡ Left (tree s.function)
  turn_leads =
      rw (turn_is all s) (use_leads (uses_next s) (wanted s) (tree s.function) (rule_in g.fine s.function g.function_in)
      (rw (← same_rule y.words g.fine kept.below s.function g.function_in) (tree_by fine s.function (omega (arith, g.function_in, kept.up)))))

-- the first use of a tree is that of the rule that is taken for it
rule_first : (w : List ℕ) (r : Rule) (x : Tree) → TreeBy w r x → first_use x ≡ one_use r
rule_first w Leaf x e = rw e
rule_first w (Stem p) x e = rw e
rule_first w (Drop y) x e = rw e
rule_first w (Spread p y) x e = rw e
rule_first w (Triage p q) x e = rw e.1

module _ {all : ℕ} {s : State} (g : Good all s) {y : Table} (fine : Sound y) (kept : Kept (table_of (turn all s)) y) where
  since : Kept s.table y
  since = kept_trans (turn_later g).extends.kept kept

  first_is : first_use (tree_at y.words s.function) ≡ one_use (wanted s)
  first_is =
      rule_first y.words (rule y.words s.function) (tree_at y.words s.function) (tree_by fine s.function (omega (arith, g.function_in, since.up)))
      ∙ ap one_use (same_rule y.words g.fine since.below s.function g.function_in)

  -- Where the turn goes on so with the uses k, the state before it does with these and the use of its rule.
  pub goes_before : (App : Applying) (End : Tree → Uses → Type 0) → ((f n : Tree) (P : Tree → Uses → Type 0) (k : Uses) → UseBy App f n P k → App f n P (first_use f ⊕ k))
      → (k : Uses) → TurnBy App End y.words k ⊥ (turn all s) → GoesBy App End y.words s (one_use (wanted s) ⊕ k)
  goes_before App End before k x =
      rw (← first_is) (before _ _ _ k (transport (turn_leads App End g fine since k kept) (said App End y.words k (turn all s) (λ e. absurd e) x)))

  module _ (o : Tree) (k : Uses) where
    -- Where the turn leads to o with the uses k, the state before it does with these and the use of its rule, and the other way round.
    pub leads_before : TurnLeads y.words o k ⊥ (turn all s) → Leads y.words s o (one_use (wanted s) ⊕ k)
    leads_before = goes_before Then (Comes o) (λ f n P k. before_use f k) k

    pub leads_after : Leads y.words s o k → (j : Uses) × TurnLeads y.words o j (Unit {0}) (turn all s) × (k ≡ one_use (wanted s) ⊕ j)
    leads_after x =
        let i = first_use_lem x in
        (i.0, said Then (Comes o) y.words i.0 (turn all s) (λ e. tt) (transport⁻¹ (turn_leads Then (Comes o) g fine since i.0 kept) i.1), rw first_is at i.2)

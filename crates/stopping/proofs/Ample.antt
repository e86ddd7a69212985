-- A run that is given more of nodes, frames or steps comes to want the same uses: one simulation through Translate, Read and Apply. Assumes nothing.
use Prim.Native.Nat.{ℕ, zero, suc, ◌+◌, ◌-◌, ◌*◌, ◌≤◌, ◌<◌}
use mathlib.Core.Path.{◌≡◌, refl, sym, ap, ◌∙◌, subst}
use mathlib.Core.Bool.{Bool, true, false, cond}
use mathlib.Core.List.{List, [], ◌∷◌}
use native.Mathlib.Omega.{arith}
use lib.ListN.{length, get_or}
use lib.Dec.{ltb, eqb}
use borrow.Author.Tests.{ltb-true, ltb-false, lt-ltb, eqb-true, eqb-false}
use Rattle.calculus.specs.Tree.{Tree, leaf, stem, fork}
use Rattle.calculus.specs.declared.Uses.{Uses}
use Rattle.table.specs.Nodes.{Table, Placed, Making, got, full, capacity, find, new_node, make, and_then, lay}
use Rattle.table.specs.declared.Refusal.TheVariants as refusal
use Rattle.table.specs.Claims.{Makes}
use Rattle.table.specs.Claims.Makes.{found, made, no_place}
use Rattle.table.proofs.Words.{zero_one, find_same, wrote, wrote_other, wrote_first, wrote_second, length_wrote}
use Rattle.table.proofs.Making.{make_case, make_found, make_new, and_got, then_got}
use Rattle.applying.specs.declared.Rule.{Rule}
use Rattle.applying.specs.declared.Rule.TheVariants.{Leaf, Stem, Drop, Spread, Triage}
use Rattle.applying.specs.declared.Frame.{Frame}
use Rattle.applying.specs.declared.Frame.TheVariants.{SpreadFirst, SpreadSecond, TriageFirst}
use Rattle.applying.specs.Machine.{State, wanted, Turn, more, done, stop, resume, grow_by, grow, hold, use_rule, turn, after, uses}
use Rattle.applying.specs.States.{Good}
use Rattle.applying.proofs.States.{Later, turn_later, uses_next, turn_is, uses_add}
use Rattle.applying.proofs.Leads.{same_rule}

-- Two tables that agree on the nodes in use and their words, the second with places for d nodes more.
pub record Like (d : ℕ) (t z : Table) : Type 0 where
  pub same_used : z.used ≡ t.used
  pub same_words : (i : ℕ) → i < t.used * 2 → get_or z.words i 0 ≡ get_or t.words i 0
  pub room : capacity t.words + d ≤ capacity z.words

-- the same node is made in both, or found in both
pub record Both (d : ℕ) (m : Placed) (x : Making) : Type 0 where
  pub placed : Placed
  pub is : x ≡ got placed
  pub like : Like d m.table placed.table
  pub same_node : placed.node ≡ m.node

module _ {d : ℕ} {t z : Table} (l : Like d t z) (a b : ℕ) where
  pub same_find : find z.words z.used a b ≡ find t.words t.used a b
  same_find = rw l.same_used (find_same t.words z.words t.used a b l.same_words)

  new_like : t.used < capacity t.words → Like d (new_node t a b).table (new_node z a b).table
  unfolding new_node
  new_like h =
      record {
        same_used = rw l.same_used;
        same_words = λ i k. rw l.same_used (go i k (ltb i (t.used * 2)) (eqb i (t.used * 2)) refl refl);
        room = omega (arith, length_wrote t.words t.used a b, length_wrote z.words z.used a b, l.room);
      }
    where
      u : ℕ
      u = t.used

      go : (i : ℕ) → i < (u + 1) * 2 → (x y : Bool) → ltb i (u * 2) ≡ x → eqb i (u * 2) ≡ y → get_or (wrote z.words u a b) i 0 ≡ get_or (wrote t.words u a b) i 0
      go i k true y p q =
          let n : i < u * 2 = ltb-true i (u * 2) p in
          wrote_other z.words u a b i (λ e. omega arith) (λ e. omega arith) ∙ l.same_words i n ∙ sym (wrote_other t.words u a b i (λ e. omega arith) (λ e. omega arith))
      go i k false true p q =
          let n : i ≡ u * 2 = eqb-true i (u * 2) q in
          rw n (wrote_first z.words u a b (omega (arith, l.room)) ∙ sym (wrote_first t.words u a b (omega arith)))
      go i k false false p q =
          let n : (i ≡ u * 2 → ⊥) = eqb-false i (u * 2) q in
          let m : u * 2 ≤ i = ltb-false i (u * 2) p in
          let e : i ≡ u * 2 + 1 = omega arith in
          rw e (wrote_second z.words u a b (omega (arith, l.room)) ∙ sym (wrote_second t.words u a b (omega arith)))

  new_node_lem : (new_node z a b).node ≡ (new_node t a b).node
  unfolding new_node
  new_node_lem = l.same_used

  pub make_like : {m : Placed} → make t a b ≡ got m → Both d m (make z a b)
  make_like {m} e = go (make_case t a b) e
    where
      go : {x : Making} → Makes t a b x → x ≡ got m → Both d m (make z a b)
      go (found {i} f) q =
          let p : record { table = t; node = i } ≡ m = cc in
          rw (← p) (record { placed = record { table = z; node = i }; is = make_found z a b (same_find ∙ f); like = l; same_node = refl })
      go (made f h) q =
          let p : new_node t a b ≡ m = cc in
          rw (← p) (record { placed = new_node z a b; is = make_new z a b (same_find ∙ f) (omega (arith, l.room, l.same_used)); like = new_like h; same_node = new_node_lem })
      go (no_place f h) q = zero_one (cc)

pub lay_like : {d : ℕ} {t z : Table} → Like d t z → (x : Tree) {m : Placed} → lay t x ≡ got m → Both d m (lay z x)
unfolding lay
lay_like l leaf e = make_like l 0 0 e
lay_like {t = t} {z = z} l (stem p) e =
    let a = and_got (lay t p) (λ m. make m.table (m.node + 1) 0) e in
    let b = lay_like l p a.first_is in
    let c = make_like b.like (a.first.node + 1) 0 a.rest in
    record { placed = c.placed; is = then_got (λ m. make m.table (m.node + 1) 0) b.is ∙ rw b.same_node c.is; like = c.like; same_node = c.same_node }
lay_like {t = t} {z = z} l (fork p q) e =
    let a = and_got (lay t q) (λ m. and_then (lay m.table p) (λ n. make n.table (n.node + 1) (m.node + 1))) e in
    let b = lay_like l q a.first_is in
    let f = and_got (lay a.first.table p) (λ n. make n.table (n.node + 1) (a.first.node + 1)) a.rest in
    let g = lay_like {t = a.first.table} {z = b.placed.table} b.like p f.first_is in
    let c = make_like g.like (f.first.node + 1) (a.first.node + 1) f.rest in
    record {
      placed = c.placed;
      is = then_got (λ m. and_then (lay m.table p) (λ n. make n.table (n.node + 1) (m.node + 1))) b.is
          ∙ then_got (λ n. make n.table (n.node + 1) (b.placed.node + 1)) g.is ∙ rw (b.same_node, g.same_node) c.is;
      like = c.like;
      same_node = c.same_node;
    }

-- ---- Apply

-- the same state on another table
abbrev pub on_table : State → Table → State
on_table s z = record { table = z; function = s.function; argument = s.argument; frames = s.frames; uses = s.uses }

-- Two turns that are the same but for the table; of a first one that stops nothing is said.
abbrev Alike : ℕ → Turn → Turn → Type 0
Alike d (stop e y) x = Unit {0}
Alike d (more y) (more z) = Like d y.table z.table × (z ≡ on_table y z.table)
Alike d (more y) (done q j) = ⊥
Alike d (more y) (stop c z) = ⊥
Alike d (done p k) (done q j) = Like d p.table q.table × (q.node ≡ p.node) × (j ≡ k)
Alike d (done p k) (more z) = ⊥
Alike d (done p k) (stop c z) = ⊥

resume_like : {d : ℕ} {t z : Table} → Like d t z → (fs : List Frame) (k : Uses) (v : ℕ) → Alike d (resume t fs k v) (resume z fs k v)
unfolding resume
resume_like l [] k v = (l, refl, refl)
resume_like l (SpreadFirst p n ∷ fs) k v = (l, refl)
resume_like l (SpreadSecond u ∷ fs) k v = (l, refl)
resume_like l (TriageFirst q ∷ fs) k v = (l, refl)

module _ {d all more_frames : ℕ} (enough : all ≤ more_frames) (s : State) {z : Table} (l : Like d s.table z) where
  grow_like : (k : Uses) (a b : ℕ) → Alike d (grow s k a b) (grow (on_table s z) k a b)
  unfolding grow grow_by
  grow_like k a b = go (make s.table a b) refl
    where
      go : (x : Making) → make s.table a b ≡ x → Alike d (grow_by s k x) (grow_by (on_table s z) k (make z a b))
      go (got m) e = let c = make_like l a b e in rw (c.is, c.same_node) (resume_like c.like s.frames k m.node)
      go (full y) e = tt

  hold_like : (k : Uses) (e : Frame) (f n : ℕ) → Alike d (hold all s k e f n) (hold more_frames (on_table s z) k e f n)
  unfolding hold
  hold_like k e f n = go (ltb (length s.frames) all) refl
    where
      go : (b : Bool) → ltb (length s.frames) all ≡ b
          → Alike d (cond b (more (record { table = s.table; function = f; argument = n; frames = e ∷ s.frames; uses = k })) (stop refusal.Frames s)) (hold more_frames (on_table s z) k e f n)
      go true q = let h = ltb-true (length s.frames) all q in rw (lt-ltb (length s.frames) more_frames (omega arith)) (l, refl)
      go false q = tt

  use_like : (k : Uses) (r : Rule) → Alike d (use_rule all s k r) (use_rule more_frames (on_table s z) k r)
  unfolding use_rule
  use_like k Leaf = grow_like k (s.argument + 1) 0
  use_like k (Stem p) = grow_like k (p + 1) (s.argument + 1)
  use_like k (Drop y) = resume_like l s.frames k y
  use_like k (Spread p y) = hold_like k (SpreadFirst p s.argument) y s.argument
  use_like k (Triage p q) = hold_like k (TriageFirst q) s.argument p

  -- the same rule is wanted
  pub wanted_like : Good all s → wanted (on_table s z) ≡ wanted s
  wanted_like g = same_rule z.words g.fine l.same_words s.function g.function_in

  turn_like : Good all s → Alike d (turn all s) (turn more_frames (on_table s z))
  turn_like g = rw (turn_is all s, turn_is more_frames (on_table s z), wanted_like g) (use_like (uses_next s) (wanted s))

-- So many uses lead two such states to two such turns, or stop the first for what it lacks.
uses_like : (m : ℕ) {d all more_frames : ℕ} → all ≤ more_frames → {s : State} {z : Table} → Good all s → Like d s.table z
    → Alike d (uses all m s) (uses more_frames m (on_table s z))
unfolding uses after
uses_like zero h g l = (l, refl)
uses_like (suc m) {d} {all} {more_frames} h {s} {z} g l =
    go (turn all s) (turn more_frames (on_table s z)) (turn_later g) (turn_like h s l g) (λ (y : State) (x : Table) (i : Good all y) (k : Like d y.table x). uses_like m h i k)
  where
    go : (x y : Turn) → Later all s.table x → Alike d x y
        → ((y : State) (x : Table) → Good all y → Like d y.table x → Alike d (uses all m y) (uses more_frames m (on_table y x)))
        → Alike d (after (uses all m) x) (after (uses more_frames m) y)
    go (stop e a) y k i on = tt
    go (more a) (more b) k i on = rw i.1 (on a b.table k.ready i.0)
    go (more a) (done q j) k i on = absurd i
    go (more a) (stop c b) k i on = absurd i
    go (done p j) (done q c) k i on = i
    go (done p j) (more b) k i on = absurd i
    go (done p j) (stop c b) k i on = absurd i

-- the second of two such turns
pub led_like : {d all more_frames : ℕ} (m : ℕ) → all ≤ more_frames → {s : State} {z : Table} → Good all s → Like d s.table z → {y : State} → uses all m s ≡ more y
    → (x : Table) × Like d y.table x × (uses more_frames m (on_table s z) ≡ more (on_table y x))
led_like {d} {all} {more_frames} m h {s} {z} g l {y} e = go (uses more_frames m (on_table s z)) refl (subst (λ (x : Turn). Alike d x (uses more_frames m (on_table s z))) e (uses_like m h g l))
  where
    go : (x : Turn) → uses more_frames m (on_table s z) ≡ x → Alike d (more y) x → (t : Table) × Like d y.table t × (uses more_frames m (on_table s z) ≡ more (on_table y t))
    go (more b) q i = (b.table, i.0, q ∙ ap more i.1)
    go (done p j) q i = absurd i
    go (stop c b) q i = absurd i

-- more uses than were needed change nothing
done_more : (all : ℕ) (m n : ℕ) (s : State) {p : Placed} {k : Uses} → uses all m s ≡ done p k → m ≤ n → uses all n s ≡ done p k
unfolding after
done_more all m n s {p} {k} e h =
    let q : m + (n - m) ≡ n = omega arith in
    let a : uses all (m + (n - m)) s ≡ done p k = uses_add all m (n - m) s ∙ rw e in
    rw q at a

pub done_like : {d all more_frames : ℕ} (m n : ℕ) → all ≤ more_frames → m ≤ n → {s : State} {z : Table} → Good all s → Like d s.table z → {p : Placed} {k : Uses} → uses all m s ≡ done p k
    → (q : Placed) × Like d p.table q.table × (q.node ≡ p.node) × (uses more_frames n (on_table s z) ≡ done q k)
done_like {d} {all} {more_frames} m n h w {s} {z} g l {p} {k} e =
    go (uses more_frames m (on_table s z)) refl (subst (λ (x : Turn). Alike d x (uses more_frames m (on_table s z))) e (uses_like m h g l))
  where
    go : (x : Turn) → uses more_frames m (on_table s z) ≡ x → Alike d (done p k) x
        → (q : Placed) × Like d p.table q.table × (q.node ≡ p.node) × (uses more_frames n (on_table s z) ≡ done q k)
    go (done b j) q i = (b, i.0, i.1, done_more more_frames m n (on_table s z) (q ∙ ap (done b) i.2) w)
    go (more b) q i = absurd i
    go (stop c b) q i = absurd i

-- What a tree laid out gives, and what it lacks: the laws that Read's and Translate's outcomes share. Assumes nothing.
use Prim.Native.Nat.{ℕ, ◌*◌, ◌≤◌, ◌<◌}
use mathlib.Core.Path.{◌≡◌, refl, sym, ap, ◌∙◌, subst}
use mathlib.Core.Bool.{Bool, true, false}
use mathlib.Core.List.{List}
use native.Mathlib.Omega.{arith}
use lib.Dec.{ltb}
use borrow.Author.Tests.{lt-ltb, le-ltb, ltb-true, ltb-false}
use Rattle.std.specs.Prelude.{Result, Ok, Err}
use Rattle.calculus.specs.Tree.{Tree}
use Rattle.table.specs.Nodes.{Table, Placed, Making, got, full, capacity, Sound, lay, cleared}
use Rattle.table.specs.Outcome.{Outcome, whole, frames, zeros, stopped, placed, settled, laid, laid_within}
use Rattle.table.specs.declared.Refusal.{Refusal}
use Rattle.table.specs.declared.Refusal.TheVariants.{Nodes, Frames}
use Rattle.table.specs.declared.Made.{Made}
use Rattle.table.specs.Refusal.{made, not_made}
use Rattle.table.specs.Claims.{Places, Lays, Room, Filled}
use Rattle.table.specs.Claims.Room.{no_nodes, no_frames, enough}
use Rattle.table.proofs.Words.{zero_one, cleared_none}
use Rattle.table.proofs.Making.{lay_places, lay_most}
use Rattle.table.proofs.Entry.{cleared_back}

-- two answers that are equal give the same
pub same_ok : {A E : Type 0} {x y : A} → ◌≡◌ {A = Result A E} (Ok x) (Ok y) → x ≡ y
same_ok q = cc

pub same_err : {A E : Type 0} {x y : E} → ◌≡◌ {A = Result A E} (Err x) (Err y) → x ≡ y
same_err q = cc

pub made_is : {n u v w : ℕ} → made n u ≡ made v w → (n ≡ v) × (u ≡ w)
made_is q = let p = same_ok q in (ap (λ (m : Made). m.node) p, ap (λ (m : Made). m.used) p)

-- no refusal is a node
pub refused_made : {A : Type 0} {e : Refusal} {v u : ℕ} → not_made e ≡ made v u → A
refused_made q = zero_one (cc)

-- what is placed answers the node and the count
pub placed_node : (m : Placed) (s : List ℕ) {v u' : ℕ} → (placed m s).answer ≡ made v u' → (m.node ≡ v) × (m.table.used ≡ u')
unfolding placed
placed_node m s e = made_is e

pub placed_answer : (m : Placed) (s : List ℕ) → (placed m s).answer ≡ made m.node m.table.used
unfolding placed
placed_answer m s = refl

pub placed_stack : (m : Placed) (s : List ℕ) → (placed m s).stack ≡ zeros s
unfolding placed
placed_stack m s = refl

pub placed_words : (m : Placed) (s : List ℕ) → (placed m s).table ≡ m.table.words
unfolding placed
placed_words m s = refl

-- what the outcome of a tree that is placed says
pub placed_gives : (w : List ℕ) (u : ℕ) (s : List ℕ) (x : Tree) (v u' : ℕ) {m : Placed} {o : Outcome (Result Made Refusal)} → Sound (record { words = w; used = u })
    → lay (record { words = w; used = u }) x ≡ got m → o ≡ placed m s → o.answer ≡ made v u' → Lays w u x o v u'
unfolding placed
placed_gives w u s x v u' {m} {o} f l q e =
    let t : Table = record { words = w; used = u } in
    let y : made m.node m.table.used ≡ made v u' = sym (ap (λ (z : Outcome (Result Made Refusal)). z.answer) q) ∙ e in
    let a : m.node ≡ v = (made_is y).0 in
    let b : m.table.used ≡ u' = (made_is y).1 in
    let c : m.table.words ≡ o.table = sym (ap (λ (z : Outcome (Result Made Refusal)). z.table) q) in
    let p : Places t (record { table = record { words = o.table; used = u' }; node = v }) x =
    subst (λ (k : ℕ). Places t (record { table = record { words = o.table; used = u' }; node = k }) x) a
    (subst (λ (k : ℕ). Places t (record { table = record { words = o.table; used = k }; node = m.node }) x) b
    (subst (λ (k : List ℕ). Places t (record { table = record { words = k; used = m.table.used }; node = m.node }) x) c (lay_places f x l))) in
    record { places = p; used_most = omega (arith, lay_most t x l) }

-- "the words of the nodes made in the call" where a table became full: all from the first new node to the capacity
pub full_outcome : (w : List ℕ) (u : ℕ) (s : List ℕ) {z : Table} → Filled (record { words = w; used = u }) z
    → stopped (not_made Nodes) z u s ≡ whole (not_made Nodes) (cleared w (u * 2) (capacity w * 2)) (zeros s)
unfolding stopped
full_outcome w u s {z} f =
    ap (λ (k : List ℕ). whole (not_made Nodes) k (zeros s))
    (cleared_back f.extends f.fine.within ∙ ap (λ (k : ℕ). cleared w (u * 2) (k * 2)) f.all_used)

-- the two kinds of a tree laid out
pub laid_got : (w : List ℕ) (u : ℕ) (s : List ℕ) (x : Tree) {m : Placed} → lay (record { words = w; used = u }) x ≡ got m → laid w u s x ≡ placed m s
unfolding laid settled
laid_got w u s x e = rw e

pub laid_full : (w : List ℕ) (u : ℕ) (s : List ℕ) (x : Tree) {z : Table} → lay (record { words = w; used = u }) x ≡ full z → laid w u s x ≡ stopped (not_made Nodes) z u s
unfolding laid settled
laid_full w u s x e = rw e

module _ (w : List ℕ) (u : ℕ) (s : List ℕ) (held : ℕ) (x : Tree) where
  -- a refusal for want of frames: nothing was made, so the table is as found
  pub frames_refused : frames s < held → whole (not_made Frames) w (zeros s) ≡ laid_within w u s held x
  unfolding laid_within stopped
  frames_refused q = rw (lt-ltb (frames s) held q, cleared_none w (u * 2))

  pub room_laid : held ≤ frames s → laid w u s x ≡ laid_within w u s held x
  unfolding laid_within
  room_laid q = rw (le-ltb (frames s) held q)

  pub room_case : Room w u s held x (laid_within w u s held x)
  room_case = go (ltb (frames s) held) refl
    where
      at : held ≤ frames s → (y : Making) → lay (record { words = w; used = u }) x ≡ y → Room w u s held x (laid_within w u s held x)
      at h (got m) e = enough h e (sym (room_laid h) ∙ laid_got w u s x e)
      at h (full z) e = no_nodes h e (sym (room_laid h) ∙ laid_full w u s x e)

      go : (a : Bool) → ltb (frames s) held ≡ a → Room w u s held x (laid_within w u s held x)
      go true f = let h = ltb-true (frames s) held f in no_frames h (sym (frames_refused h))
      go false f = at (ltb-false (frames s) held f) (lay (record { words = w; used = u }) x) refl

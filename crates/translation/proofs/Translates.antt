-- Laws of Translate for callers: what a success gives, what was lacking where it is refused, and what a refusal leaves. Assumes nothing.
use Prim.Native.Nat.{ℕ, ◌+◌, ◌*◌, ◌≤◌}
use mathlib.Core.Path.{◌≡◌, refl, sym, ap, ◌∙◌}
use mathlib.Core.Bool.{true}
use mathlib.Core.List.{List}
use mathlib.Core.Option.{Option, none, some}
use native.Mathlib.Omega.{arith}
use Rattle.std.specs.Prelude.{Result}
use Rattle.calculus.specs.Tree.{size}
use Rattle.calculus.specs.Term.{Term}
use Rattle.calculus.specs.Bytes.{rule}
use Rattle.calculus.specs.Abstraction.{rule_tree}
use Rattle.table.specs.Nodes.{capacity}
use Rattle.table.specs.Outcome.{Outcome, Entered, whole, frames, at_entry, unless, placed}
use Rattle.table.specs.declared.Refusal.{Refusal}
use Rattle.table.specs.Claims.{Kept, Room}
use Rattle.table.proofs.Words.{zero_one}
use Rattle.table.proofs.Trees.{kept_refl}
use Rattle.table.proofs.Making.{lay_full, lay_fills, lay_room}
use Rattle.table.proofs.Entry.{entered, enters, entry_lacks, lacks_entry, full_kept}
use Rattle.table.proofs.Laid.{room_case, room_laid, frames_refused, laid_got, laid_full, full_outcome, placed_gives, placed_answer, placed_stack}
use Rattle.table.specs.Refusal.{made, not_made}
use Rattle.table.specs.declared.Made.{Made}
use Rattle.translation.specs.Translate.{translate_rule, translate}
use Rattle.translation.specs.Lacks.{Lacks, Has, Translates}

-- the two kinds of Translate's outcome o
data Case (w : List ℕ) (u : ℕ) (s b : List ℕ) (o : Outcome (Result Made Refusal)) : Type 0 where
  refuses : {e : Refusal} {w' s' : List ℕ} → Lacks w u s b e w' s' → o ≡ whole (not_made e) w' s' → Case w u s b o
  lays_out : {t : Term} (h : Has w u s b t) → o ≡ placed h.placed_as s → Case w u s b o

module _ (w : List ℕ) (u : ℕ) (s b : List ℕ) where
  case : Case w u s b (translate w u s b)
  unfolding translate translate_rule
  case = go (at_entry true w u s) (rule b) refl refl
    where
      go : (a : Option Refusal) (r : Option Term) → at_entry true w u s ≡ a → rule b ≡ r
          → Case w u s b (unless a (λ e. whole (not_made e) w s) (translate_rule w u s r))
      go (some e) r p q = refuses (Lacks.of_entry (entry_lacks true w u s p)) refl
      go none none p q = refuses (Lacks.no_rule (entered true w u s p) q) refl
      go none (some t) p q = room (room_case w u s (2 * size (rule_tree t)) (rule_tree t))
        where
          n : Entered true w u s
          n = entered true w u s p

          room : {o : Outcome (Result Made Refusal)} → Room w u s (2 * size (rule_tree t)) (rule_tree t) o → Case w u s b o
          room (Room.no_frames h r) = refuses (Lacks.no_frames n q h) r
          room (Room.no_nodes h {z} l r) =
              refuses (Lacks.no_nodes n q h ((lay_full (record { words = w; used = u }) (rule_tree t) z).0 l))
              (r ∙ full_outcome w u s (lay_fills n.table (rule_tree t) l))
          room (Room.enough h {m} l r) = lays_out (record { entered = n; is_rule = q; frames_enough = h; placed_as = m; nodes_enough = l }) r

  -- "Translate a rule.": where Translate gives a node, its tree is the translated rule's.
  pub translate_gives : (v u' : ℕ) → (translate w u s b).answer ≡ made v u' → Translates w u s b v u'
  translate_gives v u' q = go case
    where
      go : Case w u s b (translate w u s b) → Translates w u s b v u'
      go (refuses k r) = zero_one (cc)
      go (lays_out {t} h r) =
          record {
            entry = h.entered;
            term = t;
            is_rule = h.is_rule;
            had = h;
            lays = placed_gives w u s (rule_tree t) v u' h.entered.table h.nodes_enough r q;
            laid_is = r;
            stack = ap (λ (o : Outcome (Result Made Refusal)). o.stack) r ∙ placed_stack h.placed_as s;
          }

  module _ (e : Refusal) (q : (translate w u s b).answer ≡ not_made e) where
    -- "Numbers 1 to 6 [..] leave lent memory as found. Numbers 7 to 10 set to 0 the words of the nodes made in the call and the whole stack": a refusal
    -- comes only on its condition, and leaves table and stack so.
    pub translate_lacks : Lacks w u s b e (translate w u s b).table (translate w u s b).stack
    translate_lacks = go case
      where
        go : Case w u s b (translate w u s b) → Lacks w u s b e (translate w u s b).table (translate w u s b).stack
        go (refuses {e = f} {w'} {s'} k r) =
            let x : (translate w u s b).table ≡ w' = cc in
            let y : (translate w u s b).stack ≡ s' = cc in
            let c : f ≡ e = cc in
            rw (x, y, ← c) k
        go (lays_out {t} h r) = zero_one (cc (placed_answer h.placed_as s))

    -- all nodes are as they were
    pub translate_refused : Kept (record { words = w; used = u }) (record { words = (translate w u s b).table; used = u })
    translate_refused = go translate_lacks
      where
        go : {f : Refusal} {x y : List ℕ} → Lacks w u s b f x y → Kept (record { words = w; used = u }) (record { words = x; used = u })
        go (Lacks.of_entry h) = kept_refl _
        go (Lacks.no_rule n h) = kept_refl _
        go (Lacks.no_frames n h k) = kept_refl _
        go (Lacks.no_nodes n h k l) = full_kept (record { words = w; used = u }) n.table.within

  -- The other way: on each condition its refusal comes.
  pub translate_stops : {e : Refusal} {x y : List ℕ} → Lacks w u s b e x y → translate w u s b ≡ whole (not_made e) x y
  unfolding translate translate_rule
  translate_stops (Lacks.of_entry h) = rw (lacks_entry h)
  translate_stops (Lacks.no_rule n h) = rw (enters n, h)
  translate_stops (Lacks.no_frames n {t} h k) = rw (enters n, h) (sym (frames_refused w u s (2 * size (rule_tree t)) (rule_tree t) k))
  translate_stops (Lacks.no_nodes n {t} h k {z} l) =
      let f = (lay_full (record { words = w; used = u }) (rule_tree t) z).1 l in
      rw (enters n, h)
      (sym (room_laid w u s (2 * size (rule_tree t)) (rule_tree t) k)
      ∙ laid_full w u s (rule_tree t) f
      ∙ full_outcome w u s (lay_fills n.table (rule_tree t) f))

  -- two frames and a free node for each node of the tree are enough
  pub translate_room : Entered true w u s → {t : Term} → rule b ≡ some t → 2 * size (rule_tree t) ≤ frames s → u + size (rule_tree t) ≤ capacity w → Has w u s b t
  translate_room n {t} h k l =
      let m = lay_room n.table (rule_tree t) (omega arith) in
      record { entered = n; is_rule = h; frames_enough = k; placed_as = m.0; nodes_enough = m.1 }

  -- on an entered table Translate is what its inner definition says
  pub entered_translate : Entered true w u s → translate_rule w u s (rule b) ≡ translate w u s b
  unfolding translate
  entered_translate e = rw (enters e)

  -- with a sound table, a rule, two frames for each node of its tree, and a place for each that is wanted and not there (`lay` gives a node), Translate lays it
  -- out and gives its node
  pub translate_lays : (t : Term) (h : Has w u s b t) → translate w u s b ≡ placed h.placed_as s
  unfolding translate translate_rule
  translate_lays t h =
      rw (enters h.entered, h.is_rule)
      (sym (room_laid w u s (2 * size (rule_tree t)) (rule_tree t) h.frames_enough) ∙ laid_got w u s (rule_tree t) h.nodes_enough)

  pub translate_answer : (t : Term) (h : Has w u s b t) → (translate w u s b).answer ≡ made h.placed_as.node h.placed_as.table.used
  translate_answer t h = rw (translate_lays t h) (placed_answer h.placed_as s)

-- Laws of Read for its callers: what it lacked where it refuses, what a node that it gave is, and which node each digit is. Assumes nothing.
use Prim.Native.Nat.{ℕ, ◌+◌, ◌≤◌, ◌<◌}
use mathlib.Core.Path.{◌≡◌, refl, sym, ap, ◌∙◌}
use mathlib.Core.Bool.{Bool, true, false, cond}
use mathlib.Core.List.{List, [], ◌∷◌}
use mathlib.Core.Option.{Option, none, some}
use native.Mathlib.Omega.{arith}
use lib.ListN.{length, take, drop, get_or, length-drop, take-append-drop}
use lib.Dec.{leb}
use borrow.Author.Tests.{leb-true, le-leb}
use Rattle.std.specs.Prelude.{Result}
use Rattle.calculus.specs.Tree.{Tree, size}
use Rattle.table.specs.Nodes.{Table, Placed, got, capacity, Sound}
use Rattle.table.specs.Outcome.{Entered, Outcome, whole, frames, zeros, at_entry, unless, placed}
use Rattle.table.specs.Refusal.{number, clears, made, not_made}
use Rattle.table.specs.declared.Refusal.{Refusal}
use Rattle.table.specs.declared.Refusal.TheVariants.{Nodes}
use Rattle.table.specs.Claims.{Kept, Extends, Has, Room}
use Rattle.table.specs.declared.Made.{Made}
use Rattle.table.proofs.Lists.{from_place}
use Rattle.table.proofs.Words.{zero_one}
use Rattle.table.proofs.Trees.{kept_refl, kept_tree}
use Rattle.table.proofs.Making.{lay_full, lay_fills, lay_room}
use Rattle.table.proofs.Entry.{entered, enters, entry_lacks, lacks_entry, entry_keeps, full_kept}
use Rattle.table.proofs.Once.{lay_found}
use Rattle.table.proofs.Laid.{room_case, room_laid, frames_refused, laid_got, laid_full, full_outcome, placed_gives, placed_node, placed_answer, placed_stack, placed_words, refused_made}
use Rattle.ternary.specs.Text.{texts, tree_of, most_pending}
use Rattle.ternary.specs.Read.{readable, read_tree, read}
use Rattle.ternary.specs.Laying.{awaits, lay_digits, HaveTrees, no_nodes, one_more}
use Rattle.ternary.specs.Lacks.{Readable, ReadLacks, ReadHas, ReadCase, Reads, DigitNode}
use Rattle.ternary.specs.Lacks.ReadLacks.{of_entry, no_text, no_frames}
use Rattle.ternary.specs.Lacks.ReadCase.{refuses, lays}
use Rattle.ternary.proofs.OneText.{whole_text, length_text, pending_texts}
use Rattle.ternary.proofs.Laying.{digits_got, before_digit, digit_numbered, digits_trees, digits_part}

-- a text that is `Readable` passes the check of 4, and only such a text
pub readable_some : (l : List ℕ) (t : Tree) → readable l ≡ some t → Readable l t
unfolding readable
readable_some l t = go (leb (length l) 65535) refl
  where
    go : (z : Bool) → leb (length l) 65535 ≡ z → cond z (tree_of l) none ≡ some t → Readable l t
    go true p e = record { short = leb-true (length l) 65535 p; tree_is = e }
    go false p e = zero_one (cc)

pub some_readable : {l : List ℕ} {t : Tree} → Readable l t → readable l ≡ some t
unfolding readable
some_readable {l} r = rw (le-leb (length l) 65535 r.short) r.tree_is

text_size : {l : List ℕ} {t : Tree} → Readable l t → size t ≡ length l
text_size {l} {t} r = sym (length_text t) ∙ ap length (sym (whole_text l t r.tree_is))

module _ (w : List ℕ) (u : ℕ) (s l : List ℕ) where
  -- Read's outcome is of one kind or the other.
  pub read_case : ReadCase w u s l (read w u s l)
  unfolding read read_tree
  read_case = go (at_entry true w u s) (readable l) refl refl
    where
      go : (a : Option Refusal) (r : Option Tree) → at_entry true w u s ≡ a → readable l ≡ r
          → ReadCase w u s l (unless a (λ e. whole (not_made e) w s) (read_tree w u s l r))
      go (some e) r p q = refuses (of_entry (entry_lacks true w u s p)) refl
      go none none p q = refuses (no_text p q) refl
      go none (some t) p q = room (room_case w u s (most_pending l) t)
        where
          room : {o : Outcome (Result Made Refusal)} → Room w u s (most_pending l) t o → ReadCase w u s l o
          room (Room.no_frames h r) = refuses (no_frames p (readable_some l t q) h) r
          room (Room.no_nodes h {z = z} e r) =
              refuses (ReadLacks.no_nodes p (readable_some l t q) h ((lay_full (record { words = w; used = u }) t z).0 e))
              (r ∙ full_outcome w u s (lay_fills (entered true w u s p).table t e))
          room (Room.enough h {m = m} e r) =
              lays (record { entered = p; readable_as = readable_some l t q; frames_enough = h; placed_as = m; nodes_enough = e }) r

  -- "Numbers 1 to 6 [..] leave lent memory as found. Numbers 7 to 10 set to 0 the words of the nodes made in the call and the whole stack": a refusal
  -- comes only on its condition, and leaves table and stack so.
  pub read_lacks : (e : Refusal) → (read w u s l).answer ≡ not_made e → ReadLacks w u s l e (read w u s l).table (read w u s l).stack
  read_lacks e q = go read_case
    where
      go : ReadCase w u s l (read w u s l) → ReadLacks w u s l e (read w u s l).table (read w u s l).stack
      go (refuses {e = f} {w'} {s'} k r) =
          let a : (read w u s l).table ≡ w' = cc in
          let b : (read w u s l).stack ≡ s' = cc in
          let c : f ≡ e = cc in
          rw (a, b, ← c) k
      go (lays h r) = refused_made (sym q ∙ ap (λ (o : Outcome (Result Made Refusal)). o.answer) r ∙ placed_answer h.placed_as s)

  -- The other way: on each condition its refusal comes.
  pub read_stops : {e : Refusal} {w' s' : List ℕ} → ReadLacks w u s l e w' s' → read w u s l ≡ whole (not_made e) w' s'
  unfolding read read_tree
  read_stops (of_entry p) = rw (lacks_entry p)
  read_stops (no_text p q) = rw (p, q)
  read_stops (no_frames p {t = t} r h) = rw (p, some_readable r) (sym (frames_refused w u s (most_pending l) t h))
  read_stops (ReadLacks.no_nodes p {t = t} r h {z = z} k) =
      let f = (lay_full (record { words = w; used = u }) t z).1 k in
      rw (p, some_readable r)
      (sym (room_laid w u s (most_pending l) t h) ∙ laid_full w u s t f ∙ full_outcome w u s (lay_fills (entered true w u s p).table t f))

  -- "Numbers 7 to 10 set to 0 the words of the nodes made in the call": no refusal of Read changes a node in use.
  pub read_refused : (e : Refusal) → (read w u s l).answer ≡ not_made e → Kept (record { words = w; used = u }) (record { words = (read w u s l).table; used = u })
  read_refused e q = go (read_lacks e q)
    where
      go : {f : Refusal} {w' s' : List ℕ} → ReadLacks w u s l f w' s' → Kept (record { words = w; used = u }) (record { words = w'; used = u })
      go (of_entry p) = kept_refl _
      go (no_text p r) = kept_refl _
      go (no_frames p r h) = kept_refl _
      go (ReadLacks.no_nodes p r h k) = full_kept (record { words = w; used = u }) (entered true w u s p).table.within

  -- On an entered table, with a whole text of at most 65,535 bytes, a frame for each tree pending and a place for each node that is wanted and not there (`lay`
  -- gives a node), no refusal comes.
  pub read_lays : {t : Tree} (h : ReadHas w u s l t) → read w u s l ≡ placed h.placed_as s
  unfolding read read_tree
  read_lays {t} h =
      rw (h.entered, some_readable h.readable_as)
      (sym (room_laid w u s (most_pending l) t h.frames_enough) ∙ laid_got w u s t h.nodes_enough)

  pub read_limits : {t : Tree} (h : ReadHas w u s l t) → (read w u s l).answer ≡ made h.placed_as.node h.placed_as.table.used
  read_limits h = ap (λ (o : Outcome (Result Made Refusal)). o.answer) (read_lays h) ∙ placed_answer h.placed_as s

  -- a free node for each digit is enough
  pub read_room : {t : Tree} → at_entry true w u s ≡ none → Readable l t → most_pending l ≤ frames s → u + length l ≤ capacity w → ReadHas w u s l t
  read_room {t} p r f h =
      let m = lay_room (entered true w u s p).table t (omega (arith, text_size r)) in
      record { entered = p; readable_as = r; frames_enough = f; placed_as = m.0; nodes_enough = m.1 }

  -- "that node's number is taken instead" ([8]): of a text whose tree the table has, Read gives that node and changes no word of the table,
  pub read_found : {t : Tree} {i : ℕ} → at_entry true w u s ≡ none → Readable l t → most_pending l ≤ frames s → Has (record { words = w; used = u }) i t
      → read w u s l ≡ whole (made i u) w (zeros s)
  unfolding placed
  read_found {t} {i} p r f h =
      read_lays (record {
        entered = p;
        readable_as = r;
        frames_enough = f;
        placed_as = record { table = record { words = w; used = u }; node = i };
        nodes_enough = lay_found (entered true w u s p).table t i h;
      })

  -- and 8 does not come, however few nodes are free
  pub found_never_full : {t : Tree} {i : ℕ} → Readable l t → Has (record { words = w; used = u }) i t → (read w u s l).answer ≡ not_made Nodes → ⊥
  unfolding clears number
  found_never_full {t} {i} r h q = go (read_lacks Nodes q)
    where
      go : {x y : List ℕ} → ReadLacks w u s l Nodes x y → ⊥
      go (of_entry p) = zero_one (cc (entry_keeps p))
      go (ReadLacks.no_nodes p {t = x} k f {z = z} a) =
          let c : x ≡ t = cc (k.tree_is, r.tree_is) in
          zero_one (cc (lay_found (entered true w u s p).table t i h, (lay_full (record { words = w; used = u }) t z).1 (rw c at a)))

  -- on an entered table Read is what its inner definition says
  pub entered_read : Entered true w u s → read_tree w u s l (readable l) ≡ read w u s l
  unfolding read
  entered_read e = rw (enters e)

-- "Read a text into the table": where Read gives a node, all of this holds.
pub read_gives : (w : List ℕ) (u : ℕ) (s l : List ℕ) (v u' : ℕ) → (read w u s l).answer ≡ made v u' → Reads w u s l v u'
read_gives w u s l v u' q = go (read_case w u s l)
  where
    go : ReadCase w u s l (read w u s l) → Reads w u s l v u'
    go (refuses k r) = zero_one (cc)
    go (lays {t} h r) =
        let f = entered true w u s h.entered in
        let g = placed_gives w u s t v u' f.table h.nodes_enough r q in
        record {
          entered = f;
          tree = t;
          whole_text = h.readable_as.tree_is;
          had = h;
          laid_is = r;
          used_most = omega (arith, g.used_most, text_size h.readable_as);
          places = g.places;
          stack = ap (λ (o : Outcome (Result Made Refusal)). o.stack) r ∙ placed_stack h.placed_as s;
        }

-- a node placed, by its parts
placed_by : (m : Placed) {w : List ℕ} {u n : ℕ} → m.table.words ≡ w → m.table.used ≡ u → m.node ≡ n → m ≡ record { table = record { words = w; used = u }; node = n }
placed_by m a b c = rw (← a, ← b, ← c)

-- "Nodes are wanted in the order in which document 01 numbers them, a found one takes no new number" ([8]): the node given is the one pending once
-- the digits are taken, last to first.
pub read_digits : (w : List ℕ) (u : ℕ) (s l : List ℕ) (v u' : ℕ) → (read w u s l).answer ≡ made v u'
    → lay_digits (record { words = w; used = u }) l ≡ awaits (record { words = (read w u s l).table; used = u' }) (v ∷ [])
read_digits w u s l v u' q =
    let r = read_gives w u s l v u' q in
    let m = r.had.placed_as in
    let n = placed_node m s (sym (ap (λ (o : Outcome (Result Made Refusal)). o.answer) r.laid_is) ∙ q) in
    let c : m.table.words ≡ (read w u s l).table = sym (ap (λ (o : Outcome (Result Made Refusal)). o.table) r.laid_is ∙ placed_words m s) in
    let k : m ≡ record { table = record { words = (read w u s l).table; used = u' }; node = v } = placed_by m c n.1 n.0 in
    ap (lay_digits (record { words = w; used = u })) (whole_text l r.tree r.whole_text)
    ∙ (digits_got (record { words = w; used = u }) r.tree (record { table = record { words = (read w u s l).table; used = u' }; node = v })).0 (r.had.nodes_enough ∙ ap got k)

-- The order of "Digit p of n becomes node used + n − 1 − p": the digits after it are taken before it. Its node has the tree whose text begins there, and "a
-- found one takes no new number" ([8]).
pub digit_node : {t z : Table} → Sound t → (l : List ℕ) (p : ℕ) {ns : List ℕ} → lay_digits t l ≡ awaits z ns → p < length l → DigitNode t z l p
unfolding texts lay_digits
digit_node {t} {z} s l p {ns} e h =
    let d = digits_part s (take p l) (drop p l) {z = z} {ns = ns} (rw (take-append-drop p l) e) in
    let a = digits_trees s (drop p l) d.1.1.0 in
    go d.0 a.1.1.fine d.1.1.1 (pending_texts (drop p l) a.1.0) d.1.1.0 a.1.1.trees
  where
    go : (y : Table) → Sound y → Extends y z → {ts : List Tree} → drop p l ≡ texts ts → {ms : List ℕ} → lay_digits t (drop p l) ≡ awaits y ms → HaveTrees y ms ts → DigitNode t z l p
    go y f k e q no_nodes = absurd (omega (arith, ap length e, length-drop p l))
    go y f k e q (one_more {n = n} {x = x} {ns = ms} {xs = xs} g r) =
        let c = from_place l p 0 h in
        let a = rw c at q in
        let b = before_digit (get_or l p 0) (lay_digits t (drop (p + 1) l)) a in
        record {
          node = n;
          others = ms;
          left = y;
          wanted = q;
          before = b.0;
          pending = b.1.0;
          after_taken = b.1.1;
          numbered = digit_numbered (get_or l p 0) b.1.0 (rw b.1.1 at a);
          inside = g.inside;
          begins = (texts xs, rw (kept_tree f k.kept n g.inside, g.tree) e);
        }

-- the same of the digits that Read was given
pub read_digit : (w : List ℕ) (u : ℕ) (s l : List ℕ) (v u' : ℕ) → (read w u s l).answer ≡ made v u' → (p : ℕ) → p < length l
    → DigitNode (record { words = w; used = u }) (record { words = (read w u s l).table; used = u' }) l p
read_digit w u s l v u' q p h = digit_node (read_gives w u s l v u' q).entered.table l p (read_digits w u s l v u' q) h

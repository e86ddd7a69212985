-- Run's stages, one after another: each goes on with what it made, or stops for what it lacks. Assumes nothing.
use Prim.Native.Nat.{ℕ, ◌+◌, ◌-◌, ◌≤◌, ◌<◌}
use mathlib.Core.Path.{◌≡◌, refl, sym, ap, ◌∙◌, subst}
use mathlib.Core.List.{List, [], ◌∷◌, ◌++◌, map, append_assoc, append-nil}
use mathlib.Core.Option.{some}
use native.Mathlib.Omega.{arith}
use lib.ListN.{length, length-append}
use lib.Dec.{leb}
use borrow.Author.Tests.{le-leb}
use Rattle.std.specs.Prelude.{Err, None, Ok, Result}
use Rattle.calculus.specs.Tree.{Tree}
use Rattle.calculus.specs.declared.Uses.{Uses}
use Rattle.calculus.specs.Uses.{no_uses, ◌⊕◌, steps}
use Rattle.calculus.specs.Rules.{Apply, ApplyAll, at_end, and_next}
use Rattle.calculus.proofs.Counts.{uses_none, none_uses, uses_assoc}
use Rattle.calculus.specs.Term.{Term}
use Rattle.calculus.specs.Bytes.{rule}
use Rattle.calculus.specs.Abstraction.{rule_tree}
use Rattle.calculus.proofs.Unique.{apply_unique}
use Rattle.table.specs.Nodes.{Table, Placed, Sound, tree_at}
use Rattle.table.specs.Outcome.{Entered, Outcome, answered, frames}
use Rattle.table.specs.declared.Refusal.{Refusal}
use Rattle.table.specs.Claims.{Has, Kept}
use Rattle.table.specs.declared.Made.{Made}
use Rattle.table.proofs.Trees.{kept_refl, kept_trans, extends_trans}
use Rattle.table.proofs.Making.{stays}
use Rattle.ternary.specs.Read.{read, readable}
use Rattle.table.proofs.Words.{zero_one}
use Rattle.translation.specs.Translate.{translate}
use Rattle.applying.specs.Machine.{wanted}
use Rattle.applying.specs.Apply.{apply, not_applied}
use Rattle.applying.specs.Ended.{apply_ended, applied_of, Ended, ended_in, stopped_with}
use Rattle.applying.specs.declared.Rule.{Rule}
use Rattle.applying.proofs.Follows.{apply_follows}
use Rattle.applying.proofs.Told.{apply_told, halts_in, halted_ends, stopped_is}
use Rattle.applying.proofs.Complete.{steps_used_up}
use Rattle.fields.specs.Packet.{Packet}
use Rattle.running.specs.Run.{after_made_by, after_made, after_applied, writes, applies, reads_by, reads, stages}
use Rattle.running.specs.Tell.{told, after_ended, tell_applies, tell_stages, at_place}
use Rattle.running.specs.Claims.{Fit, total, nodes_by, end_table, TranslateHad, ReadsHad, all_read, and_read, ReadStops, later, Reached, at_first, and_applied, ApplyStops, Stops, in_translate, in_read, in_apply, in_write, stop_of}
use Rattle.running.specs.declared.Told.{Told}
use Rattle.running.specs.declared.Ran.{Ran}
use Rattle.running.proofs.Undone.{apply_halts, reached_ends, all_stop}
use Rattle.running.proofs.OneStage.{Stands, zeros_length, enter, Stopped, stop_here, Translating, translated, not_translated, translating, Reading, read_as, not_read, reading, Writing, written, not_written, writing}
use Rattle.running.proofs.Outcomes.{stops, ends, Tells}

-- the nodes have the trees, each its own
data HasAll (z : Table) : List ℕ → List Tree → Type 0 where
  no_more : HasAll z [] []
  and_then : {n : ℕ} {ns : List ℕ} {x : Tree} {xs : List Tree} → Has z n x → HasAll z ns xs → HasAll z (n ∷ ns) (x ∷ xs)

all_stay : {t z : Table} {ns : List ℕ} {xs : List Tree} → Sound t → Kept t z → HasAll t ns xs → HasAll z ns xs
all_stay s k no_more = no_more
all_stay s k (and_then h hs) = and_then (stays s k h) (all_stay s k hs)

-- one application more
apply_further : {f g h N : Tree} {Ns : List Tree} {a b : Uses} → ApplyAll f Ns g a → Apply g N h b → ApplyAll f (Ns ++ (N ∷ [])) h (a ⊕ b)
apply_further {b = b} at_end x = subst (ApplyAll _ _ _) (uses_none b ∙ sym (none_uses b)) (and_next x at_end)
apply_further {b = b} (and_next {a = i} {b = j} y z) x = subst (ApplyAll _ _ _) (sym (uses_assoc i j b)) (and_next y (apply_further z x))

-- the applications before one that does not end in time take their steps first
in_time : {f g N r : Tree} {before : List Tree} (after : List Tree) {a j : Uses} (limit : ℕ) → ApplyAll f before g a → steps a ≤ limit
    → ((h : Tree) (b : Uses) → Apply g N h b → limit - steps a < steps b) → ApplyAll f (before ++ (N ∷ after)) r j → limit < steps j
in_time after limit at_end l n (and_next x y) = omega (arith, n _ _ x)
in_time after limit (and_next {a = a} x y) l n (and_next p q) =
    let i = apply_unique x p in
    let h = in_time after (limit - steps a) y (omega arith) (λ h b z. omega (arith, n h b z)) (rw (← i.0) at q) in
    omega (arith, ap steps i.1)

at_same : {i i' j j' : ℕ} {d d' : Rule} → i ≡ i' → j ≡ j' → d ≡ d' → at_place i j d ≡ at_place i' j' d'
at_same p q r = rw (p, q, r)

-- Run applies: the trees before were applied to with the uses k, node v has their outcome, and the nodes ns are still to be applied to.
record Applying (w s : List ℕ) (p : Packet) (t : Term) (args : List Tree) (z : Table) (y : List ℕ) (v : ℕ) (k : Uses) (before : List Tree) (ns : List ℕ) : Type 0 where
  stands : Stands w s z y
  tree : Tree
  root : Has z v tree
  so_far : ApplyAll (rule_tree t) before tree k
  within_limit : steps k ≤ p.limit
  used_most : z.used ≤ nodes_by p t k
  placed : Placed
  read_table : Table
  read_nodes : List ℕ
  translated : TranslateHad w s t placed
  read_all : ReadsHad s placed.table p.arguments read_table read_nodes
  reached : Reached (frames s) p.limit read_table placed.node read_nodes z v ns k
  place : length before + length ns ≡ length read_nodes

module _ {w s o : List ℕ} (fit : Fit w s o) (p : Packet) (t : Term) (args : List Tree) where
  -- a stage was refused, not while applying
  refuse : {e : Refusal} {m : ℕ} {x : Outcome (Result Ran Refusal)} (q : Stops w s o p t args e m) → Stopped w s o m e x → stop_of q ≡ None → Tells w s o p t args (told x) x
  refuse q x e = record { same = refl; staged = stops q x.within x.outcome (sym e) }

  writes_staged : {z : Table} {y : List ℕ} {v : ℕ} {k : Uses} → Applying w s p t args z y v k args []
      → Tells w s o p t args (told (writes z.words z.used y o v k)) (writes z.words z.used y o v k)
  unfolding end_table stop_of
  writes_staged {z} {y} {v} {k} a = go (writing fit a.stands a.root k)
    where
      x : Outcome (Result Ran Refusal)
      x = writes z.words z.used y o v k

      go : Writing w s o z k a.tree x → Tells w s o p t args (told x) x
      go (not_written e x q) = refuse (in_write a.translated a.read_all a.so_far a.within_limit x (ap (λ (y : Table). y.used) (reached_ends a.reached)) a.used_most) q refl
      go (written room q) =
          record {
            same = refl;
            staged = ends (record {
              translated = a.so_far;
              within_limit = a.within_limit;
              fine = a.stands.fine;
              extends = a.stands.extends;
              placed = a.placed;
              rule_laid = a.translated;
              read_table = a.read_table;
              read_nodes = a.read_nodes;
              arguments_read = a.read_all;
              node = v;
              reached = a.reached;
              node_has = a.root;
              used_most = a.used_most;
              room = room;
            }) q refl;
          }

  module _ (limited : p.limit ≤ 1000000) where
    applies_staged : (ns : List ℕ) (i : ℕ) {after : List Tree} {z : Table} {y : List ℕ} {v : ℕ} {k : Uses} {before : List Tree} → HasAll z ns after → Applying w s p t args z y v k before ns
        → args ≡ before ++ after → i ≡ length before + 1
        → Tells w s o p t args (tell_applies i ns p.limit z.words z.used y o v k) (applies ns p.limit z.words z.used y o v k)
    unfolding applies after_applied tell_applies after_ended applied_of apply_ended stop_of
    applies_staged [] i {z = z} {y = y} {v = v} {k = k} {before = before} no_more a m place =
        writes_staged (subst (λ (b : List Tree). Applying w s p t args z y v k b []) (sym (m ∙ append-nil before)) a)
    applies_staged (n ∷ ns) i {z = z} {y = y} {v = v} {k = k} {before = before} (and_then {x = x} {xs = xs} h hs) a m place = rw (← same) (go r.answer refl
        (λ (z : Table) (y : List ℕ) (v : ℕ) (k : Uses) (before : List Tree). applies_staged ns (i + 1) {after = xs} {z = z} {y = y} {v = v} {k = k} {before = before}))
      where
        st : Stands w s z y
        st = a.stands

        left : ℕ
        left = p.limit - steps k

        f : Entered (leb left 1000000) z.words z.used y
        f = enter fit.stack st (le-leb left 1000000 (omega arith))

        r : Rattle.table.specs.Outcome.Outcome Ended
        r = apply_ended z.words z.used y v n left

        same : answered applied_of r ≡ apply z.words z.used y v n left
        same = apply_told left f a.root.inside h.inside

        go : (b : Ended) → r.answer ≡ b
            → ((z : Table) (y : List ℕ) (v : ℕ) (k : Uses) (before : List Tree) → HasAll z ns xs → Applying w s p t args z y v k before ns → args ≡ before ++ xs → i + 1 ≡ length before + 1
            → Tells w s o p t args (tell_applies (i + 1) ns p.limit z.words z.used y o v k) (applies ns p.limit z.words z.used y o v k))
            → Tells w s o p t args (after_ended i k z.used o r (λ w' u' s' v' j. tell_applies (i + 1) ns p.limit w' u' s' o v' (k ⊕ j)) b)
            (after_applied z.used o (answered applied_of r) (λ w' u' s' v' j. applies ns p.limit w' u' s' o v' (k ⊕ j)) (applied_of b))
        go (Ok came) e on =
            let q = apply_follows z.words z.used y v n left came.node came.used came.steps came.uses (rw (← same) (rw e)) in
            let table : r.table ≡ (apply z.words z.used y v n left).table = rw (← same) in
            let stack : r.stack ≡ (apply z.words z.used y v n left).stack = rw (← same) in
            let d : Apply a.tree x (tree_at r.table came.node) came.uses = rw (a.root.tree, h.tree, ← table) at q.applies in
            on (record { words = r.table; used = came.used }) r.stack came.node (k ⊕ came.uses) (before ++ (x ∷ [])) (all_stay st.fine (rw (← table) at q.extends.kept) hs)
            (record {
              stands = record { fine = rw table q.fine; extends = extends_trans st.extends (rw (← table) at q.extends); stack = zeros_length _ y (stack ∙ q.stack) ∙ st.stack };
              tree = tree_at r.table came.node;
              root = record { inside = q.inside; tree = refl };
              so_far = apply_further a.so_far d;
              within_limit = omega (arith, q.within_limit, q.steps_are, a.within_limit);
              used_most = omega (arith, q.used_most, a.used_most);
              placed = a.placed;
              read_table = a.read_table;
              read_nodes = a.read_nodes;
              translated = a.translated;
              read_all = a.read_all;
              reached = and_applied a.reached (rw (st.stack, ← table) at q.ends);
              place = omega (arith, a.place, length-append before (x ∷ []));
            })
            (m ∙ sym (append_assoc before (x ∷ []) xs))
            (omega (arith, length-append before (x ∷ [])))
        go (Err cut) q on =
            let refused : (apply z.words z.used y v n left).answer ≡ not_applied cut.refusal = rw (← same) (rw q) in
            let table : r.table ≡ (apply z.words z.used y v n left).table = rw (← same) in
            let stack : r.stack ≡ (apply z.words z.used y v n left).stack = rw (← same) in
            let b = apply_halts z.words z.used y v n left cut.refusal f a.root.inside h.inside refused in
            let c = all_stop z.words z.used y v n left cut.refusal f a.root.inside h.inside refused ns in
            let at = halts_in b.halts in
            let x : ApplyStops w s p t args a.read_table a.placed.node a.read_nodes cut.refusal =
            record {
              before = before;
              after = xs;
              table = z;
              function = v;
              argument = n;
              left = ns;
              k = k;
              reached = a.reached;
              place = a.place;
              fine = st.fine;
              same_length = st.extends.kept.same_length;
              beyond = st.extends.beyond;
              function_in = a.root.inside;
              argument_in = h.inside;
              arguments_are = rw h.tree m;
              so_far = rw a.root.tree a.so_far;
              within_limit = a.within_limit;
              used_most = a.used_most;
              halts = rw (← st.stack) b.halts;
              state = at.0;
              halted = rw (← st.stack) at.1;
              ends_in = sym (rw st.stack at c) ∙ reached_ends a.reached;
              no_tree = λ c d. in_time xs p.limit a.so_far a.within_limit
                  (λ g i f. steps_used_up z.words z.used y v n left (refused ∙ ap not_applied c) (rw (← a.root.tree, ← h.tree) at f)) (rw m at d);
            } in
            let g : stopped_with cut.refusal cut.steps cut.rule ≡ stopped_with cut.refusal (steps at.0.uses) (wanted at.0) = sym q ∙ halted_ends z.used y at.1 in
            let m : cut.steps ≡ steps at.0.uses = (stopped_is g).1 in
            let c = stop_here st (rw (st.stack, ← table) at b.back) r.stack (zeros_length _ y (stack ∙ b.stack) ∙ st.stack) in
            record {
              same = refl;
              staged = stops (in_apply a.translated a.read_all x (ap (λ (y : Table). y.used) x.ends_in)) c.within c.outcome
                  (at_same place (ap (λ (i : ℕ). steps k + i) m) (stopped_is g).2);
            }

  -- each text is read: the nodes have the texts' trees, and each digit is at most one new node
  reads_staged : (ls : List (List ℕ)) (xs : List Tree) → map readable ls ≡ map some xs → {z : Table} {y : List ℕ} → Stands w s z y
      → ((e : Refusal) (m : ℕ) → ReadStops s z ls e m → (q : Stops w s o p t args e m) × (stop_of q ≡ None))
      → (tells : List ℕ → List ℕ → ℕ → List ℕ → Outcome Told) (next : List ℕ → List ℕ → ℕ → List ℕ → Outcome (Result Ran Refusal))
      → ((ns : List ℕ) (z' : Table) (y' : List ℕ) → Stands w s z' y' → Kept z z' → HasAll z' ns xs → z'.used ≤ z.used + total ls
      → ReadsHad s z ls z' ns
      → Tells w s o p t args (tells ns z'.words z'.used y') (next ns z'.words z'.used y'))
      → Tells w s o p t args (reads_by told ls z.words z.used y o tells) (reads ls z.words z.used y o next)
  unfolding reads_by after_made_by total
  reads_staged [] [] q {z} {y} st stop tells next on = on [] z y st (kept_refl z) no_more (omega arith) all_read
  reads_staged [] (x ∷ xs) q st stop tells next on = zero_one (cc)
  reads_staged (l ∷ ls) [] q st stop tells next on = zero_one (cc)
  reads_staged (l ∷ ls) (x ∷ xs) q {z} {y} st stop tells next on = go (reading fit st l x is) (λ (z : Table) (y : List ℕ). reads_staged ls xs (cc) {z = z} {y = y})
    where
      r : Rattle.table.specs.Outcome.Outcome (Result Made Refusal)
      r = read z.words z.used y l

      is : readable l ≡ some x
      is = cc

      go : Reading w s o z y l x
          → ((z : Table) (y : List ℕ) → Stands w s z y → ((e : Refusal) (m : ℕ) → ReadStops s z ls e m → (q : Stops w s o p t args e m) × (stop_of q ≡ None))
          → (tells : List ℕ → List ℕ → ℕ → List ℕ → Outcome Told) (next : List ℕ → List ℕ → ℕ → List ℕ → Outcome (Result Ran Refusal))
          → ((ns : List ℕ) (z' : Table) (y' : List ℕ) → Stands w s z' y' → Kept z z' → HasAll z' ns xs → z'.used ≤ z.used + total ls
          → ReadsHad s z ls z' ns
          → Tells w s o p t args (tells ns z'.words z'.used y') (next ns z'.words z'.used y'))
          → Tells w s o p t args (reads_by told ls z.words z.used y o tells) (reads ls z.words z.used y o next))
          → Tells w s o p t args (after_made_by told z.used o r (λ w' u' s' n. reads_by told ls w' u' s' o (λ ns. tells (n ∷ ns))) r.answer)
          (after_made z.used o r (λ w' u' s' n. reads ls w' u' s' o (λ ns. next (n ∷ ns))) r.answer)
      go (read_as n u' e g) rec =
          rw e
          (rec (record { words = r.table; used = u' }) r.stack g.stands
          (λ e m k. stop e m (later is g.frames_enough g.nodes_enough k))
          (λ ns. tells (n ∷ ns))
          (λ ns. next (n ∷ ns))
          (λ ns z' y' st' k hs d m. on (n ∷ ns) z' y' st' (kept_trans g.kept k)
          (and_then (stays g.stands.fine k g.root) hs) (omega (arith, d, g.used_most)) (and_read is g.frames_enough g.nodes_enough m)))
      go (not_read e m q h x) rec = let i = stop e m (h ls) in rw q (refuse i.0 x i.1)

  -- "Then Translate, Read of each argument, Apply in order under one step limit, Write, each with its 7 to 10."
  pub stages_staged : rule p.rule ≡ some t → map readable p.arguments ≡ map some args → p.limit ≤ 1000000
      → Tells w s o p t args (tell_stages w s o p) (stages w s o p)
  unfolding stages tell_stages after_made_by stop_of
  stages_staged q texts limited = go (translating fit p.rule t q)
    where
      r : Rattle.table.specs.Outcome.Outcome (Result Made Refusal)
      r = translate w 0 s p.rule

      go : Translating w s o p.rule t
          → Tells w s o p t args
          (after_made_by told 0 o r (λ w' u' s' v. reads_by told p.arguments w' u' s' o (λ ns w'' u'' s''. tell_applies 1 ns p.limit w'' u'' s'' o v no_uses)) r.answer)
          (after_made 0 o r (λ w' u' s' v. reads p.arguments w' u' s' o (λ ns w'' u'' s''. applies ns p.limit w'' u'' s'' o v no_uses)) r.answer)
      go (translated v u' e g) =
          rw e
          (reads_staged p.arguments args texts
          {z = record { words = r.table; used = u' }} {y = r.stack}
          g.stands
          (λ e m k. (in_read g.had k, refl))
          (λ ns w'' u'' s''. tell_applies 1 ns p.limit w'' u'' s'' o v no_uses)
          (λ ns w'' u'' s''. applies ns p.limit w'' u'' s'' o v no_uses)
          (λ ns z' y' st' k hs i a. applies_staged limited ns 1 hs (record {
            stands = st';
            tree = rule_tree t;
            root = stays g.stands.fine k g.root;
            so_far = at_end;
            within_limit = omega arith;
            used_most = omega (arith, i, g.used_most);
            placed = record { table = record { words = r.table; used = u' }; node = v };
            read_table = z';
            read_nodes = ns;
            translated = g.had;
            read_all = a;
            reached = at_first;
            place = omega arith;
          }) refl refl))
      go (not_translated e m q h x) = rw q (refuse (in_translate h) x refl)

-- What a single stage of a packet's reader comes to: it goes on with what it made, or stops for what it lacks. Assumes nothing.
use Prim.Native.Nat.{ℕ, ◌+◌, ◌*◌, ◌≤◌, ◌<◌}
use mathlib.Core.Path.{◌≡◌, refl, ap, ◌∙◌}
use mathlib.Core.Bool.{Bool, true}
use mathlib.Core.List.{List, ◌∷◌, ◌++◌}
use mathlib.Core.Option.{some}
use native.Mathlib.Omega.{arith}
use lib.ListN.{length, drop, length-replicate}
use borrow.Author.Tests.{le-leb}
use Rattle.std.specs.Prelude.{Err, Ok, Result}
use Rattle.calculus.specs.Tree.{Tree, size}
use Rattle.calculus.specs.declared.Uses.{Uses}
use Rattle.calculus.specs.Uses.{steps}
use Rattle.calculus.specs.Term.{Term}
use Rattle.calculus.specs.Bytes.{rule}
use Rattle.calculus.specs.Abstraction.{rule_tree}
use Rattle.table.specs.Nodes.{Table, Placed, got, capacity, sound, Sound, lay, cleared}
use Rattle.table.specs.Outcome.{Entered, Outcome, whole_out, frames, zeros, placed}
use Rattle.table.specs.declared.Refusal.{Refusal}
use Rattle.table.specs.Claims.{Extends, Has, Kept}
use Rattle.table.proofs.Words.{zero_one}
use Rattle.table.proofs.Trees.{extends_refl, extends_trans}
use Rattle.table.proofs.Making.{has}
use Rattle.table.proofs.Entry.{enters, lacks_entry}
use Rattle.table.proofs.Laid.{made_is, same_ok}
use Rattle.table.specs.Refusal.{made, not_made}
use Rattle.table.specs.declared.Made.{Made}
use Rattle.ternary.specs.Text.{text, most_pending}
use Rattle.ternary.specs.Read.{read, readable}
use Rattle.ternary.specs.Write as write
use Rattle.ternary.specs.Held.{Spent}
use Rattle.ternary.specs.Lacks.{ReadLacks, WriteLacks, WriteCase}
use Rattle.ternary.proofs.OneText.{length_text}
use Rattle.ternary.proofs.Reading.{some_readable, read_lacks, read_gives}
use Rattle.ternary.proofs.Writes.{write_case}
use Rattle.translation.specs.Translate.{translate}
use Rattle.translation.specs.Lacks.{Lacks}
use Rattle.translation.proofs.Translates.{translate_gives, translate_lacks}
use Rattle.running.specs.Run.{stopped, after_written, writes, not_ran, ran}
use Rattle.running.specs.Claims.{Fit, TranslateStops, translate_nodes, translate_frames, TranslateHad, ReadStops, no_nodes, no_frames}
use Rattle.running.specs.declared.Ran.{Ran}
use Rattle.running.proofs.Undone.{Back, back_same, back_full, back_cleared}

-- Between two stages: the table z, whose words were found as w with no node in use, and the stack y, lent as s.
pub record Stands (w s : List ℕ) (z : Table) (y : List ℕ) : Type 0 where
  pub fine : Sound z
  pub extends : Extends (record { words = w; used = 0 }) z
  pub stack : length y ≡ length s

pub zeros_length : (y s : List ℕ) → y ≡ zeros s → length y ≡ length s
zeros_length y s e = ap length e ∙ length-replicate (length s) 0

-- what the checks at entry ask holds
pub enter : {w s : List ℕ} → length s ≤ 65536 → {z : Table} {y : List ℕ} → Stands w s z y → {within : Bool} → within ≡ true
    → Entered within z.words z.used y
enter short st e = record { table = st.fine; stack = omega (arith, short, st.stack); limits_kept = e }

-- The outcome x of a stage that is refused with e once m nodes were made since the entry: they are cleared, and the stack; the out bytes stay.
pub record Stopped (w s o : List ℕ) (m : ℕ) (e : Refusal) (x : Outcome (Result Ran Refusal)) : Type 0 where
  pub within : m ≤ capacity w
  pub outcome : x ≡ whole_out (not_ran e) (cleared w 0 (m * 2)) (zeros s) o

pub stop_here : {w s o : List ℕ} {z : Table} {y : List ℕ} → Stands w s z y → {m : ℕ} {x : List ℕ} → Back z m x → (v : List ℕ) → length v ≡ length s
    → {e : Refusal} → Stopped w s o m e (stopped e x z.used v o)
unfolding stopped
stop_here st b v l = let c = back_cleared st.extends b in record { within = omega (arith, b.within, st.extends.kept.same_length); outcome = rw (c, l) }

-- two answers of Run that are equal are so in each part
pub ran_is : {j u n j' u' n' : ℕ} {k k' : Uses} → ran j u n k ≡ ran j' u' n' k' → (j ≡ j') × (u ≡ u') × (n ≡ n') × (k ≡ k')
ran_is q = let p = same_ok q in (ap (λ (x : Ran). x.steps) p, ap (λ (x : Ran). x.used) p, ap (λ (x : Ran). x.digits) p, ap (λ (x : Ran). x.uses) p)

-- the table and the node that were placed
placed_place : (m : Placed) (s : List ℕ) {q : Rattle.table.specs.Outcome.Outcome (Result Made Refusal)} {v u' : ℕ} → q ≡ placed m s → q.answer ≡ made v u'
    → m ≡ record { table = record { words = q.table; used = u' }; node = v }
unfolding placed
placed_place m s {q} {v} {u'} e h =
    let y : made m.node m.table.used ≡ made v u' = cc in
    let a : m.node ≡ v = (made_is y).0 in
    let b : m.table.used ≡ u' = (made_is y).1 in
    let c : q.table ≡ m.table.words = cc in
    rw (← a, ← b, c)

-- ---- Translate, into the empty table

pub record Translated (w s b : List ℕ) (t : Term) (v u : ℕ) : Type 0 where
  pub stands : Stands w s (record { words = (translate w 0 s b).table; used = u }) (translate w 0 s b).stack
  pub had : TranslateHad w s t (record { table = record { words = (translate w 0 s b).table; used = u }; node = v })
  pub root : Has (record { words = (translate w 0 s b).table; used = u }) v (rule_tree t)
  pub used_most : u ≤ size (rule_tree t)

pub data Translating (w s o b : List ℕ) (t : Term) : Type 0 where
  translated : (v u : ℕ) → (translate w 0 s b).answer ≡ made v u → Translated w s b t v u → Translating w s o b t
  not_translated : (e : Refusal) (m : ℕ) → (translate w 0 s b).answer ≡ not_made e → TranslateStops w s t e m
      → Stopped w s o m e (stopped e (translate w 0 s b).table 0 (translate w 0 s b).stack o) → Translating w s o b t

-- what a stage that makes nodes lacked, how many nodes are in use where it stops, and what it leaves
record Lacked (s : List ℕ) (z : Table) (P : ℕ → Type 0) (x y : List ℕ) : Type 0 where
  made : ℕ
  stops : P made
  back : Back z made x
  stack : length y ≡ length s

pub translating : {w s o : List ℕ} → Fit w s o → (b : List ℕ) (t : Term) → rule b ≡ some t → Translating w s o b t
unfolding sound
translating {w} {s} {o} fit b t is_rule = go r.answer refl
  where
    r : Rattle.table.specs.Outcome.Outcome (Result Made Refusal)
    r = translate w 0 s b

    empty : Table
    empty = record { words = w; used = 0 }

    st : Stands w s empty s
    st = record { fine = record { short = fit.table; within = omega arith; unbroken = refl }; extends = extends_refl empty; stack = refl }

    lacked : {e : Refusal} {x y : List ℕ} → Lacks w 0 s b e x y → Lacked s empty (TranslateStops w s t e) x y
    lacked (Lacks.of_entry q) = zero_one (cc (enters (enter fit.stack st {within = true} refl), lacks_entry q))
    lacked (Lacks.no_rule f h) = zero_one (cc)
    lacked (Lacks.no_frames f {t = t'} a h) =
        let c : t' ≡ t = cc in
        record { made = 0; stops = translate_frames (rw (← c) h); back = back_same st.fine refl; stack = zeros_length _ s refl }
    lacked (Lacks.no_nodes f {t = t'} a h k) =
        let c : t' ≡ t = cc in
        record { made = capacity w; stops = translate_nodes (rw (← c) h) (rw c at k); back = back_full st.fine refl; stack = zeros_length _ s refl }

    go : (a : Result Made Refusal) → r.answer ≡ a → Translating w s o b t
    go (Ok m) e =
        let g = translate_gives w 0 s b m.node m.used e in
        let c : g.term ≡ t = cc g.is_rule in
        let d = rw c at g.lays.places in
        let p = placed_place g.had.placed_as s g.laid_is e in
        translated m.node m.used e (record {
          stands = record { fine = d.fine; extends = d.extends; stack = zeros_length _ s g.stack };
          had = record {
            frames_enough = rw (← c) g.had.frames_enough;
            nodes_enough = rw (← c) (g.had.nodes_enough ∙ ap got p);
          };
          root = has d;
          used_most = omega (arith, g.lays.used_most, ap (λ (x : Term). size (rule_tree x)) c);
        })
    go (Err e) q =
        let a = lacked (translate_lacks w 0 s b e q) in
        not_translated e a.made q a.stops (stop_here st {m = a.made} a.back r.stack a.stack)

-- ---- Read of one text

pub record ReadAs (w s : List ℕ) (z : Table) (y l : List ℕ) (x : Tree) (n u : ℕ) : Type 0 where
  pub stands : Stands w s (record { words = (read z.words z.used y l).table; used = u }) (read z.words z.used y l).stack
  pub kept : Kept z (record { words = (read z.words z.used y l).table; used = u })
  pub root : Has (record { words = (read z.words z.used y l).table; used = u }) n x
  pub used_most : u ≤ z.used + length l
  pub nodes_enough : lay z x ≡ got (record { table = record { words = (read z.words z.used y l).table; used = u }; node = n })
  pub frames_enough : most_pending l ≤ frames s

pub data Reading (w s o : List ℕ) (z : Table) (y l : List ℕ) (x : Tree) : Type 0 where
  read_as : (n u : ℕ) → (read z.words z.used y l).answer ≡ made n u → ReadAs w s z y l x n u → Reading w s o z y l x
  not_read : (e : Refusal) (m : ℕ) → (read z.words z.used y l).answer ≡ not_made e → ((ls : List (List ℕ)) → ReadStops s z (l ∷ ls) e m)
      → Stopped w s o m e (stopped e (read z.words z.used y l).table z.used (read z.words z.used y l).stack o) → Reading w s o z y l x

pub reading : {w s o : List ℕ} → Fit w s o → {z : Table} {y : List ℕ} → Stands w s z y → (l : List ℕ) (x : Tree) → readable l ≡ some x → Reading w s o z y l x
reading {w} {s} {o} fit {z} {y} st l x is = go r.answer refl
  where
    r : Rattle.table.specs.Outcome.Outcome (Result Made Refusal)
    r = read z.words z.used y l

    lacked : {e : Refusal} {x' y' : List ℕ} → ReadLacks z.words z.used y l e x' y'
        → Lacked s z (λ m. (ls : List (List ℕ)) → ReadStops s z (l ∷ ls) e m) x' y'
    lacked (ReadLacks.of_entry q) = zero_one (cc (enters (enter fit.stack st {within = true} refl), lacks_entry q))
    lacked (ReadLacks.no_text f h) = zero_one (cc)
    lacked (ReadLacks.no_frames f a h) =
        let j : frames s < most_pending l = omega (arith, st.stack) in
        record { made = z.used; stops = λ ls. no_frames j; back = back_same st.fine refl; stack = zeros_length _ y refl ∙ st.stack }
    lacked (ReadLacks.no_nodes f {t = x'} a h k) =
        let j : most_pending l ≤ frames s = omega (arith, st.stack) in
        let c : x' ≡ x = cc (some_readable a) in
        record {
          made = capacity z.words;
          stops = λ ls. no_nodes is j (rw c at k);
          back = back_full st.fine refl;
          stack = zeros_length _ y refl ∙ st.stack;
        }

    go : (a : Result Made Refusal) → r.answer ≡ a → Reading w s o z y l x
    go (Ok m) e =
        let g = read_gives z.words z.used y l m.node m.used e in
        let c = g.places in
        let b : g.tree ≡ x = cc (some_readable g.had.readable_as) in
        let p = placed_place g.had.placed_as y g.laid_is e in
        read_as m.node m.used e (record {
          stands = record { fine = c.fine; extends = extends_trans st.extends c.extends; stack = zeros_length _ y g.stack ∙ st.stack };
          kept = c.extends.kept;
          root = rw (← b) (has c);
          used_most = g.used_most;
          nodes_enough = rw (← b) (g.had.nodes_enough ∙ ap got p);
          frames_enough = omega (arith, g.had.frames_enough, st.stack);
        })
    go (Err e) q =
        let a = lacked (read_lacks z.words z.used y l e q) in
        not_read e a.made q a.stops (stop_here st {m = a.made} a.back r.stack a.stack)

-- ---- Write of a node that has the tree x, after the uses k

pub data Writing (w s o : List ℕ) (z : Table) (k : Uses) (x : Tree) (q : Outcome (Result Ran Refusal)) : Type 0 where
  written : length (text x) ≤ length o
      → q ≡ whole_out (ran (steps k) z.used (length (text x)) k) z.words (zeros s) (text x ++ drop (length (text x)) o) → Writing w s o z k x q
  not_written : (e : Refusal) → Spent (frames s) 0 x (length o) (write.lacks e) → Stopped w s o z.used e q → Writing w s o z k x q

pub writing : {w s o : List ℕ} → Fit w s o → {z : Table} {y : List ℕ} → Stands w s z y → {v : ℕ} {x : Tree} → Has z v x → (k : Uses)
    → Writing w s o z k x (writes z.words z.used y o v k)
unfolding writes after_written
writing {w} {s} {o} fit {z} {y} st {v} {x} h k = go (write_case z.words z.used y v o)
  where
    lacked : {e : Refusal} {y' : List ℕ} → WriteLacks z.words z.used y v o e y' → (length y' ≡ length s) × Spent (frames s) 0 x (length o) (write.lacks e)
    lacked (WriteLacks.of_entry q) = zero_one (cc (enters (enter fit.stack st (le-leb _ _ fit.out)), lacks_entry q))
    lacked (WriteLacks.no_node f i) = absurd (omega (arith, h.inside))
    lacked (WriteLacks.no_room f i q) = (zeros_length _ y refl ∙ st.stack, rw (h.tree, st.stack) at q)

    go : WriteCase z.words z.used y v o (write.write z.words z.used y v o)
        → Writing w s o z k x (after_written k z.used (write.write z.words z.used y v o) (write.write z.words z.used y v o).answer)
    go (WriteCase.refuses {e = e} {s' = y'} l q) = let a = lacked l in rw q (not_written e a.1 (stop_here st (back_same st.fine refl) y' a.0))
    go (WriteCase.writes i q) =
        rw (q, h.tree, st.stack) (written (omega (arith, length_text x, ap size h.tree, i.bytes_enough)) refl)

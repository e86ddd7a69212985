-- Laws of how a stage ends, one for each way that the code goes, and what holds of lent memory before each. Assumes nothing.
use Prim.Native.Nat.{ℕ, ◌*◌, ◌≤◌, ◌<◌}
use mathlib.Core.Path.{◌≡◌, refl, sym, ap, ◌∙◌}
use mathlib.Core.Bool.{Bool, true}
use mathlib.Core.List.{List}
use native.Mathlib.Omega.{arith}
use lib.ListN.{length}
use borrow.Author.Tests.{le-leb}
use Rattle.calculus.specs.declared.Uses.{Uses}
use Rattle.calculus.specs.Uses.{steps}
use Rattle.calculus.specs.Bytes.{rule}
use Rattle.table.specs.Nodes.{sound, cleared, tree_at}
use Rattle.table.specs.Outcome.{Outcome, Entered, whole, whole_out, zeros}
use Rattle.table.specs.declared.Refusal.{Refusal}
use Rattle.table.specs.declared.Made.{Made}
use Rattle.std.specs.Prelude.{Result, Ok, Err}
use Rattle.ternary.specs.Read.{readable, read_tree, read}
use Rattle.ternary.specs.Write.{Written, write_tree, write}
use Rattle.ternary.proofs.Reading.{entered_read, read_gives}
use Rattle.ternary.proofs.Writes.{entered_write}
use Rattle.translation.specs.Translate.{translate_rule, translate}
use Rattle.translation.proofs.Translates.{entered_translate, translate_gives}
use Rattle.running.specs.Run.{ran, not_ran, stopped, after_written, writes, lengths_fit}
use Rattle.running.proofs.Checks.{true_fit}
use Rattle.running.specs.declared.Ran.{Ran}
use Rattle.endings.specs.Ready.{Ready}

-- ---- a refusal at a stage

pub is_stopped : (w : List ℕ) (u : ℕ) (s o : List ℕ) {e : Refusal} {z y : List ℕ} → z ≡ cleared w 0 (u * 2) → y ≡ zeros s
    → whole_out (not_ran e) z y o ≡ stopped e w u s o
unfolding stopped
is_stopped w u s o p q = rw (p, q)

-- the words of the nodes in use are within the table
pub in_table : {w : List ℕ} {u : ℕ} {s o : List ℕ} → Ready w u s o → u * 2 ≤ length w
in_table r = omega (arith, r.fine.within)

-- "with the table taken as empty": no node is in use, so none is broken
pub empty_ready : (w s o : List ℕ) → lengths_fit w s o ≡ true → Ready w 0 s o
unfolding sound
empty_ready w s o e =
    let f = true_fit w s o e in
    record { fine = record { short = f.table; within = omega arith; unbroken = refl }; stack = f.stack; out = f.out }

-- what the checks at entry ask holds
pub entered_by : {within : Bool} {w : List ℕ} {u : ℕ} {s o : List ℕ} → Ready w u s o → within ≡ true → Entered within w u s
entered_by r e = record { table = r.fine; stack = r.stack; limits_kept = e }

-- ---- Write

module _ {w : List ℕ} {u : ℕ} {s o : List ℕ} {v : ℕ} (k : Uses) (r : Ready w u s o) (h : v < u) {a : Written} {y z : List ℕ}
    (e : whole_out a w y z ≡ write_tree w s o (tree_at w v)) where
  is_write : whole_out a w y z ≡ write w u s v o
  is_write = e ∙ entered_write w u s v o (entered_by r (le-leb (length o) 65535 r.out)) h

  pub is_text : {j n : ℕ} → j ≡ steps k → a ≡ Ok n → whole_out (ran j u n k) w y z ≡ writes w u s o v k
  unfolding writes after_written
  is_text l q = rw (← is_write, q, l)

  pub stops_write : {x : Outcome (Result Ran Refusal)} {c : Refusal} → a ≡ Err c → x ≡ stopped c w u y z → x ≡ writes w u s o v k
  unfolding writes after_written
  stops_write q g = rw (← is_write, q) g

-- ---- Translate into the empty table, and Read: the outcome of the inner operation is the operation's, and the memory is ready for the next stage

module _ {w s o : List ℕ} (r : Ready w 0 s o) (b : List ℕ) {a : Result Made Refusal} {z y : List ℕ} (e : whole a z y ≡ translate_rule w 0 s (rule b)) where
  pub is_translate : whole a z y ≡ translate w 0 s b
  is_translate = e ∙ entered_translate w 0 s b (entered_by r refl)

  pub translate_ready : {m : Made} → a ≡ Ok m → length y ≡ length s → Ready z m.used y o × (m.node < m.used)
  translate_ready {m} q l =
      let g = translate_gives w 0 s b m.node m.used (rw (← is_translate) q) in
      let t : (translate w 0 s b).table ≡ z = rw (← is_translate) in
      (record { fine = rw t at g.lays.places.fine; stack = omega (arith, r.stack); out = r.out }, g.lays.places.inside)

module _ {w : List ℕ} {u : ℕ} {s o : List ℕ} (r : Ready w u s o) (v : List ℕ) {a : Result Made Refusal} {z y : List ℕ} (e : whole a z y ≡ read_tree w u s v (readable v)) where
  pub is_read : whole a z y ≡ read w u s v
  is_read = e ∙ entered_read w u s v (entered_by r refl)

  -- what a Read that gave a node leaves for the next stage
  pub record ReadReady (n u' : ℕ) : Type 0 where
    pub ready : Ready z u' y o
    pub inside : n < u'
    pub up : u ≤ u'
    pub same_length : length z ≡ length w

  pub read_ready : {m : Made} → a ≡ Ok m → length y ≡ length s → ReadReady m.node m.used
  read_ready {m} q l =
      let g = read_gives w u s v m.node m.used (rw (← is_read) q) in
      let t : (read w u s v).table ≡ z = rw (← is_read) in
      record {
        ready = record { fine = rw t at g.places.fine; stack = omega (arith, r.stack); out = r.out };
        inside = g.places.inside;
        up = g.places.extends.kept.up;
        same_length = ap length (sym t) ∙ g.places.extends.kept.same_length;
      }

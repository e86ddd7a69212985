-- How many nodes a refused Run cleared is one number. Assumes nothing.
use Prim.Native.Nat.{ℕ, ◌*◌, ◌≤◌, ◌<◌}
use mathlib.Core.Path.{◌≡◌, refl, sym, ap, ap₂, ◌∙◌}
use mathlib.Core.List.{List, ◌∷◌}
use native.Mathlib.Omega.{arith}
use Rattle.calculus.specs.Tree.{Tree, size}
use Rattle.calculus.specs.Term.{Term}
use Rattle.calculus.specs.Abstraction.{rule_tree}
use Rattle.table.specs.Nodes.{Table, Placed, got, capacity, lay}
use Rattle.table.specs.Outcome.{frames}
use Rattle.table.specs.Claims.{Lacking}
use Rattle.table.proofs.Words.{zero_one}
use Rattle.table.proofs.Making.{lay_full}
use Rattle.table.specs.declared.Refusal.{Refusal}
use Rattle.fields.specs.Packet.{Packet}
use Rattle.running.specs.Claims.{end_table, TranslateHad, ReadsHad, all_read, and_read, ReadStops, no_nodes, no_frames, later, translate_nodes, translate_frames, Stops, in_translate, in_read, in_apply, in_write}

-- a tree that is laid has no node that lacks a place
laid_lacks : {A : Type 0} {z y : Table} {x : Tree} {m : Placed} → lay z x ≡ got m → Lacking z x y → A
laid_lacks {z = z} {y = y} {x = x} h k = zero_one (cc ((lay_full z x y).1 k))

reads_one : {s : List ℕ} {z : Table} {ls : List (List ℕ)} {e c : Refusal} {m n : ℕ} → ReadStops s z ls e m → ReadStops s z ls c n → m ≡ n
reads_one (no_frames h) (no_frames k) = refl
reads_one (no_frames h) (no_nodes q k l) = absurd (omega arith)
reads_one (no_frames h) (later q k l r) = absurd (omega arith)
reads_one (no_nodes p h i) (no_frames k) = absurd (omega arith)
reads_one (no_nodes p h i) (no_nodes q k l) = refl
reads_one (no_nodes {x = x} p h i) (later {x = x'} q k l r) = let c : x' ≡ x = cc in laid_lacks (rw c at l) i
reads_one (later p h i q) (no_frames k) = absurd (omega arith)
reads_one (later {x = x} p h i q) (no_nodes {x = x'} r k l) = let c : x ≡ x' = cc in laid_lacks (rw c at i) l
reads_one (later {x = x} {m = a} p h i q) (later {x = x'} {m = b} r k l t) =
    let c : x' ≡ x = cc in
    let d : b ≡ a = let e : got b ≡ got a = sym (rw c at l) ∙ i in cc in
    reads_one q (rw d at t)

reads_had : {s : List ℕ} {z y : Table} {ls : List (List ℕ)} {ns : List ℕ} {e : Refusal} {m : ℕ} → ReadStops s z ls e m → ReadsHad s z ls y ns → ⊥
reads_had (no_frames h) (and_read q k l r) = omega arith
reads_had (no_nodes {x = x} p h i) (and_read {x = x'} q k l r) = let c : x' ≡ x = cc in laid_lacks (rw c at l) i
reads_had (later {x = x} {m = a} p h i q) (and_read {x = x'} {m = b} r k l t) =
    let c : x' ≡ x = cc in
    let d : b ≡ a = let e : got b ≡ got a = sym (rw c at l) ∙ i in cc in
    reads_had q (rw d at t)

-- texts that are read are read as the same nodes
had_one : {s : List ℕ} {z y y' : Table} {ls : List (List ℕ)} {ns ns' : List ℕ} → ReadsHad s z ls y ns → ReadsHad s z ls y' ns' → (y ≡ y') × (ns ≡ ns')
had_one all_read all_read = (refl, refl)
had_one (and_read {x = x} {m = a} p h i q) (and_read {x = x'} {m = b} r k l t) =
    let c : x' ≡ x = cc in
    let d : b ≡ a = let e : got b ≡ got a = sym (rw c at l) ∙ i in cc in
    let f = had_one q (rw d at t) in
    (f.0, ap₂ ◌∷◌ (ap (λ (k : Placed). k.node) (sym d)) f.1)

-- the stage that stopped, as far as the number of nodes made goes
data Stage (w s : List ℕ) (p : Packet) (t : Term) (args : List Tree) : ℕ → Type 0 where
  no_frame : frames s < 2 * size (rule_tree t) → Stage w s p t args 0
  no_node : 2 * size (rule_tree t) ≤ frames s → {z : Table} → Lacking (record { words = w; used = 0 }) (rule_tree t) z → Stage w s p t args (capacity w)
  reading : {e : Refusal} {m : ℕ} {r : Placed} → TranslateHad w s t r → ReadStops s r.table p.arguments e m → Stage w s p t args m
  after_reads : {m : ℕ} {r : Placed} {z : Table} {ns : List ℕ} → TranslateHad w s t r → ReadsHad s r.table p.arguments z ns
      → m ≡ (end_table (frames s) p.limit z r.node ns).used → Stage w s p t args m

stage : {w s o : List ℕ} {p : Packet} {t : Term} {args : List Tree} {e : Refusal} {m : ℕ} → Stops w s o p t args e m → Stage w s p t args m
stage (in_translate (translate_frames h)) = no_frame h
stage (in_translate (translate_nodes h k)) = no_node h k
stage (in_read h r) = reading h r
stage (in_apply h r x q) = after_reads h r q
stage (in_write h r d l x q k) = after_reads h r q

had_same : {w s : List ℕ} {t : Term} {r r' : Placed} → TranslateHad w s t r → TranslateHad w s t r' → r' ≡ r
had_same {r = r} {r' = r'} h k = let e : got r' ≡ got r = sym k.nodes_enough ∙ h.nodes_enough in cc

stage_one : {w s : List ℕ} {p : Packet} {t : Term} {args : List Tree} {m n : ℕ} → Stage w s p t args m → Stage w s p t args n → m ≡ n
stage_one (no_frame h) (no_frame k) = refl
stage_one (no_frame h) (no_node k l) = absurd (omega arith)
stage_one (no_frame h) (reading k r) = absurd (omega (arith, k.frames_enough))
stage_one (no_frame h) (after_reads k r q) = absurd (omega (arith, k.frames_enough))
stage_one (no_node h i) (no_frame k) = absurd (omega arith)
stage_one (no_node h i) (no_node k l) = refl
stage_one (no_node h i) (reading k r) = laid_lacks k.nodes_enough i
stage_one (no_node h i) (after_reads k r q) = laid_lacks k.nodes_enough i
stage_one (reading h r) (no_frame k) = absurd (omega (arith, h.frames_enough))
stage_one (reading h r) (no_node k l) = laid_lacks h.nodes_enough l
stage_one (reading h r) (reading k q) = reads_one r (rw (had_same h k) at q)
stage_one (reading h r) (after_reads k q e) = absurd (reads_had r (rw (had_same h k) at q))
stage_one (after_reads h r e) (no_frame k) = absurd (omega (arith, h.frames_enough))
stage_one (after_reads h r e) (no_node k l) = laid_lacks h.nodes_enough l
stage_one (after_reads h r e) (reading k q) = absurd (reads_had (rw (had_same h k) at q) r)
stage_one (after_reads h r e) (after_reads k q d) =
    let c = had_same h k in
    let i = had_one r (rw c at q) in
    e ∙ rw (i.0, i.1, ← c) (sym d)

-- "Numbers 7 to 10 set to 0 the words of the nodes made in the call": of whatever stage stops, the nodes made are as many.
pub stops_one : {w s o : List ℕ} {p : Packet} {t : Term} {args : List Tree} {e c : Refusal} {m n : ℕ} → Stops w s o p t args e m → Stops w s o p t args c n → m ≡ n
stops_one x y = stage_one (stage x) (stage y)

-- What a run that comes to want a use does from there: what is told is what its applications come to from that argument on. Assumes nothing.
use Prim.Native.Nat.{ℕ, suc, ◌+◌, ◌-◌, ◌≤◌, ◌<◌}
use mathlib.Core.Path.{◌≡◌, refl, ◌∙◌}
use mathlib.Core.Bool.{true}
use mathlib.Core.List.{List, ◌∷◌}
use native.Mathlib.Omega.{arith}
use lib.ListN.{length, length-replicate}
use Rattle.calculus.specs.Tree.{Tree}
use Rattle.calculus.specs.declared.Uses.{Uses}
use Rattle.calculus.specs.Uses.{no_uses, steps}
use Rattle.calculus.specs.Term.{Term}
use Rattle.table.specs.Nodes.{Table, Placed, sound, Sound}
use Rattle.table.specs.Outcome.{Entered, Outcome, frames, zeros, placed}
use Rattle.table.proofs.Making.{lay_places}
use Rattle.table.proofs.Entry.{enters}
use Rattle.ternary.proofs.Reading.{readable_some, read_lays}
use Rattle.translation.proofs.Translates.{translate_lays}
use Rattle.applying.specs.Machine.{State, more, done, turn, after, uses}
use Rattle.applying.specs.Apply.{begin}
use Rattle.applying.specs.Ended.{ended, apply_ended}
use Rattle.applying.proofs.States.{uses_add}
use Rattle.fields.specs.Packet.{Packet}
use Rattle.running.specs.Run.{after_made_by, reads_by}
use Rattle.running.specs.Tell.{told, after_ended, tell_applies, tell_stages, tell_packet, tell}
use Rattle.running.specs.Claims.{Fit, Checked, TranslateHad, ReadsHad, all_read, and_read, Reached, at_first, and_applied}
use Rattle.running.specs.declared.Told.{Told}
use Rattle.running.proofs.Checks.{fit_true, nothing_lacks}

-- a stack of the lent one's length
abbrev SameLength : List ℕ → List ℕ → Type 0
SameLength s y = length y ≡ length s

same_zeros : (s y : List ℕ) → SameLength s y → SameLength s (zeros y)
same_zeros s y h = length-replicate (length y) 0 ∙ h

-- the empty table that a run begins with
pub empty_sound : {w s o : List ℕ} → Fit w s o → Sound (record { words = w; used = 0 })
unfolding sound
empty_sound f = record { short = f.table; within = omega arith; unbroken = refl }

enter : (s : List ℕ) {z : Table} {y : List ℕ} → Sound z → length s ≤ 65536 → SameLength s y → Entered true z.words z.used y
enter s f h l = record { table = f; stack = omega arith; limits_kept = refl }

-- where each text is read, what follows goes on with the nodes
pub reads_forward : (s : List ℕ) → length s ≤ 65536 → (o : List ℕ) {z z' : Table} {ls : List (List ℕ)} {ns : List ℕ} → ReadsHad s z ls z' ns → Sound z → (y : List ℕ) → SameLength s y
    → (tells : List ℕ → List ℕ → ℕ → List ℕ → Outcome Told)
    → (v : List ℕ) × SameLength s v × Sound z' × (reads_by told ls z.words z.used y o tells ≡ tells ns z'.words z'.used v)
unfolding reads_by after_made_by placed
reads_forward s h o all_read f y l tells = (y, l, f, refl)
reads_forward s h o (and_read {z = z} {l = t} {x = x} {m = m} {ns = ns} is enough g r) f y l tells =
    let b = read_lays z.words z.used y t (record {
      entered = enters (enter s f h l);
      readable_as = readable_some t x is;
      frames_enough = omega (arith, enough);
      placed_as = m;
      nodes_enough = g;
    }) in
    let a = reads_forward s h o r (lay_places f x g).fine (zeros y) (same_zeros s y l) (λ ns. tells (m.node ∷ ns)) in
    (a.0, a.1, a.2, rw b a.3)

-- where applications are completed, what follows goes on with the arguments left, at their place
pub reached_forward : (s o : List ℕ) {limit : ℕ} {z : Table} {v : ℕ} {ns : List ℕ} {z' : Table} {v' : ℕ} {ns' : List ℕ} {k : Uses} → Reached (frames s) limit z v ns z' v' ns' k → (y : List ℕ) → SameLength s y
    → (i : ℕ) × (i + length ns' ≡ length ns + 1) × (x : List ℕ) × SameLength s x
    × (tell_applies 1 ns limit z.words z.used y o v no_uses ≡ tell_applies i ns' limit z'.words z'.used x o v' k)
unfolding tell_applies after_ended apply_ended ended
reached_forward s o at_first y l = (1, omega arith, y, l, refl)
reached_forward s o {limit} (and_applied {z' = z} {v' = v} {n = n} {ns' = ns} {k = k} {j = j} {m = m} r e) y l =
    let a = reached_forward s o r y l in
    let d : uses (frames a.2) (limit - steps k) (begin z.words z.used v n) ≡ done m j = rw a.3 e in
    (a.0 + 1, omega (arith, a.1), zeros a.2, same_zeros s a.2 a.3, a.4 ∙ rw d)

module _ {w s o l : List ℕ} {p : Packet} {t : Term} {args : List Tree} (c : Checked w s o l p t args) where
  -- what is told, from any argument on that is reached
  pub told_forward : {r : Placed} {z z' : Table} {ns ns' : List ℕ} {v : ℕ} {k : Uses} → TranslateHad w s t r → ReadsHad s r.table p.arguments z ns
      → Reached (frames s) p.limit z r.node ns z' v ns' k → (i : ℕ) → i + length ns' ≡ length ns + 1
      → (y : List ℕ) × SameLength s y × (tell w s o l ≡ tell_applies i ns' p.limit z'.words z'.used y o v k)
  unfolding tell tell_packet tell_stages after_made_by placed
  told_forward {r} {z} {ns = ns} h g x i q =
      let f = empty_sound c.fit in
      let short = c.fit.stack in
      let b = translate_lays w 0 s p.rule t (record {
        entered = enter s f short refl;
        is_rule = c.is_rule;
        frames_enough = h.frames_enough;
        placed_as = r;
        nodes_enough = h.nodes_enough;
      }) in
      let a = reads_forward s short o g (lay_places f _ h.nodes_enough).fine (zeros s) (same_zeros s s refl)
      (λ ns w'' u'' s''. tell_applies 1 ns p.limit w'' u'' s'' o r.node no_uses) in
      let d = reached_forward s o x a.0 a.1 in
      let m : d.0 ≡ i = omega (arith, d.1) in
      (d.2, d.3, rw (fit_true c.fit, c.is_packet, nothing_lacks c, b) (a.3 ∙ rw m at d.4))

-- so many uses, where fewer lead to a state: what its turn leads to
pub uses_from : (all : ℕ) {m n : ℕ} (b : State) {y : State} → uses all m b ≡ more y → m < n → uses all n b ≡ after (uses all (n - m - 1)) (turn all y)
unfolding uses after
uses_from all {m} {n} b {y} e h =
    let q : m + suc (n - m - 1) ≡ n = omega arith in
    let a : uses all (m + suc (n - m - 1)) b ≡ after (uses all (n - m - 1)) (turn all y) = uses_add all m (suc (n - m - 1)) b ∙ rw e in
    rw q at a

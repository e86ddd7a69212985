-- What the checks that every operation begins with say of the table, and what a stopped call leaves. Assumes nothing.
use Prim.Native.Nat.{ℕ, ◌*◌, ◌≤◌}
use mathlib.Core.Path.{◌≡◌, refl, sym, ◌∙◌}
use mathlib.Core.Bool.{Bool, true, false, cond, ◌&&◌}
use mathlib.Core.List.{List}
use mathlib.Core.Option.{Option, none, some}
use native.Mathlib.Omega.{arith}
use lib.ListN.{length, get_or}
use lib.Seq.{ext_get_or}
use lib.Dec.{leb, ltb}
use borrow.Author.Tests.{leb-true, le-leb, ltb-true, ltb-false}
use Rattle.table.specs.Nodes.{Table, capacity, sound, cleared}
use Rattle.table.specs.Outcome.{Entered, fits, at_entry, unless, stopped}
use Rattle.table.specs.declared.Refusal.{Refusal}
use Rattle.table.specs.declared.Refusal.TheVariants.{Limits, Broken}
use Rattle.table.specs.Claims.{Kept, Extends, Undone, EntryLacks}
use Rattle.table.specs.Claims.EntryLacks.{too_long, is_broken}
use Rattle.table.specs.Refusal.{number, clears}
use Rattle.table.proofs.Once.{flawed, unsound}
use Rattle.table.proofs.Words.{zero_one, and_left, and_right, cleared_below, cleared_inside, cleared_beyond, length_cleared}

pub entered : (within : Bool) (w : List ℕ) (u : ℕ) (s : List ℕ) → at_entry within w u s ≡ none → Entered within w u s
unfolding at_entry fits
entered within w u s = go (within && fits w u s) (sound w u) refl refl
  where
    go : (a b : Bool) → (within && fits w u s) ≡ a → sound w u ≡ b → cond a (cond b none (some Broken)) (some Limits) ≡ none → Entered within w u s
    go true true p q e =
        let f = and_right within (fits w u s) p in
        let g = and_right (leb (length w) 131072) _ f in
        record {
          table = record {
            short = leb-true (length w) 131072 (and_left (leb (length w) 131072) _ f);
            within = leb-true u (capacity w) (and_right (leb (length s) 65536) _ g);
            unbroken = q;
          };
          stack = leb-true (length s) 65536 (and_left (leb (length s) 65536) _ g);
          limits_kept = and_left within (fits w u s) p;
        }
    go true false p q e = let n : ◌≡◌ {A = ℕ} 0 1 = cc in absurd (omega arith)
    go false b p q e = let n : ◌≡◌ {A = ℕ} 0 1 = cc in absurd (omega arith)

pub enters : {within : Bool} {w : List ℕ} {u : ℕ} {s : List ℕ} → Entered within w u s → at_entry within w u s ≡ none
unfolding at_entry fits
enters {within} {w} {u} {s} e =
    rw (e.limits_kept, le-leb (length w) 131072 e.table.short, le-leb (length s) 65536 e.stack, le-leb u (capacity w) e.table.within, e.table.unbroken)

-- What a check refuses, at entry or later, is the outcome of all that stands behind it; what it lets pass goes on.
module _ {A : Type 0} {c : Option Refusal} (refuse : Refusal → A) (next : A) where
  pub check_refuses : {e : Refusal} → some e ≡ c → refuse e ≡ unless c refuse next
  check_refuses q = rw (← q)

  pub check_passes : none ≡ c → next ≡ unless c refuse next
  check_passes q = rw (← q)

-- The words of the nodes made since the table was t are cleared, and `used` is as it was: all nodes of t are as they were.
pub stopped_kept : {t z : Table} → Kept t z → z.used ≤ capacity z.words → Kept t (record { words = cleared z.words (t.used * 2) (z.used * 2); used = t.used })
stopped_kept {t} {z} k h =
    record {
      up = omega arith;
      same_length = length_cleared z.words (t.used * 2) (z.used * 2) (omega (arith, k.up)) (omega arith) ∙ k.same_length;
      below = λ i l. cleared_below z.words (t.used * 2) (z.used * 2) i (omega (arith, k.up)) l ∙ k.below i l;
    }

-- the same where the table became full: all words from the first new node to the capacity
pub full_kept : (t : Table) → t.used ≤ capacity t.words → Kept t (record { words = cleared t.words (t.used * 2) (capacity t.words * 2); used = t.used })
full_kept t h =
    stopped_kept {z = record { words = t.words; used = capacity t.words }} (record { up = h; same_length = refl; below = λ i l. refl }) (omega arith)

-- the words of the nodes made since the table was t are cleared: of t's own words no other changes
pub cleared_back : {t z : Table} → Extends t z → z.used ≤ capacity z.words
    → cleared z.words (t.used * 2) (z.used * 2) ≡ cleared t.words (t.used * 2) (z.used * 2)
cleared_back {t} {z} x h = ext_get_or 0 (cleared z.words a b) (cleared t.words a b) ((stopped_kept x.kept h).same_length ∙ sym same) (λ i l. go i (ltb i a) (ltb i b) refl refl)
  where
    a : ℕ
    a = t.used * 2

    b : ℕ
    b = z.used * 2

    up : a ≤ b
    up = omega (arith, x.kept.up)

    long : b ≤ length z.words
    long = omega arith

    as_long : b ≤ length t.words
    as_long = omega (arith, x.kept.same_length)

    same : length (cleared t.words a b) ≡ length t.words
    same = length_cleared t.words a b up as_long

    go : (i : ℕ) (p q : Bool) → ltb i a ≡ p → ltb i b ≡ q → get_or (cleared z.words a b) i 0 ≡ get_or (cleared t.words a b) i 0
    go i true q d e =
        let l = ltb-true i a d in
        cleared_below z.words a b i (omega arith) l ∙ x.kept.below i l ∙ sym (cleared_below t.words a b i (omega arith) l)
    go i false true d e =
        let l = ltb-false i a d in
        let k = ltb-true i b e in
        cleared_inside z.words a b i l k long ∙ sym (cleared_inside t.words a b i l k as_long)
    go i false false d e =
        let k = ltb-false i b e in
        cleared_beyond z.words a b i up k long ∙ x.beyond i k ∙ sym (cleared_beyond t.words a b i up k as_long)

-- 1 comes before 2, each exactly on its condition, and both leave memory as found.
pub entry_lacks : (within : Bool) (w : List ℕ) (u : ℕ) (s : List ℕ) {e : Refusal} → at_entry within w u s ≡ some e → EntryLacks within w u s e
unfolding at_entry
entry_lacks within w u s {e} = go (within && fits w u s) (sound w u) refl refl
  where
    go : (a b : Bool) → (within && fits w u s) ≡ a → sound w u ≡ b → cond a (cond b none (some Broken)) (some Limits) ≡ some e → EntryLacks within w u s e
    go true true p q r = zero_one (cc)
    go true false p q r = let c : Broken ≡ e = cc in rw (← c) (is_broken p (flawed w u q))
    go false b p q r = let c : Limits ≡ e = cc in rw (← c) (too_long p)

pub lacks_entry : {within : Bool} {w : List ℕ} {u : ℕ} {s : List ℕ} {e : Refusal} → EntryLacks within w u s e → at_entry within w u s ≡ some e
unfolding at_entry
lacks_entry (too_long h) = rw h
lacks_entry {w = w} {u = u} (is_broken h k) = rw (h, unsound w u k)

pub entry_keeps : {within : Bool} {w : List ℕ} {u : ℕ} {s : List ℕ} {e : Refusal} → EntryLacks within w u s e → clears e ≡ false
unfolding clears number
entry_keeps (too_long h) = refl
entry_keeps (is_broken h k) = refl

pub stopped_undone : {A : Type 0} {t z : Table} → Extends t z → z.used ≤ capacity z.words → (a : A) (s : List ℕ) → Undone t z (stopped a z t.used s) s
unfolding stopped
stopped_undone {t = t} {z = z} x h a s =
    let k = stopped_kept x.kept h in
    record {
      same_length = k.same_length;
      made_cleared = λ i l m. cleared_inside z.words (t.used * 2) (z.used * 2) i l m (omega arith);
      below = k.below;
      beyond = λ i l. cleared_beyond z.words (t.used * 2) (z.used * 2) i (omega (arith, x.kept.up)) l (omega arith) ∙ x.beyond i l;
      stack = refl;
    }

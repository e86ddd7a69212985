-- What a stage of a packet's reader that is refused leaves of the table, and what the reader then leaves. Assumes nothing.
use Prim.Native.Nat.{ℕ, ◌-◌, ◌*◌, ◌≤◌, ◌<◌}
use mathlib.Core.Path.{◌≡◌, refl, sym, ◌∙◌}
use mathlib.Core.Bool.{Bool, true, false}
use mathlib.Core.List.{List, ◌∷◌}
use native.Mathlib.Omega.{arith}
use lib.ListN.{length, get_or}
use lib.Seq.{ext_get_or}
use lib.Dec.{ltb, leb}
use borrow.Author.Tests.{ltb-true, ltb-false}
use Rattle.calculus.specs.declared.Uses.{Uses}
use Rattle.calculus.specs.Uses.{◌⊕◌, steps}
use Rattle.table.specs.Nodes.{Table, Placed, capacity, Sound, cleared}
use Rattle.table.specs.Outcome.{Entered, frames, zeros, stopped}
use Rattle.table.specs.declared.Refusal.{Refusal}
use Rattle.table.specs.Claims.{Extends}
use Rattle.table.proofs.Words.{zero_one, cleared_none, length_cleared, cleared_inside, cleared_beyond}
use Rattle.applying.specs.Machine.{Turn, more, done, stop, uses}
use Rattle.applying.specs.States.{table_of}
use Rattle.applying.specs.Apply.{settle, begin, apply, not_applied}
use Rattle.applying.specs.Lacks.{Halts, ApplyLacks, of_entry, halts}
use Rattle.applying.proofs.States.{uses_later, uses_within}
use Rattle.applying.proofs.Cases.{Ways, refused, ran, ways, none_lacks, good_begin}
use Rattle.applying.proofs.Stops.{apply_lacks}
use Rattle.running.specs.Claims.{end_onwards, end_table, Reached, at_first, and_applied}

-- The words x that a refused stage leaves where it found the table t: the words of the nodes up to m, made by it, are 0, and all others as found.
pub record Back (t : Table) (m : ℕ) (x : List ℕ) : Type 0 where
  pub up : t.used ≤ m
  pub within : m ≤ capacity t.words
  pub words_are : x ≡ cleared t.words (t.used * 2) (m * 2)

-- 9 is met before a node is made: the words are as found
pub back_same : {t : Table} {x : List ℕ} → Sound t → x ≡ t.words → Back t t.used x
back_same {t} s e = record { up = omega arith; within = s.within; words_are = e ∙ sym (cleared_none t.words (t.used * 2)) }

-- on 8 the nodes made are all from the first new one to the capacity
pub back_full : {t : Table} {x : List ℕ} → Sound t → x ≡ cleared t.words (t.used * 2) (capacity t.words * 2) → Back t (capacity t.words) x
back_full s e = record { up = s.within; within = omega arith; words_are = e }

-- The reader found the words w with no node in use, and clears the nodes that t has: all nodes made since are cleared, and the rest is as found.
pub back_cleared : {w : List ℕ} {t : Table} {m : ℕ} {x : List ℕ} → Extends (record { words = w; used = 0 }) t → Back t m x
    → cleared x 0 (t.used * 2) ≡ cleared w 0 (m * 2)
back_cleared {w} {t} {m} {x} e b =
    rw b.words_are
    (ext_get_or 0 (cleared y 0 a) (cleared w 0 c) (p ∙ y_length ∙ e.kept.same_length ∙ sym q)
    (λ (i : ℕ) (h : i < length (cleared y 0 a)). go i (ltb i a) (ltb i c) refl refl))
  where
    a : ℕ
    a = t.used * 2

    c : ℕ
    c = m * 2

    y : List ℕ
    y = cleared t.words a c

    up : a ≤ c
    up = omega (arith, b.up)

    long : c ≤ length t.words
    long = omega (arith, b.within)

    y_length : length y ≡ length t.words
    y_length = length_cleared t.words a c up long

    within : a ≤ length y
    within = omega (arith, y_length, up, long)

    all_within : c ≤ length w
    all_within = omega (arith, e.kept.same_length, long)

    p : length (cleared y 0 a) ≡ length y
    p = length_cleared y 0 a (omega arith) within

    q : length (cleared w 0 c) ≡ length w
    q = length_cleared w 0 c (omega arith) all_within

    go : (i : ℕ) (f g : Bool) → ltb i a ≡ f → ltb i c ≡ g → get_or (cleared y 0 a) i 0 ≡ get_or (cleared w 0 c) i 0
    go i true g d f =
        let h = ltb-true i a d in
        cleared_inside y 0 a i (omega arith) h within ∙ sym (cleared_inside w 0 c i (omega arith) (omega (arith, up)) all_within)
    go i false true d f =
        let h = ltb-false i a d in
        let k = ltb-true i c f in
        cleared_beyond y 0 a i (omega arith) h within ∙ cleared_inside t.words a c i h k long ∙ sym (cleared_inside w 0 c i (omega arith) k all_within)
    go i false false d f =
        let h = ltb-false i a d in
        let k = ltb-false i c f in
        cleared_beyond y 0 a i (omega arith) h within
        ∙ cleared_beyond t.words a c i up k long
        ∙ e.beyond i h
        ∙ sym (cleared_beyond w 0 c i (omega arith) k all_within)

-- an application that passed its checks and is refused with e, having left the words x and the stack y
pub record Halted (w : List ℕ) (u : ℕ) (s : List ℕ) (f n limit : ℕ) (e : Refusal) (x y : List ℕ) : Type 0 where
  pub back : Back (record { words = w; used = u }) (table_of (uses (frames s) limit (begin w u f n))).used x
  pub stack : y ≡ zeros s
  pub halts : Halts (frames s) limit (begin w u f n) e

-- Apply is refused after its checks only at a use that lacks something, and then "the words of the nodes made in the call and the whole stack" are 0.
pub apply_halts : (w : List ℕ) (u : ℕ) (s : List ℕ) (f n limit : ℕ) (e : Refusal) → Entered (leb limit 1000000) w u s → f < u → n < u
    → (apply w u s f n limit).answer ≡ not_applied e → Halted w u s f n limit e (apply w u s f n limit).table (apply w u s f n limit).stack
apply_halts w u s f n limit e i h l q = go (apply_lacks w u s f n limit e q)
  where
    go : {x y : List ℕ} → ApplyLacks w u s f n limit e x y → Halted w u s f n limit e x y
    go (of_entry a) = absurd (none_lacks i h l a)
    go (halts j c d a) =
        record {
          back = record { up = (uses_later limit (good_begin i h l)).extends.kept.up; within = uses_within limit (good_begin i h l); words_are = refl };
          stack = refl;
          halts = a;
        }

-- one application and those after it: where it completes, they go on with its outcome; where it is refused, none follows
pub all_on : (all limit : ℕ) (t : Table) (v n : ℕ) (ns : List ℕ) {p : Placed} {j : Uses} → uses all limit (begin t.words t.used v n) ≡ done p j
    → end_table all limit t v (n ∷ ns) ≡ end_table all (limit - steps j) p.table p.node ns
unfolding end_table end_onwards
all_on all limit t v n ns e = rw e

-- wherever the applications have come to, they end in the same table
pub reached_ends : {all limit : ℕ} {z : Table} {v : ℕ} {ns : List ℕ} {z' : Table} {v' : ℕ} {ns' : List ℕ} {k : Uses} → Reached all limit z v ns z' v' ns' k
    → end_table all (limit - steps k) z' v' ns' ≡ end_table all limit z v ns
reached_ends {limit = limit} at_first = let m : limit - 0 ≡ limit = omega arith in rw m
reached_ends {all} {limit} (and_applied {z' = z'} {v' = v'} {n = n} {ns' = ns'} {k = k} {j = j} r e) =
    let less : limit - steps (k ⊕ j) ≡ limit - steps k - steps j = omega arith in
    rw less (sym (all_on all (limit - steps k) z' v' n ns' e) ∙ reached_ends r)

pub all_stop : (w : List ℕ) (u : ℕ) (s : List ℕ) (f n limit : ℕ) (e : Refusal) → Entered (leb limit 1000000) w u s → f < u → n < u
    → (apply w u s f n limit).answer ≡ not_applied e → (ns : List ℕ)
    → end_table (frames s) limit (record { words = w; used = u }) f (n ∷ ns) ≡ table_of (uses (frames s) limit (begin w u f n))
unfolding end_table end_onwards settle stopped
all_stop w u s f n limit e i h l q ns = go (ways w u s f n limit)
  where
    by : (x : Turn) → (settle u s x).answer ≡ not_applied e → end_onwards (λ p j. end_table (frames s) (limit - steps j) p.table p.node ns) x ≡ table_of x
    by (more z) r = refl
    by (done p j) r = zero_one (cc)
    by (stop c z) r = refl

    go : Ways w u s f n limit → end_table (frames s) limit (record { words = w; used = u }) f (n ∷ ns) ≡ table_of (uses (frames s) limit (begin w u f n))
    go (refused a r) = absurd (none_lacks i h l a)
    go (ran j c d r) = by (uses (frames s) limit (begin w u f n)) (rw r at q)

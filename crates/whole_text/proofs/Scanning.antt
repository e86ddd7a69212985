-- Laws of the scan of a text, one for each way that its code goes. Assumes nothing.
use Prim.Native.Nat.{ℕ, zero, suc, ◌+◌, ◌≤◌, ◌<◌, max}
use mathlib.Core.Path.{◌≡◌, refl, sym, ap, ◌∙◌}
use mathlib.Core.List.{List, [], ◌∷◌, ◌++◌}
use mathlib.Core.Option.{none, some}
use native.Mathlib.Numerals.{add-one}
use native.Mathlib.Omega.{arith}
use lib.ListN.{length, get_or, take, drop, take-append-drop}
use lib.Seq.{take-suc, take-length, length-take-le, drop-cons, drop-length}
use borrow.Author.Tests.{ne_eqb}
use Rattle.ternary.specs.Text.{tree_of}
use Rattle.ternary.specs.Wanted.{wanted_after, wanted_from, wanted, many_wanted, most_wanted, Fewest}
use Rattle.ternary.proofs.Wanted.{wanted_append, wanted_whole, wanted_broken, wanted_ends, most_wanted_lem, digits_within, fewest_exact}
use Rattle.std.specs.Prelude.{Some}
use Rattle.std.specs.Ordering.{nat_cmp, ord_max}
use Rattle.whole_text.specs.Code.{ScanSays}

-- any other byte is no digit
pub after_other : (c n : ℕ) → (c ≡ 48 → ⊥) → (c ≡ 49 → ⊥) → (c ≡ 50 → ⊥) → none ≡ wanted_after c (some n)
unfolding wanted_after
after_other c zero x y z = refl
after_other c (suc n) x y z = rw (ne_eqb c 48 x, ne_eqb c 49 y, ne_eqb c 50 z)

-- the code's larger of two numbers
max_is : (a b : ℕ) → ord_max nat_cmp a b ≡ max a b
max_is a b = grind arith

-- the state of the scan before digit i: n trees wanted, and the most before a digit so far
pub record Scans (l : List ℕ) (i n most : ℕ) : Type 0 where
  pub inside : i ≤ length l
  pub before : wanted (take i l) ≡ some n
  pub most_is : most_wanted (some 1) l ≡ max most (most_wanted (some n) (drop i l))

pub scan_start : (l : List ℕ) → Scans l 0 1 0
unfolding wanted wanted_from
scan_start l = record { inside = omega arith; before = refl; most_is = omega arith }

module _ {l : List ℕ} {i n most : ℕ} (s : Scans l i n most) where
  -- "After any beginning that can still become whole" ([7]) the scan's number is the fewest digits that complete it.
  pub scan_fewest : Fewest (take i l) n
  scan_fewest = (fewest_exact (take i l) n).0 s.before

  -- no more trees are wanted than one and one for each digit
  pub scan_few : n ≤ i + 1
  unfolding wanted
  scan_few = omega (arith, (digits_within (take i l) 1 n s.before).1, length-take-le i l s.inside)

  module _ (h : i < length l) where
    pub scan_digit : (m most' : ℕ) → some m ≡ wanted_after (get_or l i 0) (some n) → most' ≡ ord_max nat_cmp most n → Scans l (i + 1) m most'
    unfolding wanted wanted_from many_wanted most_wanted
    scan_digit m most' e b =
        let k : most_wanted (some n) (drop i l) ≡ max n (most_wanted (some m) (drop (i + 1) l)) = rw (drop-cons l i 0 h, e, add-one i) in
        record {
          inside = omega arith;
          before = rw (add-one i, take-suc l i 0 h) (wanted_append (some 1) (take i l) (get_or l i 0 ∷ []) ∙ rw s.before (sym e));
          most_is = omega (arith, s.most_is, max_is most n);
        }

    pub scan_broken : none ≡ wanted_after (get_or l i 0) (some n) → tree_of l ≡ none
    scan_broken e =
        let k : take i l ++ (get_or l i 0 ∷ drop (suc i) l) ≡ l = rw (← drop-cons l i 0 h) (take-append-drop i l) in
        ap tree_of (sym k) ∙ wanted_ends (take i l) (get_or l i 0) (drop (suc i) l) (rw s.before (sym e))

  -- all digits are taken
  module _ (h : length l ≤ i) where
    ended : (wanted l ≡ some n) × (most_wanted (some 1) l ≡ most)
    unfolding most_wanted
    ended =
        let q : i ≡ length l = omega (arith, s.inside) in
        let d : drop i l ≡ [] = rw (q, drop-length l) in
        (ap wanted (sym (rw (q, take-length l))) ∙ s.before, s.most_is ∙ rw d (omega arith))

    pub scan_whole : n ≡ 0 → ScanSays l (Some most)
    unfolding ScanSays
    scan_whole e = let w = (wanted_whole l).0 (ended.0 ∙ ap some e) in (w.0, w.1, sym (most_wanted_lem l w.0 w.1 ∙ ended.1))

    pub scan_wants : (n ≡ 0 → ⊥) → tree_of l ≡ none
    scan_wants z = wanted_broken l (λ q. z (cc ended.0))

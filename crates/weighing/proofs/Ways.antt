-- Laws of digits taken highest first, and of the answers, one for each way that the code goes. Assumes nothing.
use Prim.Native.Nat.{ℕ, zero, suc, ◌+◌, ◌-◌, ◌*◌, ◌≤◌, ◌<◌}
use mathlib.Core.Path.{◌≡◌, refl, sym, ap, ◌∙◌}
use mathlib.Core.Bool.{true}
use mathlib.Core.List.{List, [], ◌∷◌, ◌++◌, reverse}
use mathlib.Core.Option.{Option as maybe, none, some}
use native.Mathlib.Omega.{arith}
use lib.ListN.{length, get_or, drop, drop_of_length-le}
use borrow.Author.Tests.{lt-ltb, le-ltb}
use Rattle.std.specs.Prelude.{Option, Some, None, Result, Ok, Err, ok_or}
use Rattle.std.specs.Ordering.{ordering_then, nat_cmp}
use Rattle.std.specs.declared.cmp.Ordering.{Ordering}
use Rattle.std.specs.declared.cmp.Ordering.TheVariants.{Less, Equal, Greater}
use Rattle.std.specs.Cmp.Lexicographic.{slice_cmp}
use Rattle.std.specs.Result.{IsErrAnd}
use Rattle.std.proofs.lemmas.Result.{err_from_is_err_and}
use Rattle.std.proofs.lemmas.List.{length-reverse, reverse-append}
use Rattle.table.specs.Nodes.{tree_at}
use Rattle.table.specs.Branches.{InUse}
use Rattle.table.specs.Outcome.{at_entry}
use Rattle.table.specs.declared.Refusal.{Refusal}
use Rattle.table.specs.declared.Refusal.TheVariants.{Node, Weight}
use Rattle.table.proofs.Lists.{from_place}
use Rattle.table.proofs.Entry.{entered}
use Rattle.weights.specs.Digits.{grams_of, digits_of_weight, compare_digits}
use Rattle.weights.specs.Weights.{weigh, grams, compare_both, compare_weights}
use Rattle.weights.specs.Claims.{Decimal}
use Rattle.weights.specs.declared.Digits.{Digits}
use Rattle.weights.proofs.Weights.{grams_top}
use Rattle.weights.proofs.Outcomes.{out_of_use}
use Rattle.weight_digits.specs.Code.{digits_by}

-- the number of the digits from place i on
grams_most : (i : ℕ) (l : List ℕ) → grams_of (drop i l) ≤ grams_of l
unfolding grams_of
grams_most zero l = omega arith
grams_most (suc i) [] = omega arith
grams_most (suc i) (d ∷ l) = omega (arith, grams_most i l)

module _ (l : List ℕ) (n : length l ≡ 9) (d : Decimal l) where
  pub grams_none : 0 ≡ grams_of (drop 9 l)
  unfolding grams_of
  grams_none = rw (drop_of_length-le l (let k : length l ≤ 9 = omega arith in k))

  pub grams_part : (i : ℕ) → grams_of (drop i l) ≤ 999999999
  grams_part i = omega (arith, grams_most i l, grams_top (record { nine = n; decimal = d }))

  pub grams_from : (i : ℕ) → 0 < i → i ≤ 9 → {t : ℕ} → t ≡ grams_of (drop i l) → t * 10 + get_or l (i - 1) 0 ≡ grams_of (drop (i - 1) l)
  unfolding grams_of
  grams_from i h k e =
      let z : i - 1 + 1 ≡ i = omega arith in
      rw (e, from_place l (i - 1) 0 (omega arith), z) (omega arith)

-- lists of equal lengths, lowest digit first, are compared as the library compares them from the end
then_equal : (o : Ordering) → ordering_then o Equal ≡ o
then_equal Less = refl
then_equal Equal = refl
then_equal Greater = refl

then_then : (o p q : Ordering) → ordering_then o (ordering_then p q) ≡ ordering_then (ordering_then o p) q
then_then Less p q = refl
then_then Equal p q = refl
then_then Greater p q = refl

last_decides : (xs ys : List ℕ) (x y : ℕ) → length xs ≡ length ys → slice_cmp nat_cmp (xs ++ (x ∷ [])) (ys ++ (y ∷ [])) ≡ ordering_then (slice_cmp nat_cmp xs ys) (nat_cmp x y)
last_decides [] [] x y e = then_equal (nat_cmp x y)
last_decides [] (b ∷ ys) x y e = absurd (omega arith)
last_decides (a ∷ xs) [] x y e = absurd (omega arith)
last_decides (a ∷ xs) (b ∷ ys) x y e = rw (last_decides xs ys x y (omega arith)) (then_then (nat_cmp a b) (slice_cmp nat_cmp xs ys) (nat_cmp x y))

pub from_the_end : (xs ys : List ℕ) → length xs ≡ length ys → slice_cmp nat_cmp (reverse xs) (reverse ys) ≡ compare_digits xs ys
unfolding compare_digits
from_the_end [] [] e = refl
from_the_end [] (y ∷ ys) e = absurd (omega arith)
from_the_end (x ∷ xs) [] e = absurd (omega arith)
from_the_end (x ∷ xs) (y ∷ ys) e =
    rw (
      reverse-append (x ∷ []) xs,
      reverse-append (y ∷ []) ys,
      last_decides (reverse xs) (reverse ys) x y (omega (arith, length-reverse xs, length-reverse ys)),
      from_the_end xs ys (omega arith),
    )

-- what a `?` returns
pub failed : {A : Type 0} {r : Result A Refusal} {e : Refusal} → IsErrAnd r (λ y. y ≡ e) → r ≡ Err e
failed {r = r} h = let x = err_from_is_err_and r h in x.1 ∙ ap Err x.2

-- what the digits that are read say of the answer
pub weigh_none : (r : Option Digits) {e : Refusal} → Err e ≡ ok_or r Weight → Err e ≡ weigh (digits_by r)
unfolding weigh
weigh_none None q = ap Err (cc)
weigh_none (Some d) q = cc

pub weigh_some : (r : Option Digits) {d : Digits} → Ok d ≡ ok_or r Weight → Ok (grams_of d.digits) ≡ weigh (digits_by r)
unfolding weigh
weigh_some None q = cc
weigh_some (Some x) {d} q = let e : d ≡ x = cc in rw e

pub compare_no_first : (r : Option Digits) (o : maybe (List ℕ)) {e : Refusal} → Err e ≡ ok_or r Weight → Err e ≡ compare_both (digits_by r) o
unfolding compare_both
compare_no_first None o q = ap Err (cc)
compare_no_first (Some d) o q = cc

pub compare_no_second : (r s : Option Digits) {d : Digits} {e : Refusal} → Ok d ≡ ok_or r Weight → Err e ≡ ok_or s Weight → Err e ≡ compare_both (digits_by r) (digits_by s)
unfolding compare_both
compare_no_second None s p q = cc
compare_no_second (Some d) None p q = ap Err (cc)
compare_no_second (Some d) (Some x) p q = cc

pub compare_some : (r s : Option Digits) {d x : Digits} → Ok d ≡ ok_or r Weight → Ok x ≡ ok_or s Weight → Ok (compare_digits d.digits x.digits) ≡ compare_both (digits_by r) (digits_by s)
unfolding compare_both
compare_some None s p q = cc
compare_some (Some y) None p q = cc
compare_some (Some y) (Some z) {d} {x} p q = let e : d ≡ y = cc in let f : x ≡ z = cc in rw (e, f)

-- where neither 1 nor 2 is met
pub entered_in : {w : List ℕ} {u v : ℕ} → at_entry true w u [] ≡ none → v < u → InUse w v
entered_in {w} {u} q h = record { used = u; fine = (entered true w u [] q).table; inside = h }

module _ (w : List ℕ) (u : ℕ) where
  pub grams_refused : (v : ℕ) {e : Refusal} → some e ≡ at_entry true w u [] → Err e ≡ grams w u v
  unfolding grams
  grams_refused v q = rw (← q)

  pub compare_refused : (a b : ℕ) {e : Refusal} → some e ≡ at_entry true w u [] → Err e ≡ compare_weights w u a b
  unfolding compare_weights
  compare_refused a b q = rw (← q)

  module _ (q : none ≡ at_entry true w u []) where
    pub grams_no_node : {v : ℕ} → u ≤ v → Err Node ≡ grams w u v
    unfolding grams
    grams_no_node {v} h = rw (← q, le-ltb v u h)

    pub grams_in : {v : ℕ} → v < u → {o : maybe (List ℕ)} → (InUse w v → o ≡ digits_of_weight (tree_at w v)) → weigh o ≡ grams w u v
    unfolding grams
    grams_in {v} h e = rw (← q, lt-ltb v u h, ← e (entered_in (sym q) h))

    pub compare_no_node : {a b : ℕ} → (a < u → b < u → ⊥) → Err Node ≡ compare_weights w u a b
    unfolding compare_weights
    compare_no_node n = rw (← q, out_of_use n)

    pub compare_in : {a b : ℕ} → a < u → b < u → {o p : maybe (List ℕ)} → (InUse w a → o ≡ digits_of_weight (tree_at w a)) → (InUse w b → p ≡ digits_of_weight (tree_at w b))
        → compare_both o p ≡ compare_weights w u a b
    unfolding compare_weights
    compare_in {a} {b} h k e f = rw (← q, lt-ltb a u h, lt-ltb b u k, ← e (entered_in (sym q) h), ← f (entered_in (sym q) k))

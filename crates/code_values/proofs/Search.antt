-- The search in the table of values. Assumes nothing.
use Prim.Native.Nat.{ℕ, ◌+◌, ◌-◌, ◌≤◌, ◌<◌}
use mathlib.Core.Path.{◌≡◌, refl, sym, ap}
use mathlib.Core.Bool.{true, false}
use mathlib.Core.List.{List}
use mathlib.Core.Logic.{inl, inr}
use native.Mathlib.Omega.{arith}
use lib.ListN.{get_or, length}
use lib.Dec.{leb}
use borrow.Author.Tests.{leb-true, leb-false}
use Rattle.std.specs.List.Sorted.{IsPartitionedBy, IsPartitionPoint}
use Rattle.std.proofs.lemmas.Bool.{cases_lt}
use Rattle.std.proofs.lemmas.List.Sorted.{IsPartitionedBy-leb, IsNonDecreasingBy-from_default}
use Rattle.table.proofs.Ascending.{place_below}
use Rattle.short_codes.specs.Values.{value_after, values_from, values_to, values}
use Rattle.short_codes.specs.Claims.{HoldsValues}
use Rattle.short_codes.proofs.Holding.{one_table}
use Rattle.code_values.specs.Code.{PlaceFor}

first_value : get_or values 0 0 ≡ 0
unfolding values values_to values_from value_after
first_value = refl

module _ (v : ℕ) (l : List ℕ) (h : HoldsValues l) where
  rises : (i j : ℕ) → i ≤ j → j < length l → get_or l i 0 ≤ get_or l j 0
  rises i j a b = elim (cases_lt i j) [
    | inl under ↦ omega (arith, place_below h.ascending i j under b)
    | inr over ↦ let e : i ≡ j = omega arith in rw e (omega arith)
  ]

  -- the values that are at most v come first
  pub parted : IsPartitionedBy (λ y. leb y v) l
  parted = IsPartitionedBy-leb (λ x. x) l v (IsNonDecreasingBy-from_default (λ x. x) l 0 rises)

  module _ (n : ℕ) (bound : n ≤ length l) (point : IsPartitionPoint (λ y. leb y v ≡ true) (λ y. leb y v ≡ false) l n) where
    above : (i : ℕ) → n ≤ i → i < length l → v < get_or l i 0
    above i a b = leb-false (get_or l i 0) v (point.1 i 0 a b)

    -- the first value is 0, so one value at least is at most v
    pub some : 1 ≤ n
    some = elim (cases_lt 0 n) [
      | inl under ↦ omega arith
      | inr over ↦ absurd (omega (arith, above 0 over (omega (arith, h.many)), first_value, ap (λ (m : List ℕ). get_or m 0 0) (one_table l h)))
    ]

    pub place : PlaceFor v (n - 1)
    place =
        let e : n - 1 + 1 ≡ n = omega (arith, some) in
        record {
          inside = omega (arith, some, h.many);
          at_most = rw (sym (one_table l h)) (leb-true (get_or l (n - 1) 0) v (point.0 (n - 1) 0 (omega arith) (omega (arith, some))));
          next_above = λ k. rw (e, sym (one_table l h)) (above n (omega arith) (omega (arith, h.many)));
        }

-- The outcome of generating a load, by its conditions. Assumes nothing.
use Prim.Native.Nat.{ℕ, ◌≤◌, ◌<◌}
use mathlib.Core.Path.{◌≡◌, refl, sym, ap, subst, ◌∙◌}
use mathlib.Core.Bool.{Bool, true, false}
use mathlib.Core.List.{List, [], ◌++◌}
use mathlib.Core.Logic.{◌↔◌}
use native.Mathlib.Omega.{arith}
use lib.ListN.{length, drop}
use lib.Dec.{leb}
use borrow.Author.Tests.{leb-true, leb-false, le-leb, lt-leb}
use Rattle.std.specs.Prelude.{Err, Ok}
use Rattle.table.specs.Outcome.{Outcome, whole_out, into_out}
use Rattle.table.specs.declared.Refusal.TheVariants.{Out}
use Rattle.loads.specs.Loads.{digits_from, first_drawing, load, generate}
use Rattle.loads.specs.Claims.{IsCount, Generates}
use Rattle.loads.specs.Claims.Generates.{empty, no_room, written}
use Rattle.loads.proofs.Loads.{count_case, load_inside, load_outside, load_many, load_draws, draws_load}
use Rattle.ternary.specs.Write.{Written}

module _ (seed n : ℕ) (out : List ℕ) where
  -- one law for each way that an answer is given
  pub generate_empty : (IsCount n → ⊥) → generate seed n out ≡ whole_out (Ok 0) [] [] out
  unfolding generate into_out
  generate_empty h = rw (load_outside seed n h, le-leb 0 (length out) (omega arith))

  pub generate_short : IsCount n → length out < n → generate seed n out ≡ whole_out (Err Out) [] [] out
  unfolding generate into_out
  generate_short k h = rw (load_many seed n k, lt-leb n (length out) h)

  pub generate_written : IsCount n → n ≤ length out → generate seed n out ≡ whole_out (Ok n) [] [] (load seed n ++ drop n out)
  unfolding generate into_out
  generate_written k h = rw (load_many seed n k, le-leb n (length out) h)

  -- the same with the digits written one by one
  pub generate_digits : {out' : List ℕ} → IsCount n → n ≤ length out → out' ≡ digits_from n (first_drawing seed) ++ drop n out → whole_out (Ok n) [] [] out' ≡ generate seed n out
  generate_digits k h e = ap (λ (l : List ℕ). whole_out (Ok n) [] [] l) (e ∙ ap (λ (l : List ℕ). l ++ drop n out) (sym (load_inside seed n k))) ∙ sym (generate_written k h)

  generate_case : Generates seed n out (generate seed n out)
  generate_case = go (count_case n) (leb n (length out)) refl
    where
      go : Dec (IsCount n) → (z : Bool) → leb n (length out) ≡ z → Generates seed n out (generate seed n out)
      go (no h) z q = empty h (generate_empty h)
      go (yes k) false q = let h : length out < n = leb-false n (length out) q in no_room k h (generate_short k h)
      go (yes k) true q = let h : n ≤ length out = leb-true n (length out) q in written k h (load_draws seed n k) (generate_written k h)

  -- Each outcome comes exactly on its condition: the empty load for n outside 1 to 4,095, then 10, then the load with the bytes past it as they were.
  pub generate_exactly : (o : Outcome Written) → (generate seed n out ≡ o) ↔ Generates seed n out o
  generate_exactly o = (λ e. subst (Generates seed n out) e generate_case, only)
    where
      only : Generates seed n out o → generate seed n out ≡ o
      only (empty h e) = generate_empty h ∙ sym e
      only (no_room k h e) = generate_short k h ∙ sym e
      only (written k h {l} x e) = generate_written k h ∙ ap (λ (m : List ℕ). whole_out (Ok n) [] [] (m ++ drop n out)) (draws_load seed n k l x) ∙ sym e

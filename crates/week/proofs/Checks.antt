-- 13 exactly on a broken week, day or minute, before all else. Assumes nothing.
use Prim.Native.Nat.{ℕ}
use mathlib.Core.Path.{◌≡◌, refl, subst}
use mathlib.Core.Bool.{Bool, true, false, cond, ◌&&◌}
use mathlib.Core.List.{List}
use mathlib.Core.Logic.{◌↔◌}
use mathlib.Core.Option.{Option, none, some}
use native.Mathlib.Omega.{arith}
use lib.Dec.{leb}
use borrow.Author.Tests.{leb-true, leb-false, le-leb}
use Rattle.std.specs.Prelude.{Err}
use Rattle.table.specs.declared.Refusal.TheVariants.{Week}
use Rattle.table.specs.Refusal.{Given, given_by}
use Rattle.table.proofs.Words.{and_left, and_right, told_apart, zero_one}
use Rattle.week.specs.declared.Window.{Window}
use Rattle.week.specs.Weeks.{is_week, passes, checked}
use Rattle.week.specs.Claims.{ValidInput, BrokenInput, the_week, the_day, the_minute, Answers, passed, refused}
use Rattle.week.proofs.Days.{week_exactly}

module _ (week : List (List Window)) (day minute : ℕ) where
  pub valid : passes week day minute ≡ true → ValidInput week day minute
  unfolding passes
  valid e =
      let f : (leb minute 1439 && is_week week) ≡ true = and_right (leb day 6) _ e in
      record {
        week_is = (week_exactly week).0 (and_right (leb minute 1439) _ f);
        day_is = leb-true _ _ (and_left (leb day 6) _ e);
        minute_is = leb-true _ _ (and_left (leb minute 1439) _ f);
      }

  passing : ValidInput week day minute → passes week day minute ≡ true
  unfolding passes
  passing a = rw (le-leb _ _ a.day_is, le-leb _ _ a.minute_is, (week_exactly week).1 a.week_is)

  breaks : BrokenInput week day minute → ValidInput week day minute → ⊥
  breaks (the_week n) a = n a.week_is
  breaks (the_day h) a = omega (arith, a.day_is)
  breaks (the_minute h) a = omega (arith, a.minute_is)

  broken : passes week day minute ≡ false → BrokenInput week day minute
  unfolding passes
  broken = go (leb day 6) (leb minute 1439) (is_week week) refl refl refl
    where
      go : (x y z : Bool) → leb day 6 ≡ x → leb minute 1439 ≡ y → is_week week ≡ z → (x && (y && z)) ≡ false → BrokenInput week day minute
      go false y z p q r e = the_day (leb-false _ _ p)
      go true false z p q r e = the_minute (leb-false _ _ q)
      go true true false p q r e = the_week (λ w. told_apart ((week_exactly week).1 w) r)
      go true true true p q r e = told_apart refl e

  not_passed : BrokenInput week day minute → passes week day minute ≡ false
  not_passed b = go (passes week day minute) refl
    where
      go : (z : Bool) → passes week day minute ≡ z → z ≡ false
      go false p = refl
      go true p = absurd (breaks b (valid p))

  -- "Checks: 13, a broken week, day or minute, before all else." ([6]): what is answered, given what is answered where they pass
  pub answers_exactly : (o : Option ℕ) (Otherwise : Given → Type 0) → (ValidInput week day minute → (a : Given) → (given_by o ≡ a) ↔ Otherwise a)
      → (a : Given) → (checked week day minute o ≡ a) ↔ Answers week day minute Otherwise a
  unfolding checked
  answers_exactly o Otherwise exactly a = (λ e. subst (Answers week day minute Otherwise) e (go (passes week day minute) refl), back)
    where
      go : (z : Bool) → passes week day minute ≡ z → Answers week day minute Otherwise (cond z (given_by o) (Err Week))
      go true p = let k = valid p in passed k ((exactly k (given_by o)).0 refl)
      go false p = refused (broken p)

      back : {b : Given} → Answers week day minute Otherwise b → cond (passes week day minute) (given_by o) (Err Week) ≡ b
      back (passed k q) = rw (passing k) ((exactly k _).1 q)
      back (refused q) = rw (not_passed q)

  -- 13 exactly on a broken week, day or minute
  pub refused_exactly : (o : Option ℕ) → (checked week day minute o ≡ Err Week) ↔ BrokenInput week day minute
  unfolding checked given_by
  refused_exactly o = (go (passes week day minute) refl o, λ b. rw (not_passed b))
    where
      go : (z : Bool) → passes week day minute ≡ z → (x : Option ℕ) → cond z (given_by x) (Err Week) ≡ Err Week → BrokenInput week day minute
      go false p x e = broken p
      go true p none e = zero_one (cc)
      go true p (some n) e = zero_one (cc)

  -- an answer that is no refusal is given on valid input
  pub answered : {Otherwise : Given → Type 0} {a : Given} → (a ≡ Err Week → ⊥) → Answers week day minute Otherwise a → ValidInput week day minute × Otherwise a
  answered n (passed k x) = (k, x)
  answered n (refused b) = absurd (n refl)

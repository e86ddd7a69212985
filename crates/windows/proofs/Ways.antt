-- Laws of the two answers, one for each way that their code goes. Assumes nothing.
use Prim.Native.Nat.{ℕ, ◌+◌, ◌-◌, ◌*◌, ◌%◌, ◌≤◌, ◌<◌}
use mathlib.Core.Path.{◌≡◌, refl, sym, ap, ◌∙◌}
use mathlib.Core.Bool.{true, false}
use mathlib.Core.List.{List, []}
use mathlib.Core.Option.{none, some}
use mathlib.Core.Option as math
use native.Mathlib.Omega.{arith}
use lib.ListN.{get_or}
use Rattle.std.specs.Prelude.{Option, Some, None, Ok, Err}
use Rattle.table.specs.declared.Refusal.TheVariants.{Week}
use Rattle.table.specs.Refusal.{given_by}
use Rattle.week.specs.declared.Window.{Window}
use Rattle.week.specs.Weeks.{passes, checked, packet_at, window_at, next_window}
use Rattle.week.specs.Claims.{ValidInput}
use Rattle.table.proofs.Lists.{any_default}
use Rattle.week.proofs.Checks.{valid}
use Rattle.windows.specs.Code.{found_of, first_from}
use Rattle.windows.proofs.Ahead.{NoneWithin, none_next, found, reaches}

-- what was found, as a definition gives it
some_found : (r : Option ℕ) {o : math.Option ℕ} {n : ℕ} → found_of r ≡ o → r ≡ Some n → o ≡ some n
unfolding found_of
some_found r p q = sym p ∙ ap found_of q

none_found : (r : Option ℕ) {o : math.Option ℕ} → found_of r ≡ o → r ≡ None → o ≡ none
unfolding found_of
none_found r p q = sym p ∙ ap found_of q

as_answer : (r : Option ℕ) → Ok r ≡ given_by (found_of r)
unfolding given_by found_of
as_answer (Some n) = refl
as_answer None = refl

module _ (week : List (List Window)) (day minute : ℕ) where
  pub refused_first : passes week day minute ≡ false → (o : math.Option ℕ) → Err Week ≡ checked week day minute o
  unfolding checked
  refused_first e o = rw e

  module _ (e : passes week day minute ≡ true) where
    abbrev input : ValidInput week day minute
    input = valid week day minute e

    pub day_below : day < 7
    day_below = let h = input.day_is in omega arith

    pub minute_below : minute < 1440
    minute_below = let h = input.minute_is in omega arith

    -- day d of the seven
    same_day : (d : ℕ) → d < 7 → (z : List Window) → get_or week d z ≡ get_or week d []
    same_day d h z = let l = input.week_is.seven in any_default week d z [] (omega arith)

    pub at_packet : (z : List Window) (r : Option ℕ) → found_of r ≡ packet_at minute (get_or week day z) → Ok r ≡ window_at week day minute
    unfolding window_at checked
    at_packet z r p = rw e (as_answer r ∙ ap given_by (p ∙ ap (packet_at minute) (same_day day day_below z)))

    -- k days ahead
    module _ (k from : ℕ) (p : NoneWithin week day minute k) (f : from ≡ minute - k * 1440) (z : List Window) (r : Option ℕ)
        (q : found_of r ≡ first_from from (get_or week ((day + k) % 7) z)) where
      searched : found_of r ≡ first_from (minute - k * 1440) (get_or week ((day + k) % 7) [])
      searched = q ∙ ap (λ (n : ℕ). first_from n (get_or week ((day + k) % 7) z)) f ∙ ap (first_from (minute - k * 1440)) (same_day ((day + k) % 7) (omega arith) z)

      first_is : {b : ℕ} → r ≡ Some b → first_from (minute - k * 1440) (get_or week ((day + k) % 7) []) ≡ some b
      first_is t = some_found r searched t

      pub found_ahead : {b : ℕ} → k < 8 → r ≡ Some b → Ok (Some (k * 1440 + b - minute)) ≡ next_window week day minute
      found_ahead {b} h t = found week day minute input k p b h (first_is t)

      -- what is found is on its day, and not past
      pub reached_ahead : {b : ℕ} → r ≡ Some b → (minute ≤ k * 1440 + b) × (b < 1440)
      reached_ahead {b} t = reaches week day minute input k p b (first_is t)

      pub none_ahead_of : r ≡ None → NoneWithin week day minute (k + 1)
      none_ahead_of t = none_next week day minute input k p (none_found r searched t)

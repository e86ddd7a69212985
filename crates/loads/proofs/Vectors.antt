-- Worked examples: what is drawn, which digits are allowed, whole loads, and the borders of n and of the output. Assumes nothing.
use Prim.Native.Nat.{ℕ}
use mathlib.Core.Path.{◌≡◌, refl}
use mathlib.Core.Bool.{true, false}
use mathlib.Core.List.{[], ◌∷◌, map}
use mathlib.Core.Option.{none, some}
use lib.ListN.{replicate}
use Rattle.std.specs.Prelude.{Err, Ok}
use Rattle.table.specs.Outcome.{whole_out, into_out}
use Rattle.table.specs.Refusal.{number}
use Rattle.table.specs.declared.Refusal.TheVariants.{Out}
use Rattle.ternary.specs.Wanted.{wanted_after}
use Rattle.loads.specs.Loads.{next_state, drawn, can_end, those, three_digits, allowed, pick, digit_at, next_drawing, digits_from, first_drawing, is_count, load, generate, generated_numbers}
use Rattle.loads.specs.Claims.{state_after}

-- the states after one to four draws from the seed 0, and the numbers that these draw: each state is kept to 32 bits
pub draws : (map (λ (k : ℕ). state_after k 0) (1 ∷ 2 ∷ 3 ∷ 4 ∷ []) ≡ 1013904223 ∷ 1196435762 ∷ 3519870697 ∷ 2868466484 ∷ [])
    × (map (λ (k : ℕ). drawn (state_after k 0)) (0 ∷ 1 ∷ 2 ∷ 3 ∷ []) ≡ 15470 ∷ 18256 ∷ 53708 ∷ 43769 ∷ [])
unfolding state_after next_state drawn
draws = (refl, refl)

-- With one tree wanted a leaf is allowed at the last place alone, a stem before it, a fork where two digits follow; with two wanted and one digit left only
-- a leaf is.
pub allowed_there : (map (λ (left : ℕ). allowed left (some 1)) (0 ∷ 1 ∷ 2 ∷ []) ≡ (48 ∷ []) ∷ (49 ∷ []) ∷ (49 ∷ 50 ∷ []) ∷ [])
    × (map (λ (left : ℕ). allowed left (some 2)) (0 ∷ 1 ∷ 2 ∷ 3 ∷ []) ≡ [] ∷ (48 ∷ []) ∷ (48 ∷ 49 ∷ []) ∷ (48 ∷ 49 ∷ 50 ∷ []) ∷ [])
    × (map (λ (left : ℕ). allowed left none) (0 ∷ 1 ∷ []) ≡ [] ∷ [] ∷ [])
unfolding allowed those three_digits can_end wanted_after
allowed_there = (refl, refl, refl)

-- loads of 1, 2, 3 and 8 digits from the seed 0: 0, 10, 110, 11120110
pub from_zero : map (load 0) (1 ∷ 2 ∷ 3 ∷ 8 ∷ [])
    ≡ (48 ∷ []) ∷ (49 ∷ 48 ∷ []) ∷ (49 ∷ 49 ∷ 48 ∷ []) ∷ (49 ∷ 49 ∷ 49 ∷ 50 ∷ 48 ∷ 49 ∷ 49 ∷ 48 ∷ []) ∷ []
unfolding load is_count digits_from first_drawing next_drawing digit_at pick allowed those three_digits can_end wanted_after drawn next_state
from_zero = refl

-- of 12 digits from the seeds 1 and 4,294,967,295: 111201111200 and 220022200100
pub of_twelve : map (λ (seed : ℕ). load seed 12) (1 ∷ 4294967295 ∷ [])
    ≡ (49 ∷ 49 ∷ 49 ∷ 50 ∷ 48 ∷ 49 ∷ 49 ∷ 49 ∷ 49 ∷ 50 ∷ 48 ∷ 48 ∷ []) ∷ (50 ∷ 50 ∷ 48 ∷ 48 ∷ 50 ∷ 50 ∷ 50 ∷ 48 ∷ 48 ∷ 49 ∷ 48 ∷ 48 ∷ []) ∷ []
unfolding load is_count digits_from first_drawing next_drawing digit_at pick allowed those three_digits can_end wanted_after drawn next_state
of_twelve = refl

-- "draws once a digit" ([10]), also where only one is allowed, as at both digits of 10: two draws are made
pub two_draws : next_drawing 0 (next_drawing 1 (first_drawing 0)) ≡ record { state = 1196435762; wanted = some 0 }
unfolding next_drawing digit_at first_drawing pick allowed those three_digits can_end wanted_after drawn next_state
two_draws = refl

-- "For any n outside, the load is empty, whatever the output. Otherwise an output shorter than n gives 10 and stays as it was." ([10]): 0 and 4,096 digits
-- into one byte and into none, 2 into one, 5 into seven
pub outcomes : (generate 0 0 (7 ∷ []) ≡ whole_out (Ok 0) [] [] (7 ∷ [])) × (generate 0 4096 [] ≡ whole_out (Ok 0) [] [] [])
    × (generate 0 2 (7 ∷ []) ≡ whole_out (Err Out) [] [] (7 ∷ []))
    × (generate 4294967295 5 (replicate 7 7) ≡ whole_out (Ok 5) [] [] (50 ∷ 50 ∷ 48 ∷ 48 ∷ 48 ∷ 7 ∷ 7 ∷ []))
unfolding generate into_out load is_count digits_from first_drawing next_drawing digit_at pick allowed those three_digits can_end wanted_after drawn next_state
outcomes = (refl, refl, refl, refl)

-- 4,095 is the last number of digits, and 4,096 is outside
pub borders : map is_count (0 ∷ 1 ∷ 4095 ∷ 4096 ∷ []) ≡ false ∷ true ∷ true ∷ false ∷ []
unfolding is_count
borders = refl

-- the numbers of an answer: the refusal, and the digits written
pub answers : map generated_numbers (Ok 12 ∷ Ok 0 ∷ Err Out ∷ []) ≡ (0 ∷ 12 ∷ []) ∷ (0 ∷ 0 ∷ []) ∷ (10 ∷ 0 ∷ []) ∷ []
unfolding generated_numbers number
answers = refl

-- Loads ([10]): what is drawn from a seed, the digits allowed, the digits of a load, and the whole outcome of generating one. Assumes nothing:
-- these are definitions.
use Rattle.std.specs.Prelude.{ℕ, zero, suc, ◌+◌, ◌*◌, ◌/◌, ◌%◌, Bool, false, cond, ◌&&◌, List, [], ◌∷◌, length, get_or, leb, eqb, Err, Ok}
use Rattle.std.proofs.Math.Option.{Option, none, some}
use Rattle.table.specs.Outcome.{Outcome, into_out}
use Rattle.table.specs.Refusal.{number}
use Rattle.ternary.specs.Wanted.{wanted_after}
use Rattle.ternary.specs.Write.{Written}

-- "the next state is state times 1,664,525 plus 1,013,904,223, kept to 32 bits" ([10])
unfoldable pub next_state : ℕ → ℕ
next_state s = (s * 1664525 + 1013904223) % 4294967296

-- "Each draw advances the state, then takes it divided by 65,536, rounded down." ([10]): what is drawn from the state s
unfoldable pub drawn : ℕ → ℕ
drawn s = next_state s / 65536

-- Whether exactly `left` digits can use up the trees wanted: no tree by no digit, and from one tree to as many as there are digits. `none` is the number
-- after a beginning of no whole text.
unfoldable pub can_end : ℕ → Option ℕ → Bool
can_end left none = false
can_end left (some zero) = eqb left 0
can_end left (some (suc n)) = leb (suc n) left

-- those of a list for which a test holds, in their order; the library's `filter` asks for a decision in place of a test
unfoldable pub those : (ℕ → Bool) → List ℕ → List ℕ
those test [] = []
those test (c ∷ cs) = cond (test c) (c ∷ those test cs) (those test cs)

-- the digits of a leaf, a stem and a fork, in ascending order
unfoldable pub three_digits : List ℕ
three_digits = 48 ∷ 49 ∷ 50 ∷ []

-- "A digit is allowed if the text can still become a whole tree of exactly n digits." ([10]): the digits allowed, "in ascending order", where o is the number
-- of trees wanted and so many digits are left after this one. The theorem `allowed_exactly` says that they are these.
unfoldable pub allowed : ℕ → Option ℕ → List ℕ
allowed left o = those (λ (c : ℕ). can_end left (wanted_after c o)) three_digits

-- "takes the remainder by the number of digits allowed there" ([10]): of the digits cs the one at that place, counting from 0
unfoldable pub pick : List ℕ → ℕ → ℕ
pick cs draw = get_or cs (draw % length cs) 0

-- what a digit goes by: the state before its draw, and the number of trees wanted before it
pub record Drawing : Type 0 where
  pub state : ℕ
  pub wanted : Option ℕ

-- the digit, where so many are left after it
unfoldable pub digit_at : ℕ → Drawing → ℕ
digit_at left p = pick (allowed left p.wanted) (drawn p.state)

-- "draws once a digit" ([10]): what the next digit goes by. A draw is made for each digit, also where only one is allowed; no load shows that, since from
-- there on only one is.
unfoldable pub next_drawing : ℕ → Drawing → Drawing
next_drawing left p = record { state = next_state p.state; wanted = wanted_after (digit_at left p) p.wanted }

-- so many digits, "left to right" ([10])
unfoldable pub digits_from : ℕ → Drawing → List ℕ
digits_from zero p = []
digits_from (suc left) p = digit_at left p ∷ digits_from left (next_drawing left p)

-- "From a 32-bit seed" ([10]): what the first digit goes by. A text is one tree's, so that one is wanted.
unfoldable pub first_drawing : ℕ → Drawing
first_drawing seed = record { state = seed; wanted = some 1 }

-- "n from 1 to 4,095" ([10])
unfoldable pub is_count : ℕ → Bool
is_count n = leb 1 n && leb n 4095

-- "A load of n digits, n from 1 to 4,095 [..] For any n outside, the load is empty" ([10]). A load is the paper's term.
unfoldable pub load : ℕ → ℕ → List ℕ
load seed n = cond (is_count n) (digits_from n (first_drawing seed)) []

-- "For any n outside, the load is empty, whatever the output. Otherwise an output shorter than n gives 10 and stays as it was." ([10]): an empty load goes
-- into every output.
unfoldable pub generate : ℕ → ℕ → List ℕ → Outcome Written
generate seed n out = into_out Ok Err (load seed n) out

-- the numbers of the answer: the refusal or 0, and how many digits were written; "0 for [..] digits" on a refusal (document 01, Operations)
unfoldable pub generated_numbers : Written → List ℕ
generated_numbers (Ok n) = 0 ∷ n ∷ []
generated_numbers (Err e) = number e ∷ 0 ∷ []

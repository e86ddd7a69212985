-- Digits put into a list one after another, lowest first, and the digits that are still to come. Assumes nothing.
use Prim.Native.Nat.{ℕ, ◌+◌, ◌≤◌, ◌<◌}
use mathlib.Core.Path.{◌≡◌, refl, sym, ap, ◌∙◌}
use mathlib.Core.List.{List, [], ◌∷◌, ◌++◌, append_assoc}
use mathlib.Core.Option.{Option, none, some}
use native.Mathlib.Omega.{arith}
use native.Mathlib.Numerals.{add-one}
use lib.ListN.{length, take, set, replicate, length-set}
use lib.Seq.{take-suc-set}
use Rattle.std.proofs.lemmas.Grind.{common_steps}
use Rattle.weights.specs.Digits.{before}
use Rattle.weights.specs.Claims.{Decimal, NineDigits}

-- digits after those that stand before
unfoldable pub after : List ℕ → Option (List ℕ) → Option (List ℕ)
after l none = none
after l (some m) = some (l ++ m)

pub after_none : (o : Option (List ℕ)) → after [] o ≡ o
unfolding after
after_none none = refl
after_none (some l) = refl

-- a digit put at place i stands after those before it
pub put_at : (l : List ℕ) (i d : ℕ) → i < length l → take (i + 1) (set l i d) ≡ take i l ++ (d ∷ [])
put_at l i d h = rw (add-one, take-suc-set l i d h)

pub after_put : (l : List ℕ) (i d : ℕ) → i < length l → (o : Option (List ℕ)) → after (take i l) (before (some d) o) ≡ after (take (i + 1) (set l i d)) o
unfolding after before
after_put l i d h none = refl
after_put l i d h (some m) = ap some (sym (append_assoc (take i l) (d ∷ []) m) ∙ ap (λ (k : List ℕ). k ++ m) (sym (put_at l i d h)))

set_decimal : (l : List ℕ) (i d : ℕ) → Decimal l → d ≤ 9 → Decimal (set l i d)
set_decimal l i d h k j = grind (arith, common_steps, h j)

-- nine digits before any is put
pub nine_zeros : NineDigits (replicate 9 0)
nine_zeros = record { nine = refl; decimal = λ i. grind (arith, common_steps) }

pub put_nine : {l : List ℕ} (i d : ℕ) → NineDigits l → d ≤ 9 → NineDigits (set l i d)
put_nine {l} i d n k = record { nine = length-set l i d ∙ n.nine; decimal = set_decimal l i d n.decimal k }

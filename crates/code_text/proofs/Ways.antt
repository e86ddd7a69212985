-- One law for each way that digits are counted and written, and that an answer is given. Assumes nothing.
use Prim.Native.Nat.{ℕ, ◌+◌, ◌-◌, ◌/◌, ◌%◌, ◌≤◌, ◌<◌}
use mathlib.Core.Path.{◌≡◌, refl, sym, ap, ◌∙◌}
use mathlib.Core.Bool.{Bool, true, false}
use mathlib.Core.List.{List, [], ◌∷◌, ◌++◌}
use mathlib.Core.Logic.{◌⊎◌, inl, inr}
use native.Mathlib.Omega.{arith}
use lib.ListN.{length, get_or, set, take, drop, length-append}
use lib.Seq.{set_at, drop-length, length-take-le}
use lib.Dec.{ltb}
use borrow.Author.Tests.{ltb-true, ltb-false}
use Rattle.table.specs.Outcome.{whole_out, into_out}
use Rattle.table.specs.declared.Refusal.TheVariants.{Out}
use Rattle.table.specs.Refusal.{given, not_given}
use Rattle.table.proofs.Lists.{from_place}
use Rattle.table.proofs.Wrote.{into_short, into_written}
use Rattle.short_codes.specs.Values.{values, numeral}
use Rattle.short_codes.specs.ShortCodes.{code_text}
use Rattle.short_codes.proofs.Numerals.{numeral_one, numeral_more}
use Rattle.short_codes.proofs.Outcomes.{code_into}

-- how many digits a number has, which is no more than the number and one
abbrev pub HasDigits : ℕ → ℕ → Type 0
HasDigits v n = (n ≡ length (numeral v)) × (n ≤ v + 1)

pub single_digit : (v : ℕ) → v < 3 → HasDigits v 1
single_digit v h = (ap length (sym (numeral_one v h)), omega arith)

longer : (v : ℕ) → 3 ≤ v → length (numeral v) ≡ length (numeral (v / 3)) + 1
longer v h = ap length (numeral_more v h) ∙ length-append (numeral (v / 3)) ((48 + v % 3) ∷ [])

pub more_digits : (v n : ℕ) → 3 ≤ v → HasDigits (v / 3) n → HasDigits v (n + 1)
more_digits v n h (e, k) = (omega (arith, longer v h), omega arith)

-- every number has a digit
pub some_digit : (v n : ℕ) → n ≡ length (numeral v) → 1 ≤ n
some_digit v n e = go (ltb v 3) refl
  where
    go : (z : Bool) → ltb v 3 ≡ z → 1 ≤ n
    go true p = omega (arith, (single_digit v (ltb-true v 3 p)).0)
    go false p = omega (arith, longer v (ltb-false v 3 p))

-- the bytes before the last digit of v is written
abbrev pub BeforeLast : ℕ → List ℕ → List ℕ → Type 0
BeforeLast v l l' = ((3 ≤ v) × (l' ≡ numeral (v / 3) ++ drop (length l - 1) l)) ⊎ ((v < 3) × (l' ≡ l))

module _ (v : ℕ) (l : List ℕ) (e : length l ≡ length (numeral v)) where
  pub one_byte : 1 ≤ length l
  one_byte = omega (arith, some_digit v (length l) e)

  -- the digits before the last one are as many as the bytes before it
  pub third_asks : 3 ≤ v → length (take (length l - 1) l) ≡ length (numeral (v / 3))
  third_asks h = length-take-le (length l - 1) l (omega arith) ∙ omega (arith, longer v h)

  pub last_written : {l' : List ℕ} → BeforeLast v l l' → set l' (length l - 1) (48 + v % 3) ≡ numeral v
  last_written {l'} (inl (h, b)) =
      let k : length l - 1 + 1 ≡ length l = omega (arith, one_byte) in
      let f : drop (length l - 1) l ≡ get_or l (length l - 1) 0 ∷ [] =
      from_place l (length l - 1) 0 (omega (arith, one_byte)) ∙ ap (λ (i : ℕ). get_or l (length l - 1) 0 ∷ drop i l) k ∙ ap (λ (r : List ℕ). get_or l (length l - 1) 0 ∷ r) (drop-length l) in
      ap (λ (r : List ℕ). set r (length l - 1) (48 + v % 3)) (b ∙ ap (λ (r : List ℕ). numeral (v / 3) ++ r) f)
      ∙ set_at (numeral (v / 3)) (get_or l (length l - 1) 0) [] (48 + v % 3) (length l - 1) (omega (arith, longer v h)) ∙ sym (numeral_more v h)
  last_written {l'} (inr (h, b)) =
      let r : 48 + v ≡ 48 + v % 3 = omega arith in
      let a : numeral v ≡ (48 + v % 3) ∷ [] = numeral_one v h ∙ ap (λ (d : ℕ). d ∷ []) r in
      let n : length l ≡ 1 = e ∙ ap length a in
      let f : l ≡ get_or l 0 0 ∷ [] = from_place l 0 0 (omega arith) ∙ ap (λ (i : ℕ). get_or l 0 0 ∷ drop i l) (sym n) ∙ ap (λ (r : List ℕ). get_or l 0 0 ∷ r) (drop-length l) in
      let z : length l - 1 ≡ 0 = omega arith in
      ap (λ (i : ℕ). set l' i (48 + v % 3)) z ∙ ap (λ (r : List ℕ). set r 0 (48 + v % 3)) (b ∙ f) ∙ sym a

-- the answers of a code below 1,374, whose value has n digits
module _ (c x n : ℕ) (out : List ℕ) (h : c < 1374) (e : x ≡ get_or values c 0) (k : n ≡ length (numeral x)) where
  into : code_text c out ≡ into_out given not_given (numeral x) out
  into = code_into c out h ∙ ap (λ (y : ℕ). into_out given not_given (numeral y) out) (sym e)

  pub short_out : length out < n → whole_out (not_given Out) [] [] out ≡ code_text c out
  short_out l = sym (into ∙ into_short given not_given (numeral x) out (omega arith))

  pub text_out : {out' : List ℕ} → n ≤ length out → out' ≡ numeral x ++ drop n out → whole_out (given n) [] [] out' ≡ code_text c out
  text_out l q = sym (into ∙ into_written given not_given (numeral x) out (omega arith) ∙ rw (← k, q))

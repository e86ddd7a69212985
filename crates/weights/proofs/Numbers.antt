-- Decimal digits as numbers: digits and grams undo one another, and adding and comparing digit by digit is that of the grams. Assumes nothing.
use Prim.Native.Nat.{ℕ, zero, suc, ◌+◌, ◌*◌, ◌/◌, ◌%◌, ◌≤◌, ◌<◌}
use mathlib.Core.Path.{◌≡◌, refl, ap}
use mathlib.Core.List.{List, [], ◌∷◌}
use mathlib.Core.Option.{none, some}
use native.Mathlib.Omega.{arith}
use lib.ListN.{length}
use Rattle.std.specs.Ordering.{ordering_then, nat_cmp, MatchOrdering}
use Rattle.std.specs.declared.cmp.Ordering.{Ordering}
use Rattle.std.specs.declared.cmp.Ordering.TheVariants.{Less, Equal, Greater}
use Rattle.std.specs.Cmp.{nat_cmp_is, ranks}
use Rattle.weights.specs.Digits.{grams_of, digits_of, before, add_digits, compare_digits}
use Rattle.weights.specs.Claims.{Decimal}

-- how many numbers so many digits can be
unfoldable pub tens : ℕ → ℕ
tens zero = 1
tens (suc n) = tens n * 10

pub grams_below : (l : List ℕ) → Decimal l → grams_of l < tens (length l)
unfolding grams_of tens
grams_below [] h = omega arith
grams_below (d ∷ l) h = omega (arith, h 0, grams_below l (λ i. h (suc i)))

-- the digits of the number that digits are, and the number that its digits are
pub digits_back : (l : List ℕ) → Decimal l → digits_of (length l) (grams_of l) ≡ l
unfolding grams_of digits_of
digits_back [] h = refl
digits_back (d ∷ l) h =
    let r : (d + grams_of l * 10) % 10 ≡ d = omega (arith, h 0) in
    let q : (d + grams_of l * 10) / 10 ≡ grams_of l = omega (arith, h 0) in
    rw (r, q, digits_back l (λ i. h (suc i)))

pub grams_back : (n g : ℕ) → g < tens n → grams_of (digits_of n g) ≡ g
unfolding grams_of digits_of tens
grams_back zero g h = omega arith
grams_back (suc n) g h = rw (grams_back n (g / 10) (omega arith)) (let e : g % 10 + g / 10 * 10 ≡ g = omega arith in e)

pub digits_many : (n g : ℕ) → length (digits_of n g) ≡ n
unfolding digits_of
digits_many zero g = refl
digits_many (suc n) g = ap suc (digits_many n (g / 10))

pub digits_decimal : (n g : ℕ) → Decimal (digits_of n g)
unfolding digits_of
digits_decimal zero g i = omega arith
digits_decimal (suc n) g zero = omega arith
digits_decimal (suc n) g (suc i) = digits_decimal n (g / 10) i

-- "adds two weights [..] on the trees. All are tied to the whole number of grams" ([9]): the digits added with a carry are those of the sum, and there are
-- none exactly where the sum has more digits
module _ (x y c X Y : ℕ) where
  unit : (x + X * 10 + (y + Y * 10) + c) % 10 ≡ (c + x + y) % 10
  unit = omega arith

  rest : (x + X * 10 + (y + Y * 10) + c) / 10 ≡ X + Y + (c + x + y) / 10
  rest = omega arith

pub adds : (xs ys : List ℕ) → length xs ≡ length ys → (c : ℕ) → grams_of xs + grams_of ys + c < tens (length xs)
    → add_digits xs ys c ≡ some (digits_of (length xs) (grams_of xs + grams_of ys + c))
unfolding grams_of digits_of tens add_digits before
adds [] ys e zero h = refl
adds [] ys e (suc c) h = absurd (omega arith)
adds (x ∷ xs) [] e c h = absurd (omega arith)
adds (x ∷ xs) (y ∷ ys) e c h =
    rw (unit x y c (grams_of xs) (grams_of ys), rest x y c (grams_of xs) (grams_of ys), adds xs ys (omega arith) ((c + x + y) / 10) (omega arith))

pub adds_above : (xs ys : List ℕ) → length xs ≡ length ys → (c : ℕ) → tens (length xs) ≤ grams_of xs + grams_of ys + c → add_digits xs ys c ≡ none
unfolding grams_of tens add_digits before
adds_above [] [] e zero h = absurd (omega arith)
adds_above [] [] e (suc c) h = refl
adds_above [] (y ∷ ys) e c h = absurd (omega arith)
adds_above (x ∷ xs) [] e c h = refl
adds_above (x ∷ xs) (y ∷ ys) e c h = rw (adds_above xs ys (omega arith) ((c + x + y) / 10) (omega arith))

-- a digit decides where the higher ones are equal
higher : (x y X Y : ℕ) → x ≤ 9 → y ≤ 9 → ordering_then (nat_cmp X Y) (nat_cmp x y) ≡ nat_cmp (x + X * 10) (y + Y * 10)
higher x y X Y a b = nat_cmp_is (x + X * 10) (y + Y * 10) (ordering_then (nat_cmp X Y) (nat_cmp x y)) (go (nat_cmp X Y) (nat_cmp x y) (ranks X Y) (ranks x y))
  where
    go : (o p : Ordering) → MatchOrdering o (X < Y) (X ≡ Y) (Y < X) → MatchOrdering p (x < y) (x ≡ y) (y < x)
        → MatchOrdering (ordering_then o p) (x + X * 10 < y + Y * 10) (x + X * 10 ≡ y + Y * 10) (y + Y * 10 < x + X * 10)
    go Less p h k = omega arith
    go Greater p h k = omega arith
    go Equal Less h k = omega arith
    go Equal Equal h k = omega arith
    go Equal Greater h k = omega arith

-- "compares them on the trees. All are tied to the whole number of grams" ([9])
pub compares : (xs ys : List ℕ) → length xs ≡ length ys → Decimal xs → Decimal ys → compare_digits xs ys ≡ nat_cmp (grams_of xs) (grams_of ys)
unfolding compare_digits grams_of
compares [] [] e a b = refl
compares [] (y ∷ ys) e a b = absurd (omega arith)
compares (x ∷ xs) [] e a b = absurd (omega arith)
compares (x ∷ xs) (y ∷ ys) e a b =
    rw (compares xs ys (omega arith) (λ i. a (suc i)) (λ i. b (suc i))) (higher x y (grams_of xs) (grams_of ys) (a 0) (b 0))

-- The values that are listed are those of the texts that use up the trees wanted, and they ascend. Assumes nothing.
use Prim.Native.Nat.{ℕ, zero, suc, ◌+◌, ◌*◌, ◌≤◌, ◌<◌}
use mathlib.Core.Path.{◌≡◌, refl, subst}
use mathlib.Core.Bool.{Bool, true, false, cond}
use mathlib.Core.List.Memᴰ
use mathlib.Core.List.{List, [], ◌∷◌, ◌++◌, Memᴰ}
use mathlib.Core.Logic.{◌⊎◌, inl, inr}
use mathlib.Core.Option.{none, some}
use native.Mathlib.Omega.{arith}
use lib.ListN.{length}
use lib.Dec.{eqb}
use borrow.Author.Tests.{eqb-true}
use Rattle.table.specs.Ascending.{NumbersAscend}
use Rattle.table.specs.Ascending.NumbersAscend.{no_more, one_more}
use Rattle.table.proofs.Ascending.{append_ascends}
use Rattle.table.proofs.Words.{zero_one}
use Rattle.ternary.specs.Wanted.{wanted_after, wanted_from}
use Rattle.ternary.proofs.Wanted.{none_wanted}
use Rattle.short_codes.specs.Values.{value_after, value_from, values_from, padded}
use Rattle.short_codes.proofs.Numerals.{padded_up}

-- x is the value, after v, of n digits that use up w trees wanted
abbrev pub ValueOf : ℕ → ℕ → ℕ → ℕ → Type 0
ValueOf n w v x = (l : List ℕ) × (length l ≡ n) × (wanted_from (some w) l ≡ some 0) × (x ≡ value_from v l)

-- what is listed for n + 1 digits is listed for n after one of the three digits
data Block (n w v x : ℕ) : Type 0 where
  after_leaf : Memᴰ x (values_from n w (value_after v 48)) → Block n w v x
  after_stem : Memᴰ x (values_from n (suc w) (value_after v 49)) → Block n w v x
  after_fork : Memᴰ x (values_from n (suc (suc w)) (value_after v 50)) → Block n w v x

block : (n w v x : ℕ) → Memᴰ x (values_from (suc n) (suc w) v) → Block n w v x
unfolding values_from
block n w v x i = go (Memᴰ.append_cases (values_from n w (value_after v 48)) i)
  where
    last : Memᴰ x (values_from n (suc w) (value_after v 49)) ⊎ Memᴰ x (values_from n (suc (suc w)) (value_after v 50)) → Block n w v x
    last (inl j) = after_stem j
    last (inr j) = after_fork j

    go : Memᴰ x (values_from n w (value_after v 48)) ⊎ Memᴰ x (values_from n (suc w) (value_after v 49) ++ values_from n (suc (suc w)) (value_after v 50)) → Block n w v x
    go (inl j) = after_leaf j
    go (inr j) = last (Memᴰ.append_cases (values_from n (suc w) (value_after v 49)) j)

in_block : (n w v x : ℕ) → Block n w v x → Memᴰ x (values_from (suc n) (suc w) v)
unfolding values_from
in_block n w v x (after_leaf j) = Memᴰ.append_left _ j
in_block n w v x (after_stem j) = Memᴰ.append_right (values_from n w (value_after v 48)) (Memᴰ.append_left _ j)
in_block n w v x (after_fork j) = Memᴰ.append_right (values_from n w (value_after v 48)) (Memᴰ.append_right (values_from n (suc w) (value_after v 49)) j)

-- one digit more before the others
digit_before : (c w v : ℕ) {n w' x : ℕ} → wanted_after c (some w) ≡ some w' → ValueOf n w' (value_after v c) x → ValueOf (suc n) w v x
unfolding wanted_from value_from
digit_before c w v e (l, k, u, p) = (c ∷ l, omega arith, rw e u, p)

pub listed_value : (n w v x : ℕ) → Memᴰ x (values_from n w v) → ValueOf n w v x
unfolding values_from wanted_from value_from wanted_after
listed_value zero zero v x i = ([], refl, refl, Memᴰ.eq_of_singleton i)
listed_value zero (suc w) v x i = absurd (Memᴰ.not-nil i)
listed_value (suc n) zero v x i = absurd (Memᴰ.not-nil i)
listed_value (suc n) (suc w) v x i = go (block n w v x i) (λ (w' v' : ℕ). listed_value n w' v' x)
  where
    go : Block n w v x → ((w' v' : ℕ) → Memᴰ x (values_from n w' v') → ValueOf n w' v' x) → ValueOf (suc n) (suc w) v x
    go (after_leaf j) f = digit_before 48 (suc w) v refl (f w (value_after v 48) j)
    go (after_stem j) f = digit_before 49 (suc w) v refl (f (suc w) (value_after v 49) j)
    go (after_fork j) f = digit_before 50 (suc w) v refl (f (suc (suc w)) (value_after v 50) j)

pub value_listed : (n w v x : ℕ) → ValueOf n w v x → Memᴰ x (values_from n w v)
unfolding values_from wanted_from value_from wanted_after
value_listed zero zero v x ([], k, u, p) = Memᴰ.head p
value_listed zero (suc w) v x ([], k, u, p) = zero_one (cc)
value_listed zero w v x (c ∷ l, k, u, p) = absurd (omega arith)
value_listed (suc n) w v x ([], k, u, p) = absurd (omega arith)
value_listed (suc n) zero v x (c ∷ l, k, u, p) = zero_one (cc (none_wanted l))
value_listed (suc n) (suc w) v x (c ∷ l, k, u, p) = go (eqb c 48) (eqb c 49) (eqb c 50) refl refl refl u (λ (w' : ℕ) (y : wanted_from (some w') l ≡ some 0). value_listed n w' (value_after v c) x (l, omega arith, y, p))
  where
    placed : {c : ℕ} (d w' : ℕ) → c ≡ d → Memᴰ x (values_from n w' (value_after v c)) → Memᴰ x (values_from n w' (value_after v d))
    placed d w' e j = subst (λ (b : ℕ). Memᴰ x (values_from n w' (value_after v b))) e j

    go : (a b d : Bool) → eqb c 48 ≡ a → eqb c 49 ≡ b → eqb c 50 ≡ d → wanted_from (cond a (some w) (cond b (some (suc w)) (cond d (some (suc (suc w))) none))) l ≡ some 0
        → ((w' : ℕ) → wanted_from (some w') l ≡ some 0 → Memᴰ x (values_from n w' (value_after v c))) → Memᴰ x (values_from (suc n) (suc w) v)
    go true b d q r s y f = in_block n w v x (after_leaf (placed 48 w (eqb-true c 48 q) (f w y)))
    go false true d q r s y f = in_block n w v x (after_stem (placed 49 (suc w) (eqb-true c 49 r) (f (suc w) y)))
    go false false true q r s y f = in_block n w v x (after_fork (placed 50 (suc (suc w)) (eqb-true c 50 s) (f (suc (suc w)) y)))
    go false false false q r s y f = zero_one (cc (none_wanted l))

-- what is listed after v lies from v to the next number, each with digits 0 after it
record Between (n v x : ℕ) : Type 0 where
  from : padded n v ≤ x
  to : x < padded n (v + 1)

between_after : (n v c x : ℕ) → c ≤ 50 → Between n (value_after v c) x → Between (suc n) v x
unfolding padded value_after
between_after n v c x h b =
    record {
      from = omega (arith, padded_up n (v * 3) (value_after v c) (omega arith), b.from);
      to = omega (arith, padded_up n (value_after v c + 1) ((v + 1) * 3) (omega arith), b.to);
    }

between : (n w v x : ℕ) → Memᴰ x (values_from n w v) → Between n v x
unfolding values_from padded
between zero zero v x i = let e = Memᴰ.eq_of_singleton i in record { from = omega (arith, e); to = omega (arith, e) }
between zero (suc w) v x i = absurd (Memᴰ.not-nil i)
between (suc n) zero v x i = absurd (Memᴰ.not-nil i)
between (suc n) (suc w) v x i = go (block n w v x i) (λ (w' v' : ℕ). between n w' v' x)
  where
    go : Block n w v x → ((w' v' : ℕ) → Memᴰ x (values_from n w' v') → Between n v' x) → Between (suc n) v x
    go (after_leaf j) f = between_after n v 48 x (omega arith) (f w (value_after v 48) j)
    go (after_stem j) f = between_after n v 49 x (omega arith) (f (suc w) (value_after v 49) j)
    go (after_fork j) f = between_after n v 50 x (omega arith) (f (suc (suc w)) (value_after v 50) j)

-- so what is listed after a smaller number is smaller
below : (n w w' v u x y : ℕ) → v < u → Memᴰ x (values_from n w v) → Memᴰ y (values_from n w' u) → x < y
below n w w' v u x y h i j =
    let a = between n w v x i in
    let b = between n w' u y j in
    omega (arith, padded_up n (v + 1) u (omega arith), a.to, b.from)

digit_up : (v c d : ℕ) → 48 ≤ c → c < d → value_after v c < value_after v d
unfolding value_after
digit_up v c d a h = omega arith

pub from_ascends : (n w v : ℕ) → NumbersAscend 0 (values_from n w v)
unfolding values_from
from_ascends zero zero v = let h : 0 ≤ v = omega arith in one_more h no_more
from_ascends zero (suc w) v = no_more
from_ascends (suc n) zero v = no_more
from_ascends (suc n) (suc w) v =
    append_ascends (from_ascends n w (value_after v 48))
    (append_ascends (from_ascends n (suc w) (value_after v 49)) (from_ascends n (suc (suc w)) (value_after v 50))
    (λ x y. below n (suc w) (suc (suc w)) (value_after v 49) (value_after v 50) x y (digit_up v 49 50 (omega arith) (omega arith))))
    (λ x y i j. go x y i (Memᴰ.append_cases (values_from n (suc w) (value_after v 49)) j))
  where
    go : (x y : ℕ) → Memᴰ x (values_from n w (value_after v 48)) → Memᴰ y (values_from n (suc w) (value_after v 49)) ⊎ Memᴰ y (values_from n (suc (suc w)) (value_after v 50)) → x < y
    go x y i (inl j) = below n w (suc w) (value_after v 48) (value_after v 49) x y (digit_up v 48 49 (omega arith) (omega arith)) i j
    go x y i (inr j) = below n w (suc (suc w)) (value_after v 48) (value_after v 50) x y (digit_up v 48 50 (omega arith) (omega arith)) i j

-- A text of n + 1 digits, where n is not 0, begins with another digit than 0, and its value is above those of all texts of at most n digits.
pub longer_from : (n x : ℕ) → Memᴰ x (values_from (suc (suc n)) 1 0) → padded (suc n) 1 ≤ x
unfolding values_from value_after
longer_from n x i = go (block (suc n) 0 0 x i)
  where
    go : Block (suc n) 0 0 x → padded (suc n) 1 ≤ x
    go (after_leaf j) = absurd (Memᴰ.not-nil j)
    go (after_stem j) = (between (suc n) 1 1 x j).from
    go (after_fork j) = omega (arith, padded_up (suc n) 1 2 (omega arith), (between (suc n) 2 2 x j).from)

pub shorter_to : (n x : ℕ) → Memᴰ x (values_from n 1 0) → x < padded n 1
shorter_to n x i = (between n 1 0 x i).to

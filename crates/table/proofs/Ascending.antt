-- Laws of numbers that ascend: members, two lists one after another, places. Assumes nothing.
use Prim.Native.Nat.{ℕ, zero, suc, ◌+◌, ◌≤◌, ◌<◌}
use mathlib.Core.Path.{◌≡◌, refl, sym, ap}
use mathlib.Core.Bool.{Bool, true, false}
use mathlib.Core.List.Memᴰ
use mathlib.Core.List.{List, ◌++◌, Memᴰ}
use mathlib.Core.Logic.{◌⊎◌, inl, inr}
use native.Mathlib.Omega.{arith}
use lib.ListN.{length, get_or}
use lib.Dec.{ltb, eqb}
use borrow.Author.Tests.{ltb-true, ltb-false, eqb-true, eqb-false}
use Rattle.table.specs.Ascending.{NumbersAscend}
use Rattle.table.specs.Ascending.NumbersAscend.{no_more, one_more}
use Rattle.table.proofs.Lists.{at_place}

-- a member of a list that ascends from m on is at least m
pub at_least : {m : ℕ} {cs : List ℕ} → NumbersAscend m cs → (c : ℕ) → Memᴰ c cs → m ≤ c
at_least no_more c i = absurd (Memᴰ.not-nil i)
at_least {m} (one_more {c = d} {cs = ds} h a) c i = go (at_least a c) (Memᴰ.cases_cons i)
  where
    go : (Memᴰ c ds → d + 1 ≤ c) → (c ≡ d) ⊎ Memᴰ c ds → m ≤ c
    go f (inl e) = omega arith
    go f (inr j) = omega (arith, f j)

-- lists that ascend and have the same members are one
pub one_list : {m k : ℕ} {cs ds : List ℕ} → NumbersAscend m cs → NumbersAscend k ds → ((x : ℕ) → Memᴰ x cs → Memᴰ x ds) → ((x : ℕ) → Memᴰ x ds → Memᴰ x cs) → cs ≡ ds
one_list no_more no_more f g = refl
one_list no_more (one_more {c = d} h b) f g = absurd (Memᴰ.not-nil (g d (Memᴰ.head refl)))
one_list (one_more {c = c} h a) no_more f g = absurd (Memᴰ.not-nil (f c (Memᴰ.head refl)))
one_list (one_more {c = c} {cs = cs} h a) (one_more {c = d} {cs = ds} k b) f g =
    let e : c ≡ d = first (Memᴰ.cases_cons (f c (Memᴰ.head refl))) (Memᴰ.cases_cons (g d (Memᴰ.head refl))) in
    let t : cs ≡ ds = one_list a b (λ x i. rest d a (omega arith) x i (Memᴰ.cases_cons (f x (Memᴰ.tail i)))) (λ x i. rest c b (omega arith) x i (Memᴰ.cases_cons (g x (Memᴰ.tail i)))) in
    cc
  where
    first : (c ≡ d) ⊎ Memᴰ c ds → (d ≡ c) ⊎ Memᴰ d cs → c ≡ d
    first (inl e) y = e
    first (inr i) (inl e) = sym e
    first (inr i) (inr j) = absurd (omega (arith, at_least b c i, at_least a d j))

    -- a later member is not the first of the other list
    rest : (y : ℕ) {q : ℕ} {xs ys : List ℕ} → NumbersAscend q xs → y < q → (x : ℕ) → Memᴰ x xs → (x ≡ y) ⊎ Memᴰ x ys → Memᴰ x ys
    rest y a h x i (inl e) = absurd (omega (arith, at_least a x i))
    rest y a h x i (inr j) = j

-- only the first number tells from where on a list ascends
pub from_first : {m k : ℕ} {cs : List ℕ} → NumbersAscend m cs → ((x : ℕ) → Memᴰ x cs → k ≤ x) → NumbersAscend k cs
from_first no_more f = no_more
from_first (one_more {c = c} h a) f = one_more (f c (Memᴰ.head refl)) a

-- two lists one after another ascend, where each number of the first is below each of the second
pub append_ascends : {m : ℕ} {cs ds : List ℕ} → NumbersAscend m cs → NumbersAscend m ds → ((x y : ℕ) → Memᴰ x cs → Memᴰ y ds → x < y) → NumbersAscend m (cs ++ ds)
append_ascends no_more b f = b
append_ascends (one_more {c = c} h a) b f =
    one_more h (append_ascends a (from_first b (λ y j. let k : c + 1 ≤ y = omega (arith, f c y (Memᴰ.head refl) j) in k)) (λ x y i j. f x y (Memᴰ.tail i) j))

-- an earlier place holds a smaller number
pub place_below : {m : ℕ} {cs : List ℕ} → NumbersAscend m cs → (i j : ℕ) → i < j → j < length cs → get_or cs i 0 < get_or cs j 0
place_below no_more i j h k = absurd (omega arith)
place_below (one_more {c = c} {cs = cs} q a) i zero h k = absurd (omega arith)
place_below (one_more {c = c} {cs = cs} q a) zero (suc j) h k = omega (arith, at_least a (get_or cs j 0) (at_place cs j 0 (omega arith)))
place_below (one_more {c = c} {cs = cs} q a) (suc i) (suc j) h k = place_below a i j (omega arith) (omega arith)

-- so a smaller number stands at an earlier place, and an equal one at the same
pub earlier_place : {m : ℕ} {cs : List ℕ} → NumbersAscend m cs → (i j : ℕ) → i < length cs → get_or cs i 0 < get_or cs j 0 → i < j
earlier_place {m} {cs} a i j h e = go (ltb i j) (eqb i j) refl refl
  where
    go : (x y : Bool) → ltb i j ≡ x → eqb i j ≡ y → i < j
    go true y p q = ltb-true i j p
    go false true p q = absurd (omega (arith, ap (λ (k : ℕ). get_or cs k 0) (eqb-true i j q)))
    go false false p q = absurd (omega (arith, place_below a j i (omega (arith, ltb-false i j p, eqb-false i j q)) h))

pub same_place : {m : ℕ} {cs : List ℕ} → NumbersAscend m cs → (i j : ℕ) → i < length cs → j < length cs → get_or cs i 0 ≡ get_or cs j 0 → i ≡ j
same_place {m} {cs} a i j h k e = go (ltb i j) (ltb j i) refl refl
  where
    go : (x y : Bool) → ltb i j ≡ x → ltb j i ≡ y → i ≡ j
    go true y p q = absurd (omega (arith, place_below a i j (ltb-true i j p) k))
    go false true p q = absurd (omega (arith, place_below a j i (ltb-true j i q) h))
    go false false p q = omega (arith, ltb-false i j p, ltb-false j i q)

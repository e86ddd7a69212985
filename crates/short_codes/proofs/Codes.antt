-- The code of a tree: which trees have one, and that it is one tree's. Assumes nothing.
use Prim.Native.Nat.{ℕ, suc, ◌+◌, ◌-◌, ◌≤◌, ◌<◌}
use mathlib.Core.Path.{◌≡◌, refl, sym, ap, subst, ◌∙◌}
use mathlib.Core.Bool.{Bool, true, false, cond}
use mathlib.Core.List.Memᴰ
use mathlib.Core.List.{List, [], ◌∷◌, Memᴰ}
use mathlib.Core.Logic.{◌↔◌, ◌⊎◌, inl, inr}
use mathlib.Core.Option.{Option, none, some}
use native.Mathlib.Omega.{arith}
use lib.ListN.{length, get_or}
use lib.Dec.{eqb, ltb}
use borrow.Author.Tests.{eqb-true, eqb-false, ltb-true, ltb-false}
use Rattle.calculus.specs.Tree.{Tree, size}
use Rattle.table.proofs.Words.{zero_one}
use Rattle.ternary.specs.Text.{text}
use Rattle.short_codes.specs.Values.{value, values, numeral}
use Rattle.short_codes.specs.ShortCodes.{place_from, code_of}
use Rattle.short_codes.specs.Claims.{AtPlace, IsCode}
use Rattle.short_codes.proofs.Numerals.{text_numeral, value_unique}
use Rattle.short_codes.proofs.Holding.{values_many, values_hold, one_table, each_place}

found_from : (l : List ℕ) (i v c : ℕ) → place_from i v l ≡ some c → (i ≤ c) × AtPlace l v (c - i)
unfolding place_from
found_from [] i v c e = zero_one (cc)
found_from (x ∷ l) i v c e = go (eqb x v) refl e (found_from l (i + 1) v c)
  where
    go : (z : Bool) → eqb x v ≡ z → cond z (some i) (place_from (i + 1) v l) ≡ some c → (place_from (i + 1) v l ≡ some c → (i + 1 ≤ c) × AtPlace l v (c - (i + 1))) → (i ≤ c) × AtPlace (x ∷ l) v (c - i)
    go true p e f =
        let q : i ≡ c = cc in
        let k : c - i ≡ 0 = omega arith in
        (omega arith, (omega arith, ap (λ (j : ℕ). get_or (x ∷ l) j 0) k ∙ eqb-true x v p))
    go false p e f =
        let (a, (b, d)) = f e in
        let k : c - i ≡ suc (c - (i + 1)) = omega arith in
        (omega arith, (omega arith, ap (λ (j : ℕ). get_or (x ∷ l) j 0) k ∙ d))

found : (l : List ℕ) (v c : ℕ) → place_from 0 v l ≡ some c → AtPlace l v c
found l v c e = let k : c - 0 ≡ c = omega arith in subst (AtPlace l v) k (found_from l 0 v c e).1

not_found : (l : List ℕ) (i v : ℕ) → place_from i v l ≡ none → Memᴰ v l → ⊥
unfolding place_from
not_found [] i v e m = Memᴰ.not-nil m
not_found (x ∷ l) i v e m = go (eqb x v) refl e (Memᴰ.cases_cons m) (not_found l (i + 1) v)
  where
    go : (z : Bool) → eqb x v ≡ z → cond z (some i) (place_from (i + 1) v l) ≡ none → (v ≡ x) ⊎ Memᴰ v l → (place_from (i + 1) v l ≡ none → Memᴰ v l → ⊥) → ⊥
    go true p e m f = zero_one (cc)
    go false p e (inl q) f = eqb-false x v p (sym q)
    go false p e (inr m) f = f e m

-- a code is a place of the table that the definitions compute, since there is no other
pub code_place : {t : Tree} {c : ℕ} → IsCode t c → AtPlace values (value (text t)) c
code_place {t} {c} i = subst (λ (l : List ℕ). AtPlace l (value (text t)) c) (one_table i.list i.holds) (i.inside, i.there)

pub place_code : {t : Tree} {c : ℕ} → AtPlace values (value (text t)) c → IsCode t c
place_code a = record { list = values; holds = values_hold; inside = a.0; there = a.1 }

-- every code is below 1,374,
pub code_below : {t : Tree} {c : ℕ} → IsCode t c → c < 1374
code_below i = omega (arith, (code_place i).0, values_many)

-- and each of these is a tree's.
pub every_code : (c : ℕ) → c < 1374 → (t : Tree) × IsCode t c
every_code c h =
    let k : c < length values = omega (arith, values_many) in
    let (t, s, e) = (each_place values values_hold).of_tree c k in
    (t, place_code (k, e))

-- Two trees with one code are equal,
pub code_tree : {t u : Tree} {c : ℕ} → IsCode t c → IsCode u c → t ≡ u
code_tree {t} {u} i j = value_unique t u (sym (code_place i).1 ∙ (code_place j).1)

-- and a tree has one code at most.
pub one_code : {t : Tree} {c d : ℕ} → IsCode t c → IsCode t d → c ≡ d
one_code {t} {c} {d} i j = (each_place values values_hold).one (value (text t)) c d (code_place i) (code_place j)

-- the text of a tree's code is its text
pub code_numeral : {t : Tree} {c : ℕ} → IsCode t c → numeral (get_or values c 0) ≡ text t
code_numeral {t} i = ap numeral (code_place i).1 ∙ text_numeral t

module _ (t : Tree) where
  some_code : {c : ℕ} → code_of t ≡ some c → IsCode t c
  unfolding code_of
  some_code {c} e = place_code (found values (value (text t)) c e)

  few : {c : ℕ} → IsCode t c → size t ≤ 10
  few {c} i =
      let a = code_place i in
      let (u, s, e) = (each_place values values_hold).of_tree c a.0 in
      subst (λ (x : Tree). size x ≤ 10) (sym (value_unique t u (sym a.1 ∙ e))) s

  never_none : size t ≤ 10 → code_of t ≡ none → ⊥
  unfolding code_of
  never_none h e = not_found values 0 (value (text t)) e ((values_hold.exactly (value (text t))).1 (t, h, refl))

  -- A tree has a code exactly if it has at most ten nodes.
  pub has_code : ((c : ℕ) × IsCode t c) ↔ (size t ≤ 10)
  has_code = (λ (i : (c : ℕ) × IsCode t c). few i.1, λ h. let y = (each_place values values_hold).of_each t h in (y.0, place_code y.1))

  -- the definition gives the code,
  pub code_of_exactly : (c : ℕ) → (code_of t ≡ some c) ↔ IsCode t c
  code_of_exactly c = (some_code, λ i. go i (code_of t) refl)
    where
      go : IsCode t c → (o : Option ℕ) → code_of t ≡ o → o ≡ some c
      go i none e = absurd (never_none (few i) e)
      go i (some d) e = ap some (one_code (some_code e) i)

  -- and none for a tree of more than ten nodes
  pub none_exactly : (code_of t ≡ none) ↔ (10 < size t)
  none_exactly = (λ e. long e (ltb 10 (size t)) refl, λ h. short h (code_of t) refl)
    where
      long : code_of t ≡ none → (z : Bool) → ltb 10 (size t) ≡ z → 10 < size t
      long e true p = ltb-true 10 (size t) p
      long e false p = absurd (never_none (ltb-false 10 (size t) p) e)

      short : 10 < size t → (o : Option ℕ) → code_of t ≡ o → o ≡ none
      short h none e = refl
      short h (some c) e = absurd (omega (arith, few (some_code e)))

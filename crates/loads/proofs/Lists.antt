-- Laws of lists of digits: members, those for which a test holds, lists that ascend. Assumes nothing.
use Prim.Native.Nat.{ℕ, ◌+◌, ◌%◌, ◌≤◌, ◌<◌}
use mathlib.Core.Path.{◌≡◌, refl, ap, ◌∙◌}
use mathlib.Core.Bool.{Bool, true, false, cond}
use mathlib.Core.List.Memᴰ
use mathlib.Core.List.{List, [], ◌∷◌, Memᴰ}
use mathlib.Core.Logic.{◌⊎◌, inl, inr}
use native.Mathlib.Omega.{arith}
use native.Mathlib.Nat.{mod-lt}
use lib.ListN.{length, get_or}
use Rattle.table.specs.Ascending.{NumbersAscend}
use Rattle.table.specs.Ascending.NumbersAscend.{no_more, one_more}
use Rattle.table.proofs.Lists.{at_place}
use Rattle.table.proofs.Ascending.{at_least, from_first}
use Rattle.table.proofs.Words.{told_apart}
use Rattle.loads.specs.Loads.{those, pick}

-- a list that has a member is not empty
pub some_member : (c : ℕ) (cs : List ℕ) → Memᴰ c cs → 0 < length cs
some_member c [] i = absurd (Memᴰ.not-nil i)
some_member c (d ∷ cs) i = omega arith

-- what is picked is a member
pub pick_member : (cs : List ℕ) (draw : ℕ) → 0 < length cs → Memᴰ (pick cs draw) cs
unfolding pick
pick_member cs draw h = at_place cs (draw % length cs) 0 (mod-lt draw h)

module _ (test : ℕ → Bool) where
  -- the members for which a test holds are members, and it holds for them
  pub those_hold : (cs : List ℕ) (c : ℕ) → Memᴰ c (those test cs) → Memᴰ c cs × (test c ≡ true)
  unfolding those
  those_hold [] c i = absurd (Memᴰ.not-nil i)
  those_hold (d ∷ cs) c i = go (test d) refl i (those_hold cs c)
    where
      first : test d ≡ true → (Memᴰ c (those test cs) → Memᴰ c cs × (test c ≡ true)) → (c ≡ d) ⊎ Memᴰ c (those test cs) → Memᴰ c (d ∷ cs) × (test c ≡ true)
      first q f (inl e) = (Memᴰ.head e, ap test e ∙ q)
      first q f (inr j) = (Memᴰ.tail (f j).0, (f j).1)

      go : (z : Bool) → test d ≡ z → Memᴰ c (cond z (d ∷ those test cs) (those test cs)) → (Memᴰ c (those test cs) → Memᴰ c cs × (test c ≡ true)) → Memᴰ c (d ∷ cs) × (test c ≡ true)
      go true q i f = first q f (Memᴰ.cases_cons i)
      go false q i f = (Memᴰ.tail (f i).0, (f i).1)

  -- and each member for which it holds is one of them
  pub hold_those : (cs : List ℕ) (c : ℕ) → Memᴰ c cs → test c ≡ true → Memᴰ c (those test cs)
  unfolding those
  hold_those [] c i e = absurd (Memᴰ.not-nil i)
  hold_those (d ∷ cs) c i e = go (test d) refl (Memᴰ.cases_cons i) (λ j. hold_those cs c j e)
    where
      go : (z : Bool) → test d ≡ z → (c ≡ d) ⊎ Memᴰ c cs → (Memᴰ c cs → Memᴰ c (those test cs)) → Memᴰ c (cond z (d ∷ those test cs) (those test cs))
      go true q (inl p) f = Memᴰ.head p
      go true q (inr j) f = Memᴰ.tail (f j)
      go false q (inl p) f = told_apart e (ap test p ∙ q)
      go false q (inr j) f = f j

  -- of a list that ascends they ascend
  pub those_ascend : {m : ℕ} {cs : List ℕ} → NumbersAscend m cs → NumbersAscend m (those test cs)
  unfolding those
  those_ascend no_more = no_more
  those_ascend {m} (one_more {c = c} {cs = cs} h a) = go (test c) (those_ascend a)
    where
      below : {ds : List ℕ} → NumbersAscend (c + 1) ds → NumbersAscend m ds
      below b = from_first b (λ x i. let k : m ≤ x = omega (arith, at_least b x i) in k)

      go : (z : Bool) → NumbersAscend (c + 1) (those test cs) → NumbersAscend m (cond z (c ∷ those test cs) (those test cs))
      go true b = one_more h b
      go false b = below b

-- three numbers of which each is below the next ascend
pub three_ascend : (l : List ℕ) → length l ≡ 3 → get_or l 0 0 < get_or l 1 0 → get_or l 1 0 < get_or l 2 0 → NumbersAscend 0 l
three_ascend [] k p q = absurd (omega arith)
three_ascend (a ∷ []) k p q = absurd (omega arith)
three_ascend (a ∷ (b ∷ [])) k p q = absurd (omega arith)
three_ascend (a ∷ (b ∷ (c ∷ []))) k p q =
    let x : a + 1 ≤ b = omega arith in
    let y : b + 1 ≤ c = omega arith in
    let z : 0 ≤ a = omega arith in
    one_more z (one_more x (one_more y no_more))
three_ascend (a ∷ (b ∷ (c ∷ (d ∷ l)))) k p q = absurd (omega arith)

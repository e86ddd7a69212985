-- What an array made by a closure holds, and the answer by the week that lent numbers are. Assumes nothing.
use Prim.Native.Nat.{ℕ, zero, suc, ◌+◌, ◌*◌, ◌<◌, ◌≤◌}
use mathlib.Core.Path.{◌≡◌, refl, ap, subst, ◌∙◌}
use mathlib.Core.Bool.{Bool, true, false, cond}
use mathlib.Core.List.{List, [], ◌∷◌, map}
use native.Mathlib.Omega.{arith}
use lib.Dec.{leb, eqb}
use lib.ListN.{length, get_or}
use borrow.Author.Tests.{leb-true, leb-false, eq-eqb, ne_eqb}
use denote.Param.Members.{Mut}
use Rattle.std.specs.Prelude.{Ok, Err}
use Rattle.table.specs.declared.Refusal.{Refusal}
use Rattle.table.specs.declared.Refusal.TheVariants.{Week}
use Rattle.table.proofs.Words.{zero_one}
use Rattle.table.specs.Refusal.{Given}
use Rattle.week.specs.declared.Window.{Window}
use Rattle.week.specs.Lent.{place_of, day_of, week_of, lent}
use Rattle.week_numbers.specs.Code.{week_lent}
use Rattle.std.specs.Fn.{Called}
use Rattle.std.specs.Array.{IsFromFnResultFrom, IsFromFnResult}
use Rattle.std.specs.List.{range_with_len}
use Rattle.std.proofs.lemmas.List.FromFn.{fill_by_all}

module _ {F B : Type 0} {g : Mut F (ℕ × Unit {0}) B} (h : ℕ → B) where
  made_from : {f : F} (n i : ℕ) (ys : List B) → IsFromFnResultFrom g f ys i n → ((j : ℕ) (y : B) (q : F) → Called g f (j, tt) y q → (q ≡ f) × (y ≡ h j))
      → (k : ℕ) (d : B) → i ≤ k → k < i + n → get_or ys k d ≡ h k
  made_from zero i ys e c k d a b = absurd (omega arith)
  made_from {f} (suc n) i ys (q, y, at, called, rest) c k d a b =
      let s = c i y q called in
      go (leb (i + 1) k) refl (made_from n (i + 1) ys (subst (λ (p : F). IsFromFnResultFrom g p ys (i + 1) n) s.0 rest) c k d) s.1
    where
      go : (z : Bool) → leb (i + 1) k ≡ z → (i + 1 ≤ k → k < i + 1 + n → get_or ys k d ≡ h k) → y ≡ h i → get_or ys k d ≡ h k
      go true p r v = let l = leb-true _ _ p in r l (omega arith)
      go false p r v = let l = leb-false _ _ p in let x : k ≡ i = omega arith in rw x (at.1 d ∙ v)

  pub made_by : {f : F} (n : ℕ) (ys : List B) → IsFromFnResult g f ys n → ((j : ℕ) (y : B) (q : F) → Called g f (j, tt) y q → (q ≡ f) × (y ≡ h j))
      → B → ys ≡ map h (range_with_len 0 n)
  made_by n ys e c d = fill_by_all h ys n d e.long (λ k l. made_from n 0 ys e.each c k d (omega arith) (omega arith))

-- a day's places, and a week's days, by their numbers
pub four_places : (ns : List ℕ) (a : ℕ) → map (λ (i : ℕ). place_of ns (a + 3 * i)) (range_with_len 0 4) ≡ day_of ns a
unfolding day_of
four_places ns a =
    let z : a + 0 ≡ a = omega arith in
    ap (λ (k : ℕ). place_of ns k ∷ place_of ns (a + 3) ∷ place_of ns (a + 6) ∷ place_of ns (a + 9) ∷ []) z

pub seven_days : (ns : List ℕ) → map (λ (d : ℕ). day_of ns (12 * d)) (range_with_len 0 7) ≡ week_of ns
unfolding week_of
seven_days ns = refl

-- a lent week
pub no_week : (ns : List ℕ) → (length ns ≡ 84 → ⊥) → Err Week ≡ week_lent ns
unfolding week_lent
no_week ns n = rw (ne_eqb _ _ n)

pub a_week : (ns : List ℕ) {w : List (List Window)} → length ns ≡ 84 → w ≡ week_of ns → Ok w ≡ week_lent ns
unfolding week_lent
a_week ns h e = rw (eq-eqb _ _ h) (ap Ok e)

-- the answer by the lent week, or its refusal
module _ (answer : List (List Window) → ℕ → ℕ → Given) (ns : List ℕ) (day minute : ℕ) where
  pub refused_lent : {e : Refusal} → week_lent ns ≡ Err e → Err e ≡ lent answer ns day minute
  unfolding week_lent lent
  refused_lent {e} = go (eqb (length ns) 84)
    where
      go : (z : Bool) → cond z (Ok (week_of ns)) (Err Week) ≡ Err e → Err e ≡ cond z (answer (week_of ns) day minute) (Err Week)
      go true p = zero_one (cc)
      go false p = let q : e ≡ Week = cc in rw q

  pub given_lent : {w : List (List Window)} → week_lent ns ≡ Ok w → answer w day minute ≡ lent answer ns day minute
  unfolding week_lent lent
  given_lent {w} = go (eqb (length ns) 84)
    where
      go : (z : Bool) → cond z (Ok (week_of ns)) (Err Week) ≡ Ok w → answer w day minute ≡ cond z (answer (week_of ns) day minute) (Err Week)
      go true p = let e : w ≡ week_of ns = cc in ap (λ (v : List (List Window)). answer v day minute) e
      go false p = zero_one (cc)

-- A lent week: its numbers are those of its places, in order, and it is answered as the week. Assumes nothing.
use Prim.Native.Nat.{ℕ, zero, suc}
use mathlib.Core.Path.{◌≡◌, refl, sym, ap, ◌∙◌}
use mathlib.Core.List.{List, [], ◌∷◌, map}
use lib.ListN.{length, get_or}
use borrow.Author.Tests.{eq-eqb, ne_eqb}
use Rattle.std.specs.Prelude.{Err}
use Rattle.table.specs.declared.Refusal.TheVariants.{Week}
use Rattle.table.specs.Refusal.{Given}
use Rattle.week.specs.declared.Window.{Window}
use Rattle.week.specs.Lent.{place_of, day_of, week_of, day_numbers, week_numbers, lent}

-- the numbers below n, and a list by its places
up_to : ℕ → List ℕ
up_to zero = []
up_to (suc n) = 0 ∷ map suc (up_to n)

shifted : (x : ℕ) (l : List ℕ) (ks : List ℕ) → map (λ (k : ℕ). get_or (x ∷ l) k 0) (map suc ks) ≡ map (λ (k : ℕ). get_or l k 0) ks
shifted x l [] = refl
shifted x l (k ∷ ks) = ap (λ (r : List ℕ). get_or l k 0 ∷ r) (shifted x l ks)

by_places : (l : List ℕ) → map (λ (k : ℕ). get_or l k 0) (up_to (length l)) ≡ l
unfolding up_to
by_places [] = refl
by_places (x ∷ l) = ap (λ (r : List ℕ). x ∷ r) (shifted x l (up_to (length l)) ∙ by_places l)

-- 84 numbers are those of their week, seven days of four places, in order
pub numbers_in_order : (ns : List ℕ) → length ns ≡ 84 → (week_numbers (week_of ns) ≡ ns) × (map length (week_of ns) ≡ 4 ∷ 4 ∷ 4 ∷ 4 ∷ 4 ∷ 4 ∷ 4 ∷ [])
unfolding week_numbers day_numbers week_of day_of place_of up_to
numbers_in_order ns h = (ap (λ (n : ℕ). map (λ (k : ℕ). get_or ns k 0) (up_to n)) (sym h) ∙ by_places ns, refl)

pub lent_week : (answer : List (List Window) → ℕ → ℕ → Given) (ns : List ℕ) (day minute : ℕ) → length ns ≡ 84 → lent answer ns day minute ≡ answer (week_of ns) day minute
unfolding lent
lent_week answer ns day minute h = rw (eq-eqb _ _ h)

pub other_count : (answer : List (List Window) → ℕ → ℕ → Given) (ns : List ℕ) (day minute : ℕ) → (length ns ≡ 84 → ⊥) → lent answer ns day minute ≡ Err Week
unfolding lent
other_count answer ns day minute n = rw (ne_eqb _ _ n)

-- what is answered of the week that is laid from the numbers
pub laid_week : (answer : List (List Window) → ℕ → ℕ → Given) (ns : List ℕ) (day minute : ℕ) {week : List (List Window)} {r : Given}
    → length ns ≡ 84 → week ≡ week_of ns → r ≡ answer week day minute → r ≡ lent answer ns day minute
laid_week answer ns day minute h e q = q ∙ ap (λ (w : List (List Window)). answer w day minute) e ∙ sym (lent_week answer ns day minute h)

-- Laws of what stands before a place. Assumes nothing.
use Prim.Native.Nat.{ℕ, suc, ◌-◌, ◌≤◌}
use mathlib.Core.Path.{◌≡◌, sym, ap, ◌∙◌}
use mathlib.Core.List.{List, [], ◌∷◌}
use native.Mathlib.Omega.{arith}
use lib.ListN.{take}
use lib.Seq.{take-take}
use Rattle.grammar.specs.Postfix.{lead}

-- what is kept before a place is kept before an earlier one
pub kept_less : (r s : ℕ) (m l : List ℕ) → r ≤ s → take s m ≡ take s l → take r m ≡ take r l
kept_less r s m l h e = sym (take-take r s m h) ∙ ap (take r) e ∙ take-take r s l h

-- the bytes of a variable
pub lead_variable : (s : ℕ) → 7 ≤ s → lead s ≡ 3 ∷ ((s - 7) ∷ [])
unfolding lead
lead_variable s h =
    let e : s ≡ suc (suc (suc (suc (suc (suc (suc (s - 7))))))) = omega arith in
    ap lead e

-- What the code's own values say in terms of the definitions. Assumes nothing: these are definitions.
use Rattle.std.specs.Prelude.{ℕ, suc, ◌≡◌, List, Option, Some, None}
use Rattle.std.proofs.Math.Option.{Option as maybe, none, some}
use Rattle.table.specs.Nodes.{tree_at}
use Rattle.table.specs.Branches.{InUse}
use Rattle.weights.specs.Digits.{before, digits_in}
use Rattle.weights.specs.declared.Digits.{Digits}

-- the digit, or none
abbrev pub digit_by : Option ℕ → maybe ℕ
digit_by None = none
digit_by (Some d) = some d

-- the digits, or none
abbrev pub digits_by : Option Digits → maybe (List ℕ)
digits_by None = none
digits_by (Some d) = some d.digits

-- the list at node v, which is in use, has no first item that is a digit
abbrev pub NoItem : List ℕ → ℕ → Type 0
NoItem w v = (n : ℕ) → digits_in (suc n) (tree_at w v) ≡ none

-- the digit d is before the list at node rest in the list at node v, which is in use
pub record FirstItem (w : List ℕ) (v d rest : ℕ) : Type 0 where
  pub digits : (n : ℕ) → digits_in (suc n) (tree_at w v) ≡ before (some d) (digits_in n (tree_at w rest))
  pub rest_in : InUse w rest

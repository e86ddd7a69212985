-- What the code's own values say in terms of the definitions. Assumes nothing: these are definitions.
use Rattle.std.specs.Prelude.{ℕ, cond, List, ltb, ⊤, Result, Ok, Err}
use Rattle.std.proofs.Math.Option.{Option, none, some}
use Rattle.table.specs.Outcome.{frames, zeros}
use Rattle.table.specs.declared.Refusal.{Refusal}
use Rattle.table.specs.declared.Refusal.TheVariants.{Frames}

-- the refusal of a check
abbrev pub refusal_of : Result ⊤ Refusal → Option Refusal
refusal_of (Ok x) = none
refusal_of (Err e) = some e

-- what the check for frames says, and the stack that it leaves: a refusal clears it
pub record Room : Type 0 where
  pub refusal : Option Refusal
  pub stack : List ℕ

abbrev pub checked_with : Result ⊤ Refusal → List ℕ → Room
checked_with c s = record { refusal = refusal_of c; stack = s }

unfoldable pub frames_for : List ℕ → ℕ → Room
frames_for s held = cond (ltb (frames s) held) (record { refusal = some Frames; stack = zeros s }) (record { refusal = none; stack = s })

-- `whole_text::wanted_after` meets its contract: the digit's case. Assumes nothing.
use Prim.Native.Nat.{◌+◌, ◌≤◌}
use mathlib.Core.Path.{◌≡◌}
use native.Mathlib.Omega.{arith}
use Rattle.ternary.specs.Wanted.{wanted_after}
use Rattle.ternary.proofs.Wanted.{after_digit}
use Rattle.whole_text.specs.Code.{wanted_of}
use Rattle.whole_text.proofs.Scanning.{after_other}
use Rattle.whole_text.proofs.wanted_after.Goals as goal
use Rattle.whole_text.proofs.wanted_after.Goals.{in-48, in-49, in-50}

pub returns-in_default : goal.returns-in_default
unfolding wanted_of
returns-in_default c = after_other _ _ (λ e. omega arith) (λ e. omega arith) (λ e. omega arith)

pub returns-in_err-checked_sub : goal.returns-in_err-checked_sub
unfolding wanted_of wanted_after
returns-in_err-checked_sub c =
    let z : c.args.n ≡ 0 = omega (arith, c.in_err-checked_sub.ensures) in rw (c.from_residual.ensures, z)

pub returns : goal.returns
unfolding wanted_of
returns c =
    let d : (c.args.c ≡ 48 + c.match-c.branches) × (c.match-c.branches ≤ 2) =
    elim c.match-c.branch [ in-48 w ↦ (omega arith, omega arith) | in-49 w ↦ (omega arith, omega arith) | in-50 w ↦ (omega arith, omega arith) ] in
    let k = c.in_ok-checked_sub.ensures in
    rw k.1 (after_digit _ _ _ (omega (arith, k.0)) d.0 d.1)

-- The text that Run wrote lies within the out bytes. Assumes nothing.
use Prim.Native.Nat.{ℕ, ◌≤◌}
use mathlib.Core.Path.{◌≡◌, sym, ap, ◌∙◌}
use mathlib.Core.List.{List}
use native.Mathlib.Omega.{arith}
use lib.ListN.{length, drop, length-append}
use Rattle.std.specs.Prelude.{Result, Ok, Err, IfOk}
use Rattle.ternary.specs.Text.{text}
use Rattle.table.specs.Outcome.{Outcome, whole_out}
use Rattle.table.specs.declared.Refusal.{Refusal}
use Rattle.running.specs.Run.{run}
use Rattle.running.specs.declared.Ran.{Ran}
use Rattle.running.proofs.Direct.{run_direct}

pub text_within : (w s o l : List ℕ) (a : Result Ran Refusal) {z y x : List ℕ} → whole_out a z y x ≡ run w s o l → IfOk a (λ m. m.digits ≤ length x)
text_within w s o l (Err d) e = tt
text_within w s o l (Ok m) {z} {y} {x} e =
    let r = run_direct w s o l m.steps m.used m.digits m.uses (ap (λ (v : Outcome (Result Ran Refusal)). v.answer) (sym e)) in
    let f = ap length (ap (λ (v : Outcome (Result Ran Refusal)). v.out) e ∙ r.out_is) in
    omega (arith, r.digits_are, length-append (text r.tree) (drop m.digits o))

-- `code_text::put_digits` meets its contract: the digits before the last one, then the last. Assumes nothing.
use native.Mathlib.Omega.{arith}
use Prim.Native.Nat.{ℕ, ◌-◌}
use mathlib.Core.Path.{ap, ◌∙◌}
use mathlib.Core.List.{List, ◌++◌}
use lib.ListN.{length, drop}
use mathlib.Core.Logic.{inl, inr}
use Rattle.code_text.proofs.Ways.{one_byte, BeforeLast, last_written, third_asks}
use Rattle.code_text.proofs.+put_digits.Goals.{then-value-ge3, else-value-ge3}
use Rattle.code_text.proofs.+put_digits.Goals as goal

pub overflow_sub-last : goal.overflow_sub-last
overflow_sub-last t c = one_byte _ _ c.requires

pub put_digits-requires : goal.put_digits-requires
put_digits-requires t c = (omega (arith, c.if-value-ge3.true, c.decreases), third_asks _ _ c.requires c.if-value-ge3.true)

pub bounds-digits-last : goal.bounds-digits-last
bounds-digits-last t c = omega (arith, one_byte _ _ c.requires)

pub returns : goal.returns
returns t c =
    let b : BeforeLast c.args.value c.args.digits.now c.if-value-ge3.digits =
    elim c.if-value-ge3.branch [
      | then-value-ge3 w ↦ inl (w.if-value-ge3.true, w.digits-is ∙ ap (λ (l : List ℕ). l ++ drop (length c.args.digits.now - 1) c.args.digits.now) w.put_digits.ensures)
      | else-value-ge3 w ↦ inr (w.if-value-ge3.false, w.digits-is)
    ] in
    last_written _ _ c.requires b

-- `weighing::compare_digits` meets its contract: the library compares the digits from the highest on. Assumes nothing.
use mathlib.Core.Path.{◌≡◌, refl, ◌∙◌}
use native.Mathlib.Omega.{arith}
use Rattle.std.specs.Ordering.{nat_cmp}
use Rattle.std.proofs.lemmas.Iterator.Search.{cmp_from_yields_List}
use Rattle.std.proofs.lemmas.Iterator.Adapters.{YieldsList-from_rev_slice}
use Rattle.weighing.proofs.Ways.{from_the_end}
use Rattle.weighing.proofs.compare_digits.Goals as goal

pub returns : goal.returns
returns c =
    let x = c.args.a.digits in
    let y = c.args.b.digits in
    cmp_from_yields_List (λ x y. y ≡ x) _ nat_cmp _ c.cmp.ensures.ran (YieldsList-from_rev_slice x cc) (λ it e. YieldsList-from_rev_slice y cc) (λ x y. refl)
    ∙ from_the_end x y (omega arith)

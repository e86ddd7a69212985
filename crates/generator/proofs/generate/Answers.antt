-- `generator::generate` meets its contract, one law for each way that it ends. Assumes nothing.
use mathlib.Core.Path.{sym}
use native.Mathlib.Omega.{arith}
use mathlib.Core.Path.{◌≡◌}
use lib.ListN.{length, take}
use lib.Seq.{length-take-le}
use Rattle.loads.proofs.Outcomes.{generate_empty, generate_short, generate_digits}
use Rattle.generator.proofs.generate.Goals as goal

pub returns-then-n-eq0 : goal.returns-then-n-eq0
returns-then-n-eq0 c = sym (generate_empty _ _ _ (λ k. grind (arith, k.from_one, k.to_most)))

pub returns-then-out-n : goal.returns-then-out-n
returns-then-out-n c = sym (generate_short _ _ _ (record { from_one = grind arith; to_most = grind arith }) c.if-out-n.true)

pub returns : goal.returns
returns c =
    let many : length (take c.args.n c.args.out.now) ≡ c.args.n = length-take-le _ _ c.if-out-n.false in
    generate_digits _ _ _ (record { from_one = grind arith; to_most = grind arith }) c.if-out-n.false (rw (c.write_load.ensures, many))

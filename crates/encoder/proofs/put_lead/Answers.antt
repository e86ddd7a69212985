-- `encoder::put_lead` meets its contract: a variable has two bytes. Assumes nothing.
use native.Mathlib.Omega.{arith}
use mathlib.Core.Path.{ap}
use lib.ListN.{length}
use Rattle.encoder.proofs.Storing.{lead_variable}
use Rattle.encoder.proofs.put_lead.Goals as goal

pub put_before-requires-else-s-lt-VARIABLE : goal.put_before-requires-else-s-lt-VARIABLE
put_before-requires-else-s-lt-VARIABLE c =
    let e = ap length (lead_variable c.args.s c.if-s-lt-VARIABLE.false) in
    (omega arith, omega arith)

pub returns-else-s-lt-VARIABLE : goal.returns-else-s-lt-VARIABLE
returns-else-s-lt-VARIABLE c = rw (lead_variable c.args.s c.if-s-lt-VARIABLE.false) c.put_before-else-s-lt-VARIABLE.ensures

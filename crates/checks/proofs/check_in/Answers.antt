-- `checks::check_in` meets its contract: 1, then 2 by the nodes. Assumes nothing.
use mathlib.Core.Path.{ap}
use mathlib.Core.Bool.{not}
use native.Mathlib.Omega.{arith}
use Rattle.checks.proofs.Entry.{refuses, refused_unfit, may_fill, by_nodes}
use Rattle.checks.proofs.check_in.Goals as goal

pub returns-then-not-fits : goal.returns-then-not-fits
returns-then-not-fits c =
    let a = c.args in
    refuses a.within a.table.now a.used a.stack.now (refused_unfit a.within a.table.now a.used a.stack.now c.fits.ensures (ap not c.if-not-fits.true))

pub fill-requires : goal.fill-requires
fill-requires c =
    let a = c.args in
    let f = may_fill a.within a.table.now a.used a.stack.now c.fits.ensures (ap not c.if-not-fits.false) in
    (c.requires, f.0, omega (arith, f.1))

pub returns-then-fill : goal.returns-then-fill
returns-then-fill c =
    let a = c.args in
    let f = c.fill.ensures in
    (by_nodes a.within a.table.now a.used a.stack.now c.fits.ensures (ap not c.if-not-fits.false) f.0 c.if-fill.true, λ q. f.1 c.if-fill.true)

pub returns-else-fill : goal.returns-else-fill
returns-else-fill c =
    let a = c.args in
    refuses a.within a.table.now a.used a.stack.now (by_nodes a.within a.table.now a.used a.stack.now c.fits.ensures (ap not c.if-not-fits.false) c.fill.ensures.0 c.if-fill.false)

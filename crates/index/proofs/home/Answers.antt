-- `index::home` meets its contract: no product overflows. Assumes nothing.
use native.Mathlib.Omega.{arith}
use mathlib.Core.Path.{refl}
use Rattle.index.specs.Index.{home}
use Rattle.index.proofs.Indexing.{home_below}
use Rattle.index.proofs.home.Goals as goal

pub returns : goal.returns
unfolding home
returns c = (refl, home_below c.args.a c.args.b c.args.slots (omega arith))

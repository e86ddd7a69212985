-- `endings::stop` meets its contract. Assumes nothing.
use Rattle.endings.proofs.Ways.{is_stopped}
use Rattle.endings.proofs.stop.Goals as goal

pub returns : goal.returns
returns c = λ o. is_stopped c.args.table.now c.args.used c.args.stack.now o c.clear.ensures (c.fill.ensures.after (λ y e. e))

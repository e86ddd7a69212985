-- `reader::is_text` meets its contract: it says whether there is one whole tree. Assumes nothing.
use Rattle.reader.proofs.ReadWays.{is_readable}
use Rattle.reader.proofs.is_text.Goals as goal

pub returns : goal.returns
returns c = rw c.is_some.ensures (is_readable c.args.text.now _ c.most_pending.ensures)

-- `reader::most_pending` meets its contract: the scan's number, where the text is not too long. Assumes nothing.
use Rattle.reader.proofs.ReadWays.{long_text, scanned}
use Rattle.reader.proofs.most_pending.Goals as goal

pub returns-then-n-le65535 : goal.returns-then-n-le65535
returns-then-n-le65535 c = scanned c.args.text.now _ c.if-n-le65535.true c.scan.ensures

pub returns-else-n-le65535 : goal.returns-else-n-le65535
returns-else-n-le65535 c = long_text c.args.text.now c.if-n-le65535.false

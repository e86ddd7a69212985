-- `checks::check_frames` meets its contract. Assumes nothing.
use Rattle.checks.proofs.Room.{lacks_frames, lacks_nothing}
use Rattle.checks.proofs.check_frames.Goals as goal

pub returns-then-len-held : goal.returns-then-len-held
returns-then-len-held c = lacks_frames _ _ c.if-len-held.true c.clear.ensures

pub returns : goal.returns
returns c = lacks_nothing _ _ c.if-len-held.false

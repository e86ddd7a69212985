-- `operators::close` meets its contract: one kind of operator after another. Assumes nothing.
use native.Mathlib.Omega.{arith}
use Rattle.table.proofs.Wrote.{wrote_then}
use Rattle.operators.proofs.Waits.{put_end}
use Rattle.operators.proofs.close.Goals as goal

pub put-b-requires : goal.put-b-requires
put-b-requires c = omega (arith, put_end _ _ _ c.args.nots 5 _ c.put-a.ensures, c.put-a.auto.post)

pub put-requires : goal.put-requires
put-requires c = omega (arith, put_end _ _ _ c.args.nots 5 _ c.put-a.ensures, c.put-a.auto.post, put_end _ _ _ c.args.ands 1 _ c.put-b.ensures, c.put-b.auto.post)

pub returns : goal.returns
returns c = wrote_then _ _ _ _ _ _ _ _ c.put-a.auto.post c.put-a.ensures (wrote_then _ _ _ _ _ _ _ _ c.put-b.auto.post c.put-b.ensures c.put.ensures)

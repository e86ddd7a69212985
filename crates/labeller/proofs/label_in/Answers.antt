-- `labeller::label_in` meets its contract: its array is an empty index for the table, which is empty too. Assumes nothing.
use Prim.Native.Nat.{◌*◌, ◌/◌}
use native.Mathlib.Omega.{arith}
use Rattle.index.proofs.Ready.{empty_index, ready_none}
use Rattle.labeller.proofs.label_in.Goals as goal

pub label_stages-requires : goal.label_stages-requires
label_stages-requires g c =
    let p = c.requires.1 in
    (p, ready_none p.ready.fine.short (empty_index g.row.N (g.row.N / 3 * 2) c.args.table.now (omega (arith, c.requires)) (omega (arith, c.requires))))

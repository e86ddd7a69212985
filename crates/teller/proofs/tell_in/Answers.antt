-- `teller::tell_in` meets its contract: its array is an empty index for the table, which is empty too. Assumes nothing.
use Prim.Native.Nat.{◌*◌, ◌/◌}
use native.Mathlib.Omega.{arith}
use Rattle.index.proofs.Ready.{empty_index, ready_none}
use Rattle.teller.proofs.tell_in.Goals as goal

pub run_stages-requires : goal.run_stages-requires
run_stages-requires g c =
    let p = c.requires.1 in
    (p, ready_none p.ready.fine.short (empty_index g.row.N (g.row.N / 3 * 2) c.args.table.now (omega (arith, c.requires)) (omega (arith, c.requires))))

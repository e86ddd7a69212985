-- `weight_list::put_item` meets its contract: the fork's byte, the Ks and the leaf. Assumes nothing.
use Prim.Native.Nat.{ℕ}
use native.Mathlib.Omega.{arith}
use lib.ListN.{length-set}
use Rattle.weight_list.proofs.Ways.{no_k, one_k, item_ends}
use Rattle.weight_list.proofs.put_item.Goals as goal

pub loop-init : goal.loop-init
loop-init c = record { end = omega arith; written = no_k _ _ (omega (arith, length-set {A = ℕ})) }

pub loop-preserved : goal.loop-preserved
loop-preserved c = record { end = omega arith; written = one_k _ c.loop.auto.bytes c.loop.invariant.written (omega (arith, length-set {A = ℕ})) }

pub returns : goal.returns
returns c = (item_ends _ _ (omega arith) _ c.loop.auto.bytes c.loop.invariant.written (omega arith) (omega (arith, length-set {A = ℕ})), omega arith)

-- `bracket::put` meets its contract: what is copied into a part of the stack is a run. Assumes nothing.
use Prim.Native.Nat.{◌+◌, ◌-◌}
use mathlib.Core.Path.{◌≡◌, refl, ◌∙◌}
use native.Mathlib.Omega.{arith}
use lib.ListN.{length}
use Rattle.std.proofs.lemmas.Slice.{put_mid-paste}
use Rattle.bracket.proofs.Stores.{pasted}
use Rattle.bracket.proofs.put.Goals as goal

pub returns : goal.returns
returns c =
    let a = c.args in
    let n : length a.xs.now ≡ a.q + length a.xs.now - a.q = omega arith in
    record {
      end = refl;
      stored = put_mid-paste a.q _ a.stack.now _ a.xs.now (length a.xs.now) c.copy_from_slice.ensures.after n refl ∙ pasted a.xs.now a.stack.now a.q _ refl c.requires;
    }

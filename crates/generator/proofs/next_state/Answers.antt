-- `generator::next_state` meets its contract: it computes what the definition says. Assumes nothing.
use Prim.Native.Nat.{◌*◌}
use native.Mathlib.Nat.{mod-add-mod}
use Rattle.loads.specs.Loads.{next_state}
use Rattle.generator.proofs.next_state.Goals as goal

pub returns : goal.returns
unfolding next_state
returns c = mod-add-mod (c.args.state * 1664525) 4294967296 1013904223

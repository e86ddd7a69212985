-- `weight_nodes::digits_of` meets its contract. The loop's invariant: the digits of the number are those that are made and then those of the rest. Assumes
-- nothing.
use Prim.Native.Nat.{◌-◌}
use mathlib.Core.Path.{◌≡◌}
use mathlib.Core.List.{◌++◌}
use lib.ListN.{take}
use Rattle.weights.specs.Digits.{digits_of}
use Rattle.weight_nodes.proofs.digits_of.Given as goal

abbrev pub invariant-loop-d : goal.invariant-loop-d
invariant-loop-d l = digits_of 9 l.grams ≡ take l.d-index l.d-items ++ digits_of (9 - l.d-index) l.rest

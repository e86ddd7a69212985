-- `packet::after_rule` meets its contract. The loop's invariant: the arguments so far and the form of the fields left are the form of all.
-- Assumes nothing.
use Prim.Native.Nat.{ℕ, ◌-◌, ◌≤◌}
use mathlib.Core.List.{List}
use lib.ListN.{length}
use mathlib.Core.Path.{◌≡◌}
use Rattle.fields.specs.Packet.{after_rule}
use Rattle.packet.specs.Code.{fields_from, with_fields, form_of, counted}
use Rattle.packet.proofs.after_rule.Given as goal

abbrev pub invariant-loop-count : goal.invariant-loop-count
invariant-loop-count l = (l.at ≤ length l.packet)
    × ((q : List ℕ) → counted l.count (form_of (with_fields (after_rule q (8 - l.count)) (fields_from l.packet l.at))) ≡ form_of (with_fields (after_rule q 8) (fields_from l.packet l.from)))

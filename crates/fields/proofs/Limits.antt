-- The step limit of a packet, with tag 3 and without it. Assumes nothing.
use Prim.Native.Nat.{ℕ, ◌≤◌}
use mathlib.Core.Path.{◌≡◌, refl, sym, ◌∙◌}
use mathlib.Core.List.{List, [], ◌∷◌, ◌++◌}
use mathlib.Core.Option.{Option, some}
use native.Mathlib.Omega.{arith}
use lib.ListN.{length, length-append}
use Rattle.fields.specs.Packet.{high_first, packet, field_bytes, argument_bytes, label_bytes, named, default}
use Rattle.fields.proofs.Exact.{packet_found}

-- 100,000 in four bytes, high first
abbrev pub hundred_thousand : List ℕ
hundred_thousand = 0x00 ∷ 0x01 ∷ 0x86 ∷ 0xA0 ∷ []

module _ (r : List ℕ) (vs : List (List ℕ)) (few : length vs ≤ 8) (v : Option (List ℕ)) where
  -- the rule, the arguments, the limit's field or nothing, and the label's or nothing
  abbrev ending : List ℕ → List ℕ
  ending end = field_bytes 1 r ++ (argument_bytes vs ++ (end ++ label_bytes v))

  -- "Packets that carry tag 3 are unaffected" ([2]): the limit is the number named, and the default does not enter.
  pub named_limit : (n : List ℕ) → length n ≡ 4 → high_first 0 n ≤ 1000000 → length (ending (field_bytes 3 n)) ≤ 16384
      → packet (ending (field_bytes 3 n)) ≡ some (record { rule = r; arguments = vs; limit = high_first 0 n; label = v })
  named_limit n four most short = packet_found (record { end = field_bytes 3 n; bytes = refl; limit_is = named n four most; few = few; short = short })

  -- "Without tag 3 the limit becomes 100,000." ([2])
  pub default_limit_lem : length (ending []) ≤ 16384 → packet (ending []) ≡ some (record { rule = r; arguments = vs; limit = 100000; label = v })
  default_limit_lem short = packet_found (record { end = []; bytes = refl; limit_is = default; few = few; short = short })

  -- A packet without tag 3 is read as the one with tag 3 of 100,000, where this keeps within 16,384 bytes.
  pub default_named : length (ending (field_bytes 3 hundred_thousand)) ≤ 16384 → packet (ending []) ≡ packet (ending (field_bytes 3 hundred_thousand))
  unfolding high_first
  default_named short =
      let a = length-append (field_bytes 1 r) (argument_bytes vs ++ label_bytes v) in
      let b = length-append (field_bytes 1 r) (argument_bytes vs ++ (field_bytes 3 hundred_thousand ++ label_bytes v)) in
      let c = length-append (argument_bytes vs) (label_bytes v) in
      let d = length-append (argument_bytes vs) (field_bytes 3 hundred_thousand ++ label_bytes v) in
      let e = length-append (field_bytes 3 hundred_thousand) (label_bytes v) in
      default_limit_lem (omega arith) ∙ sym (named_limit hundred_thousand refl (omega arith) short)

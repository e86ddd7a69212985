-- Where the fields of a packet stand, and what the code's own values say in terms of the definitions. Assumes nothing: these are definitions.
use Rattle.std.specs.Prelude.{ℕ, zero, suc, ◌+◌, ◌-◌, ◌*◌, ◌≤◌, ◌≡◌, cond, List, [], ◌∷◌, length, get_or, take, drop, leb}
use Rattle.std.specs.Prelude as code
use Rattle.std.proofs.Math.Option.{Option, none, some}
use Rattle.fields.specs.Packet.{Field, fields, Packet}
use Rattle.packet.specs.declared.Part.{Part}
use Rattle.packet.specs.declared.Form.{Form}

-- the length that the field at a position names, where its value ends, and its value
abbrev pub size_at : List ℕ → ℕ → ℕ
size_at l at = get_or l (at + 1) 0 * 256 + get_or l (at + 2) 0

abbrev pub end_at : List ℕ → ℕ → ℕ
end_at l at = at + 3 + size_at l at

abbrev pub part_at : List ℕ → ℕ → Part
part_at l at = record { start = at + 3; end = end_at l at }

abbrev pub value_at : List ℕ → ℕ → List ℕ
value_at l at = take (size_at l at) (drop (at + 3) l)

-- So many fields stand from a position on, each within the packet, and these are their values.
unfoldable pub Stand : List ℕ → ℕ → ℕ → Type 0
Stand l at zero = Unit {0}
Stand l at (suc k) = (end_at l at ≤ length l) × Stand l (end_at l at) k

unfoldable pub values_at : List ℕ → ℕ → ℕ → List (List ℕ)
values_at l at zero = []
values_at l at (suc k) = value_at l at ∷ values_at l (end_at l at) k

-- where the field at a position ends, if that is within the packet
unfoldable pub end_in : List ℕ → ℕ → code.Option ℕ
end_in l at = cond (leb (end_at l at) (length l)) (code.Some (end_at l at)) code.None

-- all fields from a position on
abbrev pub fields_from : List ℕ → ℕ → Option (List Field)
fields_from l at = fields (length l) (drop at l)

-- what is read of fields, where there are any
unfoldable pub with_fields : (List Field → Option Packet) → Option (List Field) → Option Packet
with_fields next none = none
with_fields next (some fs) = next fs

-- how many bytes of the packet the label's field has, where there is one
unfoldable pub label_size : Option (List ℕ) → code.Option ℕ
label_size none = code.None
label_size (some v) = code.Some (3 + length v)

-- what a packet's form says of it, where it is one
unfoldable pub form_of : Option Packet → code.Option Form
form_of none = code.None
form_of (some p) = code.Some (record { arguments = length p.arguments; limit = p.limit; label_size = label_size p.label })

-- the form with k arguments more
unfoldable pub counted : ℕ → code.Option Form → code.Option Form
counted k code.None = code.None
counted k (code.Some f) = code.Some (record { arguments = k + f.arguments; limit = f.limit; label_size = f.label_size })

-- The label's text where its field is the last m bytes of the packet, or none; and that the field stands there.
unfoldable pub label_at : List ℕ → code.Option ℕ → Option (List ℕ)
label_at l code.None = none
label_at l (code.Some m) = some (value_at l (length l - m))

unfoldable pub LabelStands : List ℕ → code.Option ℕ → Type 0
LabelStands l code.None = Unit {0}
LabelStands l (code.Some m) = (m ≤ length l) × (end_at l (length l - m) ≡ length l)

-- a packet with k arguments, the limit n and a label's field of this size, by where its fields stand
abbrev pub packet_at : List ℕ → ℕ → ℕ → code.Option ℕ → Packet
packet_at l k n m = record { rule = value_at l 0; arguments = values_at l (end_at l 0) k; limit = n; label = label_at l m }

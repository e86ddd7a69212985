-- The fields of a packet (The packet). Assumes nothing: these are definitions.
use Rattle.std.specs.Prelude.{ℕ, zero, suc, ◌+◌, ◌*◌, ◌/◌, ◌%◌, ◌≤◌, ◌<◌, ◌≡◌, cond, ◌&&◌, List, [], ◌∷◌, ◌++◌, length, take, drop, leb, eqb}
use Rattle.std.proofs.Math.Option.{Option, none, some}

-- "Fields: one-byte tag, two-byte length (high byte first), value."
pub record Field : Type 0 where
  pub tag : ℕ
  pub value : List ℕ

unfoldable pub before : Field → Option (List Field) → Option (List Field)
before f none = none
before f (some fs) = some (f ∷ fs)

-- The fields that bytes are, each with its whole value. The first argument bounds their number; the bytes' length is enough.
unfoldable pub fields : ℕ → List ℕ → Option (List Field)
fields zero [] = some []
fields zero (t ∷ l) = none
fields (suc n) [] = some []
fields (suc n) (t ∷ []) = none
fields (suc n) (t ∷ (high ∷ [])) = none
fields (suc n) (t ∷ (high ∷ (low ∷ l))) =
    cond (leb (high * 256 + low) (length l))
    (before (record { tag = t; value = take (high * 256 + low) l }) (fields n (drop (high * 256 + low) l)))
    none

-- a packet's rule, its arguments' texts, its step limit, and its label's text where it has one ([1])
pub record Packet : Type 0 where
  pub rule : List ℕ
  pub arguments : List (List ℕ)
  pub limit : ℕ
  pub label : Option (List ℕ)

-- the packet with this label, or without one
abbrev pub with_label : Packet → Option (List ℕ) → Packet
with_label p v = record { rule = p.rule; arguments = p.arguments; limit = p.limit; label = v }

-- "Without tag 3 the limit becomes 100,000." ([2])
abbrev pub default_limit : ℕ
default_limit = 100000

-- bytes as a number, high first
unfoldable pub high_first : ℕ → List ℕ → ℕ
high_first n [] = n
high_first n (b ∷ l) = high_first (n * 256 + b) l

unfoldable pub with_argument : List ℕ → Option Packet → Option Packet
with_argument v none = none
with_argument v (some p) = some (record { rule = p.rule; arguments = v ∷ p.arguments; limit = p.limit; label = p.label })

-- "A packet may end with one field of tag 4, a label's text." ([1]): what may follow a limit n
unfoldable pub after_limit : List ℕ → ℕ → List Field → Option Packet
after_limit r n [] = some (record { rule = r; arguments = []; limit = n; label = none })
after_limit r n (f ∷ []) = cond (eqb f.tag 4) (some (record { rule = r; arguments = []; limit = n; label = some f.value })) none
after_limit r n (f ∷ (g ∷ fs)) = none

-- "then at most one tag 3, four bytes, high first, the step limit, at most 1,000,000"
unfoldable pub after_arguments : List ℕ → List Field → Option Packet
after_arguments r [] = after_limit r default_limit []
after_arguments r (f ∷ fs) =
    cond (eqb f.tag 3)
    (cond (eqb (length f.value) 4 && leb (high_first 0 f.value) 1000000) (after_limit r (high_first 0 f.value) fs) none)
    (after_limit r default_limit (f ∷ fs))

-- "then none to eight of tag 2, an argument's text": at most k of them
unfoldable pub after_rule : List ℕ → ℕ → List Field → Option Packet
after_rule r zero fs = after_arguments r fs
after_rule r (suc k) [] = after_arguments r []
after_rule r (suc k) (f ∷ fs) = cond (eqb f.tag 2) (with_argument f.value (after_rule r k fs)) (after_arguments r (f ∷ fs))

-- "First tag 1, a rule"
unfoldable pub from_fields : Option (List Field) → Option Packet
from_fields none = none
from_fields (some []) = none
from_fields (some (f ∷ fs)) = cond (eqb f.tag 1) (after_rule f.value 8 fs) none

-- "Anything else, or more than 16,384 bytes, is 6."
unfoldable pub packet : List ℕ → Option Packet
packet l = cond (leb (length l) 16384) (from_fields (fields (length l) l)) none

-- What follows says the same without a reader; the theorem `packet_exact` says that of bytes the reader above gives p exactly where IsPacket holds.

-- a field's bytes
unfoldable pub field_bytes : ℕ → List ℕ → List ℕ
field_bytes tag v = tag ∷ (length v / 256) ∷ (length v % 256) ∷ v

unfoldable pub argument_bytes : List (List ℕ) → List ℕ
argument_bytes [] = []
argument_bytes (v ∷ vs) = field_bytes 2 v ++ argument_bytes vs

-- the limit's field, or none and the default
pub data IsLimit : List ℕ → ℕ → Type 0 where
  named : (v : List ℕ) → length v ≡ 4 → high_first 0 v ≤ 1000000 → IsLimit (field_bytes 3 v) (high_first 0 v)
  default : IsLimit [] default_limit

-- the label's field, or none ([1])
unfoldable pub label_bytes : Option (List ℕ) → List ℕ
label_bytes none = []
label_bytes (some v) = field_bytes 4 v

-- "First tag 1, a rule; then none to eight of tag 2, an argument's text; then at most one tag 3"; "A packet may end with one field of tag 4" ([1])
pub record IsPacket (l : List ℕ) (p : Packet) : Type 0 where
  pub end : List ℕ
  pub bytes : l ≡ field_bytes 1 p.rule ++ (argument_bytes p.arguments ++ (end ++ label_bytes p.label))
  pub limit_is : IsLimit end p.limit
  pub few : length p.arguments ≤ 8
  pub short : length l ≤ 16384

-- "Anything else, or more than 16,384 bytes, is 6.": the list is no packet's bytes
abbrev pub NoPacket : List ℕ → Type 0
NoPacket l = (p : Packet) → IsPacket l p → ⊥

-- every number of a list is a byte
abbrev pub Bytes : List ℕ → Type 0
Bytes [] = Unit {0}
Bytes (b ∷ l) = (b < 256) × Bytes l

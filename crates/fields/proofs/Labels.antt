-- A packet with a label and the one without it ([1]). Assumes nothing.
use Prim.Native.Nat.{ℕ, ◌≤◌}
use mathlib.Core.Path.{◌≡◌, refl}
use mathlib.Core.List.{List, [], ◌++◌, append_assoc, append-nil}
use mathlib.Core.Option.{none, some}
use native.Mathlib.Omega.{arith}
use lib.ListN.{length, length-append}
use Rattle.fields.specs.Packet.{Packet, field_bytes, argument_bytes, label_bytes, IsPacket, with_label}

-- "A packet may end with one field of tag 4" ([1]): a packet without a label, followed by that field, is the packet with it, where this "keeps within
-- 16,384 bytes".
pub label_added : {l : List ℕ} {p : Packet} → IsPacket l p → p.label ≡ none → (v : List ℕ) → length (l ++ field_bytes 4 v) ≤ 16384
    → IsPacket (l ++ field_bytes 4 v) (with_label p (some v))
unfolding label_bytes
label_added {l} {p} h e v short =
    record {
      end = h.end;
      bytes = rw (h.bytes, e, append-nil) (simp append_assoc);
      limit_is = h.limit_is;
      few = h.few;
      short = short;
    }

-- Every packet with a label is such a one: the bytes before the label's field are the packet without it.
pub record Rest (l : List ℕ) (p : Packet) (v : List ℕ) : Type 0 where
  pub rest : List ℕ
  pub bytes : l ≡ rest ++ field_bytes 4 v
  pub is_packet : IsPacket rest (with_label p none)

pub label_taken : {l : List ℕ} {p : Packet} → IsPacket l p → (v : List ℕ) → p.label ≡ some v → Rest l p v
unfolding label_bytes
label_taken {l} {p} h v e =
    let rest : List ℕ = field_bytes 1 p.rule ++ (argument_bytes p.arguments ++ (h.end ++ [])) in
    let same : l ≡ rest ++ field_bytes 4 v = rw (h.bytes, e, append-nil) (simp append_assoc) in
    record {
      rest = rest;
      bytes = same;
      is_packet =
          record {
            end = h.end;
            bytes = refl;
            limit_is = h.limit_is;
            few = h.few;
            short = omega (arith, length-append rest (field_bytes 4 v), h.short, rw same at h.short);
          };
    }

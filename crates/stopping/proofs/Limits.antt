-- The bytes of a packet whose step limit is raised, and what `stopped` then answers. Assumes nothing.
use Prim.Native.Nat.{ℕ, ◌+◌, ◌≤◌, ◌<◌}
use mathlib.Core.Path.{◌≡◌, refl, ap, ◌∙◌}
use mathlib.Core.List.{List, [], ◌∷◌, ◌++◌}
use mathlib.Core.Logic.{◌⊎◌, inl, inr}
use mathlib.Core.Option.{some}
use native.Mathlib.Omega.{arith}
use lib.ListN.{length, length-append}
use Rattle.table.specs.declared.Refusal.TheVariants.{Steps}
use Rattle.fields.specs.Packet.{Packet, high_first, packet, field_bytes, argument_bytes, label_bytes, IsLimit, named, default, IsPacket, Bytes}
use Rattle.fields.proofs.Exact.{packet_found}
use Rattle.fields.proofs.Limits.{named_limit}
use Rattle.stopping.specs.declared.Kind.{Kind}
use Rattle.stopping.specs.declared.Stopped.TheVariants.{Applying}
use Rattle.stopping.specs.Stopped.{stopped}
use Rattle.stopping.specs.Claims.{Passes, with_limit, four_bytes, raised}
use Rattle.stopping.proofs.Raising.{raise_steps}

four_are : (n : ℕ) → high_first 0 (four_bytes n) ≡ n
unfolding high_first
four_are n = omega arith

-- the packet with the limit named, where it keeps within 16,384 bytes
pub raised_packet : (p : Packet) (n : ℕ) → length p.arguments ≤ 8 → n ≤ 1000000 → length (raised p n) ≤ 16384 → packet (raised p n) ≡ some (with_limit p n)
unfolding raised
raised_packet p n few most short =
    let q = four_are n in
    named_limit p.rule p.arguments few p.label (four_bytes n) refl (rw q most) short ∙ ap (λ (m : ℕ). some (with_limit p m)) q

-- Its bytes are seven more than those of a packet that names no limit, and as many as those of one that does: `end` are the bytes of the limit's field, which
-- is there or not.
pub raised_length : {l : List ℕ} {p : Packet} (h : IsPacket l p) (n : ℕ) → length (raised p n) + length h.end ≡ length l + 7
unfolding raised field_bytes
raised_length {l} {p} h n =
    let r = field_bytes 1 p.rule in
    let a = argument_bytes p.arguments in
    let m = field_bytes 3 (four_bytes n) in
    let v = label_bytes p.label in
    omega (
      arith,
      ap length h.bytes,
      length-append r (a ++ (h.end ++ v)),
      length-append a (h.end ++ v),
      length-append h.end v,
      length-append r (a ++ (m ++ v)),
      length-append a (m ++ v),
      length-append m v,
    )

pub end_length : {end : List ℕ} {n : ℕ} → IsLimit end n → (end ≡ []) ⊎ (length end ≡ 7)
unfolding field_bytes
end_length (named v four most) = inr (omega arith)
end_length default = inl refl

-- all of them are bytes, where the packet's are
bytes_of : (a b : List ℕ) → Bytes (a ++ b) → Bytes a × Bytes b
bytes_of [] b h = (tt, h)
bytes_of (x ∷ a) b h = let i = bytes_of a b h.1 in ((h.0, i.0), i.1)

bytes_and : (a b : List ℕ) → Bytes a → Bytes b → Bytes (a ++ b)
bytes_and [] b h i = i
bytes_and (x ∷ a) b h i = (h.0, bytes_and a b h.1 i)

pub raised_bytes : {l : List ℕ} {p : Packet} → IsPacket l p → Bytes l → (n : ℕ) → n ≤ 1000000 → Bytes (raised p n)
unfolding raised field_bytes
raised_bytes {l} {p} h b n most =
    let r = field_bytes 1 p.rule in
    let a = argument_bytes p.arguments in
    let v = label_bytes p.label in
    let m = field_bytes 3 (four_bytes n) in
    let i = bytes_of r (a ++ (h.end ++ v)) (rw h.bytes at b) in
    let j = bytes_of a (h.end ++ v) i.1 in
    let k = bytes_of h.end v j.1 in
    let d : Bytes m = (omega arith, (omega arith, (omega arith, (omega arith, (omega arith, (omega arith, (omega arith, tt))))))) in
    bytes_and r (a ++ (m ++ v)) i.0 (bytes_and a (m ++ v) j.0 (bytes_and m v d k.1))

-- "Where its own top and the packet's 16,384 bytes allow, raising the named thing alone by one carries the run past that check": for 7, a limit of up to
-- 1,000,000. The seven bytes that a default limit needs must be there: `end` are the bytes of the limit's field, seven or none.
pub raise_limit : (w s o l : List ℕ) (i j : ℕ) (c : Kind) → (stopped w s o l).answer ≡ Applying Steps i j c → (p : Packet) (h : IsPacket l p) (n : ℕ) → p.limit < n → n ≤ 1000000
    → length l + 7 ≤ 16384 + length h.end → Passes w s o (raised p n) Steps i j c
raise_limit w s o l i j c q p h n above most short =
    raise_steps w s o l i j c q p (packet_found h) (raised p n) n (raised_packet p n h.few most (omega (arith, raised_length h n))) above

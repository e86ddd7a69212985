-- The reader of packets gives a packet exactly where the bytes are one, and bytes are one packet at most. Assumes nothing.
use Prim.Native.Nat.{ℕ, zero, suc, ◌+◌, ◌*◌, ◌/◌, ◌%◌, ◌≤◌}
use mathlib.Core.Path.{◌≡◌, refl, ◌∙◌}
use mathlib.Core.Logic.{◌↔◌}
use mathlib.Core.Bool.{Bool, true, false, cond, ◌&&◌}
use mathlib.Core.List.{List, [], ◌∷◌, ◌++◌, append_assoc, append-nil}
use mathlib.Core.Option.{Option, none, some}
use native.Mathlib.Omega.{arith}
use lib.ListN.{length, take, drop, length-append, take-append-drop}
use lib.Seq.{length-take-le, take-append_seam, drop-append_seam}
use lib.Dec.{leb, eqb}
use borrow.Author.Tests.{leb-true, le-leb, eqb-true, eq-eqb}
use Rattle.fields.specs.Packet.{Field, before, fields, Packet, default_limit, high_first, with_argument, after_limit, after_arguments, after_rule, from_fields, packet}
use Rattle.fields.specs.Packet.{field_bytes, argument_bytes, label_bytes, IsLimit, named, default, IsPacket, NoPacket, Bytes}

bytes_drop : (n : ℕ) (l : List ℕ) → Bytes l → Bytes (drop n l)
bytes_drop zero l h = h
bytes_drop (suc n) [] h = tt
bytes_drop (suc n) (b ∷ l) h = bytes_drop n l h.1

-- the bytes of fields, one after another
abbrev all_bytes : List Field → List ℕ
all_bytes [] = []
all_bytes (f ∷ fs) = field_bytes f.tag f.value ++ all_bytes fs

-- the fields that are read are those that the list is
abbrev GoodFields : List ℕ → Option (List Field) → Type 0
GoodFields l none = Unit {0}
GoodFields l (some fs) = l ≡ all_bytes fs

fields_good : (n : ℕ) (l : List ℕ) → Bytes l → GoodFields l (fields n l)
unfolding fields before field_bytes
fields_good zero [] h = refl
fields_good zero (t ∷ l) h = tt
fields_good (suc n) [] h = refl
fields_good (suc n) (t ∷ []) h = tt
fields_good (suc n) (t ∷ (high ∷ [])) h = tt
fields_good (suc n) (t ∷ (high ∷ (low ∷ l))) h =
    go (leb m (length l)) refl (fields n (drop m l)) (fields_good n (drop m l) (bytes_drop m l h.1.1.1))
  where
    m : ℕ
    m = high * 256 + low

    go : (z : Bool) → leb m (length l) ≡ z → (P : Option (List Field)) → GoodFields (drop m l) P
        → GoodFields (t ∷ high ∷ low ∷ l) (cond z (before (record { tag = t; value = take m l }) P) none)
    go true e none g = tt
    go true e (some fs) g =
        let long = length-take-le m l (leb-true m (length l) e) in
        let x : length (take m l) / 256 ≡ high = omega arith in
        let y : length (take m l) % 256 ≡ low = omega arith in
        cc (take-append-drop m l)
    go false e P g = tt

fields_found : (n : ℕ) (fs : List Field) → length (all_bytes fs) ≤ n → fields n (all_bytes fs) ≡ some fs
unfolding fields field_bytes before
fields_found zero [] h = refl
fields_found (suc n) [] h = refl
fields_found zero (f ∷ fs) h = absurd (omega arith)
fields_found (suc n) (f ∷ fs) h =
    let k = length f.value in
    let m : k / 256 * 256 + k % 256 ≡ k = omega arith in
    let len = length-append f.value (all_bytes fs) in
    let x = le-leb k (length (f.value ++ all_bytes fs)) (omega arith) in
    rw (m, x, take-append_seam f.value (all_bytes fs), drop-append_seam f.value (all_bytes fs), fields_found n fs (omega arith))

-- the fields after a limit n are those of the packet that is read from them
abbrev Ended : List ℕ → ℕ → List Field → Option Packet → Type 0
Ended r n fs none = Unit {0}
Ended r n fs (some p) = (p.rule ≡ r) × (p.arguments ≡ []) × (p.limit ≡ n) × (all_bytes fs ≡ label_bytes p.label)

limit_good : (r : List ℕ) (n : ℕ) (fs : List Field) → Ended r n fs (after_limit r n fs)
unfolding after_limit label_bytes
limit_good r n [] = (refl, refl, refl, refl)
limit_good r n (f ∷ []) = go (eqb f.tag 4) refl
  where
    go : (z : Bool) → eqb f.tag 4 ≡ z
        → Ended r n (f ∷ []) (cond z (some (record { rule = r; arguments = []; limit = n; label = some f.value })) none)
    go true e = let tag = eqb-true f.tag 4 e in (refl, refl, refl, rw (tag, append-nil))
    go false e = tt
limit_good r n (f ∷ (g ∷ fs)) = tt

-- the fields after a rule r are those of the packet that is read from them, and it has at most k arguments
abbrev Good : List ℕ → ℕ → List Field → Option Packet → Type 0
Good r k fs none = Unit {0}
Good r k fs (some p) =
    (end : List ℕ)
    × (p.rule ≡ r)
    × (all_bytes fs ≡ argument_bytes p.arguments ++ (end ++ label_bytes p.label))
    × IsLimit end p.limit
    × (length p.arguments ≤ k)

with_limit_lem : (r : List ℕ) (k : ℕ) {end : List ℕ} {n : ℕ} → IsLimit end n → (gs fs : List Field) → all_bytes gs ≡ end ++ all_bytes fs
    → (P : Option Packet) → Ended r n fs P → Good r k gs P
unfolding argument_bytes
with_limit_lem r k limit gs fs e none h = tt
with_limit_lem r k {end} limit gs fs e (some p) h = (end, h.0, rw (h.1, ← h.3) e, rw h.2 limit, rw h.1 (omega arith))

arguments_good : (r : List ℕ) (k : ℕ) (fs : List Field) → Good r k fs (after_arguments r fs)
unfolding after_arguments
arguments_good r k [] = with_limit_lem r k default [] [] refl (after_limit r default_limit []) (limit_good r default_limit [])
arguments_good r k (f ∷ fs) = go (eqb f.tag 3) (eqb (length f.value) 4) (leb (high_first 0 f.value) 1000000) refl refl refl
  where
    go : (x y z : Bool) → eqb f.tag 3 ≡ x → eqb (length f.value) 4 ≡ y → leb (high_first 0 f.value) 1000000 ≡ z
        → Good r k (f ∷ fs) (cond x (cond (y && z) (after_limit r (high_first 0 f.value) fs) none) (after_limit r default_limit (f ∷ fs)))
    go true true true a b c =
        let tag = eqb-true f.tag 3 a in
        with_limit_lem r k (named f.value (eqb-true (length f.value) 4 b) (leb-true (high_first 0 f.value) 1000000 c)) (f ∷ fs) fs (rw tag)
        (after_limit r (high_first 0 f.value) fs) (limit_good r (high_first 0 f.value) fs)
    go true true false a b c = tt
    go true false z a b c = tt
    go false y z a b c = with_limit_lem r k default (f ∷ fs) (f ∷ fs) refl (after_limit r default_limit (f ∷ fs)) (limit_good r default_limit (f ∷ fs))

after_good : (r : List ℕ) (k : ℕ) (fs : List Field) → Good r k fs (after_rule r k fs)
unfolding after_rule with_argument argument_bytes
after_good r zero fs = arguments_good r 0 fs
after_good r (suc k) [] = arguments_good r (suc k) []
after_good r (suc k) (f ∷ fs) = go (eqb f.tag 2) refl (after_rule r k fs) (after_good r k fs)
  where
    go : (z : Bool) → eqb f.tag 2 ≡ z → (P : Option Packet) → Good r k fs P
        → Good r (suc k) (f ∷ fs) (cond z (with_argument f.value P) (after_arguments r (f ∷ fs)))
    go true e none g = tt
    go true e (some p) g =
        let tag = eqb-true f.tag 2 e in
        (g.0, g.1, rw (tag, g.2, append_assoc), g.3, omega arith)
    go false e P g = arguments_good r (suc k) (f ∷ fs)

-- the label's field, where there is one
abbrev label_fields : Option (List ℕ) → List Field
label_fields none = []
label_fields (some v) = record { tag = 4; value = v } ∷ []

label_bytes_lem : (v : Option (List ℕ)) → all_bytes (label_fields v) ≡ label_bytes v
unfolding label_bytes
label_bytes_lem none = refl
label_bytes_lem (some v) = append-nil _

-- arguments, a limit and a label are fields, and these are read
after_found : (r : List ℕ) (k : ℕ) (vs : List (List ℕ)) (v : Option (List ℕ)) {end : List ℕ} {n : ℕ} → IsLimit end n → length vs ≤ k
    → (fs : List Field)
    × (all_bytes fs ≡ argument_bytes vs ++ (end ++ label_bytes v))
    × (after_rule r k fs ≡ some (record { rule = r; arguments = vs; limit = n; label = v }))
unfolding after_rule after_arguments after_limit with_argument argument_bytes
after_found r k [] v (named w four most) h =
    (record { tag = 3; value = w } ∷ label_fields v, rw (label_bytes_lem v), last k ∙ rw (eq-eqb _ _ four, le-leb _ _ most) (ends v))
  where
    last : (j : ℕ) → after_rule r j (record { tag = 3; value = w } ∷ label_fields v) ≡ after_arguments r (record { tag = 3; value = w } ∷ label_fields v)
    last zero = refl
    last (suc j) = refl

    ends : (v : Option (List ℕ))
        → after_limit r (high_first 0 w) (label_fields v) ≡ some (record { rule = r; arguments = []; limit = high_first 0 w; label = v })
    ends none = refl
    ends (some v) = refl
after_found r zero [] none default h = ([], label_bytes_lem none, refl)
after_found r (suc k) [] none default h = ([], label_bytes_lem none, refl)
after_found r zero [] (some v) default h = (label_fields (some v), label_bytes_lem (some v), refl)
after_found r (suc k) [] (some v) default h = (label_fields (some v), label_bytes_lem (some v), refl)
after_found r zero (u ∷ vs) v limit h = absurd (omega arith)
after_found r (suc k) (u ∷ vs) v limit h =
    let x = after_found r k vs v limit (omega arith) in
    (record { tag = 2; value = u } ∷ x.0, rw (x.1, append_assoc), rw x.2)

-- what is read is the packet that the bytes are
abbrev GoodPacket : List ℕ → Option Packet → Type 0
GoodPacket l none = Unit {0}
GoodPacket l (some p) = IsPacket l p

packet_good : (l : List ℕ) → Bytes l → GoodPacket l (packet l)
unfolding packet from_fields
packet_good l h = go (leb (length l) 16384) refl (fields (length l) l) (fields_good (length l) l h)
  where
    first : length l ≤ 16384 → (f : Field) (fs : List Field) → l ≡ all_bytes (f ∷ fs) → (z : Bool) → eqb f.tag 1 ≡ z → (P : Option Packet)
        → Good f.value 8 fs P → GoodPacket l (cond z P none)
    first short f fs g true e none x = tt
    first short f fs g true e (some p) x =
        let tag = eqb-true f.tag 1 e in
        record { end = x.0; bytes = rw (g, tag, x.2, x.1); limit_is = x.3; few = x.4; short = short }
    first short f fs g false e P x = tt

    go : (z : Bool) → leb (length l) 16384 ≡ z → (P : Option (List Field)) → GoodFields l P → GoodPacket l (cond z (from_fields P) none)
    go true e none g = tt
    go true e (some []) g = tt
    go true e (some (f ∷ fs)) g =
        first (leb-true _ _ e) f fs g (eqb f.tag 1) refl (after_rule f.value 8 fs) (after_good f.value 8 fs)
    go false e P g = tt

-- bytes that are a packet are read as it
pub packet_found : {l : List ℕ} {p : Packet} → IsPacket l p → packet l ≡ some p
unfolding packet from_fields
packet_found {l} {p} h =
    let x = after_found p.rule 8 p.arguments p.label h.limit_is h.few in
    let fs : List Field = record { tag = 1; value = p.rule } ∷ x.0 in
    let e : l ≡ all_bytes fs = rw x.1 h.bytes in
    let y = fields_found (length (all_bytes fs)) fs (omega arith) in
    rw (le-leb _ _ h.short, e, y, x.2)

-- "First tag 1, a rule; then none to eight of tag 2, an argument's text; then at most one tag 3, four bytes, high first, the step limit, at most
-- 1,000,000. [..] Anything else, or more than 16,384 bytes, is 6." (The packet) "A packet may end with one field of tag 4, a label's text." ([1]) The
-- reader gives a packet exactly where the bytes are that packet.
pub packet_exact : (l : List ℕ) (p : Packet) → Bytes l → (packet l ≡ some p) ↔ IsPacket l p
packet_exact l p h = (λ e. rw e at (packet_good l h), packet_found)

-- "Fields: one-byte tag, two-byte length (high byte first), value." (The packet) Two packets with the same bytes are equal.
pub packet_unique : (l : List ℕ) (p q : Packet) → IsPacket l p → IsPacket l q → p ≡ q
packet_unique l p q h k = cc (packet_found h, packet_found k)

-- "Anything else, or more than 16,384 bytes, is 6." (The packet) The reader gives none exactly where the bytes are no packet.
pub no_packet_exact : (l : List ℕ) → Bytes l → (packet l ≡ none) ↔ NoPacket l
no_packet_exact l h = (λ e p i. let z : ◌≡◌ {A = ℕ} 0 1 = cc (packet_found i) in omega arith, go (packet l) refl)
  where
    go : (r : Option Packet) → packet l ≡ r → NoPacket l → packet l ≡ none
    go none e n = e
    go (some p) e n = absurd (n p ((packet_exact l p h).0 e))

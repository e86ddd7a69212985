-- Where a packet's rule, its arguments and its label stand in its bytes. Assumes nothing.
use Prim.Native.Nat.{ℕ, zero, suc, ◌+◌, ◌-◌, ◌≤◌, ◌<◌}
use mathlib.Core.Path.{◌≡◌, refl, ap, ◌∙◌}
use mathlib.Core.Bool.{Bool, true, false, cond, ◌&&◌}
use mathlib.Core.List.{List, [], ◌∷◌}
use mathlib.Core.Option.{Option, none, some}
use native.Mathlib.Omega.{arith}
use lib.ListN.{length, get_or, take, drop, length-drop}
use lib.Seq.{length-take-le}
use lib.Dec.{leb, eqb}
use borrow.Author.Tests.{leb-true, leb-false, eqb-true, eqb-false}
use Rattle.fields.specs.Packet.{Field, before, Packet, default_limit, high_first, with_argument, after_limit, after_arguments, after_rule, packet}
use Rattle.packet.specs.Code.{size_at, end_at, value_at, Stand, values_at, fields_from, with_fields, label_size, form_of, label_at, LabelStands, packet_at}
use Rattle.std.proofs.Common as code
use Rattle.packet.specs.declared.Form.{Form}
use Rattle.packet.proofs.Fields.{fields_next, fields_some, each_case}
use Rattle.packet.proofs.Forms.{no_form, packet_long, packet_nothing, packet_tag, packet_after}

-- a label that is read is the value of a field that ends with the packet
abbrev LabelOf : List ℕ → Option (List ℕ) → Type 0
LabelOf l none = Unit {0}
LabelOf l (some v) = (from : ℕ) × (end_at l from ≡ length l) × (v ≡ value_at l from)

-- what is read after the arguments of a rule q
abbrev EndOf : List ℕ → List ℕ → Option Packet → Type 0
EndOf l q none = Unit {0}
EndOf l q (some p) = (p.rule ≡ q) × (p.arguments ≡ []) × LabelOf l p.label

limit_ends : (l : List ℕ) (at : ℕ) (q : List ℕ) (n : ℕ) → EndOf l q (with_fields (after_limit q n) (fields_from l at))
unfolding with_fields after_limit before
limit_ends l at q n = each_case l at (λ (x : Option (List Field)). EndOf l q (with_fields (after_limit q n) x)) (λ h. (refl, refl, tt)) tt (λ h. field h (fields_from l (end_at l at)) refl)
  where
    f : Field
    f = record { tag = get_or l at 0; value = value_at l at }

    last : end_at l at ≤ length l → fields_from l (end_at l at) ≡ some [] → end_at l at ≡ length l
    last h e = go (leb (length l) (end_at l at)) refl
      where
        go : (z : Bool) → leb (length l) (end_at l at) ≡ z → end_at l at ≡ length l
        go true g = let i = leb-true (length l) (end_at l at) g in omega arith
        go false g = absurd (fields_some l (end_at l at) (leb-false (length l) (end_at l at) g) e)

    by_tag : end_at l at ≡ length l → (z : Bool)
        → EndOf l q (cond z (some (record { rule = q; arguments = []; limit = n; label = some (value_at l at) })) none)
    by_tag h true = (refl, refl, (at, h, refl))
    by_tag h false = tt

    field : end_at l at ≤ length l → (x : Option (List Field)) → fields_from l (end_at l at) ≡ x → EndOf l q (with_fields (after_limit q n) (before f x))
    field h none e = tt
    field h (some []) e = by_tag (last h e) (eqb (get_or l at 0) 4)
    field h (some (g ∷ gs)) e = tt

arguments_ends : (l : List ℕ) (at : ℕ) (q : List ℕ) → EndOf l q (with_fields (after_arguments q) (fields_from l at))
unfolding with_fields after_arguments after_limit before
arguments_ends l at q =
    each_case l at (λ (x : Option (List Field)). EndOf l q (with_fields (after_arguments q) x)) (λ h. (refl, refl, tt)) tt
    (λ h. field (fields_from l (end_at l at)) (limit_ends l (end_at l at) q) (λ n. rw (fields_next l at h) at (limit_ends l at q n)))
  where
    f : Field
    f = record { tag = get_or l at 0; value = value_at l at }

    field : (x : Option (List Field)) → ((n : ℕ) → EndOf l q (with_fields (after_limit q n) x)) → ((n : ℕ) → EndOf l q (with_fields (after_limit q n) (before f x)))
        → EndOf l q (with_fields (after_arguments q) (before f x))
    field none a b = tt
    field (some fs) a b = go (eqb f.tag 3) (eqb (length f.value) 4 && leb (high_first 0 f.value) 1000000)
      where
        go : (z y : Bool) → EndOf l q (cond z (cond y (after_limit q (high_first 0 f.value) fs) none) (after_limit q default_limit (f ∷ fs)))
        go true true = a (high_first 0 f.value)
        go true false = tt
        go false y = b default_limit

-- the arguments of what is read after a rule q stand from a position on, and are at most j; a label stands at the end
abbrev PartsOf : List ℕ → ℕ → List ℕ → ℕ → Option Packet → Type 0
PartsOf l at q j none = Unit {0}
PartsOf l at q j (some p) =
    (p.rule ≡ q)
    × (p.arguments ≡ values_at l at (length p.arguments))
    × Stand l at (length p.arguments)
    × (length p.arguments ≤ j)
    × LabelOf l p.label

ends_parts : (l : List ℕ) (at : ℕ) (q : List ℕ) (j : ℕ) (x : Option Packet) → EndOf l q x → PartsOf l at q j x
unfolding values_at Stand
ends_parts l at q j none h = tt
ends_parts l at q j (some p) h = (h.0, rw h.1, rw h.1 tt, rw h.1 (omega arith), h.2)

after_parts : (l : List ℕ) (at : ℕ) (q : List ℕ) (j : ℕ) → PartsOf l at q j (with_fields (after_rule q j) (fields_from l at))
unfolding with_fields after_rule after_arguments after_limit with_argument before values_at Stand
after_parts l at q zero = go (fields_from l at) (ends_parts l at q 0 (with_fields (after_arguments q) (fields_from l at)) (arguments_ends l at q))
  where
    go : (x : Option (List Field)) → PartsOf l at q 0 (with_fields (after_arguments q) x) → PartsOf l at q 0 (with_fields (after_rule q 0) x)
    go none h = tt
    go (some fs) h = h
after_parts l at q (suc j) =
    each_case l at (λ (x : Option (List Field)). PartsOf l at q (suc j) (with_fields (after_rule q (suc j)) x)) (λ h. ended) tt
    (λ h. field h (fields_from l (end_at l at)) (after_parts l (end_at l at) q j) (rw (fields_next l at h) at (ends_parts l at q (suc j) (with_fields (after_arguments q) (fields_from l at)) (arguments_ends l at q))))
  where
    f : Field
    f = record { tag = get_or l at 0; value = value_at l at }

    ended : PartsOf l at q (suc j) (after_arguments q [])
    ended = (refl, refl, tt, omega arith, tt)

    argument : end_at l at ≤ length l → (x : Option Packet) → PartsOf l (end_at l at) q j x → PartsOf l at q (suc j) (with_argument (value_at l at) x)
    argument h none y = tt
    argument h (some p) y = (y.0, ap (λ (vs : List (List ℕ)). value_at l at ∷ vs) y.1, (h, y.2), omega arith, y.4)

    field : end_at l at ≤ length l → (x : Option (List Field)) → PartsOf l (end_at l at) q j (with_fields (after_rule q j) x)
        → PartsOf l at q (suc j) (with_fields (after_arguments q) (before f x)) → PartsOf l at q (suc j) (with_fields (after_rule q (suc j)) (before f x))
    field h none y e = tt
    field h (some fs) y e = go (eqb f.tag 2)
      where
        go : (z : Bool) → PartsOf l at q (suc j) (cond z (with_argument (value_at l at) (after_rule q j fs)) (after_arguments q (f ∷ fs)))
        go true = argument h (after_rule q j fs) y
        go false = e

-- a label's field by its size
label_found : (l : List ℕ) (v : Option (List ℕ)) → LabelOf l v → (v ≡ label_at l (label_size v)) × LabelStands l (label_size v)
unfolding label_size label_at LabelStands
label_found l none h = (refl, tt)
label_found l (some v) h =
    let from = h.0 in
    let a : length v ≡ size_at l from = ap length h.2 ∙ length-take-le (size_at l from) (drop (from + 3) l) (omega (arith, length-drop (from + 3) l, h.1)) in
    let b : length l - (3 + length v) ≡ from = omega (arith, h.1) in
    (rw (b, ← h.2), (omega (arith, h.1), rw b h.1))

-- a packet with k arguments, the limit n and a label's field of m bytes, or none: its fields stand in its bytes one after another, the label's at their end
pub record Parts (l : List ℕ) (k n : ℕ) (m : code.Option ℕ) : Type 0 where
  pub is_packet : packet l ≡ some (packet_at l k n m)
  pub rule_stands : end_at l 0 ≤ length l
  pub stand : Stand l (end_at l 0) k
  pub few : k ≤ 8
  pub label_stands : LabelStands l m

form_same : {f g : Form} → code.Some f ≡ code.Some g → f ≡ g
form_same e = cc

-- What the form that the code reads says: "First tag 1, a rule; then none to eight of tag 2" (The packet), each value a part of the packet, which "may end
-- with one field of tag 4" ([1]).
pub packet_parts : (l : List ℕ) (k n : ℕ) (m : code.Option ℕ) → code.Some (record { arguments = k; limit = n; label_size = m }) ≡ form_of (packet l) → Parts l k n m
unfolding form_of
packet_parts l k n m e = short (leb (length l) 16384) refl
  where
    no : code.None ≡ form_of (packet l) → Parts l k n m
    no f = absurd (no_form {A = Form} {x = record { arguments = k; limit = n; label_size = m }} (cc))

    is : end_at l 0 ≤ length l → (x : Option Packet) → packet l ≡ x → PartsOf l (end_at l 0) (value_at l 0) 8 x → Parts l k n m
    is h none p y = no (rw p)
    is h (some p) f y =
        let g : code.Some (record { arguments = k; limit = n; label_size = m })
        ≡ code.Some (record { arguments = length p.arguments; limit = p.limit; label_size = label_size p.label }) = e ∙ rw f in
        let same = form_same g in
        let a : k ≡ length p.arguments = ap (λ (x : Form). x.arguments) same in
        let b : n ≡ p.limit = ap (λ (x : Form). x.limit) same in
        let c : m ≡ label_size p.label = ap (λ (x : Form). x.label_size) same in
        let v = label_found l p.label y.4 in
        record { is_packet = f ∙ rw (a, b, c, ← v.0, ← y.1, ← y.0); rule_stands = h; stand = rw a y.2; few = omega arith; label_stands = rw c v.1 }

    tag : length l ≤ 16384 → end_at l 0 ≤ length l → (z : Bool) → eqb (get_or l 0 0) 1 ≡ z → Parts l k n m
    tag s h true f = let p = packet_after l s h (eqb-true (get_or l 0 0) 1 f) in is h _ p (after_parts l (end_at l 0) (value_at l 0) 8)
    tag s h false f = no (packet_tag l s h (eqb-false (get_or l 0 0) 1 f))

    found : length l ≤ 16384 → (z : Bool) → leb (end_at l 0) (length l) ≡ z → Parts l k n m
    found s true f = tag s (leb-true (end_at l 0) (length l) f) (eqb (get_or l 0 0) 1) refl
    found s false f = no (packet_nothing l s (leb-false (end_at l 0) (length l) f))

    short : (z : Bool) → leb (length l) 16384 ≡ z → Parts l k n m
    short true f = found (leb-true (length l) 16384 f) (leb (end_at l 0) (length l)) refl
    short false f = no (packet_long l (leb-false (length l) 16384 f))

-- a label's field of m bytes is within the packet and ends with it
pub label_in : (l : List ℕ) {x : code.Option ℕ} {m : ℕ} → x ≡ code.Some m → LabelStands l x → (m ≤ length l) × (end_at l (length l - m) ≡ length l)
unfolding LabelStands
label_in l e h = rw e at h

-- the next of k fields, i of which are passed
pub record Next (l : List ℕ) (at k i : ℕ) : Type 0 where
  pub stands : end_at l at ≤ length l
  pub stand : Stand l (end_at l at) (k - (i + 1))
  pub values : values_at l at (k - i) ≡ value_at l at ∷ values_at l (end_at l at) (k - (i + 1))

pub next_field : (l : List ℕ) (at k i : ℕ) → i < k → Stand l at (k - i) → Next l at k i
unfolding Stand values_at
next_field l at k i h s =
    let e : k - i ≡ suc (k - (i + 1)) = omega arith in
    let t = rw e at s in
    record { stands = t.0; stand = t.1; values = rw e }

-- a field's value is the part of the packet from its start to its end
pub part_value : (l : List ℕ) (at : ℕ) → take (end_at l at - (at + 3)) (drop (at + 3) l) ≡ value_at l at
part_value l at = let e : end_at l at - (at + 3) ≡ size_at l at = omega arith in rw e

-- Laws of a packet's form, one for each way that the code goes. Assumes nothing.
use Prim.Native.Nat.{ℕ, zero, suc, ◌+◌, ◌-◌, ◌*◌, ◌≤◌, ◌<◌}
use mathlib.Core.Path.{◌≡◌, ◌∙◌, refl, sym}
use mathlib.Core.Bool.{Bool, true, false, cond, ◌&&◌}
use mathlib.Core.List.{List, [], ◌∷◌}
use mathlib.Core.Option.{Option, none, some}
use native.Mathlib.Omega.{arith}
use lib.ListN.{length, get_or, take, drop, length-drop}
use lib.Seq.{length-take-le, drop-cons}
use lib.Dec.{leb, eqb}
use borrow.Author.Tests.{le-leb, lt-leb, leb-true, leb-false, eq-eqb, ne_eqb}
use Rattle.std.proofs.Common as code
use Rattle.fields.specs.Packet.{Field, before, Packet, default_limit, high_first, with_argument, after_limit, after_arguments, after_rule, from_fields, packet}
use Rattle.packet.specs.Code.{size_at, end_at, value_at, end_in, fields_from, with_fields, label_size, form_of, counted}
use Rattle.packet.specs.declared.Form.{Form}
use Rattle.packet.proofs.Fields.{fields_end, fields_broken, fields_next, fields_some, each_case, three}

-- four bytes, high first
pub four : (l : List ℕ) (at : ℕ) → at + 4 ≤ length l
    → get_or l at 0 * 16777216 + get_or l (at + 1) 0 * 65536 + get_or l (at + 2) 0 * 256 + get_or l (at + 3) 0 ≡ high_first 0 (take 4 (drop at l))
unfolding high_first
four l at h =
    let a : at + 1 + 1 ≡ at + 2 = omega arith in
    let b : at + 1 + 2 ≡ at + 3 = omega arith in
    rw (three l at (omega arith), four_th) (omega arith)
  where
    four_th : drop (at + 3) l ≡ get_or l (at + 3) 0 ∷ drop (suc (at + 3)) l
    four_th = drop-cons l (at + 3) 0 (omega arith)

below : {a b : ℕ} → a ≤ b → (a ≡ b → ⊥) → a < b
below {a} {b} h n = go (leb b a) refl
  where
    go : (z : Bool) → leb b a ≡ z → a < b
    go true e = let k = leb-true b a e in absurd (n (omega arith))
    go false e = leb-false b a e

-- none is no value
pub no_form : {A : Type 0} {x : A} → code.None ≡ code.Some x → ⊥
no_form e = let z : ◌≡◌ {A = ℕ} 0 1 = cc in omega arith

module _ (l : List ℕ) (at : ℕ) where
  -- where the field at a position ends
  pub no_end : length l < end_at l at → code.None ≡ end_in l at
  unfolding end_in
  no_end h = rw (lt-leb (end_at l at) (length l) h)

  pub an_end : end_at l at ≤ length l → code.Some (end_at l at) ≡ end_in l at
  unfolding end_in
  an_end h = rw (le-leb (end_at l at) (length l) h)

  pub is_no_end : code.None ≡ end_in l at → length l < end_at l at
  unfolding end_in
  is_no_end e = go (leb (end_at l at) (length l)) refl e
    where
      go : (z : Bool) → leb (end_at l at) (length l) ≡ z → code.None ≡ cond z (code.Some (end_at l at)) code.None → length l < end_at l at
      go true f p = absurd (no_form p)
      go false f p = leb-false (end_at l at) (length l) f

  pub is_end : (e : ℕ) → code.Some e ≡ end_in l at → (e ≡ end_at l at) × (end_at l at ≤ length l)
  unfolding end_in
  is_end e p = go (leb (end_at l at) (length l)) refl p
    where
      go : (z : Bool) → leb (end_at l at) (length l) ≡ z → code.Some e ≡ cond z (code.Some (end_at l at)) code.None
          → (e ≡ end_at l at) × (end_at l at ≤ length l)
      go true f p = (cc, leb-true (end_at l at) (length l) f)
      go false f p = absurd (no_form (sym p))

  -- two readers that read the same of no field, and of one with the tag that stands at the position, read the same there
  with_same : (next other : List Field → Option Packet) → (length l ≤ at → next [] ≡ other [])
      → (at < length l → (v : List ℕ) (fs : List Field) → next (record { tag = get_or l at 0; value = v } ∷ fs) ≡ other (record { tag = get_or l at 0; value = v } ∷ fs))
      → with_fields next (fields_from l at) ≡ with_fields other (fields_from l at)
  unfolding with_fields before
  with_same next other a b = each_case l at (λ (x : Option (List Field)). with_fields next x ≡ with_fields other x) a refl (λ h. go h (fields_from l (end_at l at)))
    where
      go : end_at l at ≤ length l → (x : Option (List Field))
          → with_fields next (before (record { tag = get_or l at 0; value = value_at l at }) x) ≡ with_fields other (before (record { tag = get_or l at 0; value = value_at l at }) x)
      go h none = refl
      go h (some fs) = b (omega arith) (value_at l at) fs

  -- after the arguments: what is no limit
  pub arguments_other : (q : List ℕ) → (at < length l → get_or l at 0 ≡ 3 → ⊥)
      → with_fields (after_limit q default_limit) (fields_from l at) ≡ with_fields (after_arguments q) (fields_from l at)
  unfolding after_arguments
  arguments_other q n = with_same (after_limit q default_limit) (after_arguments q) (λ h. refl) (λ h v fs. rw (ne_eqb (get_or l at 0) 3 (n h)))

  -- after the rule: what is no argument
  pub rule_other : (q : List ℕ) (j : ℕ) → (at < length l → get_or l at 0 ≡ 2 → ⊥)
      → with_fields (after_arguments q) (fields_from l at) ≡ with_fields (after_rule q j) (fields_from l at)
  unfolding after_rule
  rule_other q zero n = with_same (after_arguments q) (after_rule q 0) (λ h. refl) (λ h v fs. refl)
  rule_other q (suc j) n = with_same (after_arguments q) (after_rule q (suc j)) (λ h. refl) (λ h v fs. rw (ne_eqb (get_or l at 0) 2 (n h)))

  -- after eight arguments
  pub rule_full : (q : List ℕ) → with_fields (after_arguments q) (fields_from l at) ≡ with_fields (after_rule q 0) (fields_from l at)
  unfolding after_rule
  rule_full q = with_same (after_arguments q) (after_rule q 0) (λ h. refl) (λ h v fs. refl)

  -- a field that stands at the position, after k arguments
  module _ (k : ℕ) (h : end_at l at ≤ length l) (q : List ℕ) where
    abbrev f : Field
    f = record { tag = get_or l at 0; value = value_at l at }

    size : length (value_at l at) ≡ size_at l at
    size = length-take-le (size_at l at) (drop (at + 3) l) (omega (arith, length-drop (at + 3) l))

    -- after a limit n: the label, which is the last
    module _ (n : ℕ) where
      pub limit_tag : (get_or l at 0 ≡ 4 → ⊥) → code.None ≡ counted k (form_of (with_fields (after_limit q n) (fields_from l at)))
      unfolding with_fields form_of counted before after_limit
      limit_tag e = rw (fields_next l at h) (go (fields_from l (end_at l at)))
        where
          go : (x : Option (List Field)) → code.None ≡ counted k (form_of (with_fields (after_limit q n) (before f x)))
          go none = refl
          go (some []) = rw (ne_eqb (get_or l at 0) 4 e)
          go (some (g ∷ gs)) = refl

      pub limit_more : (end_at l at ≡ length l → ⊥) → code.None ≡ counted k (form_of (with_fields (after_limit q n) (fields_from l at)))
      unfolding with_fields form_of counted before after_limit
      limit_more e = rw (fields_next l at h) (go (fields_from l (end_at l at)) refl)
        where
          go : (x : Option (List Field)) → fields_from l (end_at l at) ≡ x → code.None ≡ counted k (form_of (with_fields (after_limit q n) (before f x)))
          go none p = refl
          go (some []) p = absurd (fields_some l (end_at l at) (below h e) p)
          go (some (g ∷ gs)) p = refl

      pub limit_label : get_or l at 0 ≡ 4 → (e : ℕ) → e ≡ end_at l at → end_at l at ≡ length l
          → code.Some (record { arguments = k; limit = n; label_size = code.Some (e - at) }) ≡ counted k (form_of (with_fields (after_limit q n) (fields_from l at)))
      unfolding with_fields form_of counted before after_limit label_size
      limit_label t e i z =
          let a : k + 0 ≡ k = omega arith in
          let b : e - at ≡ 3 + length (value_at l at) = omega (arith, size) in
          rw (fields_next l at h, fields_end l (end_at l at) (omega arith), eq-eqb (get_or l at 0) 4 t, a, b)

    -- after the arguments: a limit, and what may follow it
    module _ (t : get_or l at 0 ≡ 3) where
      -- no limit in any case
      bad : (eqb (length (value_at l at)) 4 && leb (high_first 0 (value_at l at)) 1000000) ≡ false → code.None ≡ counted k (form_of (with_fields (after_arguments q) (fields_from l at)))
      unfolding with_fields form_of counted before after_arguments
      bad e = rw (fields_next l at h) (go (fields_from l (end_at l at)))
        where
          go : (x : Option (List Field)) → code.None ≡ counted k (form_of (with_fields (after_arguments q) (before f x)))
          go none = refl
          go (some fs) = rw (eq-eqb (get_or l at 0) 3 t, e)

      pub arguments_size : (end_at l at ≡ at + 3 + 4 → ⊥) → code.None ≡ counted k (form_of (with_fields (after_arguments q) (fields_from l at)))
      arguments_size n = bad (rw (ne_eqb (length (value_at l at)) 4 (λ e. n (omega (arith, size)))))

      module _ (s : end_at l at ≡ at + 3 + 4) (n : ℕ) (e : n ≡ high_first 0 (take 4 (drop (at + 3) l))) where
        value : value_at l at ≡ take 4 (drop (at + 3) l)
        value = let e : size_at l at ≡ 4 = omega arith in rw e

        pub arguments_most : 1000000 < n → code.None ≡ counted k (form_of (with_fields (after_arguments q) (fields_from l at)))
        arguments_most m = bad (go (eqb (length (value_at l at)) 4) (rw (value, lt-leb (high_first 0 (take 4 (drop (at + 3) l))) 1000000 (omega arith))))
          where
            go : (b : Bool) {c : Bool} → c ≡ false → (b && c) ≡ false
            go true e = e
            go false e = refl

        pub arguments_limit : n ≤ 1000000 → {i : ℕ} → i ≡ end_at l at
            → counted k (form_of (with_fields (after_limit q n) (fields_from l i))) ≡ counted k (form_of (with_fields (after_arguments q) (fields_from l at)))
        unfolding with_fields before after_arguments
        arguments_limit m p = rw (p, fields_next l at h) (go (fields_from l (end_at l at)))
          where
            go : (x : Option (List Field)) → counted k (form_of (with_fields (after_limit q n) x)) ≡ counted k (form_of (with_fields (after_arguments q) (before f x)))
            go none = refl
            go (some fs) =
                let a : length (value_at l at) ≡ 4 = omega (arith, size) in
                rw (eq-eqb (get_or l at 0) 3 t, eq-eqb (length (value_at l at)) 4 a, value, le-leb (high_first 0 (take 4 (drop (at + 3) l))) 1000000 (omega arith), ← e)

-- no argument so far
pub counted_none : (x : code.Option Form) → counted 0 x ≡ x
unfolding counted
counted_none code.None = refl
counted_none (code.Some f) = let e : 0 + f.arguments ≡ f.arguments = omega arith in rw e

-- what is left at a position, after k arguments: nothing, or a field that does not end within the packet
module _ (l : List ℕ) (at k : ℕ) (q : List ℕ) where
  pub limit_end : (n : ℕ) → length l ≤ at
      → code.Some (record { arguments = k; limit = n; label_size = code.None }) ≡ counted k (form_of (with_fields (after_limit q n) (fields_from l at)))
  unfolding with_fields after_limit form_of counted label_size
  limit_end n h = let e : k + 0 ≡ k = omega arith in rw (fields_end l at h, e)

  pub left_broken : (next : List Field → Option Packet) → at < length l → length l < end_at l at → code.None ≡ counted k (form_of (with_fields next (fields_from l at)))
  unfolding with_fields form_of counted
  left_broken next h n = rw (fields_broken l at h n)

  -- the fields after the rule, of which j may be arguments
  pub after_end : (j : ℕ) → length l ≤ at
      → code.Some (record { arguments = k; limit = default_limit; label_size = code.None }) ≡ counted k (form_of (with_fields (after_rule q j) (fields_from l at)))
  unfolding with_fields after_rule after_arguments
  after_end j h = limit_end default_limit h ∙ rw (fields_end l at h) (go j)
    where
      go : (j : ℕ) → counted k (form_of (with_fields (after_limit q default_limit) (some []))) ≡ counted k (form_of (with_fields (after_rule q j) (some [])))
      go zero = refl
      go (suc j) = refl

  -- one argument more
  pub after_next : end_at l at ≤ length l → get_or l at 0 ≡ 2 → k < 8
      → counted (k + 1) (form_of (with_fields (after_rule q (8 - (k + 1))) (fields_from l (end_at l at)))) ≡ counted k (form_of (with_fields (after_rule q (8 - k)) (fields_from l at)))
  unfolding with_fields after_rule with_argument before form_of counted
  after_next h t m =
      let e : 8 - k ≡ suc (8 - (k + 1)) = omega arith in
      rw (fields_next l at h, e) (go (8 - (k + 1)) (fields_from l (end_at l at)))
    where
      more : (x : Option Packet) → counted (k + 1) (form_of x) ≡ counted k (form_of (with_argument (value_at l at) x))
      more none = refl
      more (some p) =
          let e : k + 1 + length p.arguments ≡ k + suc (length p.arguments) = omega arith in
          rw e

      go : (j : ℕ) (x : Option (List Field)) → counted (k + 1) (form_of (with_fields (after_rule q j) x))
          ≡ counted k (form_of (with_fields (after_rule q (suc j)) (before (record { tag = get_or l at 0; value = value_at l at }) x)))
      go j none = refl
      go j (some fs) = rw (eq-eqb (get_or l at 0) 2 t) (more (after_rule q j fs))

-- the whole packet
module _ (l : List ℕ) where
  pub packet_long : 16384 < length l → code.None ≡ form_of (packet l)
  unfolding packet form_of
  packet_long h = rw (lt-leb (length l) 16384 h)

  module _ (h : length l ≤ 16384) where
    pub packet_nothing : length l < end_at l 0 → code.None ≡ form_of (packet l)
    unfolding packet from_fields form_of
    packet_nothing n = rw (le-leb (length l) 16384 h) (go (length l) refl)
      where
        go : (m : ℕ) → length l ≡ m → code.None ≡ form_of (from_fields (fields_from l 0))
        go zero e = rw (fields_end l 0 (omega arith))
        go (suc m) e = rw (fields_broken l 0 (omega arith) n)

    module _ (i : end_at l 0 ≤ length l) where
      pub packet_tag : (get_or l 0 0 ≡ 1 → ⊥) → code.None ≡ form_of (packet l)
      unfolding packet from_fields before form_of
      packet_tag n = rw (le-leb (length l) 16384 h, fields_next l 0 i) (go (fields_from l (end_at l 0)))
        where
          go : (x : Option (List Field)) → code.None ≡ form_of (from_fields (before (record { tag = get_or l 0 0; value = value_at l 0 }) x))
          go none = refl
          go (some fs) = rw (ne_eqb (get_or l 0 0) 1 n)

      pub packet_after : get_or l 0 0 ≡ 1 → packet l ≡ with_fields (after_rule (value_at l 0) 8) (fields_from l (end_at l 0))
      unfolding packet from_fields before with_fields
      packet_after t = rw (le-leb (length l) 16384 h, fields_next l 0 i) (go (fields_from l (end_at l 0)))
        where
          go : (x : Option (List Field)) → from_fields (before (record { tag = get_or l 0 0; value = value_at l 0 }) x) ≡ with_fields (after_rule (value_at l 0) 8) x
          go none = refl
          go (some fs) = rw (eq-eqb (get_or l 0 0) 1 t)

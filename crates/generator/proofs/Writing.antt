-- A load while it is written, digit by digit. Assumes nothing.
use Prim.Native.Nat.{ℕ, suc, ◌+◌, ◌-◌, ◌/◌, ◌≤◌}
use mathlib.Core.Path.{◌≡◌, refl, sym, ap, subst, ◌∙◌}
use mathlib.Core.Bool.{true}
use mathlib.Core.List.{List, [], ◌∷◌, ◌++◌, append-nil, append_assoc}
use mathlib.Core.Option.{some}
use native.Mathlib.Omega.{arith}
use lib.ListN.{length, get_or, set, drop, length-append}
use lib.Seq.{set_at, drop-length}
use Rattle.table.proofs.Lists.{from_place}
use Rattle.ternary.proofs.Wanted.{after_digit}
use Rattle.loads.specs.Loads.{next_state, drawn, can_end, allowed, pick, Drawing, digit_at, next_drawing, digits_from, first_drawing}
use Rattle.loads.proofs.Loads.{after_ends, start_ends}
use Rattle.generator.proofs.Between.{Taken, wanted_between}

-- what a digit goes by, with a number of trees wanted
abbrev drawing_of : ℕ → ℕ → Drawing
drawing_of s w = record { state = s; wanted = some w }

-- The load that is written over the bytes out₀, before digit i: the digits written and those still to be drawn are the load.
pub record WritingLoad (seed : ℕ) (out₀ : List ℕ) (i s w : ℕ) (out : List ℕ) : Type 0 where
  pub inside : i ≤ length out₀
  pub ends : can_end (length out₀ - i) (some w) ≡ true
  pub digits : List ℕ
  pub many : length digits ≡ i
  pub rest : digits ++ digits_from (length out₀ - i) (drawing_of s w) ≡ digits_from (length out₀) (first_drawing seed)
  pub bytes : out ≡ digits ++ drop i out₀

pub writing_start : (seed : ℕ) (out : List ℕ) → 1 ≤ length out → WritingLoad seed out 0 seed 1 out
unfolding first_drawing
writing_start seed out h =
    let z : length out - 0 ≡ length out = omega arith in
    record {
      inside = omega arith;
      ends = rw z (start_ends seed (length out) h);
      digits = [];
      many = refl;
      rest = ap (λ (k : ℕ). digits_from k (first_drawing seed)) z;
      bytes = refl;
    }

-- what the next digit goes by, after the one with b branches
next_drawing_lem : (left s w b : ℕ) → (w ≡ 0 → ⊥) → Taken left w (drawn s) b → next_drawing left (drawing_of s w) ≡ drawing_of (next_state s) (w - 1 + b)
unfolding next_drawing digit_at
next_drawing_lem left s w b z t = ap (λ o. record { state = next_state s; wanted = o }) (sym (after_digit (pick (allowed left (some w)) (drawn s)) w b z (sym t.0) t.1))

module _ {seed : ℕ} {out₀ : List ℕ} {i s w : ℕ} {out : List ℕ} (x : WritingLoad seed out₀ i s w out) where
  -- so many digits are left after this one
  module _ (left : ℕ) (h : left + 1 + i ≡ length out₀) where
    one_more : length out₀ - i ≡ suc left
    one_more = omega arith

    pub digit_ends : can_end (left + 1) (some w) ≡ true
    digit_ends = let k : length out₀ - i ≡ left + 1 = omega arith in rw k at x.ends

    pub wants_one : (1 ≤ w) × (w ≤ left + 1)
    wants_one = wanted_between left w digit_ends

    digit_written : {b : ℕ} → Taken left w (drawn s) b → WritingLoad seed out₀ (i + 1) (next_state s) (w - 1 + b) (set out i (48 + b))
    unfolding digits_from digit_at
    digit_written {b} t =
        let p = next_drawing_lem left s w b (λ q. omega (arith, wants_one)) t in
        let q : length out₀ - (i + 1) ≡ left = omega arith in
        let r : digits_from (length out₀ - i) (drawing_of s w) ≡ (48 + b) ∷ digits_from left (drawing_of (next_state s) (w - 1 + b)) = rw (one_more, p, ← t.0) in
        let e = from_place out₀ i 0 (omega arith) in
        record {
          inside = omega arith;
          ends = rw q (ap (λ (y : Drawing). can_end left y.wanted) (sym p) ∙ after_ends left (drawing_of s w) (rw one_more at x.ends));
          digits = x.digits ++ ((48 + b) ∷ []);
          many = omega (arith, length-append x.digits ((48 + b) ∷ []), x.many);
          rest = append_assoc x.digits ((48 + b) ∷ []) _ ∙ rw q (ap (λ (l : List ℕ). x.digits ++ l) (sym r) ∙ x.rest);
          bytes = ap (λ (l : List ℕ). set l i (48 + b)) (x.bytes ∙ ap (λ (l : List ℕ). x.digits ++ l) e) ∙ set_at x.digits (get_or out₀ i 0) (drop (i + 1) out₀) (48 + b) i x.many
              ∙ sym (append_assoc x.digits ((48 + b) ∷ []) (drop (i + 1) out₀));
        }

    -- the state s' after the draw, and the digit that is taken for what is drawn
    pub writing_digit : {s' b : ℕ} → s' ≡ next_state s → Taken left w (s' / 65536) b → WritingLoad seed out₀ (i + 1) s' (w - 1 + b) (set out i (48 + b))
    unfolding drawn
    writing_digit {s'} {b} e t =
        subst (λ (z : ℕ). WritingLoad seed out₀ (i + 1) z (w - 1 + b) (set out i (48 + b))) (sym e) (digit_written (subst (λ (z : ℕ). Taken left w (z / 65536) b) e t))

  pub writing_done : length out₀ ≤ i → out ≡ digits_from (length out₀) (first_drawing seed)
  unfolding digits_from
  writing_done h =
      let e : i ≡ length out₀ = omega (arith, x.inside) in
      let z : length out₀ - i ≡ 0 = omega arith in
      x.bytes ∙ rw (← x.rest, z, e, drop-length out₀, append-nil x.digits)

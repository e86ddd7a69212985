-- Values put one list after another, and what each call asks. Assumes nothing.
use Prim.Native.Nat.{ℕ, zero, suc, ◌+◌, ◌-◌, ◌*◌, ◌≤◌, ◌<◌}
use mathlib.Core.Path.{◌≡◌, refl, sym, ap, ◌∙◌}
use mathlib.Core.List.{List, [], ◌∷◌, ◌++◌}
use native.Mathlib.Omega.{arith}
use native.Mathlib.Numerals.{add-one}
use lib.ListN.{length, get_or, set, length-append}
use lib.Seq.{get_or-take}
use Rattle.table.specs.Wrote.{Wrote}
use Rattle.table.proofs.Wrote.{wrote_none, wrote_one, wrote_then}
use Rattle.short_codes.specs.Values.{value_after, values_from, values_to, values, padded}
use Rattle.short_codes.proofs.Numerals.{padded_up, padded_least, padded_ten}
use Rattle.short_codes.proofs.Holding.{values_many, value_small}
use Rattle.codes.specs.Code.{RoomFor}

-- a value's bound, and that of a value with one digit more
pub value_bound : (n v : ℕ) → padded n (v + 1) ≤ 59049 → v < 59049
value_bound n v h = omega (arith, padded_least n (v + 1))

digit_bound : (n v b : ℕ) → (n ≡ 0 → ⊥) → b ≤ 2 → padded n (v + 1) ≤ 59049 → padded (n - 1) (v * 3 + b + 1) ≤ 59049
unfolding padded
digit_bound zero v b z k h = absurd (z refl)
digit_bound (suc n) v b z k h =
    let e : suc n - 1 ≡ n = omega arith in
    rw e (omega (arith, padded_up n (v * 3 + b + 1) ((v + 1) * 3) (omega arith)))

-- where no digit or no tree is left
one_value : {n w : ℕ} (v : ℕ) → n ≡ 0 → w ≡ 0 → values_from n w v ≡ v ∷ []
unfolding values_from
one_value v e f = rw (e, f)

no_digit : (n w v : ℕ) → n ≡ 0 → (w ≡ 0 → ⊥) → values_from n w v ≡ []
unfolding values_from
no_digit n zero v e f = absurd (f refl)
no_digit n (suc w) v e f = rw e

no_tree : (n w v : ℕ) → (n ≡ 0 → ⊥) → w ≡ 0 → values_from n w v ≡ []
unfolding values_from
no_tree zero w v e f = absurd (e refl)
no_tree (suc n) w v e f = rw f

module _ {n w v i : ℕ} {out : List ℕ} (k : RoomFor n w v out i) where
  pub room_for_one : n ≡ 0 → w ≡ 0 → i < length out
  room_for_one e f = omega (arith, k.room, ap length (one_value v e f))

  none_put : values_from n w v ≡ [] → Wrote out i (values_from n w v) i out
  none_put e = rw e (wrote_none out i (omega (arith, k.room)))

  pub one_put : n ≡ 0 → w ≡ 0 → Wrote out i (values_from n w v) (i + 1) (set out i v)
  one_put e f = rw (one_value v e f) (wrote_one out i v (room_for_one e f))

  pub no_digit_put : n ≡ 0 → (w ≡ 0 → ⊥) → Wrote out i (values_from n w v) i out
  no_digit_put e f = none_put (no_digit n w v e f)

  pub no_tree_put : (n ≡ 0 → ⊥) → w ≡ 0 → Wrote out i (values_from n w v) i out
  no_tree_put e f = none_put (no_tree n w v e f)

-- the values after a leaf, a stem and a fork
abbrev leaves : ℕ → ℕ → ℕ → List ℕ
leaves n w v = values_from (n - 1) (w - 1) (v * 3)

abbrev stems : ℕ → ℕ → ℕ → List ℕ
stems n w v = values_from (n - 1) w (v * 3 + 1)

abbrev forks : ℕ → ℕ → ℕ → List ℕ
forks n w v = values_from (n - 1) (w + 1) (v * 3 + 2)

blocks : (n w v : ℕ) → (n ≡ 0 → ⊥) → (w ≡ 0 → ⊥) → values_from n w v ≡ leaves n w v ++ (stems n w v ++ forks n w v)
unfolding values_from value_after
blocks zero w v e f = absurd (e refl)
blocks (suc n) zero v e f = absurd (f refl)
blocks (suc n) (suc w) v e f =
    let a : suc n - 1 ≡ n = omega arith in
    let b : suc w - 1 ≡ w = omega arith in
    let c : suc w + 1 ≡ suc (suc w) = omega arith in
    let d : v * 3 + 0 ≡ v * 3 = omega arith in
    rw (a, b, c, d)

module _ {n w v i : ℕ} {out : List ℕ} (k : RoomFor n w v out i) (e : n ≡ 0 → ⊥) (f : w ≡ 0 → ⊥) where
  lengths : i + (length (leaves n w v) + (length (stems n w v) + length (forks n w v))) ≤ length out
  lengths =
      omega (arith, k.room, ap length (blocks n w v e f), length-append (leaves n w v) (stems n w v ++ forks n w v), length-append (stems n w v) (forks n w v))

  pub leaves_ready : RoomFor (n - 1) (w - 1) (v * 3) out i
  leaves_ready =
      let z : v * 3 + 0 + 1 ≡ v * 3 + 1 = omega arith in
      record { room = omega (arith, lengths); ten_digits = rw z at (digit_bound n v 0 e (omega arith) k.ten_digits); few = omega (arith, k.few) }

  module _ {r : ℕ} {out' : List ℕ} (a : Wrote out i (leaves n w v) r out') (l : length out' ≡ length out) where
    pub stems_ready : RoomFor (n - 1) w (v * 3 + 1) out' r
    stems_ready = record { room = omega (arith, lengths, a.ends); ten_digits = digit_bound n v 1 e (omega arith) k.ten_digits; few = omega (arith, k.few) }

    module _ {q : ℕ} {out'' : List ℕ} (b : Wrote out' r (stems n w v) q out'') (m : length out'' ≡ length out') where
      pub forks_ready : RoomFor (n - 1) (w + 1) (v * 3 + 2) out'' q
      forks_ready =
          record { room = omega (arith, lengths, a.ends, b.ends); ten_digits = digit_bound n v 2 e (omega arith) k.ten_digits; few = omega (arith, k.few) }

      pub all_put : {p : ℕ} {out''' : List ℕ} → Wrote out'' q (forks n w v) p out''' → Wrote out i (values_from n w v) p out'''
      all_put c = rw (blocks n w v e f) (wrote_then _ _ _ _ _ _ _ _ l a (wrote_then _ _ _ _ _ _ _ _ m b c))

-- the trees of at most n + 1 nodes: those of at most n, then those of n + 1
to_more : (n : ℕ) → values_to (n + 1) ≡ values_to n ++ values_from (n + 1) 1 0
unfolding values_to
to_more n = rw (add-one n)

to_longer : (n : ℕ) → length (values_to (n + 1)) ≡ length (values_to n) + length (values_from (n + 1) 1 0)
to_longer n = ap length (to_more n) ∙ length-append (values_to n) (values_from (n + 1) 1 0)

-- there are no fewer of more nodes
to_grows : (n d : ℕ) → length (values_to n) ≤ length (values_to (n + d))
to_grows n zero = let e : n + 0 ≡ n = omega arith in rw e (omega arith)
to_grows n (suc d) = let e : n + suc d ≡ n + d + 1 = omega arith in rw e (omega (arith, to_grows n d, to_longer (n + d)))

pub no_trees_put : (out : List ℕ) → Wrote out 0 (values_to 0) 0 out
unfolding values_to
no_trees_put out = wrote_none out 0 (omega arith)

-- the trees of n + 1 nodes, after those of fewer
module _ (n most : ℕ) (out : List ℕ) (h : length (values_to most) ≤ length out) (under : n < most) (few : most ≤ 10) {r : ℕ} {out' : List ℕ} (a : Wrote out 0 (values_to n) r out') (l : length out' ≡ length out) where
  pub trees_ready : RoomFor (n + 1) 1 0 out' r
  trees_ready =
      let e : n + 1 + (most - (n + 1)) ≡ most = omega arith in
      let k : length (values_to (n + 1)) ≤ length (values_to most) = rw e at (to_grows (n + 1) (most - (n + 1))) in
      record { room = omega (arith, to_longer n, a.ends); ten_digits = padded_ten (n + 1) (omega arith); few = omega arith }

  pub trees_put : {q : ℕ} {out'' : List ℕ} → Wrote out' r (values_from (n + 1) 1 0) q out'' → Wrote out 0 (values_to (n + 1)) q out''
  trees_put b = rw (to_more n) (wrote_then _ _ _ _ _ _ _ _ l a b)

-- there are as many as the program has room for
pub all_many : length (values_to 10) ≡ 1374
unfolding values
all_many = values_many

-- what is printed at a place is the table's value there
printed : {out out' : List ℕ} {r i : ℕ} → Wrote out 0 (values_to 10) r out' → i < r → get_or out' i 0 ≡ get_or values i 0
unfolding values
printed {out} {out'} {r} {i} p h = sym (get_or-take r out' i 0 h) ∙ ap (λ (l : List ℕ). get_or l i 0) p.front

pub printed_small : {out out' : List ℕ} {r i : ℕ} → Wrote out 0 (values_to 10) r out' → i < r → get_or out' i 0 < 59049
printed_small {i = i} p h = rw (printed p h) (value_small i)

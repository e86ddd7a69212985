-- The digits allowed follow one another, from the fewest branches to the most. Assumes nothing.
use Prim.Native.Nat.{ℕ, zero, suc, ◌+◌, ◌-◌, ◌%◌, ◌≤◌, ◌<◌, min}
use mir.Val.{bool_byte}
use Rattle.std.proofs.lemmas.Bool.{cases_lt}
use mathlib.Core.Path.{◌≡◌, refl, sym, ap, subst, ◌∙◌}
use mathlib.Core.Bool.{Bool, true, false, cond}
use mathlib.Core.List.{List, [], ◌∷◌}
use mathlib.Core.Logic.{◌⊎◌, inl, inr}
use mathlib.Core.Option.{some}
use native.Mathlib.Omega.{arith}
use native.Mathlib.Nat.{mod-lt}
use lib.ListN.{length, get_or}
use lib.Dec.{leb, eqb}
use borrow.Author.Tests.{leb-true, le-leb, lt-leb, eqb-true, eqb-false, eq-eqb, ne_eqb}
use Rattle.ternary.specs.Wanted.{wanted_after}
use Rattle.loads.specs.Loads.{can_end, those, three_digits, allowed, pick}

-- k numbers from a on
unfoldable numbers_from : ℕ → ℕ → List ℕ
numbers_from a zero = []
numbers_from a (suc k) = a ∷ numbers_from (suc a) k

numbers_many : (a k : ℕ) → length (numbers_from a k) ≡ k
unfolding numbers_from
numbers_many a zero = refl
numbers_many a (suc k) = ap suc (numbers_many (suc a) k)

numbers_at : (a k i : ℕ) → i < k → get_or (numbers_from a k) i 0 ≡ a + i
unfolding numbers_from
numbers_at a zero i h = absurd (omega arith)
numbers_at a (suc k) zero h = omega arith
numbers_at a (suc k) (suc i) h = numbers_at (suc a) k i (omega arith) ∙ omega arith

pick_numbers : (a k draw : ℕ) → 0 < k → pick (numbers_from a k) draw ≡ a + draw % k
unfolding pick
pick_numbers a k draw h = ap (λ (j : ℕ). get_or (numbers_from a k) (draw % j) 0) (numbers_many a k) ∙ numbers_at a k (draw % k) (mod-lt draw h)

-- the digits allowed, by the three tests
abbrev by_tests : Bool → Bool → Bool → List ℕ
by_tests x y z = cond x (48 ∷ cond y (49 ∷ cond z (50 ∷ []) []) (cond z (50 ∷ []) [])) (cond y (49 ∷ cond z (50 ∷ []) []) (cond z (50 ∷ []) []))

by_tests_lem : (left n : ℕ) {x y z : Bool} → can_end left (some n) ≡ x → leb (suc n) left ≡ y → leb (suc (suc n)) left ≡ z → allowed left (some (suc n)) ≡ by_tests x y z
unfolding allowed those three_digits wanted_after can_end
by_tests_lem left n p q r = rw (p, q, r)

-- the digit with r branches is the one taken
abbrev pub Taken : ℕ → ℕ → ℕ → ℕ → Type 0
Taken left w draw r = (48 + r ≡ pick (allowed left (some w)) draw) × (r ≤ 2)

-- where those allowed are k from that of a branches on
numbers_taken : (left n draw a k : ℕ) {x y z : Bool} → can_end left (some n) ≡ x → leb (suc n) left ≡ y → leb (suc (suc n)) left ≡ z → by_tests x y z ≡ numbers_from (48 + a) k → 0 < k → a + k ≤ 3
    → Taken left (suc n) draw (a + draw % k)
numbers_taken left n draw a k p q r e h m =
    (sym (ap (λ (cs : List ℕ). pick cs draw) (by_tests_lem left n p q r ∙ e) ∙ pick_numbers (48 + a) k draw h ∙ omega arith), omega (arith, mod-lt draw h))

-- one digit and those left can use up the trees wanted: at least one tree, and no more trees than digits
pub wanted_between : (left w : ℕ) → can_end (left + 1) (some w) ≡ true → (1 ≤ w) × (w ≤ left + 1)
unfolding can_end
wanted_between left zero e = absurd (omega (arith, eqb-true (left + 1) 0 e))
wanted_between left (suc n) e = (omega arith, leb-true (suc n) (left + 1) e)

-- where no digit is left after it, a leaf is taken
pub last_taken : (left w draw : ℕ) → left ≡ 0 → can_end (left + 1) (some w) ≡ true → Taken left w draw 0
unfolding can_end numbers_from
last_taken left w draw z e = go w (wanted_between left w e)
  where
    go : (w : ℕ) → (1 ≤ w) × (w ≤ left + 1) → Taken left w draw 0
    go zero h = absurd (omega (arith, h.0))
    go (suc zero) h = subst (Taken left 1 draw) (let e : 0 + draw % 1 ≡ 0 = omega (arith, mod-lt draw {m = 1} (omega arith)) in e) (numbers_taken left 0 draw 0 1 (eq-eqb left 0 z) (lt-leb 1 left (omega arith)) (lt-leb 2 left (omega arith)) refl (omega arith) (omega arith))
    go (suc (suc w)) h = absurd (omega (arith, h.1))

-- the fewest branches where digits are left: none, unless a leaf would end the text
abbrev pub FewestBranches : ℕ → ℕ → Type 0
FewestBranches w a = ((w ≡ 1) × (a ≡ 1)) ⊎ ((w ≡ 1 → ⊥) × (a ≡ 0))

-- the most: as many as leave a digit for each tree, and no more than a fork's
abbrev pub MostBranches : ℕ → ℕ → ℕ → Type 0
MostBranches left w b = ((left + 1 - w < 2) × (b ≡ left + 1 - w)) ⊎ ((2 ≤ left + 1 - w) × (b ≡ 2))

pub fewest_branches : (w a : ℕ) → a ≡ bool_byte (eqb w 1) → FewestBranches w a
fewest_branches w a e = go (eqb w 1) refl e
  where
    go : (z : Bool) → eqb w 1 ≡ z → a ≡ bool_byte z → FewestBranches w a
    go true q e = inl (eqb-true w 1 q, e)
    go false q e = inr (eqb-false w 1 q, e)

pub most_branches : (left w b : ℕ) → 1 ≤ w → b ≡ min (left - (w - 1)) 2 → MostBranches left w b
most_branches left w b h e = elim (cases_lt (left + 1 - w) 2) [
  | inl under ↦ inl (under, omega arith)
  | inr over ↦ inr (over, omega arith)
]

pub between_taken : (left w draw a b : ℕ) → (left ≡ 0 → ⊥) → can_end (left + 1) (some w) ≡ true → FewestBranches w a → MostBranches left w b → Taken left w draw (a + draw % (b - a + 1))
unfolding can_end numbers_from
between_taken left w draw a b z e f m = go w b (wanted_between left w e) f m
  where
    go : (w b : ℕ) → (1 ≤ w) × (w ≤ left + 1) → FewestBranches w a → MostBranches left w b → Taken left w draw (a + draw % (b - a + 1))
    go zero b h f m = absurd (omega (arith, h.0))
    go (suc zero) b h (inr (p, q)) m = absurd (p refl)
    go (suc zero) b h (inl (p, q)) (inl (r, s)) =
        let k : b ≡ 1 = omega arith in
        rw (q, k) (numbers_taken left 0 draw 1 1 (ne_eqb left 0 z) (le-leb 1 left (omega arith)) (lt-leb 2 left (omega arith)) refl (omega arith) (omega arith))
    go (suc zero) b h (inl (p, q)) (inr (r, s)) =
        rw (q, s) (numbers_taken left 0 draw 1 2 (ne_eqb left 0 z) (le-leb 1 left (omega arith)) (le-leb 2 left (omega arith)) refl (omega arith) (omega arith))
    go (suc (suc n)) b h (inl (p, q)) m = absurd (omega arith)
    go (suc (suc n)) zero h (inr (p, q)) (inl (r, s)) =
        rw q (numbers_taken left (suc n) draw 0 1 (le-leb (suc n) left (omega (arith, h.1))) (lt-leb (suc (suc n)) left (omega arith)) (lt-leb (suc (suc (suc n))) left (omega arith)) refl (omega arith) (omega arith))
    go (suc (suc n)) (suc zero) h (inr (p, q)) (inl (r, s)) =
        rw q (numbers_taken left (suc n) draw 0 2 (le-leb (suc n) left (omega (arith, h.1))) (le-leb (suc (suc n)) left (omega arith)) (lt-leb (suc (suc (suc n))) left (omega arith)) refl (omega arith) (omega arith))
    go (suc (suc n)) (suc (suc b)) h (inr (p, q)) (inl (r, s)) = absurd (omega arith)
    go (suc (suc n)) b h (inr (p, q)) (inr (r, s)) =
        rw (q, s) (numbers_taken left (suc n) draw 0 3 (le-leb (suc n) left (omega (arith, h.1))) (le-leb (suc (suc n)) left (omega arith)) (le-leb (suc (suc (suc n))) left (omega arith)) refl (omega arith) (omega arith))

-- Where the digits of a tree stop while Write writes them: 10 and 9 come at the digit that the paper says, and only there. Assumes nothing.
use Prim.Native.Nat.{ℕ, zero, suc, ◌+◌, ◌-◌, ◌≤◌, ◌<◌}
use mathlib.Core.Path.{◌≡◌, refl, sym, ap, ◌∙◌}
use mathlib.Core.Bool.{Bool, true, false, cond}
use mathlib.Core.List.{◌++◌}
use mathlib.Core.Logic.{◌↔◌}
use native.Mathlib.Omega.{arith}
use lib.ListN.{length, get_or, length-append, get_or-append}
use lib.Seq.{get_or-append-add}
use lib.Dec.{ltb}
use borrow.Author.Tests.{ltb-true, ltb-false, lt-ltb, le-ltb}
use Rattle.calculus.specs.Tree.{Tree, leaf, stem, fork, size}
use Rattle.table.specs.declared.Refusal.TheVariants.{Frames, Out}
use Rattle.ternary.specs.Text.{text}
use Rattle.ternary.specs.Write.{Room, left, lacks, next, spend, digits}
use Rattle.ternary.specs.Held.{IsTwo, held, Framed, OutFull, NoFrame, Spent, enough, no_out, no_frame}
use Rattle.ternary.proofs.OneText.{length_text}

fork_length : (x y : Tree) → length (text (fork x y)) ≡ suc (length (text x) + length (text y))
unfolding text
fork_length x y = ap suc (length-append (text x) (text y))

-- the digits of a fork's branches, and the frames held at them
module _ (x y : Tree) (q : ℕ) where
  first_digit : q < length (text x) → get_or (text x ++ text y) q 0 ≡ get_or (text x) q 0
  first_digit h = get_or-append (text x) (text y) 0 q h

  first_held : q < length (text x) → held (fork x y) (suc q) ≡ held x q + 1
  unfolding held
  first_held h = rw (lt-ltb q (size x) (omega (arith, length_text x)))

  second_digit : length (text x) ≤ q → get_or (text x ++ text y) q 0 ≡ get_or (text y) (q - length (text x)) 0
  second_digit h = ap (λ (j : ℕ). get_or (text x ++ text y) j 0) (omega arith) ∙ get_or-append-add (text x) (text y) (q - length (text x)) 0

  second_held : length (text x) ≤ q → held (fork x y) (suc q) ≡ held y (q - length (text x))
  unfolding held
  second_held h = rw (le-ltb q (size x) (omega (arith, length_text x)), length_text x)

-- the frames of a tree's forks by those of its branches
module _ {all around : ℕ} where
  framed_none : {t : Tree} → Framed all around t 0
  framed_none = record { free = λ q h e. absurd (omega arith) }

  framed_leaf : Framed all around leaf 1
  unfolding text
  framed_leaf = record { free = go }
    where
      go : (q : ℕ) → q < 1 → IsTwo leaf q → held leaf q + around < all
      go zero h e = absurd (omega arith)
      go (suc q) h e = absurd (omega arith)

  framed_stem : {x : Tree} {p : ℕ} → Framed all around x p → Framed all around (stem x) (suc p)
  unfolding text held
  framed_stem {x} {p} f = record { free = go }
    where
      go : (q : ℕ) → q < suc p → IsTwo (stem x) q → held (stem x) q + around < all
      go zero h e = absurd (omega arith)
      go (suc q) h e = f.free q (omega arith) e

  module _ {x y : Tree} (g : around < all) where
    framed_first : {p : ℕ} → p ≤ length (text x) → Framed all (suc around) x p → Framed all around (fork x y) (suc p)
    unfolding text held
    framed_first {p} l f = record { free = go }
      where
        go : (q : ℕ) → q < suc p → IsTwo (fork x y) q → held (fork x y) q + around < all
        go zero h e = omega arith
        go (suc q) h e = omega (arith, first_held x y q (omega arith), f.free q (omega arith) (sym (first_digit x y q (omega arith)) ∙ e))

    framed_second : {p : ℕ} → Framed all (suc around) x (length (text x)) → Framed all around y p → Framed all around (fork x y) (suc (length (text x) + p))
    unfolding text
    framed_second {p} f k = record { free = both }
      where
        both : (q : ℕ) → q < suc (length (text x) + p) → IsTwo (fork x y) q → held (fork x y) q + around < all
        both zero h e = (framed_first (omega arith) f).free zero (omega arith) e
        both (suc q) h e = go (ltb q (length (text x))) refl
          where
            go : (z : Bool) → ltb q (length (text x)) ≡ z → held (fork x y) (suc q) + around < all
            go true z = let l : q < length (text x) = ltb-true _ _ z in (framed_first (omega arith) f).free (suc q) (omega arith) e
            go false z =
                let l : length (text x) ≤ q = ltb-false _ _ z in
                omega (arith, second_held x y q l, k.free (q - length (text x)) (omega arith) (sym (second_digit x y q l) ∙ e))

-- a tree's digits, then the digits of what it is a branch of
module _ {all around n : ℕ} where
  spent_stem : {x : Tree} {r : Room} → Spent all around x n r → Spent all around (stem x) (suc n) r
  unfolding text held
  spent_stem (enough m e f) = enough m (omega arith) (framed_stem f)
  spent_stem (no_out h) = no_out (record { more_digits = omega arith; framed = framed_stem h.framed })
  spent_stem (no_frame h) =
      no_frame (record {
        digit = suc h.digit;
        inside = omega (arith, h.inside);
        byte_left = omega (arith, h.byte_left);
        is_two = h.is_two;
        all_held = h.all_held;
        framed = framed_stem h.framed;
      })

  module _ {x y : Tree} (g : around < all) where
    spent_second : {m : ℕ} {r : Room} → length (text x) + m ≡ n → Framed all (suc around) x (length (text x)) → Spent all around y m r
        → Spent all around (fork x y) (suc n) r
    unfolding text
    spent_second e f (enough o d k) = enough o (omega (arith, fork_length x y)) (rw fork_length (framed_second g f k))
    spent_second e f (no_out h) = no_out (record { more_digits = omega (arith, fork_length x y, h.more_digits); framed = rw (← e) (framed_second g f h.framed) })
    spent_second e f (no_frame h) =
        let d = length (text x) + h.digit in
        let i : d - length (text x) ≡ h.digit = omega arith in
        no_frame (record {
          digit = suc d;
          inside = omega (arith, fork_length x y, h.inside);
          byte_left = omega (arith, h.byte_left);
          is_two = get_or-append-add (text x) (text y) h.digit 0 ∙ h.is_two;
          all_held = rw (second_held x y d (omega arith), i) h.all_held;
          framed = framed_second g f h.framed;
        })

    spent_fork : {r : Room} {go : ℕ → Room} → Spent all (suc around) x n r → ((m : ℕ) → Spent all around y m (go m)) → Spent all around (fork x y) (suc n) (next go r)
    unfolding next text
    spent_fork (enough m e f) k = spent_second (omega arith) f (k m)
    spent_fork (no_out h) k = no_out (record { more_digits = omega (arith, fork_length x y, h.more_digits); framed = framed_first g (omega (arith, h.more_digits)) h.framed })
    spent_fork (no_frame h) k =
        no_frame (record {
          digit = suc h.digit;
          inside = omega (arith, fork_length x y, h.inside);
          byte_left = omega (arith, h.byte_left);
          is_two = first_digit x y h.digit h.inside ∙ h.is_two;
          all_held = omega (arith, first_held x y h.digit h.inside, h.all_held);
          framed = framed_first g (omega (arith, h.inside)) h.framed;
        })

-- Whatever bytes and frames there are, the digits of a tree leave what `Spent` says.
pub digits_spend : (all around : ℕ) (t : Tree) (n : ℕ) → Spent all around t n (digits all around t n)
unfolding digits spend text held
digits_spend all around leaf zero = no_out (record { more_digits = omega arith; framed = framed_none })
digits_spend all around leaf (suc n) = enough n (omega arith) framed_leaf
digits_spend all around (stem x) zero = no_out (record { more_digits = omega arith; framed = framed_none })
digits_spend all around (stem x) (suc n) = spent_stem (digits_spend all around x n)
digits_spend all around (fork x y) zero = no_out (record { more_digits = omega arith; framed = framed_none })
digits_spend all around (fork x y) (suc n) = go (ltb around all) refl (digits_spend all (suc around) x n) (digits_spend all around y)
  where
    go : (z : Bool) → ltb around all ≡ z → Spent all (suc around) x n (digits all (suc around) x n) → ((m : ℕ) → Spent all around y m (digits all around y m))
        → Spent all around (fork x y) (suc n) (cond z (next (digits all around y) (digits all (suc around) x n)) (lacks Frames))
    go true z f k = spent_fork (ltb-true around all z) f k
    go false z f k =
        no_frame (record { digit = 0; inside = omega arith; byte_left = omega arith; is_two = refl; all_held = omega (arith, ltb-false around all z); framed = framed_none })

-- no fork both lacks a frame and has one
no_lack : {A : Type 0} {all around : ℕ} {t : Tree} {n p : ℕ} (h : NoFrame all around t n) → h.digit < p → Framed all around t p → A
no_lack h l f = absurd (omega (arith, f.free h.digit l h.is_two, h.all_held))

module _ {all around : ℕ} {t : Tree} {n : ℕ} where
  -- no two of the three are so at once
  spent_unique : {r z : Room} → Spent all around t n r → Spent all around t n z → r ≡ z
  spent_unique (enough m e f) (enough o d k) = ap left (omega arith)
  spent_unique (enough m e f) (no_out h) = absurd (omega (arith, h.more_digits))
  spent_unique (enough m e f) (no_frame h) = no_lack h h.inside f
  spent_unique (no_out h) (enough o d k) = absurd (omega (arith, h.more_digits))
  spent_unique (no_out h) (no_out k) = refl
  spent_unique (no_out h) (no_frame k) = no_lack k k.byte_left h.framed
  spent_unique (no_frame h) (enough o d k) = no_lack h h.inside k
  spent_unique (no_frame h) (no_out k) = no_lack h h.byte_left k.framed
  spent_unique (no_frame h) (no_frame k) = refl

module _ (all around : ℕ) (t : Tree) (n : ℕ) where
  -- the digits leave the room of which `Spent` holds, and no other
  pub spent_digits : (r : Room) → Spent all around t n r → digits all around t n ≡ r
  spent_digits r h = spent_unique (digits_spend all around t n) h

  spent : (r : Room) → digits all around t n ≡ r → Spent all around t n r
  spent r e = rw e at (digits_spend all around t n)

  -- "one ASCII digit a node": each digit took one out byte, and every fork had a frame.
  pub digits_left : (m : ℕ) → (digits all around t n ≡ left m) ↔ ((m + length (text t) ≡ n) × Framed all around t (length (text t)))
  digits_left m = (λ e. go (spent (left m) e), λ h. spent_digits (left m) (enough m h.0 h.1))
    where
      go : Spent all around t n (left m) → (m + length (text t) ≡ n) × Framed all around t (length (text t))
      go (enough _ e f) = (e, f)

  -- "10 if out is full": exactly where there are more digits than bytes and no fork among those written lacked a frame.
  pub digits_out : (digits all around t n ≡ lacks Out) ↔ OutFull all around t n
  digits_out = (λ e. go (spent (lacks Out) e), λ h. spent_digits (lacks Out) (no_out h))
    where
      go : Spent all around t n (lacks Out) → OutFull all around t n
      go (no_out h) = h

  -- "9 if the digit is 2 and every frame is held by a fork whose second branch is not begun": exactly at the first such digit, with a byte left.
  pub digits_frames : (digits all around t n ≡ lacks Frames) ↔ NoFrame all around t n
  digits_frames = (λ e. go (spent (lacks Frames) e), λ h. spent_digits (lacks Frames) (no_frame h))
    where
      go : Spent all around t n (lacks Frames) → NoFrame all around t n
      go (no_frame h) = h

-- Where the digits of a tree stop while Write writes them (Operations, Write). Assumes nothing: these are definitions.
use Rattle.std.specs.Prelude.{ℕ, zero, suc, ◌+◌, ◌-◌, ◌≤◌, ◌<◌, ◌≡◌, cond, length, get_or, ltb}
use Rattle.calculus.specs.Tree.{Tree, leaf, stem, fork, size}
use Rattle.table.specs.declared.Refusal.TheVariants.{Frames, Out}
use Rattle.ternary.specs.Text.{text}
use Rattle.ternary.specs.Write.{Room, left, lacks}

-- "the digit is 2": digit p of the text of t
abbrev pub IsTwo : Tree → ℕ → Type 0
IsTwo t p = get_or (text t) p 0 ≡ 50

-- "held by a fork whose second branch is not begun": how many such forks there are before digit p of a tree's text. A fork is one of them at the digits
-- of its first branch.
unfoldable pub held : Tree → ℕ → ℕ
held leaf p = 0
held (stem x) zero = 0
held (stem x) (suc p) = held x p
held (fork x y) zero = 0
held (fork x y) (suc p) = cond (ltb p (size x)) (held x p + 1) (held y (p - size x))

-- Below, `all` frames there are, `around` of them are held before the first digit of t, none where t is a whole tree, and n out bytes there are.

-- at no digit 2 before digit p is "every frame [..] held"
pub record Framed (all around : ℕ) (t : Tree) (p : ℕ) : Type 0 where
  pub free : (q : ℕ) → q < p → IsTwo t q → held t q + around < all

-- "10 if out is full": the n digits before had a byte each, there are more, and no fork before lacked a frame
pub record OutFull (all around : ℕ) (t : Tree) (n : ℕ) : Type 0 where
  pub more_digits : n < length (text t)
  pub framed : Framed all around t n

-- "9 if the digit is 2 and every frame is held by a fork whose second branch is not begun": the digits before this one are written, and a byte is left
pub record NoFrame (all around : ℕ) (t : Tree) (n : ℕ) : Type 0 where
  pub digit : ℕ
  pub inside : digit < length (text t)
  pub byte_left : digit < n
  pub is_two : IsTwo t digit
  pub all_held : all ≤ held t digit + around
  pub framed : Framed all around t digit

-- what is so where the digits of t leave the room r
pub data Spent (all around : ℕ) (t : Tree) (n : ℕ) : Room → Type 0 where
  enough : (m : ℕ) → m + length (text t) ≡ n → Framed all around t (length (text t)) → Spent all around t n (left m)
  no_out : OutFull all around t n → Spent all around t n (lacks Out)
  no_frame : NoFrame all around t n → Spent all around t n (lacks Frames)

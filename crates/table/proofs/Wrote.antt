-- Numbers written one list after another, and bytes into out. Assumes nothing.
use Prim.Native.Nat.{ℕ, ◌+◌, ◌≤◌, ◌<◌}
use mathlib.Core.Path.{◌≡◌, sym, ap, ◌∙◌}
use mathlib.Core.List.{List, [], ◌∷◌, ◌++◌, append_assoc, append-nil}
use native.Mathlib.Omega.{arith}
use native.Mathlib.Numerals.{add-one}
use lib.ListN.{length, set, take, drop, length-append}
use lib.Seq.{take-suc-set}
use borrow.Author.Tests.{le-leb, lt-leb}
use Rattle.table.specs.Outcome.{whole_out, into_out}
use Rattle.table.specs.Wrote.{Wrote}
use Rattle.table.specs.declared.Refusal.{Refusal}
use Rattle.table.specs.declared.Refusal.TheVariants.{Out}

-- nothing
pub wrote_none : (l : List ℕ) (w : ℕ) → w ≤ length l → Wrote l w [] w l
wrote_none l w h = record { ends = omega arith; inside = h; front = sym (append-nil (take w l)) }

-- one number
pub wrote_one : (l : List ℕ) (w s : ℕ) → w < length l → Wrote l w (s ∷ []) (w + 1) (set l w s)
wrote_one l w s h = record { ends = omega arith; inside = omega arith; front = rw (add-one, take-suc-set l w s h) }

-- then others
pub wrote_then : (a b c xs ys : List ℕ) (w e f : ℕ) → length b ≡ length a → Wrote a w xs e b → Wrote b e ys f c → Wrote a w (xs ++ ys) f c
wrote_then a b c xs ys w e f l h g = record {
  ends = omega (arith, h.ends, g.ends, length-append xs ys);
  inside = omega (arith, g.inside);
  front = g.front ∙ ap (λ (x : List ℕ). x ++ ys) h.front ∙ append_assoc (take w a) xs ys;
}

-- the bytes l into out: 10, or the bytes and those past them
module _ {A : Type 0} (many : ℕ → A) (refused : Refusal → A) (l out : List ℕ) where
  pub into_short : length out < length l → into_out many refused l out ≡ whole_out (refused Out) [] [] out
  unfolding into_out
  into_short h = rw (lt-leb (length l) (length out) h)

  pub into_written : length l ≤ length out → into_out many refused l out ≡ whole_out (many (length l)) [] [] (l ++ drop (length l) out)
  unfolding into_out
  into_written h = rw (le-leb (length l) (length out) h)

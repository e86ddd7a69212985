-- A weight's text: Read lays it as the operations lay the weight, and Write writes it. Assumes nothing.
use Prim.Native.Nat.{ℕ, zero, suc, ◌+◌, ◌≤◌, ◌<◌}
use mathlib.Core.Path.{◌≡◌, refl, sym, ap, ◌∙◌}
use mathlib.Core.Bool.{true}
use mathlib.Core.List.{List, [], ◌∷◌, ◌++◌}
use mathlib.Core.Option.{Option, none, some}
use native.Mathlib.Omega.{arith}
use native.Mathlib.Nat.{max-le}
use lib.ListN.{length, take}
use Rattle.std.specs.Prelude.{Result, Ok}
use borrow.Author.Tests.{le-leb}
use Rattle.calculus.specs.Tree.{Tree}
use Rattle.table.specs.Nodes.{Making, got, full, lay, tree_at}
use Rattle.table.specs.Outcome.{Outcome, whole, frames, zeros, fits, at_entry, placed, stopped, laid}
use Rattle.table.specs.declared.Refusal.{Refusal}
use Rattle.table.specs.declared.Made.{Made}
use Rattle.table.specs.Refusal.{made}
use Rattle.table.proofs.Laid.{room_laid, laid_got, laid_full}
use Rattle.table.proofs.Entry.{entered, enters}
use Rattle.ternary.specs.Text.{text, take_leaf, take_fork, take_digit, pending, many_pending, most_pending}
use Rattle.ternary.specs.Read.{read_tree, read}
use Rattle.ternary.specs.Write.{write}
use Rattle.ternary.specs.Lacks.{Readable}
use Rattle.ternary.proofs.OneText.{pending_text, text_read, whole_pending, length_text}
use Rattle.ternary.proofs.Reading.{some_readable, read_found}
use Rattle.ternary.proofs.Writes.{write_gives, write_text}
use Rattle.weights.specs.Digits.{digit_tree, list_tree, digits_of, weight_tree}
use Rattle.weights.specs.Weights.{laid_digits, checked_digits, weight, add_weights}
use Rattle.weights.specs.Claims.{NineDigits, IsWeight, AreWeights}
use Rattle.weights.proofs.Weights.{nine_of, weight_exactly, weight_size, gram_digits_lem, sum_digits_lem}
use Rattle.weights.proofs.Outcomes.{checked_refused, checked_entered, weight_checked, add_checked}

-- "the most trees pending while the digits are taken last to first" (document 01, Read): three for a list of digits
digit_pending : (d : ℕ) (l : List ℕ) {ts : List Tree} → pending l ≡ some ts → (m : ℕ) → length ts + 2 ≤ m → most_pending l ≤ m → most_pending (text (digit_tree d) ++ l) ≤ m
unfolding text digit_tree most_pending pending take_digit take_leaf take_fork many_pending
digit_pending zero l {ts} e m h k = rw e (max-le (omega arith) k)
digit_pending (suc d) l {ts} e m h k = rw (pending_text (digit_tree d) l e) (max-le (omega arith) (max-le (omega arith) (digit_pending d l e m h k)))

list_pending : (l : List ℕ) → most_pending (text (list_tree l)) ≤ 3
unfolding text list_tree most_pending pending take_digit take_leaf take_fork many_pending
list_pending [] = omega arith
list_pending (d ∷ l) =
    let e : pending (text (list_tree l)) ≡ some (list_tree l ∷ []) = whole_pending (text (list_tree l)) (text_read (list_tree l)) in
    let f = pending_text (digit_tree d) (text (list_tree l)) e in
    rw f (max-le (omega arith) (digit_pending d (text (list_tree l)) e 3 (omega arith) (list_pending l)))

list_readable : {l : List ℕ} → NineDigits l → Readable (text (list_tree l)) (list_tree l)
list_readable {l} n = record { short = omega (arith, length_text (list_tree l), weight_size n); tree_is = text_read (list_tree l) }

-- an outcome without its stack
abbrev pub no_stack : Outcome (Result Made Refusal) → Outcome (Result Made Refusal)
no_stack o = whole o.answer o.table []

module _ (w : List ℕ) (u : ℕ) (s : List ℕ) (k : length s ≤ 65536) where
  pub entry_alike : at_entry true w u s ≡ at_entry true w u []
  unfolding at_entry fits
  entry_alike = rw (le-leb (length s) 65536 k)

  laid_alike : (x : Tree) → no_stack (laid w u s x) ≡ laid w u [] x
  unfolding placed stopped
  laid_alike x = go (lay (record { words = w; used = u }) x) refl
    where
      go : (m : Making) → lay (record { words = w; used = u }) x ≡ m → no_stack (laid w u s x) ≡ laid w u [] x
      go (got m) e = rw (laid_got w u s x e, laid_got w u [] x e)
      go (full z) e = rw (laid_full w u s x e, laid_full w u [] x e)

  -- Read of the text of nine digits, with three frames: 1 and 2, then the list laid out
  pub list_as_read : 3 ≤ frames s → {l : List ℕ} → NineDigits l → no_stack (read w u s (text (list_tree l))) ≡ checked_digits w u (some l)
  unfolding read read_tree laid_digits
  list_as_read f {l} n = go (at_entry true w u []) refl
    where
      go : (r : Option Refusal) → at_entry true w u [] ≡ r → no_stack (read w u s (text (list_tree l))) ≡ checked_digits w u (some l)
      go (some e) p = rw (entry_alike ∙ p) (sym (checked_refused w u (some l) p))
      go none p =
          rw (entry_alike ∙ p, some_readable (list_readable n), ← room_laid w u s (most_pending (text (list_tree l))) (list_tree l) (omega (arith, list_pending l)))
          (laid_alike (list_tree l) ∙ sym (checked_entered w u (some l) p))

  -- "New nodes are wanted in the order in which Read would take them from the list's text." ([9])
  pub weight_as_read : 3 ≤ frames s → (g : ℕ) → g ≤ 999999999 → no_stack (read w u s (text (weight_tree g))) ≡ weight w u g
  unfolding weight_tree
  weight_as_read f g h = list_as_read f (nine_of g) ∙ weight_checked w u g (gram_digits_lem g h)

  pub sum_as_read : 3 ≤ frames s → {a b g h : ℕ} → a < u → b < u → AreWeights w a b g h → g + h ≤ 999999999 → no_stack (read w u s (text (weight_tree (g + h)))) ≡ add_weights w u a b
  unfolding weight_tree
  sum_as_read f {a} {b} {g} {h} i j r t = list_as_read f (nine_of (g + h)) ∙ add_checked w u a b i j (λ p. sum_digits_lem r.one r.two t)

-- Write of a weight's node is the text of the weight, which Read lays as the same node, in a table that is left as it was.
pub written_then_read : (w : List ℕ) (u : ℕ) (s : List ℕ) (v : ℕ) (o : List ℕ) (n : ℕ) {g : ℕ} → IsWeight (tree_at w v) g → (write w u s v o).answer ≡ Ok n
    → (s₂ : List ℕ) → length s₂ ≤ 65536 → 3 ≤ frames s₂
    → (take n (write w u s v o).out ≡ text (weight_tree g)) × (read w u s₂ (take n (write w u s v o).out) ≡ whole (made v u) w (zeros s₂))
unfolding weight_tree
written_then_read w u s v o n {g} i q s₂ k f =
    let y = write_gives w u s v o n q in
    let x = ((weight_exactly (tree_at w v) g).0 i).1 in
    let e : take n (write w u s v o).out ≡ text (list_tree (digits_of 9 g)) = write_text w u s v o n y ∙ ap text x in
    let c = enters (record { table = (entered _ w u s y.had.entered).table; stack = k; limits_kept = refl }) in
    (e, ap (read w u s₂) e ∙ read_found w u s₂ (text (list_tree (digits_of 9 g))) c (list_readable (nine_of g)) (omega (arith, list_pending (digits_of 9 g))) (record { inside = y.had.inside; tree = x }))

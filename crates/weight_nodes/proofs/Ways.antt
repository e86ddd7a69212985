-- Digits made and added one after another, and laws of the outcomes, one for each way that the code goes. Assumes nothing.
use Prim.Native.Nat.{ℕ, zero, suc, ◌+◌, ◌-◌, ◌/◌, ◌%◌, ◌≤◌, ◌<◌}
use mathlib.Core.Path.{◌≡◌, refl, sym, ap, ◌∙◌}
use mathlib.Core.Bool.{true}
use mathlib.Core.List.{List, [], ◌∷◌, ◌++◌, append_assoc, append-nil}
use mathlib.Core.Option.{Option, none, some}
use native.Mathlib.Omega.{arith}
use lib.ListN.{length, get_or, take, drop, set, drop_of_length-le}
use lib.Seq.{take_all}
use Rattle.std.specs.Prelude as code
use Rattle.table.specs.Nodes.{tree_at}
use Rattle.table.specs.Branches.{InUse}
use Rattle.table.specs.Outcome.{whole, at_entry, unless}
use Rattle.table.specs.declared.Refusal.{Refusal}
use Rattle.table.specs.declared.Refusal.TheVariants.{Node, Weight}
use Rattle.table.specs.declared.Made.{Made}
use Rattle.table.specs.Refusal.{not_made}
use Rattle.table.proofs.Lists.{from_place}
use Rattle.table.proofs.Entry.{entered}
use Rattle.weights.specs.Digits.{digits_of, digits_of_weight, add_digits, sum_digits}
use Rattle.weights.specs.Weights.{laid_digits, checked_digits, weight, add_weights}
use Rattle.weights.proofs.Places.{after, put_at, after_put}
use Rattle.weights.proofs.Weights.{gram_digits_lem, no_gram_digits}
use Rattle.weights.proofs.Outcomes.{weight_checked, add_refused, add_no_node, add_checked}
use Rattle.weights.specs.declared.Digits.{Digits}
use Rattle.weight_digits.specs.Code.{digits_by}

-- the digits X of a number, of which i are made and the rest are those of r
module _ {X : List ℕ} (l : List ℕ) (i r : ℕ) (n : length l ≡ 9) (e : X ≡ take i l ++ digits_of (9 - i) r) where
  pub next_of : i < 9 → X ≡ take (i + 1) (set l i (r % 10)) ++ digits_of (9 - (i + 1)) (r / 10)
  unfolding digits_of
  next_of h =
      let k : 9 - i ≡ suc (9 - (i + 1)) = omega arith in
      e ∙ ap (λ (m : ℕ). take i l ++ digits_of m r) k
      ∙ sym (append_assoc (take i l) (r % 10 ∷ []) (digits_of (9 - (i + 1)) (r / 10)))
      ∙ ap (λ (m : List ℕ). m ++ digits_of (9 - (i + 1)) (r / 10)) (sym (put_at l i (r % 10) (omega arith)))

  pub all_of : i ≤ 9 → 9 ≤ i → l ≡ X
  unfolding digits_of
  all_of h k = let z : i ≡ 9 = omega arith in sym (e ∙ rw z (ap (λ (m : List ℕ). m ++ []) (take_all 9 l (omega arith)) ∙ append-nil l))

-- the digits X of a sum, of which i are made and the rest are those of the digits after them and the carry c
module _ {X : Option (List ℕ)} (a b l : List ℕ) (i c : ℕ) (na : length a ≡ 9) (nb : length b ≡ 9) (n : length l ≡ 9)
    (e : X ≡ after (take i l) (add_digits (drop i a) (drop i b) c)) where
  pub next_sum : i < 9 → {s : ℕ} → s ≡ c + get_or a i 0 + get_or b i 0 → X ≡ after (take (i + 1) (set l i (s % 10))) (add_digits (drop (i + 1) a) (drop (i + 1) b) (s / 10))
  unfolding add_digits
  next_sum h {s} q =
      rw q
      (e ∙ ap (after (take i l)) (rw (from_place a i 0 (omega arith), from_place b i 0 (omega arith)))
      ∙ after_put l i ((c + get_or a i 0 + get_or b i 0) % 10) (omega arith) _)

  all_made : 9 ≤ i → X ≡ after l (add_digits [] [] c)
  all_made k =
      e ∙ ap (λ (m : List ℕ). after m (add_digits (drop i a) (drop i b) c)) (take_all i l (omega arith))
      ∙ rw (drop_of_length-le a (let z : length a ≤ i = omega arith in z), drop_of_length-le b (let z : length b ≤ i = omega arith in z))

  pub all_sum : 9 ≤ i → c ≡ 0 → some l ≡ X
  unfolding add_digits after
  all_sum k z = sym (all_made k ∙ rw (z, append-nil l))

  pub left_over : 9 ≤ i → (c ≡ 0 → ⊥) → none ≡ X
  unfolding add_digits after
  left_over k z = go c z ∙ sym (all_made k)
    where
      go : (m : ℕ) → (m ≡ 0 → ⊥) → none ≡ after l (add_digits [] [] m)
      go zero y = absurd (y refl)
      go (suc m) y = refl

-- the digits of the sum of two weights, by what is read of each
pub no_first_digits : {o : Option (List ℕ)} (p : Option (List ℕ)) → none ≡ o → none ≡ sum_digits o p
unfolding sum_digits
no_first_digits p e = rw (← e)

pub no_second_digits : {l : List ℕ} {o p : Option (List ℕ)} → some l ≡ o → none ≡ p → none ≡ sum_digits o p
unfolding sum_digits
no_second_digits e f = rw (← e, ← f)

pub both_digits : {l m : List ℕ} {o p : Option (List ℕ)} → some l ≡ o → some m ≡ p → add_digits l m 0 ≡ sum_digits o p
unfolding sum_digits
both_digits e f = rw (← e, ← f)

-- refused with 1 or 2, else with the last
module _ (w : List ℕ) (u : ℕ) where
  answers : (last : Refusal) (c : Option Refusal) → whole (unless c not_made (not_made last)) w [] ≡ unless c (λ e. whole (not_made e) w []) (whole (not_made last) w [])
  answers last none = refl
  answers last (some e) = refl

  pub refused_digits : {r : code.Result Made Refusal} → r ≡ unless (at_entry true w u []) not_made (not_made Weight) → whole r w [] ≡ checked_digits w u none
  unfolding checked_digits laid_digits
  refused_digits e = rw e (answers Weight (at_entry true w u []))

  pub above_top : {g : ℕ} {r : code.Result Made Refusal} → 999999999 < g → r ≡ unless (at_entry true w u []) not_made (not_made Weight) → whole r w [] ≡ weight w u g
  above_top {g} h e = refused_digits e ∙ weight_checked w u g (no_gram_digits g h)

  pub to_top : {g : ℕ} → g ≤ 999999999 → {l : List ℕ} → l ≡ digits_of 9 g → checked_digits w u (some l) ≡ weight w u g
  to_top {g} h e = weight_checked w u g (gram_digits_lem g h ∙ ap some (sym e))

  module _ {a b : ℕ} where
    pub no_node : (a < u → b < u → ⊥) → {r : code.Result Made Refusal} → r ≡ unless (at_entry true w u []) not_made (not_made Node) → whole r w [] ≡ add_weights w u a b
    no_node n e = rw e (go (at_entry true w u []) refl)
      where
        go : (c : Option Refusal) → at_entry true w u [] ≡ c → whole (unless c not_made (not_made Node)) w [] ≡ add_weights w u a b
        go (some x) p = sym (add_refused w u a b p)
        go none p = sym (add_no_node w u a b p n)

    module _ (h : a < u) (k : b < u) (r : code.Option Digits)
        (f : InUse w a → InUse w b → digits_by r ≡ sum_digits (digits_of_weight (tree_at w a)) (digits_of_weight (tree_at w b))) where
      pub sum_checked : checked_digits w u (digits_by r) ≡ add_weights w u a b
      sum_checked =
          add_checked w u a b h k
          (λ p. let t = (entered true w u [] p).table in sym (f (record { used = u; fine = t; inside = h }) (record { used = u; fine = t; inside = k })))

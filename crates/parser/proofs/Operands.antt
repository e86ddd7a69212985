-- Laws of leaves and names as operands. Assumes nothing.
use Prim.Native.Nat.{ℕ, suc, ◌+◌, ◌-◌, ◌<◌}
use mathlib.Core.Path.{◌≡◌, refl, sym, ap, subst, ◌∙◌}
use mathlib.Core.Bool.{Bool, true, false, cond, not}
use mathlib.Core.List.{List, [], ◌∷◌}
use mathlib.Core.Option.{Option, none, some}
use native.Mathlib.Omega.{arith}
use lib.ListN.{length, get_or, take, drop, set, length-drop}
use lib.Dec.{eqb}
use borrow.Author.Tests.{not-true, not-false}
use Rattle.grammar.specs.Expression.{leaf, var}
use Rattle.grammar.specs.Tokens.{Token, is_caret}
use Rattle.grammar.specs.Reader.{up, lookup, variable, operand_by, operand}
use Rattle.grammar.specs.Words.{tokens}
use Rattle.grammar.specs.Postfix.{postfix}
use Rattle.grammar.proofs.Places.{tokens_at, sign_at}
use Rattle.std.proofs.lemmas.Slice.{between_to_end}
use Rattle.table.proofs.Words.{zero_one}
use Rattle.table.proofs.Wrote.{wrote_one}
use Rattle.parser.specs.Code.{place_of, IsName, Asks, Tells}
use Rattle.std.specs.Prelude as code

found_some : (o : Option ℕ) (i : ℕ) → code.Some i ≡ place_of o → o ≡ some i
unfolding place_of
found_some none i q = zero_one (cc)
found_some (some j) i q = cc

found_nothing : (o : Option ℕ) → code.None ≡ place_of o → o ≡ none
unfolding place_of
found_nothing none q = refl
found_nothing (some j) q = zero_one (cc)

-- where a name was found among the names from the k-th on, as the code cuts them
module _ (names : List ℕ) (k x : ℕ) {r : code.Option ℕ} (q : r ≡ place_of (lookup (take (length names - k) (drop k names)) x)) where
  cut : r ≡ place_of (lookup (drop k names) x)
  cut = q ∙ ap (λ (l : List ℕ). place_of (lookup l x)) (between_to_end names k (length names) (omega arith))

  pub found_at : {i : ℕ} → r ≡ code.Some i → lookup (drop k names) x ≡ some i
  found_at e = found_some _ _ (sym e ∙ cut)

  pub found_none : r ≡ code.None → lookup (drop k names) x ≡ none
  found_none e = found_nothing _ (sym e ∙ cut)

abbrev Below : ℕ → Option ℕ → Type 0
Below n none = Unit {0}
Below n (some i) = i < n

below_up : (n : ℕ) (o : Option ℕ) → Below n o → Below (suc n) (up o)
unfolding up
below_up n none h = tt
below_up n (some i) h = omega arith

below_cond : (n : ℕ) (z : Bool) (o : Option ℕ) → Below n o → Below (suc n) (cond z (some 0) (up o))
below_cond n true o h = omega arith
below_cond n false o h = below_up n o h

below : (Γ : List ℕ) (x : ℕ) → Below (length Γ) (lookup Γ x)
unfolding lookup
below [] x = tt
below (y ∷ Γ) x = below_cond (length Γ) (eqb x y) (lookup Γ x) (below Γ x)

-- a name's place is below the number of names
pub lookup_less : (ns : List ℕ) (k x i : ℕ) → lookup (drop k ns) x ≡ some i → i < length ns
lookup_less ns k x i e = let h : Below (length (drop k ns)) (some i) = rw e at (below (drop k ns) x) in omega (arith, h, length-drop k ns)

module _ (ws : List ℕ) (at : ℕ) (names : List ℕ) (k : ℕ) (post : List ℕ) (w : ℕ) (q : Asks ws at names k post w) (h : at < length ws) where
  pub atom_leaf : (d : ℕ) → get_or ws at 0 ≡ 94 → Tells (operand d (drop k names) (tokens (drop at ws))) ws w post (set post w 6) (code.Some (record { next = at + 1; end = w + 1 }))
  unfolding Tells operand operand_by postfix
  atom_leaf d e = record { e = leaf; leads = ap (operand d (drop k names)) (sign_at is_caret ws at h e); within = omega arith; wrote = wrote_one post w 6 (omega (arith, q.room, q.space)) }

  pub atom_other : (d : ℕ) (b : Bool) → IsName (get_or ws at 0) b → not b ≡ true → (get_or ws at 0 ≡ 94 → ⊥) → (get_or ws at 0 ≡ 40 → ⊥) → (get_or ws at 0 ≡ 92 → ⊥)
      → Tells (operand d (drop k names) (tokens (drop at ws))) ws w post post code.None
  unfolding Tells
  atom_other d b n e x y z = rw (tokens_at ws at h) ((subst (IsName (get_or ws at 0)) (not-true b e) n (tokens (drop (at + 1) ws))).1 d (drop k names) x y z)

  named : (d : ℕ) (b : Bool) → IsName (get_or ws at 0) b → not b ≡ false
      → operand d (drop k names) (tokens (drop at ws)) ≡ variable (lookup (drop k names) (get_or ws at 0)) (tokens (drop (at + 1) ws))
  unfolding operand operand_by
  named d b n e =
      ap (operand d (drop k names)) (tokens_at ws at h ∙ ap (λ (t : Token). t ∷ tokens (drop (at + 1) ws)) (subst (IsName (get_or ws at 0)) (not-false b e) n))

  pub atom_unbound : (d : ℕ) (b : Bool) → IsName (get_or ws at 0) b → not b ≡ false → lookup (drop k names) (get_or ws at 0) ≡ none
      → Tells (operand d (drop k names) (tokens (drop at ws))) ws w post post code.None
  unfolding Tells variable
  atom_unbound d b n e o = named d b n e ∙ ap (λ (o : Option ℕ). variable o (tokens (drop (at + 1) ws))) o

  pub atom_bound : (d : ℕ) (b : Bool) (i : ℕ) → IsName (get_or ws at 0) b → not b ≡ false → lookup (drop k names) (get_or ws at 0) ≡ some i
      → Tells (operand d (drop k names) (tokens (drop at ws))) ws w post (set post w (i + 7)) (code.Some (record { next = at + 1; end = w + 1 }))
  unfolding Tells variable postfix
  atom_bound d b i n e o = record {
    e = var i;
    leads = named d b n e ∙ ap (λ (o : Option ℕ). variable o (tokens (drop (at + 1) ws))) o;
    within = omega arith;
    wrote = wrote_one post w (i + 7) (omega (arith, q.room, q.space));
  }

-- Laws of names: which words they are, and where they are bound. Assumes nothing.
use Prim.Native.Nat.{ℕ, suc, ◌+◌}
use mathlib.Core.Path.{◌≡◌, refl, sym, ap, subst}
use mathlib.Core.Bool.{Bool, true, false, cond, not}
use mathlib.Core.List.{List, [], ◌∷◌}
use mathlib.Core.Logic.{◌⊎◌, inl, inr}
use mathlib.Core.Option.{Option, none, some}
use native.Mathlib.Omega.{arith}
use lib.ListN.{length}
use lib.Dec.{eqb, ltb}
use Rattle.grammar.specs.Tokens.{Token, name, Sign, is_caret, is_opening, is_backslash, is_closing, is_stop, is_bang, is_ampersand, is_bar, is_arrow}
use Rattle.grammar.specs.Reader.{up, lookup, binder, operand_by, operand}
use Rattle.grammar.specs.Words.{token}
use Rattle.grammar.proofs.Places.{by_token}
use Rattle.parser.specs.Code.{place_of, IsName}
use Rattle.std.specs.Prelude as code
use Rattle.std.specs.List.{position_or_len}
use Rattle.std.proofs.lemmas.Bool.Decides.{nat_tests}

pub token_name : (w : ℕ) → (w ≡ 94 → ⊥) → (w ≡ 40 → ⊥) → (w ≡ 92 → ⊥) → (w ≡ 41 → ⊥) → (w ≡ 46 → ⊥) → (w ≡ 33 → ⊥) → (w ≡ 38 → ⊥) → (w ≡ 124 → ⊥) → (w ≡ 62 → ⊥) → token w ≡ name w
token_name w c o b k s n a r i =
    by_token (λ (t : Token). t ≡ name w) w (λ e. absurd (c e)) (λ e. absurd (o e)) (λ e. absurd (b e)) (λ e. absurd (k e)) (λ e. absurd (s e)) (λ e. absurd (n e)) (λ e. absurd (a e)) (λ e. absurd (r e)) (λ e. absurd (i e)) refl

sign_no_name : {c : ℕ} {t : Token} → Sign c t → IsName c false
unfolding token binder operand operand_by
sign_no_name is_caret = λ r. (λ f. refl, λ d Γ a b e. absurd (a refl))
sign_no_name is_opening = λ r. (λ f. refl, λ d Γ a b e. absurd (b refl))
sign_no_name is_backslash = λ r. (λ f. refl, λ d Γ a b e. absurd (e refl))
sign_no_name is_closing = λ r. (λ f. refl, λ d Γ a b e. refl)
sign_no_name is_stop = λ r. (λ f. refl, λ d Γ a b e. refl)
sign_no_name is_bang = λ r. (λ f. refl, λ d Γ a b e. refl)
sign_no_name is_ampersand = λ r. (λ f. refl, λ d Γ a b e. refl)
sign_no_name is_bar = λ r. (λ f. refl, λ d Γ a b e. refl)
sign_no_name is_arrow = λ r. (λ f. refl, λ d Γ a b e. refl)

-- a word that is a sign's is no name
no_name : (w : ℕ) {c : ℕ} {t : Token} → Sign c t → w ≡ c → IsName w false
no_name w n e = subst (λ (v : ℕ). IsName v false) (sym e) (sign_no_name n)

pub no_name_parentheses : (w : ℕ) → (w ≡ 40) ⊎ (w ≡ 41) → IsName w false
no_name_parentheses w (inl e) = no_name w is_opening e
no_name_parentheses w (inr e) = no_name w is_closing e

pub no_name_others : (w : ℕ) → (w ≡ 33) ⊎ ((w ≡ 38) ⊎ ((w ≡ 46) ⊎ ((w ≡ 62) ⊎ ((w ≡ 92) ⊎ ((w ≡ 94) ⊎ (w ≡ 124)))))) → IsName w false
no_name_others w (inl e) = no_name w is_bang e
no_name_others w (inr (inl e)) = no_name w is_ampersand e
no_name_others w (inr (inr (inl e))) = no_name w is_stop e
no_name_others w (inr (inr (inr (inl e)))) = no_name w is_arrow e
no_name_others w (inr (inr (inr (inr (inl e))))) = no_name w is_backslash e
no_name_others w (inr (inr (inr (inr (inr (inl e)))))) = no_name w is_caret e
no_name_others w (inr (inr (inr (inr (inr (inr e)))))) = no_name w is_bar e

more : (o : Option ℕ) (i : ℕ) (z : Bool) → place_of o ≡ cond z (code.Some i) code.None → place_of (up o) ≡ cond z (code.Some (suc i)) code.None
unfolding place_of up
more none i true h = absurd (cc)
more none i false h = refl
more (some j) i true h = let e : j ≡ i = cc in ap (λ (m : ℕ). code.Some (suc m)) e
more (some j) i false h = absurd (cc)

-- the place of a name is that of the first that is equal to it
pub lookup_is : (Γ : List ℕ) (x : ℕ) → place_of (lookup Γ x)
    ≡ cond (ltb (position_or_len (λ (y : ℕ). eqb x y) Γ) (length Γ)) (code.Some (position_or_len (λ (y : ℕ). eqb x y) Γ)) code.None
unfolding place_of lookup
lookup_is [] x = refl
lookup_is (y ∷ Γ) x = go (position_or_len (λ (z : ℕ). eqb x z) Γ) (lookup_is Γ x) (eqb x y)
  where
    go : (i : ℕ) → place_of (lookup Γ x) ≡ cond (ltb i (length Γ)) (code.Some i) code.None
        → (b : Bool) → place_of (cond b (some 0) (up (lookup Γ x))) ≡ cond (ltb (cond (not b) (1 + i) 0) (suc (length Γ))) (code.Some (cond (not b) (1 + i) 0)) code.None
    go i h true = let k : ltb 0 (suc (length Γ)) ≡ true = grind (arith, nat_tests) in rw k
    go i h false =
        let e : 1 + i ≡ suc i = omega arith in
        let k : ltb (suc i) (suc (length Γ)) ≡ ltb i (length Γ) = grind (arith, nat_tests) in
        rw (e, k) (more (lookup Γ x) i (ltb i (length Γ)) h)

-- A text spells one list of tokens at most, and the reader of text finds its words exactly where it does. Assumes nothing.
use Prim.Native.Nat.{ℕ, zero, suc, ◌+◌, ◌*◌, ◌≤◌}
use mathlib.Core.Path.{◌≡◌, refl, sym, ap, subst, ◌∙◌}
use mathlib.Core.Bool.{Bool, true, false, cond, ◌&&◌}
use mathlib.Core.List.{List, [], ◌∷◌}
use mathlib.Core.Option.{Option, none, some}
use native.Mathlib.Omega.{arith}
use lib.ListN.{length}
use lib.Dec.{eqb, ltb, leb}
use borrow.Author.Tests.{ltb-true, lt-ltb, leb-true, le-leb, eqb-true, ne_eqb}
use Rattle.table.proofs.Words.{zero_one}
use Rattle.grammar.specs.Tokens.{Token, caret, name, opening, closing, backslash, stop, bang, ampersand, bar, arrow, Letter, NoLetter, LetterRun, no_more, a_letter, name_number, Sign, is_caret, is_opening, is_backslash, is_closing, is_stop, is_bang, is_ampersand, is_bar, is_arrow, Spells, the_end, a_space, a_sign, a_name}
use Rattle.grammar.specs.Words.{token, tokens, letter, flush, before, is_sign, separate, lex}

-- letters
pub letter_yes : (b : ℕ) → Letter b → letter b ≡ true
letter_yes b h = rw (le-leb 97 b h.0, le-leb b 122 h.1)

pub letter_is : (b : ℕ) → letter b ≡ true → Letter b
letter_is b e = go (leb 97 b) refl (leb b 122) refl e
  where
    go : (y : Bool) → leb 97 b ≡ y → (z : Bool) → leb b 122 ≡ z → (y && z) ≡ true → Letter b
    go true p true q e = (leb-true 97 b p, leb-true b 122 q)
    go true p false q e = zero_one (cc)
    go false p z q e = zero_one (cc)

pub letter_no : (b : ℕ) → (Letter b → ⊥) → letter b ≡ false
letter_no b n = go (letter b) refl
  where
    go : (y : Bool) → letter b ≡ y → letter b ≡ false
    go true e = absurd (n (letter_is b e))
    go false e = e

pub letter_not : (b : ℕ) → letter b ≡ false → Letter b → ⊥
letter_not b e h = let z : ◌≡◌ {A = Bool} true false = sym (letter_yes b h) ∙ e in let w : ◌≡◌ {A = ℕ} 0 1 = cc in omega arith

-- a name's number is no sign's byte
number_least : (n : ℕ) (x : List ℕ) → n ≤ name_number n x
unfolding name_number
number_least n [] = omega arith
number_least n (b ∷ x) = omega (arith, number_least (n * 256 + b) x)

run_letters : {m x r : List ℕ} {b : ℕ} → LetterRun m (b ∷ x) r → Letter b
run_letters (a_letter h q) = h

run_next : {m x r : List ℕ} {b c : ℕ} → LetterRun m (b ∷ (c ∷ x)) r → Letter c
run_next (a_letter h q) = run_letters q

token_large : (w : ℕ) → 97 ≤ w → (w ≡ 124 → ⊥) → token w ≡ name w
unfolding token
token_large w h n =
    rw (ne_eqb w 94 (λ e. omega arith), ne_eqb w 40 (λ e. omega arith), ne_eqb w 92 (λ e. omega arith), ne_eqb w 41 (λ e. omega arith), ne_eqb w 46 (λ e. omega arith), ne_eqb w 33 (λ e. omega arith), ne_eqb w 38 (λ e. omega arith), ne_eqb w 124 n, ne_eqb w 62 (λ e. omega arith))

name_token : (m r : List ℕ) (b : ℕ) (x : List ℕ) → LetterRun m (b ∷ x) r → token (name_number 0 (b ∷ x)) ≡ name (name_number 0 (b ∷ x))
unfolding name_number
name_token m r b [] q = let h = run_letters q in token_large (0 * 256 + b) (omega arith) (λ e. omega arith)
name_token m r b (c ∷ x) q =
    let h = run_letters q in
    let g = run_next q in
    let k = number_least ((0 * 256 + b) * 256 + c) x in
    token_large (name_number ((0 * 256 + b) * 256 + c) x) (omega arith) (λ e. omega arith)

-- signs
pub sign_token : {b : ℕ} {t : Token} → Sign b t → token b ≡ t
unfolding token
sign_token is_caret = refl
sign_token is_opening = refl
sign_token is_backslash = refl
sign_token is_closing = refl
sign_token is_stop = refl
sign_token is_bang = refl
sign_token is_ampersand = refl
sign_token is_bar = refl
sign_token is_arrow = refl

sign_is : {b : ℕ} {t : Token} → Sign b t → (is_sign b ≡ true) × (eqb b 32 ≡ false) × (letter b ≡ false)
unfolding is_sign
sign_is is_caret = (refl, refl, refl)
sign_is is_opening = (refl, refl, refl)
sign_is is_backslash = (refl, refl, refl)
sign_is is_closing = (refl, refl, refl)
sign_is is_stop = (refl, refl, refl)
sign_is is_bang = (refl, refl, refl)
sign_is is_ampersand = (refl, refl, refl)
sign_is is_bar = (refl, refl, refl)
sign_is is_arrow = (refl, refl, refl)

by_eq : (b c : ℕ) (t : Token) → Sign c t → token c ≡ t → b ≡ c → Sign b (token b)
by_eq b c t s z e = subst (λ (k : ℕ). Sign k (token k)) (sym e) (subst (Sign c) (sym z) s)

is_sign_lem : (b : ℕ) → is_sign b ≡ true → Sign b (token b)
unfolding is_sign token
is_sign_lem b e = s94 (eqb b 94) refl e
  where
    s62 : (y : Bool) → eqb b 62 ≡ y → y ≡ true → Sign b (token b)
    s62 true q e = by_eq b 62 arrow is_arrow refl (eqb-true b 62 q)
    s62 false q e = zero_one (cc)

    s124 : (y : Bool) → eqb b 124 ≡ y → cond y true (eqb b 62) ≡ true → Sign b (token b)
    s124 true q e = by_eq b 124 bar is_bar refl (eqb-true b 124 q)
    s124 false q e = s62 (eqb b 62) refl e

    s38 : (y : Bool) → eqb b 38 ≡ y → cond y true (cond (eqb b 124) true (eqb b 62)) ≡ true → Sign b (token b)
    s38 true q e = by_eq b 38 ampersand is_ampersand refl (eqb-true b 38 q)
    s38 false q e = s124 (eqb b 124) refl e

    s33 : (y : Bool) → eqb b 33 ≡ y → cond y true (cond (eqb b 38) true (cond (eqb b 124) true (eqb b 62))) ≡ true → Sign b (token b)
    s33 true q e = by_eq b 33 bang is_bang refl (eqb-true b 33 q)
    s33 false q e = s38 (eqb b 38) refl e

    s46 : (y : Bool) → eqb b 46 ≡ y → cond y true (cond (eqb b 33) true (cond (eqb b 38) true (cond (eqb b 124) true (eqb b 62)))) ≡ true → Sign b (token b)
    s46 true q e = by_eq b 46 stop is_stop refl (eqb-true b 46 q)
    s46 false q e = s33 (eqb b 33) refl e

    s41 : (y : Bool) → eqb b 41 ≡ y → cond y true (cond (eqb b 46) true (cond (eqb b 33) true (cond (eqb b 38) true (cond (eqb b 124) true (eqb b 62))))) ≡ true → Sign b (token b)
    s41 true q e = by_eq b 41 closing is_closing refl (eqb-true b 41 q)
    s41 false q e = s46 (eqb b 46) refl e

    s92 : (y : Bool) → eqb b 92 ≡ y → cond y true (cond (eqb b 41) true (cond (eqb b 46) true (cond (eqb b 33) true (cond (eqb b 38) true (cond (eqb b 124) true (eqb b 62)))))) ≡ true → Sign b (token b)
    s92 true q e = by_eq b 92 backslash is_backslash refl (eqb-true b 92 q)
    s92 false q e = s41 (eqb b 41) refl e

    s40 : (y : Bool) → eqb b 40 ≡ y → cond y true (cond (eqb b 92) true (cond (eqb b 41) true (cond (eqb b 46) true (cond (eqb b 33) true (cond (eqb b 38) true (cond (eqb b 124) true (eqb b 62))))))) ≡ true → Sign b (token b)
    s40 true q e = by_eq b 40 opening is_opening refl (eqb-true b 40 q)
    s40 false q e = s92 (eqb b 92) refl e

    s94 : (y : Bool) → eqb b 94 ≡ y → cond y true (cond (eqb b 40) true (cond (eqb b 92) true (cond (eqb b 41) true (cond (eqb b 46) true (cond (eqb b 33) true (cond (eqb b 38) true (cond (eqb b 124) true (eqb b 62)))))))) ≡ true → Sign b (token b)
    s94 true q e = by_eq b 94 caret is_caret refl (eqb-true b 94 q)
    s94 false q e = s40 (eqb b 40) refl e

-- COMPLETE: what spells is read
run_lex : {m x r : List ℕ} (k w : ℕ) → LetterRun m x r → k + length x ≤ 8 → lex k w m ≡ lex (k + length x) (name_number w x) r
unfolding lex name_number
run_lex k w (no_more {l = l} n) h = let e : k ≡ k + 0 = omega arith in ap (λ (i : ℕ). lex i w l) e
run_lex k w (a_letter {b = b} {l = l} {x = x} {r = r} t q) h =
    let e : suc k + length x ≡ k + suc (length x) = omega arith in
    rw (letter_yes b t, lt-ltb k 8 (omega arith)) (run_lex (suc k) (w * 256 + b) q (omega arith) ∙ ap (λ (i : ℕ). lex i (name_number (w * 256 + b) x) r) e)

run_ends : {m x r : List ℕ} → LetterRun m x r → NoLetter r
run_ends (no_more n) = n
run_ends (a_letter t q) = run_ends q

after_name : (k w : ℕ) (l : List ℕ) → NoLetter l → lex (suc k) w l ≡ flush (suc k) w (lex 0 0 l)
unfolding lex flush
after_name k w [] n = refl
after_name k w (b ∷ l) n = rw (letter_no b n) (go (separate b (lex 0 0 l)))
  where
    go : (o : Option (List ℕ)) → flush (suc k) w o ≡ flush (suc k) w (flush 0 0 o)
    go none = refl
    go (some ws) = refl

pub record Read (l : List ℕ) (ts : List Token) : Type 0 where
  pub words : List ℕ
  pub found : lex 0 0 l ≡ some words
  pub tells : tokens words ≡ ts

pub read : {l : List ℕ} {ts : List Token} → Spells l ts → Read l ts
unfolding lex flush separate before tokens
read the_end = record { words = []; found = refl; tells = refl }
read (a_space {l = l} s) = let g = read s in record { words = g.words; found = rw g.found; tells = g.tells }
read (a_sign {b = b} {l = l} n s) =
    let g = read s in
    let i = sign_is n in
    record { words = b ∷ g.words; found = rw (i.2, i.1, i.0, g.found); tells = rw (sign_token n, g.tells) }
read (a_name {b = b} {m = m} {x = x} {l = l} q h s) =
    let g = read s in
    record {
      words = name_number 0 (b ∷ x) ∷ g.words;
      found = run_lex 0 0 q (omega arith) ∙ rw (name_step (length x)) (after_name (length x) (name_number 0 (b ∷ x)) l (run_ends q) ∙ ap (flush (suc (length x)) (name_number 0 (b ∷ x))) g.found);
      tells = rw (name_token m l b x q, g.tells);
    }
  where
    name_step : (n : ℕ) → 0 + suc n ≡ suc n
    name_step n = omega arith

-- SOUND: what is read spells
abbrev Good : ℕ → ℕ → List ℕ → Option (List ℕ) → Type 0
Good k w l none = Unit {0}
Good zero w l (some ws) = Spells l (tokens ws)
Good (suc k) w l (some ws) =
    (x : List ℕ) × (r : List ℕ) × (us : List ℕ) × LetterRun l x r × (suc k + length x ≤ 8) × (ws ≡ name_number w x ∷ us) × Spells r (tokens us)

good_separate : (b : ℕ) (l : List ℕ) → letter b ≡ false → (o : Option (List ℕ)) → Good 0 0 l o → Good 0 0 (b ∷ l) (separate b o)
unfolding separate before tokens
good_separate b l e none g = go (eqb b 32) refl
  where
    go : (y : Bool) → eqb b 32 ≡ y → Good 0 0 (b ∷ l) (cond y none (cond (is_sign b) none none))
    go true q = tt
    go false q = no (is_sign b)
      where
        no : (z : Bool) → Good 0 0 (b ∷ l) (cond z none none)
        no true = tt
        no false = tt
good_separate b l e (some ws) g = go (eqb b 32) refl
  where
    go2 : (z : Bool) → is_sign b ≡ z → Good 0 0 (b ∷ l) (cond z (some (b ∷ ws)) none)
    go2 true q = a_sign (is_sign_lem b q) g
    go2 false q = tt

    go : (y : Bool) → eqb b 32 ≡ y → Good 0 0 (b ∷ l) (cond y (some ws) (cond (is_sign b) (some (b ∷ ws)) none))
    go true q = subst (λ (c : ℕ). Spells (c ∷ l) (tokens ws)) (sym (eqb-true b 32 q)) (a_space g)
    go false q = go2 (is_sign b) refl

good_flush : (k w : ℕ) (l : List ℕ) → NoLetter l → k ≤ 8 → (o : Option (List ℕ)) → Good 0 0 l o → Good k w l (flush k w o)
unfolding flush name_number
good_flush zero w l n h none g = tt
good_flush zero w l n h (some ws) g = g
good_flush (suc k) w l n h none g = tt
good_flush (suc k) w l n h (some ws) g = ([], l, ws, no_more n, omega arith, number_none, g)
  where
    number_none : (w ∷ ws) ≡ name_number w [] ∷ ws
    number_none = refl

good_letter : (k w b : ℕ) (l : List ℕ) → Letter b → (o : Option (List ℕ)) → Good (suc k) (w * 256 + b) l o → (k ≡ 0 → w ≡ 0) → Good k w (b ∷ l) o
unfolding name_number tokens
good_letter zero w b l t none g z = tt
good_letter (suc k) w b l t none g z = tt
good_letter zero w b l t (some ws) g z =
    let q : LetterRun (b ∷ l) (b ∷ g.0) g.1 = a_letter t g.3 in
    let e : ws ≡ name_number 0 (b ∷ g.0) ∷ g.2 = subst (λ (v : ℕ). ws ≡ name_number (v * 256 + b) g.0 ∷ g.2) (z refl) g.5 in
    rw (e, name_token (b ∷ l) g.1 b g.0 q) (a_name q (omega (arith, g.4)) g.6)
good_letter (suc k) w b l t (some ws) g z = (b ∷ g.0, g.1, g.2, a_letter t g.3, omega (arith, g.4), g.5, g.6)

good : (k w : ℕ) (l : List ℕ) → k ≤ 8 → (k ≡ 0 → w ≡ 0) → Good k w l (lex k w l)
unfolding lex tokens
good k w [] h z = good_flush k w [] tt h (some []) the_end
good k w (b ∷ l) h z = go (λ i v p q. good i v l p q) (letter b) refl
  where
    deep : ((i v : ℕ) → i ≤ 8 → (i ≡ 0 → v ≡ 0) → Good i v l (lex i v l)) → (y : Bool) → ltb k 8 ≡ y → Letter b
        → Good k w (b ∷ l) (cond y (lex (suc k) (w * 256 + b) l) none)
    deep f true e t = good_letter k w b l t (lex (suc k) (w * 256 + b) l) (f (suc k) (w * 256 + b) (ltb-true k 8 e) (λ p. absurd (omega arith))) z
    deep f false e t = none_good k
      where
        none_good : (i : ℕ) → Good i w (b ∷ l) none
        none_good i = tt

    go : ((i v : ℕ) → i ≤ 8 → (i ≡ 0 → v ≡ 0) → Good i v l (lex i v l)) → (y : Bool) → letter b ≡ y
        → Good k w (b ∷ l) (cond y (cond (ltb k 8) (lex (suc k) (w * 256 + b) l) none) (flush k w (separate b (lex 0 0 l))))
    go f true e = deep f (ltb k 8) refl (letter_is b e)
    go f false e = good_flush k w (b ∷ l) (letter_not b e) h (separate b (lex 0 0 l)) (good_separate b l e (lex 0 0 l) (f 0 0 (omega arith) (λ p. refl)))

pub spelled : (l ws : List ℕ) → lex 0 0 l ≡ some ws → Spells l (tokens ws)
spelled l ws e = rw e at (good 0 0 l (omega arith) (λ p. refl))

-- "Every text has at most one reading": it spells one list of tokens at most
pub spells_unique : {l : List ℕ} {ts us : List Token} → Spells l ts → Spells l us → ts ≡ us
spells_unique s t =
    let g = read s in
    let h = read t in
    let e : g.words ≡ h.words = cc in
    sym g.tells ∙ ap tokens e ∙ h.tells

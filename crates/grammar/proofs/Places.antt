-- The tokens of words, from a place on. Assumes nothing.
use Prim.Native.Nat.{ℕ, suc, ◌+◌, ◌≤◌, ◌<◌}
use mathlib.Core.Path.{◌≡◌, refl, ap, ◌∙◌}
use mathlib.Core.Bool.{Bool, true, false, cond}
use mathlib.Core.List.{List, [], ◌∷◌}
use lib.ListN.{length, get_or, drop, drop_of_length-le}
use lib.Dec.{eqb}
use borrow.Author.Tests.{eqb-true}
use Rattle.table.proofs.Lists.{from_place}
use Rattle.grammar.specs.Tokens.{Token, caret, name, opening, closing, backslash, stop, bang, ampersand, bar, arrow, Sign}
use Rattle.grammar.specs.Words.{token, tokens}
use Rattle.grammar.proofs.Spelled.{sign_token}

pub tokens_at : (ws : List ℕ) (at : ℕ) → at < length ws → tokens (drop at ws) ≡ token (get_or ws at 0) ∷ tokens (drop (at + 1) ws)
unfolding tokens
tokens_at ws at h = ap tokens (from_place ws at 0 h)

pub tokens_end : (ws : List ℕ) (at : ℕ) → length ws ≤ at → tokens (drop at ws) ≡ []
unfolding tokens
tokens_end ws at h = ap tokens (drop_of_length-le ws h)

-- a sign's word
pub sign_at : {c : ℕ} {t : Token} → Sign c t → (ws : List ℕ) (at : ℕ) → at < length ws → get_or ws at 0 ≡ c → tokens (drop at ws) ≡ t ∷ tokens (drop (at + 1) ws)
sign_at n ws at h e = tokens_at ws at h ∙ ap (λ (x : Token). x ∷ tokens (drop (at + 1) ws)) (ap token e ∙ sign_token n)

pub tokens_length : (ws : List ℕ) → length (tokens ws) ≡ length ws
unfolding tokens
tokens_length [] = refl
tokens_length (w ∷ ws) = ap suc (tokens_length ws)

-- what holds of the token of a word, sign by sign
pick : (P : Token → Type 0) (w c : ℕ) {a b : Token} → (w ≡ c → P a) → P b → P (cond (eqb w c) a b)
pick P w c {a} {b} x y = go (eqb w c) refl
  where
    go : (z : Bool) → eqb w c ≡ z → P (cond z a b)
    go true e = x (eqb-true w c e)
    go false e = y

pub by_token : (P : Token → Type 0) (w : ℕ) → (w ≡ 94 → P caret) → (w ≡ 40 → P opening) → (w ≡ 92 → P backslash) → (w ≡ 41 → P closing)
    → (w ≡ 46 → P stop) → (w ≡ 33 → P bang) → (w ≡ 38 → P ampersand) → (w ≡ 124 → P bar) → (w ≡ 62 → P arrow) → P (name w) → P (token w)
unfolding token
by_token P w c o b k s n a r i m =
    pick P w 94 c (pick P w 40 o (pick P w 92 b (pick P w 41 k (pick P w 46 s (pick P w 33 n (pick P w 38 a (pick P w 124 r (pick P w 62 i m))))))))

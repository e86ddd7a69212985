-- The reader of text: tokens as words, and the words of a text. Assumes nothing: these are definitions.
use Rattle.std.specs.Prelude.{ℕ, zero, suc, ◌+◌, ◌*◌, Bool, true, cond, ◌&&◌, List, [], ◌∷◌, eqb, ltb, leb}
use Rattle.std.proofs.Math.Option.{Option, none, some}
use Rattle.grammar.specs.Tokens.{Token, caret, name, opening, closing, backslash, stop, bang, ampersand, bar, arrow}

-- A sign is its byte; every other word is a name, by its number.
unfoldable pub token : ℕ → Token
token w =
    cond (eqb w 94) caret (cond (eqb w 40) opening (cond (eqb w 92) backslash (cond (eqb w 41) closing (cond (eqb w 46) stop
    (cond (eqb w 33) bang (cond (eqb w 38) ampersand (cond (eqb w 124) bar (cond (eqb w 62) arrow (name w)))))))))

unfoldable pub tokens : List ℕ → List Token
tokens [] = []
tokens (w ∷ ws) = token w ∷ tokens ws

-- What follows finds the words of a text; the theorems `spelled` and `read` say that it finds them exactly where the text spells their tokens.

abbrev pub letter : ℕ → Bool
letter b = leb 97 b && leb b 122

-- the word of a name of k letters, where there is one, before the others
unfoldable pub flush : ℕ → ℕ → Option (List ℕ) → Option (List ℕ)
flush k w none = none
flush zero w (some ws) = some ws
flush (suc k) w (some ws) = some (w ∷ ws)

unfoldable pub before : ℕ → Option (List ℕ) → Option (List ℕ)
before w none = none
before w (some ws) = some (w ∷ ws)

unfoldable pub is_sign : ℕ → Bool
is_sign b =
    cond (eqb b 94) true (cond (eqb b 40) true (cond (eqb b 92) true (cond (eqb b 41) true (cond (eqb b 46) true
    (cond (eqb b 33) true (cond (eqb b 38) true (cond (eqb b 124) true (eqb b 62))))))))

-- a byte that is no letter: a space, a sign, or none of a text
unfoldable pub separate : ℕ → Option (List ℕ) → Option (List ℕ)
separate b r = cond (eqb b 32) r (cond (is_sign b) (before b r) none)

-- the words of a text, after k letters of a name, of number w
unfoldable pub lex : ℕ → ℕ → List ℕ → Option (List ℕ)
lex k w [] = flush k w (some [])
lex k w (b ∷ l) = cond (letter b) (cond (ltb k 8) (lex (suc k) (w * 256 + b) l) none) (flush k w (separate b (lex 0 0 l)))

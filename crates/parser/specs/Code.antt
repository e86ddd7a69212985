-- What the functions ask and give, in terms of the grammar's reader. Assumes nothing: these are definitions.
use Rattle.std.specs.Prelude.{ℕ, zero, suc, ◌+◌, ◌*◌, ◌-◌, ◌≤◌, ◌<◌, ◌≡◌, Bool, true, false, cond, List, ◌∷◌, length, get_or, drop, replicate, ltb, eqb}
use Rattle.std.proofs.Math.Option.{Option, none, some}
use Rattle.table.specs.Wrote.{Wrote}
use Rattle.grammar.specs.Expression.{Expression}
use Rattle.grammar.specs.Tokens.{Token, name}
use Rattle.grammar.specs.Reader.{Read, nothing, read, empty, abstracted, binder, parse, operand}
use Rattle.grammar.specs.Words.{token, tokens}
use Rattle.grammar.specs.Postfix.{postfix}
use Rattle.std.specs.Prelude as code
use Rattle.parser.specs.declared.Phrase.{Phrase}

unfoldable pub place_of : Option ℕ → code.Option ℕ
place_of none = code.None
place_of (some i) = code.Some i

-- Whether a word is a name. One that is none begins no binder, and no operand but a leaf, parentheses or an abstraction.
abbrev pub IsName : ℕ → Bool → Type 0
IsName t true = token t ≡ name t
IsName t false = (r : List Token) → ((f : ℕ → List Token → Read) → binder f (token t ∷ r) ≡ nothing)
    × ((d : ℕ) (Γ : List ℕ) → (t ≡ 94 → ⊥) → (t ≡ 40 → ⊥) → (t ≡ 92 → ⊥) → operand d Γ (token t ∷ r) ≡ nothing)

-- Whether an abstraction opens at a place. A backslash that opens none begins no operand.
abbrev pub IsBinder : List ℕ → ℕ → Bool → Type 0
IsBinder ws at true = (3 ≤ length ws - at) × (get_or ws at 0 ≡ 92) × (token (get_or ws (at + 1) 0) ≡ name (get_or ws (at + 1) 0)) × (get_or ws (at + 2) 0 ≡ 46)
IsBinder ws at false = at < length ws → get_or ws at 0 ≡ 92 → (d : ℕ) (Γ : List ℕ) → operand d Γ (tokens (drop at ws)) ≡ nothing

-- so many abstractions of what is read
unfoldable pub abstracted_by : ℕ → Read → Read
abstracted_by zero x = x
abstracted_by (suc n) x = abstracted_by n (abstracted x)

-- What a row of abstractions asks: a backslash, and room before the names around it for one in three words.
pub record RowAsks (ws : List ℕ) (at : ℕ) (names : List ℕ) (k : ℕ) : Type 0 where
  pub before : at < length ws
  pub opens : get_or ws at 0 ≡ 92
  pub few : length ws ≤ 8192
  pub scope : length ws ≤ at + 3 * k
  pub inside : k ≤ length names
  pub short : length names ≤ 8192

-- n abstractions in a row, with their names before those around, nearest first: the operand is so many abstractions of what is read after them
pub record Row (ws : List ℕ) (at : ℕ) (names : List ℕ) (k n : ℕ) (names' : List ℕ) : Type 0 where
  pub within : at + 3 * n ≤ length ws
  pub fits : n ≤ k
  pub kept : drop k names' ≡ drop k names
  pub leads : (d : ℕ) → operand d (drop k names) (tokens (drop at ws)) ≡ abstracted_by n (parse d (drop (k - n) names') empty (tokens (drop (at + 3 * n) ws)))

-- What a phrase asks: a place in the words, the names around it, and room for two symbols a word. An abstraction takes three words, so a third as
-- many names as words are enough.
pub record Asks (ws : List ℕ) (at : ℕ) (names : List ℕ) (k : ℕ) (post : List ℕ) (w : ℕ) : Type 0 where
  pub within : at ≤ length ws
  pub few : length ws ≤ 8192
  pub space : 2 * length ws ≤ length post
  pub room : w ≤ 2 * at
  pub scope : length ws ≤ at + 3 * k
  pub inside : k ≤ length names
  pub short : length names ≤ 8192

-- the reader's x is a phrase, read up to next and written from w up to end
pub record Phrased (x : Read) (ws : List ℕ) (w : ℕ) (post m : List ℕ) (next end : ℕ) : Type 0 where
  pub e : Expression
  pub leads : x ≡ read e (tokens (drop next ws))
  pub within : next ≤ length ws
  pub wrote : Wrote post w (postfix e) end m

unfoldable pub Tells : Read → List ℕ → ℕ → List ℕ → List ℕ → code.Option Phrase → Type 0
Tells x ws w post m (code.Some r) = Phrased x ws w post m r.next r.end
Tells x ws w post m code.None = x ≡ nothing

-- parentheses around a phrase, where the closing one follows it
unfoldable pub close_group : List ℕ → Phrase → code.Option Phrase
close_group ws r =
    cond (ltb r.next (length ws)) (cond (eqb (get_or ws r.next 0) 41) (code.Some (record { next = r.next + 1; end = r.end })) code.None) code.None

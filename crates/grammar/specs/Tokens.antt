-- Which tokens a text spells, without a reader ([3]). Assumes nothing: these are definitions.
use Rattle.std.specs.Prelude.{ℕ, ◌+◌, ◌*◌, ◌≤◌, List, [], ◌∷◌, length}

-- ^, a name by its number, and ( ) \ . ! & | >
pub data Token : Type 0 where
  caret : Token
  name : ℕ → Token
  opening closing backslash stop bang ampersand bar arrow : Token

-- a lower-case letter, as a byte
abbrev pub Letter : ℕ → Type 0
Letter b = (97 ≤ b) × (b ≤ 122)

-- a text that does not begin with a letter
abbrev pub NoLetter : List ℕ → Type 0
NoLetter [] = Unit {0}
NoLetter (b ∷ l) = Letter b → ⊥

-- "an unbroken run of [..] lower-case letters": a text begins with the letters x, no letter follows them, and r is what follows
pub data LetterRun : List ℕ → List ℕ → List ℕ → Type 0 where
  no_more : {l : List ℕ} → NoLetter l → LetterRun l [] l
  a_letter : {b : ℕ} {l x r : List ℕ} → Letter b → LetterRun l x r → LetterRun (b ∷ l) (b ∷ x) r

-- A name's letters as one number, after n for the letters before them. Names of one number have the same letters (the theorem `names_apart`).
unfoldable pub name_number : ℕ → List ℕ → ℕ
name_number n [] = n
name_number n (b ∷ x) = name_number (n * 256 + b) x

-- the byte of each token that is no name: ^ ( \ ) . ! & | >
pub data Sign : ℕ → Token → Type 0 where
  is_caret : Sign 94 caret
  is_opening : Sign 40 opening
  is_backslash : Sign 92 backslash
  is_closing : Sign 41 closing
  is_stop : Sign 46 stop
  is_bang : Sign 33 bang
  is_ampersand : Sign 38 ampersand
  is_bar : Sign 124 bar
  is_arrow : Sign 62 arrow

-- "A name is an unbroken run of one to eight lower-case letters"; "Spaces part names and are otherwise ignored." No letter follows a name, so none
-- stands before one either: letters in a row are one name, and nine of them are none.
pub data Spells : List ℕ → List Token → Type 0 where
  the_end : Spells [] []
  a_space : {l : List ℕ} {ts : List Token} → Spells l ts → Spells (32 ∷ l) ts
  a_sign : {b : ℕ} {t : Token} {l : List ℕ} {ts : List Token} → Sign b t → Spells l ts → Spells (b ∷ l) (t ∷ ts)
  a_name : {b : ℕ} {m x l : List ℕ} {ts : List Token} → LetterRun m (b ∷ x) l → length (b ∷ x) ≤ 8 → Spells l ts
      → Spells m (name (name_number 0 (b ∷ x)) ∷ ts)

-- What the functions ask and give, in terms of the grammar's reader. Assumes nothing: these are definitions.
use Rattle.std.specs.Prelude.{ℕ, ◌+◌, ◌*◌, ◌≤◌, ◌<◌, ◌≡◌, List, [], ◌∷◌, ◌++◌, length, get_or, take, drop}
use Rattle.std.specs.Prelude as code
use Rattle.std.proofs.Math.Option.{Option, none, some}
use Rattle.grammar.specs.Expression.{Expression, app}
use Rattle.grammar.specs.Tokens.{ampersand, bar, arrow}
use Rattle.grammar.specs.Reader.{Read, nothing, read, Unclosed, unclosed, closed, follow, parse, more, operand, Starts}
use Rattle.grammar.specs.Words.{tokens}
use Rattle.grammar.specs.Postfix.{postfix}
use Rattle.operators.specs.declared.Joint.{Joint}
use Rattle.operators.specs.declared.Joint.TheVariants as joint
use Rattle.operators.specs.declared.Waiting.{Waiting}
use Rattle.operators.specs.declared.Step.{Step}
use Rattle.operators.specs.declared.Step.TheVariants as step

-- what stands after an application; none where no expression goes on with it
abbrev pub JointAt : List ℕ → ℕ → code.Option Joint → Type 0
JointAt ws at (code.Some joint.Operand) = Starts (tokens (drop at ws)) × (at < length ws)
JointAt ws at (code.Some joint.End) = (d : ℕ) (Γ : List ℕ) (p : Unclosed) (e : Expression) → more d Γ p e (tokens (drop at ws)) ≡ read (closed p e) (tokens (drop at ws))
JointAt ws at (code.Some joint.And) = (tokens (drop at ws) ≡ ampersand ∷ tokens (drop (at + 1) ws)) × (at < length ws)
JointAt ws at (code.Some joint.Or) = (tokens (drop at ws) ≡ bar ∷ tokens (drop (at + 1) ws)) × (at < length ws)
JointAt ws at (code.Some joint.Arrow) = (tokens (drop at ws) ≡ arrow ∷ tokens (drop (at + 1) ws)) × (at < length ws)
JointAt ws at code.None = (d : ℕ) (Γ : List ℕ) (p : Unclosed) (e : Expression) → more d Γ p e (tokens (drop at ws)) ≡ nothing

-- so many ! more
abbrev pub noted_by : ℕ → Unclosed → Unclosed
noted_by n p = unclosed p.implies p.or p.and (p.nots + n)

-- n times ! from a place on, and then no more; and so what the reader makes of them
pub record Bangs (ws : List ℕ) (from n : ℕ) : Type 0 where
  pub within : from + n ≤ length ws
  pub all : (i : ℕ) → i < n → get_or ws (from + i) 0 ≡ 33
  pub ends : from + n < length ws → get_or ws (from + n) 0 ≡ 33 → ⊥
  pub leads : (d : ℕ) (Γ : List ℕ) (p : Unclosed)
      → parse d Γ p (tokens (drop from ws)) ≡ follow (operand d Γ (tokens (drop (from + n) ws))) (λ a s. more d Γ (noted_by n p) a s)

-- an operand after the ! from `at` on, with so many operators before it and no application
pub record Begun (ws : List ℕ) (at end implies ors ands : ℕ) (w : Waiting) : Type 0 where
  pub nots : ℕ
  pub bangs : Bangs ws at nots
  pub is : w ≡ record { at = at + nots; end = end; implies = implies; ors = ors; ands = ands; nots = nots; apps = 0 }

-- an operand after a function, if there is one
unfoldable pub applied : Option Expression → Expression → Expression
applied none a = a
applied (some f) a = app f a

unfoldable pub count : Option Expression → ℕ
count none = 0
count (some e) = 1

unfoldable pub symbols : Option Expression → List ℕ
symbols none = []
symbols (some e) = postfix e

unfoldable pub symbols_of : List Expression → List ℕ
symbols_of [] = []
symbols_of (a ∷ js) = symbols_of js ++ postfix a

-- the symbols of what waits, and of a function that waits
abbrev pub flat : Unclosed → Option Expression → List ℕ
flat p f = symbols_of p.implies ++ (symbols p.or ++ (symbols p.and ++ symbols f))

-- the code counts what waits
pub record Counts (w : Waiting) (p : Unclosed) (f : Option Expression) : Type 0 where
  pub implies : w.implies ≡ length p.implies
  pub ors : w.ors ≡ count p.or
  pub ands : w.ands ≡ count p.and
  pub nots : w.nots ≡ p.nots
  pub apps : w.apps ≡ count f

abbrev pub sum : Waiting → ℕ
sum w = w.implies + w.ors + w.ands + w.nots + w.apps

-- Some operand a was read, and its symbols stand after those of what waits for it. Room for symbols is a matter of the words read: two for each.
pub record AfterAsks (ws : List ℕ) (at : ℕ) (post : List ℕ) (from : ℕ) (w : Waiting) : Type 0 where
  pub p : Unclosed
  pub f : Option Expression
  pub a : Expression
  pub xs : List ℕ
  pub counts : Counts w p f
  pub front : take from post ≡ xs ++ (flat p f ++ postfix a)
  pub within : at ≤ length ws
  pub few : length ws ≤ 8192
  pub space : 2 * length ws ≤ length post
  pub room : from + sum w + 1 ≤ 2 * at

-- the reader is at the next operand, with what waits for it, whose symbols are written
pub record Goes (d : ℕ) (Γ : List ℕ) (x : Read) (xs ws post : List ℕ) (w : Waiting) : Type 0 where
  pub p : Unclosed
  pub f : Option Expression
  pub counts : Counts w p f
  pub within : w.at ≤ length ws
  pub room : w.end + sum w ≤ 2 * w.at
  pub leads : x ≡ follow (operand d Γ (tokens (drop w.at ws))) (λ a s. more d Γ p (applied f a) s)
  pub front : take w.end post ≡ xs ++ flat p f

-- the reader has read e, whose symbols are written
pub record Finished (x : Read) (xs ws post : List ℕ) (at end : ℕ) : Type 0 where
  pub e : Expression
  pub leads : x ≡ read e (tokens (drop at ws))
  pub front : take end post ≡ xs ++ postfix e
  pub inside : end ≤ length post

-- what each step says of the reader; none where it reads nothing
abbrev pub Stepped : ℕ → List ℕ → Read → List ℕ → List ℕ → List ℕ → ℕ → code.Option Step → Type 0
Stepped d Γ x xs ws post at (code.Some (step.More w)) = Goes d Γ x xs ws post w × (at ≤ w.at)
Stepped d Γ x xs ws post at (code.Some (step.Done b)) = Finished x xs ws post at b
Stepped d Γ x xs ws post at code.None = x ≡ nothing

-- for whatever operand stands there, the step from what the reader is at after it
unfoldable pub Afters : ℕ → List ℕ → Unclosed → Option Expression → Expression → List ℕ → List ℕ → ℕ → List ℕ → ℕ → Waiting → code.Option Step → List ℕ → Type 0
Afters d Γ p f a xs ws at post from w r m =
    Counts w p f → take from post ≡ xs ++ (flat p f ++ postfix a)
    → Stepped d Γ (more d Γ p (applied f a) (tokens (drop at ws))) xs ws m at r

-- The refusals' numbers, and the numbers of an answer. Assumes nothing: these are definitions.
use Rattle.std.specs.Prelude.{ℕ, Bool, ◌&&◌, List, [], ◌∷◌, leb, Some, None, Result, Ok, Err}
use Rattle.std.specs.Prelude as code
use Rattle.std.proofs.Math.Option.{Option, none, some}
use Rattle.table.specs.declared.Refusal.{Refusal}
use Rattle.table.specs.declared.Refusal.TheVariants.{Limits, Broken, Node, Text, Rule, Packet, Steps, Nodes, Frames, Out, Label, RuleText, Week, Weight}
use Rattle.table.specs.declared.Made.{Made}

-- the number that document 01 (Operations, The packet) or document 02 ([1], [3], [6], [9]) gives each refusal
unfoldable pub number : Refusal → ℕ
number Limits = 1
number Broken = 2
number Node = 3
number Text = 4
number Rule = 5
number Packet = 6
number Steps = 7
number Nodes = 8
number Frames = 9
number Out = 10
number Label = 11
number RuleText = 12
number Week = 13
number Weight = 14

-- What an operation returns, as document 01 counts it: refusal 0 is success.
pub record Numbers : Type 0 where
  pub refusal : ℕ
  pub node : ℕ
  pub used : ℕ
  pub steps : ℕ
  pub digits : ℕ

-- "A refusal returns its number, used as at entry, and 0 for node number, steps and digits." (Operations)
unfoldable pub refused_numbers : ℕ → Refusal → Numbers
refused_numbers used e = record { refusal = number e; node = 0; used = used; steps = 0; digits = 0 }

-- the answer that gives node n, with u nodes in use then
abbrev pub made : ℕ → ℕ → Result Made Refusal
made n u = Ok (record { node = n; used = u })

-- the answer of the same operation that refuses
abbrev pub not_made : Refusal → Result Made Refusal
not_made e = Err e

-- the numbers of Read's, Translate's and Label's answer, with `used` as at entry
unfoldable pub made_numbers : ℕ → Result Made Refusal → Numbers
made_numbers used (Ok m) = record { refusal = 0; node = m.node; used = m.used; steps = 0; digits = 0 }
made_numbers used (Err e) = refused_numbers used e

-- the answer of an operation that gives a number or none, or refuses
abbrev pub Given : Type 0
Given = Result (code.Option ℕ) Refusal

abbrev pub given : ℕ → Given
given n = Ok (Some n)

abbrev pub nothing : Given
nothing = Ok None

abbrev pub not_given : Refusal → Given
not_given e = Err e

-- a number, "or none", as an answer
unfoldable pub given_by : Option ℕ → Given
given_by (some n) = given n
given_by none = nothing

-- the numbers of such an answer: the refusal, 1 if there is a number, and the number
unfoldable pub given_numbers : Given → List ℕ
given_numbers (Ok (Some n)) = 0 ∷ 1 ∷ n ∷ []
given_numbers (Ok None) = 0 ∷ 0 ∷ 0 ∷ []
given_numbers (Err e) = number e ∷ 0 ∷ 0 ∷ []

-- "Numbers 1 to 6, and any above 10 added later, leave lent memory as found. Numbers 7 to 10 set to 0 the words of the nodes made in the call and
-- the whole stack" (Operations): whether a refusal is one that clears memory. Every range of refusals is said by this definition.
unfoldable pub clears : Refusal → Bool
clears e = leb 7 (number e) && leb (number e) 10

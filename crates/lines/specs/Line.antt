-- The line that a program prints for a packet. Assumes nothing: these are definitions.
use Rattle.std.specs.Prelude.{ℕ, ◌≤◌, ◌≡◌, List, [], ◌∷◌, ◌++◌, length, take, replicate, Option, Result, Ok, Err, IfOk}
use Rattle.std.specs.Borrow.{Bor, MutBor}
use Rattle.std.specs.Io.KnownBytes.{Appends}
use Rattle.std.specs.Fmt.{decimal}
use Rattle.table.specs.Refusal.{number}
use Rattle.table.specs.declared.Refusal.{Refusal}
use Rattle.running.specs.declared.Ran.{Ran}

-- the refusal or 0, the steps, the nodes used and the text, parted by blanks, and a newline
unfoldable pub line : ℕ → ℕ → ℕ → List ℕ → List ℕ
line refusal steps used text = (decimal refusal ++ (32 ∷ (decimal steps ++ (32 ∷ (decimal used ++ (32 ∷ [])))))) ++ (text ++ (10 ∷ []))

-- the line of an answer and the out bytes that stand with it: a dash is the text of what was refused
unfoldable pub line_of : Result Ran Refusal → List ℕ → List ℕ
line_of (Ok ran) out = line 0 ran.steps ran.used (take ran.digits out)
line_of (Err refusal) out = line (number refusal) 0 0 (45 ∷ [])

-- What an operation may answer: the table, the stack, the out bytes and the packet that it is called with, its answer, and the first three as it leaves them.
abbrev pub Calls : Type 1
Calls = MutBor (List ℕ) → MutBor (List ℕ) → MutBor (List ℕ) → Bor (List ℕ) → Result Ran Refusal → MutBor (List ℕ) → MutBor (List ℕ) → MutBor (List ℕ) → Type 0

-- the text of an answer lies within the out bytes
abbrev pub TextsWithin : Calls → Type 0
TextsWithin calls = (t s o : MutBor (List ℕ)) (p : Bor (List ℕ)) (r : Result Ran Refusal) (t' s' o' : MutBor (List ℕ)) → calls t s o p r t' s' o' → IfOk r (λ ran. ran.digits ≤ length o'.now)

-- an answer that the operation may give to the packet and empty memory, and that its line is appended
pub record Answered (calls : Calls) (packet : List ℕ) (old new : Option (List ℕ)) : Type 0 where
  pub table : MutBor (List ℕ)
  pub stack : MutBor (List ℕ)
  pub out : MutBor (List ℕ)
  pub asked : Bor (List ℕ)
  pub answer : Result Ran Refusal
  pub left_table : MutBor (List ℕ)
  pub left_stack : MutBor (List ℕ)
  pub left_out : MutBor (List ℕ)
  pub called : calls table stack out asked answer left_table left_stack left_out
  pub table_is : table.now ≡ replicate 16384 0
  pub stack_is : stack.now ≡ replicate 12288 0
  pub out_is : out.now ≡ replicate 16384 0
  pub asked_is : asked.now ≡ packet
  pub appended : Appends old new (line_of answer left_out.now)

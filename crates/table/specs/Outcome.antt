-- The whole outcome of an operation on lent memory, and the checks and memory effects that the operations share (Operations).
-- Assumes nothing: these are definitions.
use Rattle.std.specs.Prelude.{ℕ, ◌*◌, ◌/◌, ◌≤◌, ◌≡◌, Bool, true, cond, ◌&&◌, List, [], ◌++◌, length, replicate, drop, leb, ltb, Result}
use Rattle.std.proofs.Math.Option.{Option, none, some}
use Rattle.calculus.specs.Tree.{Tree}
use Rattle.table.specs.Nodes.{Table, Placed, Making, got, full, capacity, sound, Sound, lay, cleared}
use Rattle.table.specs.Refusal.{made, not_made}
use Rattle.table.specs.declared.Refusal.{Refusal}
use Rattle.table.specs.declared.Refusal.TheVariants.{Limits, Broken, Nodes, Frames, Out}
use Rattle.table.specs.declared.Made.{Made}

-- the answer, and every lent word and byte as the operation leaves it; what an operation is not lent is empty
pub record Outcome (A : Type 0) : Type 0 where
  pub answer : A
  pub table : List ℕ
  pub stack : List ℕ
  pub out : List ℕ

abbrev pub whole_out : {A : Type 0} → A → List ℕ → List ℕ → List ℕ → Outcome A
whole_out a w s o = record { answer = a; table = w; stack = s; out = o }

-- the same outcome with another answer
abbrev pub answered : {A B : Type 0} → (A → B) → Outcome A → Outcome B
answered f x = whole_out (f x.answer) x.table x.stack x.out

-- of an operation that is lent no out bytes
abbrev pub whole : {A : Type 0} → A → List ℕ → List ℕ → Outcome A
whole a w s = whole_out a w s []

-- The bytes l into out, by an operation that is lent nothing else: 10 where out is shorter, which then stays; "out bytes past what is written stay" ([3]).
-- The answers are by how many bytes are written and by a refusal.
unfoldable pub into_out : {A : Type 0} → (ℕ → A) → (Refusal → A) → List ℕ → List ℕ → Outcome A
into_out many refused l out =
    cond (leb (length l) (length out)) (whole_out (many (length l)) [] [] (l ++ drop (length l) out)) (whole_out (refused Out) [] [] out)

-- "The stack is a lent run of at most 65,536 32-bit words, three a frame, rounded down." (Trees and their table)
abbrev pub frames : List ℕ → ℕ
frames s = length s / 3

-- every word of a lent stack set to 0
abbrev pub zeros : List ℕ → List ℕ
zeros s = replicate (length s) 0

-- "1: table or stack too long, or used above capacity."
unfoldable pub fits : List ℕ → ℕ → List ℕ → Bool
fits w u s = leb (length w) 131072 && (leb (length s) 65536 && leb u (capacity w))

-- Refusal 1, then 2. `within` says whether the operation's own limits are kept, which are a part of 1.
unfoldable pub at_entry : Bool → List ℕ → ℕ → List ℕ → Option Refusal
at_entry within w u s = cond (within && fits w u s) (cond (sound w u) none (some Broken)) (some Limits)

-- what holds of table, count and stack where neither 1 nor 2 is met
pub record Entered (within : Bool) (w : List ℕ) (u : ℕ) (s : List ℕ) : Type 0 where
  pub table : Sound (record { words = w; used = u })
  pub stack : length s ≤ 65536
  pub limits_kept : within ≡ true

-- refused with e where a check says so, else what follows
abbrev pub unless : {A : Type 0} → Option Refusal → (Refusal → A) → A → A
unless none refuse next = next
unless (some e) refuse next = refuse e

-- "Numbers 7 to 10 set to 0 the words of the nodes made in the call and the whole stack": t is the table where the call stopped, and u was in
-- use at entry
unfoldable pub stopped : {A : Type 0} → A → Table → ℕ → List ℕ → Outcome A
stopped a t u s = whole a (cleared t.words (u * 2) (t.used * 2)) (zeros s)

-- "Success also sets the stack to 0, and no other table word than those of new nodes changes."
unfoldable pub placed : Placed → List ℕ → Outcome (Result Made Refusal)
placed p s = whole (made p.node p.table.used) p.table.words (zeros s)

-- "Read, Translate and Label meet it while making nodes" ([8]): where a node has no place, those made since u were in use are cleared
unfoldable pub settled : ℕ → List ℕ → Making → Outcome (Result Made Refusal)
settled u s (got p) = placed p s
settled u s (full t) = stopped (not_made Nodes) t u s

-- a tree laid out, as Read and Translate do
unfoldable pub laid : List ℕ → ℕ → List ℕ → Tree → Outcome (Result Made Refusal)
laid w u s t = settled u s (lay (record { words = w; used = u }) t)

-- "after 9 where there is one" ([8]): 9 before a node is made, where a tree takes so many frames, then the tree laid out
unfoldable pub laid_within : List ℕ → ℕ → List ℕ → ℕ → Tree → Outcome (Result Made Refusal)
laid_within w u s held t = cond (ltb (frames s) held) (stopped (not_made Frames) (record { words = w; used = u }) u s) (laid w u s t)

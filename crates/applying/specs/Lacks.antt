-- What Apply lacked where it is refused, and what it leaves of lent memory then. Assumes nothing: these are definitions.
use Rattle.std.specs.Prelude.{ℕ, ◌+◌, ◌*◌, ◌≤◌, ◌<◌, ◌≡◌, true, List, length, leb}
use Rattle.std.proofs.Math.Option.{none}
use Rattle.calculus.specs.Uses.{steps}
use Rattle.table.specs.Nodes.{capacity, find, cleared}
use Rattle.table.specs.Outcome.{frames, zeros, at_entry}
use Rattle.table.specs.Claims.{EntryLacks}
use Rattle.table.specs.declared.Refusal.{Refusal}
use Rattle.table.specs.declared.Refusal.TheVariants.{Node, Steps, Nodes, Frames}
use Rattle.applying.specs.declared.Rule.{Rule}
use Rattle.applying.specs.declared.Rule.TheVariants.{Leaf, Stem}
use Rattle.applying.specs.Machine.{needs_frame, State, wanted, more, uses}
use Rattle.applying.specs.States.{table_of}
use Rattle.applying.specs.Apply.{begin}

-- "leaf: f = Δ gives ΔN, one new node. stem: f = Δp gives ΔpN, one new node." (The five rules): the rule, on node n, wants the node with the words a and b
pub data WantsNode (n : ℕ) : Rule → ℕ → ℕ → Type 0 where
  of_leaf : WantsNode n Leaf (n + 1) 0
  of_stem : {p : ℕ} → WantsNode n (Stem p) (p + 1) (n + 1)

-- What the next use of the state z lacks, where `all` frames are lent: "8 if a new node has no place; then 9 if a frame is needed and all are
-- held" (The five rules); "8 comes only when a node not yet in the table is wanted and the table is full" ([8]). No other refusal is for such a lack.
pub data Lacks (all : ℕ) (z : State) : Refusal → Type 0 where
  no_place : {a b : ℕ} → WantsNode z.argument (wanted z) a b → find z.table.words z.table.used a b ≡ none
      → capacity z.table.words ≤ z.table.used → Lacks all z Nodes
  all_held : needs_frame (wanted z) ≡ true → all ≤ length z.frames → Lacks all z Frames

-- Where the uses from s on stop: "Before each use: refusal 7 if the step limit is reached; then 8 [..] then 9". Either all `limit` uses were taken
-- and a further application is left, or fewer were, and the next lacks something.
pub data Halts (all limit : ℕ) (s : State) : Refusal → Type 0 where
  limit_reached : {z : State} → uses all limit s ≡ more z → steps z.uses ≡ limit → Halts all limit s Steps
  at_use : {z : State} {j : ℕ} {e : Refusal} → j < limit → uses all j s ≡ more z → Lacks all z e → Halts all limit s e

-- What the checks of Apply find: "1, also for a step limit above 1,000,000. 2. 3 for either number." (Operations, Apply)
pub data ChecksLack (w : List ℕ) (u : ℕ) (s : List ℕ) (f n limit : ℕ) : Refusal → Type 0 where
  early : {e : Refusal} → EntryLacks (leb limit 1000000) w u s e → ChecksLack w u s f n limit e
  not_in_use : at_entry (leb limit 1000000) w u s ≡ none → (f < u → n < u → ⊥) → ChecksLack w u s f n limit Node

-- The refusal of Apply, and the table and the stack as it leaves them: the checks leave them as found; then "7, 8, 9 as the rules say" set to 0 "the
-- words of the nodes made in the call and the whole stack", and no other word.
pub data ApplyLacks (w : List ℕ) (u : ℕ) (s : List ℕ) (f n limit : ℕ) : Refusal → List ℕ → List ℕ → Type 0 where
  of_entry : {e : Refusal} → ChecksLack w u s f n limit e → ApplyLacks w u s f n limit e w s
  halts : {e : Refusal} → at_entry (leb limit 1000000) w u s ≡ none → f < u → n < u → Halts (frames s) limit (begin w u f n) e
      → ApplyLacks w u s f n limit e (cleared w (u * 2) ((table_of (uses (frames s) limit (begin w u f n))).used * 2)) (zeros s)

-- What is claimed of a run that stopped while applying, and of one that is given more. Assumes nothing: these are definitions.
use Rattle.std.specs.Prelude.{ℕ, ◌+◌, ◌/◌, ◌%◌, ◌≤◌, ◌<◌, ◌≡◌, true, List, [], ◌∷◌, ◌++◌, length}
use Rattle.std.proofs.Math.Option.{none}
use Rattle.calculus.specs.Tree.{Tree}
use Rattle.calculus.specs.declared.Uses.{Uses}
use Rattle.calculus.specs.Uses.{steps}
use Rattle.calculus.specs.Term.{Term}
use Rattle.calculus.specs.Abstraction.{rule_tree}
use Rattle.table.specs.Nodes.{Table, Placed, capacity, find}
use Rattle.table.specs.Outcome.{frames}
use Rattle.table.specs.Refusal.{number}
use Rattle.table.specs.declared.Refusal.{Refusal}
use Rattle.table.specs.declared.Refusal.TheVariants.{Steps, Nodes, Frames, Out}
use Rattle.applying.specs.Machine.{needs_frame, State, wanted, Turn, more, done, turn, uses}
use Rattle.applying.specs.Apply.{begin}
use Rattle.applying.specs.Lacks.{WantsNode}
use Rattle.fields.specs.Packet.{Packet, field_bytes, argument_bytes, label_bytes}
use Rattle.running.specs.Claims.{Checked, TranslateHad, ReadsHad, Reached}
use Rattle.stopping.specs.declared.Kind.{Kind}
use Rattle.stopping.specs.declared.Stopped.{Stopped}
use Rattle.stopping.specs.declared.Stopped.TheVariants.{Applying, Refused, Completed}
use Rattle.stopping.specs.Stopped.{kind, stopped}
use Rattle.stopping.specs.Next.{NextAll}

-- The run of the packet p with the table w and the stack s, where t is the term of its rule, comes to want a use: t is translated and every argument read,
-- the applications to the arguments before the one at place i are completed with the uses k, and `taken` uses of the one to it lead to the state y, which wants
-- the use. In the whole run j steps are taken.
pub record Comes (w s : List ℕ) (p : Packet) (t : Term) (i j : ℕ) (y : State) : Type 0 where
  pub placed : Placed
  pub rule_laid : TranslateHad w s t placed
  pub read_table : Table
  pub read_nodes : List ℕ
  pub arguments_read : ReadsHad s placed.table p.arguments read_table read_nodes
  pub table : Table
  pub function : ℕ
  pub argument : ℕ
  pub left : List ℕ
  pub k : Uses
  pub reached : Reached (frames s) p.limit read_table placed.node read_nodes table function (argument ∷ left) k
  pub place : i + length left ≡ length read_nodes
  pub taken : ℕ
  pub led : uses (frames s) taken (begin table.words table.used function argument) ≡ more y
  pub steps_are : j ≡ steps k + taken
  pub within_limit : j ≤ p.limit

-- "the thing named to be the first that it lacked", "in the order 7, 8, 9": what the use lacks that the state y wants after j steps, where `limit` steps and
-- `all` frames are given. 8 is lacked only where 7 is not, and 9 only where 7 is not and no node is wanted.
pub data LacksFirst (all limit j : ℕ) (y : State) : Refusal → Type 0 where
  no_steps : j ≡ limit → LacksFirst all limit j y Steps
  no_node : j < limit → {a b : ℕ} → WantsNode y.argument (wanted y) a b → find y.table.words y.table.used a b ≡ none
      → capacity y.table.words ≤ y.table.used → LacksFirst all limit j y Nodes
  no_frame : j < limit → ((a b : ℕ) → WantsNode y.argument (wanted y) a b → ⊥) → needs_frame (wanted y) ≡ true → all ≤ length y.frames
      → LacksFirst all limit j y Frames

-- The run of the bytes l stops while applying with e, at the argument at place i, after j steps in the whole run, where a use of the rule c is wanted: it comes
-- to want that use, which lacks first what e names, and by the five rules on the trees that use is the next.
pub record StopsAt (w s o l : List ℕ) (e : Refusal) (i j : ℕ) (c : Kind) : Type 0 where
  pub sent : Packet
  pub term : Term
  pub args : List Tree
  pub checked : Checked w s o l sent term args
  pub state : State
  pub comes : Comes w s sent term i j state
  pub rule : c ≡ kind (wanted state)
  pub lacks : LacksFirst (frames s) sent.limit j state e
  -- "the argument's place (1 to 8)"
  pub from_one : 1 ≤ i
  pub to_eight : i ≤ 8
  pub k : Uses
  pub next : NextAll (rule_tree term) args i k c
  pub steps_are : j ≡ steps k

-- a use was taken: a further application or the outcome came of it
pub data Goes : Turn → Type 0 where
  goes_on : {z : State} → Goes (more z)
  gives : {p : Placed} {k : Uses} → Goes (done p k)

-- The run of the bytes l takes that use: it comes to want a use of the rule c at the argument at place i after j steps, and the use lacks nothing.
pub record Takes (w s o l : List ℕ) (i j : ℕ) (c : Kind) : Type 0 where
  pub sent : Packet
  pub term : Term
  pub args : List Tree
  pub checked : Checked w s o l sent term args
  pub state : State
  pub comes : Comes w s sent term i j state
  pub rule : c ≡ kind (wanted state)
  pub limit_above : j < sent.limit
  pub goes : Goes (turn (frames s) state)

-- The run of the packet p, where t is the term of its rule, applies to every argument, with the uses k, which are more than j steps.
pub record AllApplied (w s : List ℕ) (p : Packet) (t : Term) (j : ℕ) : Type 0 where
  pub placed : Placed
  pub rule_laid : TranslateHad w s t placed
  pub read_table : Table
  pub read_nodes : List ℕ
  pub arguments_read : ReadsHad s placed.table p.arguments read_table read_nodes
  pub table : Table
  pub node : ℕ
  pub k : Uses
  pub reached : Reached (frames s) p.limit read_table placed.node read_nodes table node [] k
  pub more_steps : j < steps k

-- "carries the run past that check, though the same use may then lack something later in the order 7, 8, 9": what `stopped` answers of a run that is past the
-- check of e at the use of the rule c that place i and j steps name. The same use lacks something later in the order; or the run stops at least one use
-- further; or all arguments are applied to, with more than j steps, and Run writes the text, or its Write lacks frames or out bytes.
pub data Past (w s : List ℕ) (p : Packet) (t : Term) (e : Refusal) (i j : ℕ) (c : Kind) : Stopped → Type 0 where
  same_use : {d : Refusal} → number e < number d → Past w s p t e i j c (Applying d i j c)
  further : {d : Refusal} {h m : ℕ} {r : Kind} → j < m → Past w s p t e i j c (Applying d h m r)
  no_frames : AllApplied w s p t j → Past w s p t e i j c (Refused Frames)
  no_bytes : AllApplied w s p t j → Past w s p t e i j c (Refused Out)
  writes : AllApplied w s p t j → Past w s p t e i j c Completed

-- The run of the bytes l is past the check of e at that use.
pub record Passes (w s o l : List ℕ) (e : Refusal) (i j : ℕ) (c : Kind) : Type 0 where
  pub sent : Packet
  pub term : Term
  pub args : List Tree
  pub checked : Checked w s o l sent term args
  pub past : Past w s sent term e i j c (stopped w s o l).answer

-- the packet with another step limit
abbrev pub with_limit : Packet → ℕ → Packet
with_limit p n = record { rule = p.rule; arguments = p.arguments; limit = n; label = p.label }

-- a step limit in four bytes, high first
abbrev pub four_bytes : ℕ → List ℕ
four_bytes n = n / 16777216 ∷ n / 65536 % 256 ∷ n / 256 % 256 ∷ n % 256 ∷ []

-- The bytes of a packet with the step limit n, in a field of tag 3 before the label's: where the packet names its limit, the four bytes of it change, and a
-- default limit that is raised adds a field of seven bytes.
unfoldable pub raised : Packet → ℕ → List ℕ
raised p n = field_bytes 1 p.rule ++ (argument_bytes p.arguments ++ (field_bytes 3 (four_bytes n) ++ label_bytes p.label))

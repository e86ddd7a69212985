-- What is claimed of Run: where it is refused, what it lacked and which words it cleared; where it writes a text, which, with which uses and with how
-- many nodes (Operations, Run). Assumes nothing: these are definitions.
use Rattle.std.specs.Prelude as code
use Rattle.std.specs.Prelude.{ℕ, ◌+◌, ◌-◌, ◌*◌, ◌≤◌, ◌<◌, ◌≡◌, List, [], ◌∷◌, ◌++◌, map, ◌⊎◌, length, take, drop, get_or, None, Result}
use Rattle.std.proofs.Math.Option.{Option, none, some}
use Rattle.calculus.specs.Tree.{Tree, size}
use Rattle.calculus.specs.declared.Uses.{Uses}
use Rattle.calculus.specs.Uses.{no_uses, ◌⊕◌, steps, new_nodes}
use Rattle.calculus.specs.Rules.{ApplyAll}
use Rattle.calculus.specs.Term.{Term, parameters}
use Rattle.calculus.specs.Bytes.{rule}
use Rattle.calculus.specs.Abstraction.{rule_tree}
use Rattle.calculus.specs.Runs.{Direct, difference}
use Rattle.table.specs.Nodes.{Table, Placed, got, capacity, Sound, tree_at, lay, cleared}
use Rattle.table.specs.Outcome.{Outcome, whole_out, frames, zeros}
use Rattle.table.specs.Claims.{Lacking, Has}
use Rattle.table.specs.declared.Refusal.{Refusal}
use Rattle.table.specs.declared.Refusal.TheVariants.{Limits, Rule, Steps, Nodes, Frames, Out}
use Rattle.table.specs.declared.Refusal.TheVariants as refusal
use Rattle.ternary.specs.Text.{text, tree_of, most_pending}
use Rattle.ternary.specs.Read.{readable}
use Rattle.ternary.specs.Write.{lacks}
use Rattle.ternary.specs.Held.{Spent}
use Rattle.applying.specs.Machine.{State, wanted, Turn, more, done, stop, uses}
use Rattle.applying.specs.States.{table_of}
use Rattle.applying.specs.Apply.{begin}
use Rattle.applying.specs.Ended.{Halted}
use Rattle.applying.specs.Lacks.{Halts}
use Rattle.fields.specs.Packet.{Packet, packet}
use Rattle.running.specs.Run.{texts, run, ran_numbers, ran_uses, not_ran, ran}
use Rattle.running.specs.Tell.{at_place}
use Rattle.running.specs.declared.Ran.{Ran}
use Rattle.running.specs.declared.Stop.{Stop}

-- "1: lengths only.": what holds where it is not met
pub record Fit (w s o : List ℕ) : Type 0 where
  pub table : length w ≤ 131072
  pub stack : length s ≤ 65536
  pub out : length o ≤ 65535

-- "4: its arguments' texts, first to last.", and then the label's ([1]): the first of the texts that Read does not take
pub data Unreadable : List (List ℕ) → Type 0 where
  here : {l : List ℕ} {ls : List (List ℕ)} → readable l ≡ none → Unreadable (l ∷ ls)
  there : {l : List ℕ} {ls : List (List ℕ)} {x : Tree} → readable l ≡ some x → Unreadable ls → Unreadable (l ∷ ls)

-- "The depot reader checks that text" ([1]): the label's text, where there is one, is one that Read takes
pub data LabelReads : Option (List ℕ) → Type 0 where
  no_label : LabelReads none
  label_of : {v : List ℕ} {x : Tree} → readable v ≡ some x → LabelReads (some v)

-- What holds where none of the four checks refuses: the lengths fit, the bytes l are the packet p, its rule is the term t, each of its arguments' texts
-- is one that Read takes, of the trees args in order, and so is its label's.
pub record Checked (w s o l : List ℕ) (p : Packet) (t : Term) (args : List Tree) : Type 0 where
  pub fit : Fit w s o
  pub is_packet : packet l ≡ some p
  pub is_rule : rule p.rule ≡ some t
  pub are_texts : map readable p.arguments ≡ map some args
  pub label_reads : LabelReads p.label

-- the digits of all texts
unfoldable pub total : List (List ℕ) → ℕ
total [] = 0
total (l ∷ ls) = length l + total ls

-- At most so many nodes are made since Run's entry where the rule t is translated, the arguments are read, and applications with the uses k are completed:
-- those of the rule's tree, one a digit of the arguments' texts, and one for each use of leaf and stem. "[5]'s node sum becomes an upper bound" ([8]).
abbrev pub nodes_by : Packet → Term → Uses → ℕ
nodes_by p t k = size (rule_tree t) + total p.arguments + new_nodes k

-- "Apply in order under one step limit": the table in which applying node v of the table z to the first of the nodes ns, the outcome to the second, and so
-- on, ends, or a use lacks something. `all` frames are lent, and `limit` steps are left.
unfoldable pub end_onwards : (Placed → Uses → Table) → Turn → Table
end_onwards next (more z) = z.table
end_onwards next (done p j) = next p j
end_onwards next (stop e z) = z.table

unfoldable pub end_table : ℕ → ℕ → Table → ℕ → List ℕ → Table
end_table all limit z v [] = z
end_table all limit z v (n ∷ ns) = end_onwards (λ p j. end_table all (limit - steps j) p.table p.node ns) (uses all limit (begin z.words z.used v n))

-- What Translate lacks, and how many nodes were made: "9: fewer than two frames for each node of the tree." (Operations, Translate); 8 "only when a node not
-- yet in the table is wanted and the table is full" ([8]).
pub data TranslateStops (w s : List ℕ) (t : Term) : Refusal → ℕ → Type 0 where
  translate_frames : frames s < 2 * size (rule_tree t) → TranslateStops w s t Frames 0
  translate_nodes : 2 * size (rule_tree t) ≤ frames s → {z : Table} → Lacking (record { words = w; used = 0 }) (rule_tree t) z → TranslateStops w s t Nodes (capacity w)

-- what Translate had where it gives the node m
pub record TranslateHad (w s : List ℕ) (t : Term) (m : Placed) : Type 0 where
  pub frames_enough : 2 * size (rule_tree t) ≤ frames s
  pub nodes_enough : lay (record { words = w; used = 0 }) (rule_tree t) ≡ got m

-- What the Reads of the texts had where all succeed, from the table z on: the table then, and the nodes of the texts' trees. "9: fewer frames than the most
-- trees pending" (Operations, Read).
pub data ReadsHad (s : List ℕ) : Table → List (List ℕ) → Table → List ℕ → Type 0 where
  all_read : {z : Table} → ReadsHad s z [] z []
  and_read : {z y : Table} {l : List ℕ} {ls : List (List ℕ)} {x : Tree} {m : Placed} {ns : List ℕ} → readable l ≡ some x → most_pending l ≤ frames s → lay z x ≡ got m
      → ReadsHad s m.table ls y ns → ReadsHad s z (l ∷ ls) y (m.node ∷ ns)

-- What the Read of one of the texts lacks, from the table z on, and how many nodes are in use where it stops: "9: fewer frames than the most trees pending"
-- (Operations, Read); 8 "only when a node not yet in the table is wanted and the table is full" ([8]).
pub data ReadStops (s : List ℕ) : Table → List (List ℕ) → Refusal → ℕ → Type 0 where
  no_frames : {z : Table} {l : List ℕ} {ls : List (List ℕ)} → frames s < most_pending l → ReadStops s z (l ∷ ls) Frames z.used
  no_nodes : {z y : Table} {l : List ℕ} {ls : List (List ℕ)} {x : Tree} → readable l ≡ some x → most_pending l ≤ frames s → Lacking z x y
      → ReadStops s z (l ∷ ls) Nodes (capacity z.words)
  later : {z : Table} {l : List ℕ} {ls : List (List ℕ)} {x : Tree} {m : Placed} {e : Refusal} {k : ℕ} → readable l ≡ some x → most_pending l ≤ frames s → lay z x ≡ got m
      → ReadStops s m.table ls e k → ReadStops s z (l ∷ ls) e k

-- "Apply in order under one step limit" (Operations, Run): node v of the table z is applied to the nodes ns in order, each outcome to the next; the applications
-- completed so far, with the uses k, have led to the table, the node and the nodes left that are named behind.
pub data Reached (all limit : ℕ) (z : Table) (v : ℕ) (ns : List ℕ) : Table → ℕ → List ℕ → Uses → Type 0 where
  at_first : Reached all limit z v ns z v ns no_uses
  and_applied : {z' : Table} {v' n : ℕ} {ns' : List ℕ} {k j : Uses} {m : Placed} → Reached all limit z v ns z' v' (n ∷ ns') k
      → uses all (limit - steps k) (begin z'.words z'.used v' n) ≡ done m j → Reached all limit z v ns m.table m.node ns' (k ⊕ j)

-- The application that is refused with e, where node v of the table z is applied to the nodes ns: the arguments before it were applied to with the uses k;
-- then the node `function` was applied to the node `argument` of the table that z had become, and a use lacked what e names. For 7 this means that the whole
-- run does not end within the limit.
pub record ApplyStops (w s : List ℕ) (p : Packet) (t : Term) (args : List Tree) (z : Table) (v : ℕ) (ns : List ℕ) (e : Refusal) : Type 0 where
  pub before : List Tree
  pub after : List Tree
  pub table : Table
  pub function : ℕ
  pub argument : ℕ
  pub left : List ℕ
  pub k : Uses
  pub reached : Reached (frames s) p.limit z v ns table function (argument ∷ left) k
  pub place : length before + length (argument ∷ left) ≡ length ns
  pub fine : Sound table
  pub same_length : length table.words ≡ length w
  pub beyond : (i : ℕ) → table.used * 2 ≤ i → get_or table.words i 0 ≡ get_or w i 0
  pub function_in : function < table.used
  pub argument_in : argument < table.used
  pub arguments_are : args ≡ before ++ (tree_at table.words argument ∷ after)
  pub so_far : ApplyAll (rule_tree t) before (tree_at table.words function) k
  pub within_limit : steps k ≤ p.limit
  pub used_most : table.used ≤ nodes_by p t k
  pub halts : Halts (frames s) (p.limit - steps k) (begin table.words table.used function argument) e
  -- the state that then wants a use
  pub state : State
  pub halted : Halted (uses (frames s) (p.limit - steps k) (begin table.words table.used function argument)) e state
  -- the table in which it stops is the one in which all the applications end
  pub ends_in : table_of (uses (frames s) (p.limit - steps k) (begin table.words table.used function argument)) ≡ end_table (frames s) p.limit z v ns
  pub no_tree : e ≡ Steps → {r : Tree} {j : Uses} → ApplyAll (rule_tree t) args r j → p.limit < steps j

-- What the first stage that cannot go on lacks, and the m nodes that were made since Run's entry: "Then Translate, Read of each argument, Apply in
-- order under one step limit, Write, each with its 7 to 10." The stages before it had what they needed.
pub data Stops (w s o : List ℕ) (p : Packet) (t : Term) (args : List Tree) : Refusal → ℕ → Type 0 where
  in_translate : {e : Refusal} {m : ℕ} → TranslateStops w s t e m → Stops w s o p t args e m
  in_read : {e : Refusal} {m : ℕ} {r : Placed} → TranslateHad w s t r → ReadStops s r.table p.arguments e m → Stops w s o p t args e m
  in_apply : {e : Refusal} {m : ℕ} {r : Placed} {z : Table} {ns : List ℕ} → TranslateHad w s t r → ReadsHad s r.table p.arguments z ns
      → ApplyStops w s p t args z r.node ns e → m ≡ (end_table (frames s) p.limit z r.node ns).used → Stops w s o p t args e m
  in_write : {e : Refusal} {m : ℕ} {r : Placed} {z : Table} {ns : List ℕ} {x : Tree} {k : Uses} → TranslateHad w s t r → ReadsHad s r.table p.arguments z ns
      → ApplyAll (rule_tree t) args x k → steps k ≤ p.limit → Spent (frames s) 0 x (length o) (lacks e)
      → m ≡ (end_table (frames s) p.limit z r.node ns).used → m ≤ nodes_by p t k → Stops w s o p t args e m

-- Where a stage stops: "for a stop while applying [..] the argument's place (1 to 8), the steps taken in the whole run and which of the five rules was
-- wanted. [..] For every other outcome it gives Run's number alone." ([14])
unfoldable pub stop_of : {w s o : List ℕ} {p : Packet} {t : Term} {args : List Tree} {e : Refusal} {m : ℕ} → Stops w s o p t args e m → code.Option Stop
stop_of (in_translate h) = None
stop_of (in_read h r) = None
stop_of (in_apply h r x i) = at_place (length x.before + 1) (steps x.k + steps x.state.uses) (wanted x.state)
stop_of (in_write h r x l y i j) = None

-- What was not so where Run refuses with e, and the whole outcome x: "1: lengths only. 6: packet broken. 5: its rule. 4: its arguments' texts, first to
-- last.", and then the label's ([1]). These "leave lent memory as found". Then a stage stops with 7 to 10: the words of the m nodes made since Run's entry
-- are 0 and all others as found, the stack is 0, and "the out bytes stay as at entry".
pub data Refuses (w s o l : List ℕ) (x : Outcome (Result Ran Refusal)) : Refusal → Type 0 where
  too_long : (Fit w s o → ⊥) → x ≡ whole_out (not_ran Limits) w s o → Refuses w s o l x Limits
  no_packet : Fit w s o → packet l ≡ none → x ≡ whole_out (not_ran refusal.Packet) w s o → Refuses w s o l x refusal.Packet
  no_rule : Fit w s o → {p : Packet} → packet l ≡ some p → rule p.rule ≡ none → x ≡ whole_out (not_ran Rule) w s o → Refuses w s o l x Rule
  no_text : Fit w s o → {p : Packet} → packet l ≡ some p → {t : Term} → rule p.rule ≡ some t → Unreadable (texts p)
      → x ≡ whole_out (not_ran refusal.Text) w s o → Refuses w s o l x refusal.Text
  stops : {p : Packet} {t : Term} {args : List Tree} → Checked w s o l p t args → {e : Refusal} {m : ℕ} → Stops w s o p t args e m → m ≤ capacity w
      → x ≡ whole_out (not_ran e) (cleared w 0 (m * 2)) (zeros s) o → Refuses w s o l x e

-- What a Run that is refused with 7 to 10 leaves of the table w and the stack s. Run takes the table as empty, so the nodes made are 0 to `made` − 1, as
-- many as the stage that stopped says.
pub record Undid (w s o l : List ℕ) (e : Refusal) (x : Outcome (Result Ran Refusal)) : Type 0 where
  pub sent : Packet
  pub term : Term
  pub args : List Tree
  pub checked : Checked w s o l sent term args
  pub made : ℕ
  pub stopped : Stops w s o sent term args e made
  pub within : made ≤ capacity w
  pub table : x.table ≡ cleared w 0 (made * 2)
  pub stack : x.stack ≡ zeros s

-- the conditions of 5 and 4, where those before are passed
abbrev pub BadRule : List ℕ → List ℕ → List ℕ → List ℕ → Type 0
BadRule w s o l = Fit w s o × (p : Packet) × (packet l ≡ some p) × (rule p.rule ≡ none)

abbrev pub BadText : List ℕ → List ℕ → List ℕ → List ℕ → Type 0
BadText w s o l = Fit w s o × (p : Packet) × (packet l ≡ some p) × (t : Term) × (rule p.rule ≡ some t) × Unreadable (texts p)

-- What is claimed of a Run that writes n digits after j steps, with the uses k, and leaves u nodes in use.
pub record Completes (w s o l : List ℕ) (j u n : ℕ) (k : Uses) : Type 0 where
  pub numbers : ran_numbers (run w s o l).answer ≡ record { refusal = 0; node = 0; used = u; steps = j; digits = n }
  -- "five counts"; "Their sum is the steps" ([5])
  pub uses_are : ran_uses (run w s o l).answer ≡ k
  pub steps_are : j ≡ steps k
  -- the packet, its rule's term, its arguments' trees in order
  pub sent : Packet
  pub is_packet : packet l ≡ some sent
  pub term : Term
  pub is_rule : rule sent.rule ≡ some term
  pub args : List Tree
  pub arguments_are : map tree_of sent.arguments ≡ map some args
  -- the tree whose text is written: "Bytes past the text stay."
  pub tree : Tree
  pub digits_are : n ≡ length (text tree)
  pub written : take n (run w s o l).out ≡ text tree
  pub out_is : (run w s o l).out ≡ text tree ++ drop n o
  -- "applies the translated rule's tree to the first argument by the five rules, that outcome to the second, and so on. Its steps are the uses"; "under
  -- one step limit"
  pub translated : ApplyAll (rule_tree term) args tree k
  -- the uses of every such run are these
  pub only : {r : Tree} {i : Uses} → ApplyAll (rule_tree term) args r i → i ≡ k
  pub within_limit : j ≤ sent.limit
  -- "The planner's run then has a tree, and it is this one; for n = 1 the steps [..] are the planner's plus 2L + 5X − 1."
  pub direct : 1 ≤ length args → length args ≤ parameters term → (i : ℕ) × Direct term args tree i
  pub steps : length args ≡ 1 → (i : ℕ) → Direct term args tree i → j ≡ i + difference term
  -- the rule's node, the arguments' nodes, and the table then; from these the applications lead to the table that is left, with u nodes in use
  pub placed : Placed
  pub rule_laid : TranslateHad w s term placed
  pub read_table : Table
  pub read_nodes : List ℕ
  pub arguments_read : ReadsHad s placed.table sent.arguments read_table read_nodes
  pub node : ℕ
  pub reached : Reached (frames s) sent.limit read_table placed.node read_nodes (record { words = (run w s o l).table; used = u }) node [] k
  pub node_has : Has (record { words = (run w s o l).table; used = u }) node tree
  pub used_is : u ≡ (end_table (frames s) sent.limit read_table placed.node read_nodes).used
  -- at most the rule's nodes, one a digit of the arguments' texts, and "one new node" for each use of leaf and stem; no two are equal (`fine`)
  pub used_most : u ≤ nodes_by sent term k
  -- "Success also sets the stack to 0, and no other table word than those of new nodes changes."
  pub stack : (run w s o l).stack ≡ zeros s
  pub same_length : length (run w s o l).table ≡ length w
  pub beyond : (i : ℕ) → 2 * u ≤ i → get_or (run w s o l).table i 0 ≡ get_or w i 0
  pub fine : Sound (record { words = (run w s o l).table; used = u })

-- What a Run of the rule t without arguments writes and counts: the translated rule's text, no use of a rule, and the nodes of that tree laid into the empty
-- table.
pub record Bare (w s o l : List ℕ) (t : Term) (j u n : ℕ) (k : Uses) : Type 0 where
  pub steps_none : j ≡ 0
  pub uses_none : k ≡ no_uses
  pub placed : Placed
  pub rule_laid : lay (record { words = w; used = 0 }) (rule_tree t) ≡ got placed
  pub used_is : u ≡ placed.table.used
  pub used_most : u ≤ size (rule_tree t)
  pub digits_are : n ≡ length (text (rule_tree t))
  pub out_is : (run w s o l).out ≡ text (rule_tree t) ++ drop n o

-- "8 [..] 9 [..] 10": nodes, frames or out bytes are too few
pub data TooFew : Refusal → Type 0 where
  few_nodes : TooFew Nodes
  few_frames : TooFew Frames
  few_bytes : TooFew Out

-- Run's answer is the text of r after the uses k, or 8, 9 or 10
abbrev pub Writes : List ℕ → List ℕ → List ℕ → List ℕ → Tree → Uses → Type 0
Writes w s o l r k =
    ((u : ℕ) × ((run w s o l).answer ≡ ran (steps k) u (length (text r)) k)) ⊎ ((e : Refusal) × TooFew e × ((run w s o l).answer ≡ not_ran e))

-- The whole outcome of Run (Operations, Run). Assumes nothing: these are definitions.
use Rattle.std.specs.Prelude.{ℕ, ◌-◌, ◌*◌, Bool, true, cond, ◌&&◌, List, [], ◌∷◌, ◌++◌, length, leb, Result, Ok, Err}
use Rattle.std.proofs.Math.Option.{Option, none, some}
use Rattle.calculus.specs.declared.Uses.{Uses}
use Rattle.calculus.specs.Uses.{no_uses, ◌⊕◌, steps}
use Rattle.calculus.specs.Bytes as bytes
use Rattle.table.specs.Nodes.{cleared}
use Rattle.table.specs.Outcome.{Outcome, whole_out, unless, zeros}
use Rattle.table.specs.Refusal.{Numbers, refused_numbers, made, not_made}
use Rattle.table.specs.declared.Refusal.{Refusal}
use Rattle.table.specs.declared.Refusal.TheVariants as refusal
use Rattle.table.specs.declared.Made.{Made}
use Rattle.ternary.specs.Read.{read, readable, is_some}
use Rattle.ternary.specs.Write as write
use Rattle.ternary.specs.Write.{Written}
use Rattle.translation.specs.Translate.{translate}
use Rattle.applying.specs.Apply.{apply, applied, not_applied}
use Rattle.applying.specs.declared.Applied.{Applied}
use Rattle.fields.specs.Packet.{Packet, packet}
use Rattle.running.specs.declared.Ran.{Ran}

-- the answer of Run that tells j steps, u nodes in use, n digits and the uses k; and the one that refuses
abbrev pub ran : ℕ → ℕ → ℕ → Uses → Result Ran Refusal
ran j u n k = Ok (record { steps = j; used = u; digits = n; uses = k })

abbrev pub not_ran : Refusal → Result Ran Refusal
not_ran e = Err e

-- the numbers of the answer of Run, and of `label_packet`: "On refusal used is 0."
unfoldable pub ran_numbers : Result Ran Refusal → Numbers
ran_numbers (Ok m) = record { refusal = 0; node = 0; used = m.used; steps = m.steps; digits = m.digits }
ran_numbers (Err e) = refused_numbers 0 e

-- "Apply and Run return the uses of each, five counts in document 01's order, all 0 on refusal." ([5])
unfoldable pub ran_uses : Result Ran Refusal → Uses
ran_uses (Ok m) = m.uses
ran_uses (Err e) = no_uses

-- A stage was refused with u nodes in use before it: every node made since the entry is cleared, and the stack; the out bytes stay.
unfoldable pub stopped : Refusal → List ℕ → ℕ → List ℕ → List ℕ → Outcome (Result Ran Refusal)
stopped e w u s o = whole_out (not_ran e) (cleared w 0 (u * 2)) (zeros s) o

-- What follows a stage: the refusal of an inner operation ends the call; else its node and its count of used nodes go on. u nodes were in use
-- before the stage, o are the out bytes. `answer` says how a refusal is told.
unfoldable pub after_made_by : {A : Type 0} → (Outcome (Result Ran Refusal) → A) → ℕ → List ℕ → Outcome (Result Made Refusal) → (List ℕ → ℕ → List ℕ → ℕ → A) → Result Made Refusal → A
after_made_by answer u o r next (Ok m) = next r.table m.used r.stack m.node
after_made_by answer u o r next (Err e) = answer (stopped e r.table u r.stack o)

-- with its number alone
abbrev pub after_made : ℕ → List ℕ → Outcome (Result Made Refusal) → (List ℕ → ℕ → List ℕ → ℕ → Outcome (Result Ran Refusal)) → Result Made Refusal → Outcome (Result Ran Refusal)
after_made = after_made_by (λ x. x)

unfoldable pub after_applied : ℕ → List ℕ → Outcome (Result Applied Refusal) → (List ℕ → ℕ → List ℕ → ℕ → Uses → Outcome (Result Ran Refusal)) → Result Applied Refusal → Outcome (Result Ran Refusal)
after_applied u o r next (Ok m) = next r.table m.used r.stack m.node m.uses
after_applied u o r next (Err e) = stopped e r.table u r.stack o

unfoldable pub after_written : Uses → ℕ → Outcome Written → Written → Outcome (Result Ran Refusal)
after_written k u r (Ok n) = whole_out (ran (steps k) u n k) r.table r.stack r.out
after_written k u r (Err e) = stopped e r.table u r.stack r.out

-- Write node v, the outcome after the uses k.
unfoldable pub writes : List ℕ → ℕ → List ℕ → List ℕ → ℕ → Uses → Outcome (Result Ran Refusal)
writes w u s o v k = let r = write.write w u s v o in after_written k u r r.answer

-- Apply node v to the argument nodes in order under one step limit, after the uses k; then write.
unfoldable pub applies : List ℕ → ℕ → List ℕ → ℕ → List ℕ → List ℕ → ℕ → Uses → Outcome (Result Ran Refusal)
applies [] limit w u s o v k = writes w u s o v k
applies (n ∷ ns) limit w u s o v k =
    let r = apply w u s v n (limit - steps k) in
    after_applied u o r (λ w' u' s' v' j. applies ns limit w' u' s' o v' (k ⊕ j)) r.answer

-- Read each argument's text in order, and go on with the nodes.
unfoldable pub reads_by : {A : Type 0} → (Outcome (Result Ran Refusal) → A) → List (List ℕ) → List ℕ → ℕ → List ℕ → List ℕ → (List ℕ → List ℕ → ℕ → List ℕ → A) → A
reads_by answer [] w u s o next = next [] w u s
reads_by answer (l ∷ ls) w u s o next =
    let r = read w u s l in
    after_made_by answer u o r (λ w' u' s' n. reads_by answer ls w' u' s' o (λ ns. next (n ∷ ns))) r.answer

abbrev pub reads : List (List ℕ) → List ℕ → ℕ → List ℕ → List ℕ → (List ℕ → List ℕ → ℕ → List ℕ → Outcome (Result Ran Refusal)) → Outcome (Result Ran Refusal)
reads = reads_by (λ x. x)

-- "Then Translate, Read of each argument, Apply in order under one step limit, Write, each with its 7 to 10."
unfoldable pub stages : List ℕ → List ℕ → List ℕ → Packet → Outcome (Result Ran Refusal)
stages w s o p =
    let r = translate w 0 s p.rule in
    after_made 0 o r (λ w' u' s' v. reads p.arguments w' u' s' o (λ ns w'' u'' s''. applies ns p.limit w'' u'' s'' o v no_uses)) r.answer

-- whether each text is one that Read takes
unfoldable pub all_readable : List (List ℕ) → Bool
unfolding is_some
all_readable [] = true
all_readable (l ∷ ls) = is_some (readable l) && all_readable ls

-- the label's text, where there is one
unfoldable pub label_texts : Option (List ℕ) → List (List ℕ)
label_texts none = []
label_texts (some v) = v ∷ []

-- a packet's texts in the order in which they are checked: "The depot reader checks that text after the arguments' texts" ([1])
abbrev pub texts : Packet → List (List ℕ)
texts p = p.arguments ++ label_texts p.label

-- "5: its rule. 4: its arguments' texts, first to last.", and then the label's: what the rule's bytes r and the texts ls lack
unfoldable pub parts_lack : List ℕ → List (List ℕ) → Option Refusal
unfolding is_some
parts_lack r ls = cond (is_some (bytes.rule r)) (cond (all_readable ls) none (some refusal.Text)) (some refusal.Rule)

-- "6: packet broken.", then 5 and 4
unfoldable pub run_packet : List ℕ → List ℕ → List ℕ → Option Packet → Outcome (Result Ran Refusal)
run_packet w s o none = whole_out (not_ran refusal.Packet) w s o
run_packet w s o (some p) = unless (parts_lack p.rule (texts p)) (λ e. whole_out (not_ran e) w s o) (stages w s o p)

-- "1: lengths only."
unfoldable pub lengths_fit : List ℕ → List ℕ → List ℕ → Bool
lengths_fit w s o = leb (length w) 131072 && (leb (length s) 65536 && leb (length o) 65535)

-- "Run a packet with the table taken as empty": the packet l, with the table w, the stack s and the out bytes o.
unfoldable pub run : List ℕ → List ℕ → List ℕ → List ℕ → Outcome (Result Ran Refusal)
run w s o l = cond (lengths_fit w s o) (run_packet w s o (packet l)) (whole_out (not_ran refusal.Limits) w s o)

-- A row of the table of worked examples: an input, and the line that the definitions give for it. Assumes nothing: these are definitions.
use Rattle.std.specs.Prelude.{ℕ, ◌+◌, ◌-◌, ◌*◌, List, [], ◌∷◌, ◌++◌, map, replicate, take, get_or, Result, Ok, Err}
use Rattle.table.specs.Nodes.{tree_at}
use Rattle.table.specs.Outcome.{Outcome}
use Rattle.table.specs.Refusal.{Numbers, number}
use Rattle.table.specs.declared.Refusal.{Refusal}
use Rattle.table.specs.declared.Made.{Made}
use Rattle.ternary.specs.Text.{text}
use Rattle.ternary.specs.Read.{read}
use Rattle.translation.specs.Translate.{translate}
use Rattle.applying.specs.Apply.{apply}
use Rattle.applying.specs.declared.Applied.{Applied}
use Rattle.fields.specs.Packet.{field_bytes, argument_bytes}
use Rattle.running.specs.Run as run
use Rattle.running.specs.declared.Ran.{Ran}

-- digits as the bytes of a text
abbrev pub ascii : List ℕ → List ℕ
ascii l = map (λ (d : ℕ). d + 48) l

-- what is applied: a rule by its bytes, or a tree by its text
pub data Program : Type 0 where
  rule : List ℕ → Program
  tree : List ℕ → Program

-- An input: a text for Read; a program applied to arguments by their texts, with a step limit, and with so many nodes free and so many frames
-- lent for applying; or a rule and arguments as a packet, with less memory than document 01's program lends.
pub data Input : Type 0 where
  reads : List ℕ → Input
  applies : Program → List (List ℕ) → ℕ → ℕ → ℕ → Input
  packet : List ℕ → List (List ℕ) → Input

-- the refusal's number or 0, the steps, the nodes (made by applying, or used), and the outcome's text
pub record Line : Type 0 where
  pub refusal : ℕ
  pub steps : ℕ
  pub nodes : ℕ
  pub digits : List ℕ

abbrev pub refused : ℕ → Line
refused n = record { refusal = n; steps = 0; nodes = 0; digits = [] }

abbrev pub gives : ℕ → ℕ → List ℕ → Line
gives k n l = record { refusal = 0; steps = k; nodes = n; digits = ascii l }

-- a stack that is large enough
abbrev ample : List ℕ
ample = replicate 120 0

unfoldable pub after_made : Outcome (Result Made Refusal) → Result Made Refusal → (List ℕ → ℕ → ℕ → Line) → Line
after_made o (Ok m) next = next o.table m.used m.node
after_made o (Err e) next = refused (number e)

unfoldable pub after_applied : Outcome (Result Applied Refusal) → Result Applied Refusal → (List ℕ → ℕ → ℕ → ℕ → Line) → Line
after_applied o (Ok m) next = next o.table m.used m.node m.steps
after_applied o (Err e) next = refused (number e)

-- node v is applied to the nodes in order, with `frames` frames, after k steps; u₀ nodes were in use before
unfoldable pub apply_line : List ℕ → ℕ → ℕ → ℕ → List ℕ → ℕ → ℕ → ℕ → Line
apply_line [] limit frames u₀ w u v k = record { refusal = 0; steps = k; nodes = u - u₀; digits = text (tree_at w v) }
apply_line (n ∷ ns) limit frames u₀ w u v k =
    let o = apply w u (replicate (frames * 3) 0) v n (limit - k) in
    after_applied o o.answer (λ w' u' v' j. apply_line ns limit frames u₀ w' u' v' (k + j))

unfoldable pub read_all : List (List ℕ) → List ℕ → ℕ → (List ℕ → List ℕ → ℕ → Line) → Line
read_all [] w u next = next [] w u
read_all (l ∷ ls) w u next =
    let o = read w u ample (ascii l) in
    after_made o o.answer (λ w' u' n. read_all ls w' u' (λ ns. next (n ∷ ns)))

unfoldable pub place : List ℕ → Program → Outcome (Result Made Refusal)
place w (rule b) = translate w 0 ample b
place w (tree l) = read w 0 ample (ascii l)

-- how many nodes the program and its arguments take
unfoldable pub taken : Program → List (List ℕ) → ℕ
taken p ls =
    let o = place (replicate 80 0) p in
    (after_made o o.answer (λ w u v. read_all ls w u (λ ns w' u'. apply_line [] 0 0 0 w' u' v 0))).nodes

unfoldable pub run_line : Outcome (Result Ran Refusal) → Numbers → Line
run_line o n = record { refusal = n.refusal; steps = n.steps; nodes = n.used; digits = take n.digits o.out }

unfoldable pub line : Input → Line
line (reads l) = read_all (l ∷ []) (replicate 80 0) 0 (λ ns w u. apply_line [] 0 0 0 w u (get_or ns 0 0) 0)
line (applies p ls limit free frames) =
    let o = place (replicate ((taken p ls + free) * 2) 0) p in
    after_made o o.answer (λ w u v. read_all ls w u (λ ns w' u'. apply_line ns limit frames u' w' u' v 0))
line (packet b ls) =
    let o = run.run (replicate 80 0) ample (replicate 40 0) (field_bytes 1 b ++ argument_bytes (map (λ (l : List ℕ). ascii l) ls)) in
    run_line o (run.ran_numbers o.answer)

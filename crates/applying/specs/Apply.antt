-- The whole outcome of Apply (Operations, Apply). Assumes nothing: these are definitions.
use Rattle.std.specs.Prelude.{ℕ, cond, ◌&&◌, List, [], ltb, leb, Result, Ok, Err}
use Rattle.calculus.specs.declared.Uses.{Uses}
use Rattle.calculus.specs.Uses.{no_uses, steps}
use Rattle.table.specs.Outcome.{Outcome, whole, frames, zeros, at_entry, unless, stopped}
use Rattle.table.specs.Refusal.{Numbers, refused_numbers}
use Rattle.table.specs.declared.Refusal.TheVariants.{Steps}
use Rattle.table.specs.declared.Refusal.TheVariants as refusal
use Rattle.table.specs.declared.Refusal.{Refusal}
use Rattle.applying.specs.Machine.{State, Turn, more, done, stop, uses}
use Rattle.applying.specs.declared.Applied.{Applied}

-- Apply's answer that gives node n, with u nodes in use then, after j steps with the uses k; and the one that refuses
abbrev pub applied : ℕ → ℕ → ℕ → Uses → Result Applied Refusal
applied n u j k = Ok (record { node = n; used = u; steps = j; uses = k })

abbrev pub not_applied : Refusal → Result Applied Refusal
not_applied e = Err e

-- the numbers of Apply's answer, with `used` as at entry
unfoldable pub applied_numbers : ℕ → Result Applied Refusal → Numbers
applied_numbers used (Ok m) = record { refusal = 0; node = m.node; used = m.used; steps = m.steps; digits = 0 }
applied_numbers used (Err e) = refused_numbers used e

-- "Apply and Run return the uses of each, five counts in document 01's order, all 0 on refusal." ([5])
unfoldable pub applied_uses : Result Applied Refusal → Uses
applied_uses (Ok m) = m.uses
applied_uses (Err e) = no_uses

-- how an application ends that had u nodes in use at entry: "refusal 7 if the step limit is reached"
unfoldable pub settle : ℕ → List ℕ → Turn → Outcome (Result Applied Refusal)
settle u s (more z) = stopped (not_applied Steps) z.table u s
settle u s (done p k) = whole (applied p.node p.table.used (steps k) k) p.table.words (zeros s)
settle u s (stop e z) = stopped (not_applied e) z.table u s

-- node f is to be applied to node n
abbrev pub begin : List ℕ → ℕ → ℕ → ℕ → State
begin w u f n = record { table = record { words = w; used = u }; function = f; argument = n; frames = []; uses = no_uses }

-- what Apply does on a table that passed 1 and 2, with two nodes in use: "Then 7, 8, 9 as the rules say."
unfoldable pub apply_nodes : List ℕ → ℕ → List ℕ → ℕ → ℕ → ℕ → Outcome (Result Applied Refusal)
apply_nodes w u s f n limit = settle u s (uses (frames s) limit (begin w u f n))

-- Apply node f to node n of the table w with u nodes in use, with the stack s: "1, also for a step limit above 1,000,000. 2. 3 for either
-- number. Then 7, 8, 9 as the rules say."
unfoldable pub apply : List ℕ → ℕ → List ℕ → ℕ → ℕ → ℕ → Outcome (Result Applied Refusal)
apply w u s f n limit =
    unless (at_entry (leb limit 1000000) w u s) (λ e. whole (not_applied e) w s)
    (cond (ltb f u && ltb n u) (apply_nodes w u s f n limit)
    (whole (not_applied refusal.Node) w s))

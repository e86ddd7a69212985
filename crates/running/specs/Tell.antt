-- A packet run as Run does, told with where it stopped ([14]). Assumes nothing: these are definitions.
use Rattle.std.specs.Prelude as code
use Rattle.std.specs.Prelude.{ℕ, ◌+◌, ◌-◌, cond, List, [], ◌∷◌, Some, None, Result, Ok, Err}
use Rattle.std.proofs.Math.Option.{Option, none, some}
use Rattle.calculus.specs.declared.Uses.{Uses}
use Rattle.calculus.specs.Uses.{no_uses, ◌⊕◌, steps}
use Rattle.table.specs.Outcome.{Outcome, whole_out, answered, unless}
use Rattle.table.specs.declared.Refusal.TheVariants as refusal
use Rattle.table.specs.declared.Refusal.{Refusal}
use Rattle.translation.specs.Translate.{translate}
use Rattle.applying.specs.Ended.{apply_ended, Ended, ended_in, stopped_with}
use Rattle.fields.specs.Packet.{Packet, packet}
use Rattle.running.specs.Run.{stopped, after_made_by, reads_by, writes, texts, parts_lack, lengths_fit, not_ran}
use Rattle.running.specs.declared.Told.{Told}
use Rattle.running.specs.declared.Ran.{Ran}
use Rattle.running.specs.declared.Stop.{Stop}
use Rattle.applying.specs.declared.Rule.{Rule}

-- the argument's place, the steps of the whole run, and the rule that was wanted
abbrev pub at_place : ℕ → ℕ → Rule → code.Option Stop
at_place i j d = Some (record { place = i; steps = j; rule = d })

-- Run's answer, and where applying stopped
abbrev pub tell_at : code.Option Stop → Outcome (Result Ran Refusal) → Outcome Told
tell_at p = answered (λ a. record { ran = a; stop = p })

-- an outcome of Run that is no stop while applying
abbrev pub told : Outcome (Result Ran Refusal) → Outcome Told
told = tell_at None

-- What follows the application to the argument at place i, after the uses k: "for a stop while applying, gives Run's number, the argument's place (1 to 8),
-- the steps taken in the whole run and which of the five rules was wanted".
unfoldable pub after_ended : ℕ → Uses → ℕ → List ℕ → Outcome Ended → (List ℕ → ℕ → List ℕ → ℕ → Uses → Outcome Told) → Ended → Outcome Told
after_ended i k u o r next (Ok m') = next r.table m'.used r.stack m'.node m'.uses
after_ended i k u o r next (Err m') = tell_at (at_place i (steps k + m'.steps) m'.rule) (stopped m'.refusal r.table u r.stack o)

-- Apply node v to the argument nodes in order under one step limit, after the uses k, the first of them being the argument at place i; then write.
unfoldable pub tell_applies : ℕ → List ℕ → ℕ → List ℕ → ℕ → List ℕ → List ℕ → ℕ → Uses → Outcome Told
tell_applies i [] limit w u s o v k = told (writes w u s o v k)
tell_applies i (n ∷ ns) limit w u s o v k =
    let r = apply_ended w u s v n (limit - steps k) in
    after_ended i k u o r (λ w' u' s' v' j. tell_applies (i + 1) ns limit w' u' s' o v' (k ⊕ j)) r.answer

-- Run's stages
unfoldable pub tell_stages : List ℕ → List ℕ → List ℕ → Packet → Outcome Told
tell_stages w s o p =
    let r = translate w 0 s p.rule in
    after_made_by told 0 o r (λ w' u' s' v. reads_by told p.arguments w' u' s' o (λ ns w'' u'' s''. tell_applies 1 ns p.limit w'' u'' s'' o v no_uses)) r.answer

-- Run's checks, in their order
unfoldable pub tell_packet : List ℕ → List ℕ → List ℕ → Option Packet → Outcome Told
tell_packet w s o none = told (whole_out (not_ran refusal.Packet) w s o)
tell_packet w s o (some p) = unless (parts_lack p.rule (texts p)) (λ e. told (whole_out (not_ran e) w s o)) (tell_stages w s o p)

unfoldable pub tell : List ℕ → List ℕ → List ℕ → List ℕ → Outcome Told
tell w s o l = cond (lengths_fit w s o) (tell_packet w s o (packet l)) (told (whole_out (not_ran refusal.Limits) w s o))

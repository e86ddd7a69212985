-- `stopped` tells of a stop exactly where a run stops while applying, and gives Run's number alone of every other outcome. Assumes nothing.
use Rattle.std.specs.Prelude.{Err, None, Ok, Result, Some}
use Rattle.std.specs.Prelude as code
use Prim.Native.Nat.{ℕ, ◌+◌, ◌-◌}
use mathlib.Core.Path.{◌≡◌, refl, sym, ap, ◌∙◌, subst}
use mathlib.Core.List.{List, ◌∷◌}
use mathlib.Core.Logic.{◌↔◌}
use native.Mathlib.Omega.{arith}
use lib.ListN.{length, get_or}
use Rattle.calculus.specs.Tree.{Tree}
use Rattle.calculus.specs.declared.Uses.{Uses}
use Rattle.calculus.specs.Uses.{steps}
use Rattle.calculus.specs.Term.{Term}
use Rattle.table.specs.Outcome.{Outcome, frames}
use Rattle.table.specs.Refusal.{refused_numbers}
use Rattle.table.specs.declared.Refusal.{Refusal}
use Rattle.table.specs.declared.Refusal.TheVariants.{Nodes, Frames}
use Rattle.table.proofs.Words.{zero_one}
use Rattle.ternary.specs.Text.{text}
use Rattle.applying.specs.Machine.{State, wanted, Turn, more, stop, after, uses}
use Rattle.applying.specs.Apply.{begin}
use Rattle.applying.specs.Ended.{Halted, for_steps, for_lack, apply_ended}
use Rattle.applying.specs.Lacks.{no_place, all_held}
use Rattle.applying.proofs.States.{Counted, uses_steps}
use Rattle.applying.proofs.Stops.{lacks_stop}
use Rattle.applying.proofs.Told.{halted_ends}
use Rattle.fields.specs.Packet.{Packet}
use Rattle.running.specs.Run.{run, ran_numbers, not_ran, ran}
use Rattle.running.specs.Run as running
use Rattle.running.specs.Tell.{after_ended, tell_applies, tell, at_place}
use Rattle.running.specs.Claims.{Checked, Stops, in_translate, in_read, in_apply, in_write, stop_of}
use Rattle.running.specs.declared.Told.{Told}
use Rattle.running.specs.declared.Ran.{Ran}
use Rattle.running.specs.declared.Stop.{Stop}
use Rattle.running.proofs.Outcomes.{Staged, stops, ends}
use Rattle.running.proofs.Checks.{tell_checked, Telling, early, staged, telling, tell_runs}
use Rattle.stopping.specs.declared.Kind.{Kind}
use Rattle.stopping.specs.declared.Stopped.TheVariants.{Applying, Refused, Completed}
use Rattle.stopping.specs.Stopped.{kind, stop_by, stopped, stopped_numbers}
use Rattle.stopping.specs.Claims.{Comes, LacksFirst, no_steps, no_node, no_frame, StopsAt}
use Rattle.stopping.proofs.Stopping.{stops_at}
use Rattle.stopping.proofs.Forward.{told_forward, uses_from}

-- Run's number alone tells of no stop
alone : {A : Type 0} {e : Refusal} {i j : ℕ} {c : Kind} (a : Result Ran Refusal) → stop_by a None ≡ Applying e i j c → A
unfolding stop_by
alone (Ok m) q = zero_one (cc)
alone (Err d) q = zero_one (cc)

module _ (w s o l : List ℕ) where
  -- what is told of a run, by Run's answer and where applying stopped
  answer_by : {a : Result Ran Refusal} {p : code.Option Stop} → (run w s o l).answer ≡ a → (tell w s o l).answer.stop ≡ p → (stopped w s o l).answer ≡ stop_by a p
  unfolding stopped
  answer_by q r = let m = ap (λ (x : Outcome (Result Ran Refusal)). x.answer) (tell_runs w s o l) in rw (m, q, r)

  stopped_at : (e : Refusal) (i j : ℕ) (c : Kind) → (stopped w s o l).answer ≡ Applying e i j c → StopsAt w s o l e i j c
  unfolding stop_by stop_of
  stopped_at e i j c q = go (telling w s o l)
    where
      by_stop : {p : Packet} {t : Term} {args : List Tree} → Checked w s o l p t args → {d : Refusal} {m : ℕ} (h : Stops w s o p t args d m)
          → stop_by (not_ran d) (stop_of h) ≡ Applying e i j c → StopsAt w s o l e i j c
      by_stop k (in_translate h) r = alone (not_ran _) r
      by_stop k (in_read h x) r = alone (not_ran _) r
      by_stop k {d} (in_apply h g x m) r =
          let e₁ : d ≡ e = cc in
          let i₁ : length x.before + 1 ≡ i = cc in
          let j₁ : steps x.k + steps x.state.uses ≡ j = cc in
          let c₁ : kind (wanted x.state) ≡ c = cc in
          rw (e₁, i₁, j₁, c₁) at (stops_at k h g x)
      by_stop k (in_write h g x b y m n) r = alone (not_ran _) r

      by_stage : {p : Packet} {t : Term} {args : List Tree} → Checked w s o l p t args → {a : code.Option Stop} → (tell w s o l).answer.stop ≡ a → Staged w s o p t args (run w s o l) a
          → StopsAt w s o l e i j c
      by_stage k f (stops h b m r) = by_stop k h (sym (answer_by (ap (λ (x : Outcome (Result Ran Refusal)). x.answer) m) (f ∙ r)) ∙ q)
      by_stage k f (ends {r = x} {k = j} {z = z} h m r) = alone (ran (steps j) z.used (length (text x)) j) (sym (answer_by (ap (λ (x : Outcome (Result Ran Refusal)). x.answer) m) (f ∙ r)) ∙ q)

      go : Telling w s o l → StopsAt w s o l e i j c
      go (early m) = alone (run w s o l).answer (sym (answer_by refl (ap (λ (x : Outcome Told). x.answer.stop) m)) ∙ q)
      go (staged k) = by_stage k refl (tell_checked k).staged

-- the uses up to the limit halt where the use lacks something
led_halts : {all limit m : ℕ} (b : State) {y : State} {e : Refusal} → uses all m b ≡ more y → LacksFirst all limit m y e → (x : Turn) × (uses all limit b ≡ x) × Halted x e y
unfolding after
led_halts b {y} l (no_steps q) = (more y, rw (← q) l, for_steps)
led_halts {all} b {y} l (no_node h n f c) = (stop Nodes y, uses_from all b l h ∙ rw (lacks_stop all y (no_place n f c)), for_lack)
led_halts {all} b {y} l (no_frame h n f c) = (stop Frames y, uses_from all b l h ∙ rw (lacks_stop all y (all_held f c)), for_lack)

-- without the steps of the arguments before
lacks_here : {all limit j m : ℕ} {y : State} {e : Refusal} (k : ℕ) → j ≡ k + m → LacksFirst all limit j y e → LacksFirst all (limit - k) m y e
lacks_here k h (no_steps q) = no_steps (omega arith)
lacks_here k h (no_node l n f c) = no_node (omega arith) n f c
lacks_here k h (no_frame l n f c) = no_frame (omega arith) n f c

-- what is told where the first of the applications halts
halts_told : (i : ℕ) (n : ℕ) (ns : List ℕ) (limit : ℕ) (w : List ℕ) (u : ℕ) (s o : List ℕ) (v : ℕ) (k : Uses) {x : Turn} {e : Refusal} {z : State}
    → uses (frames s) (limit - steps k) (begin w u v n) ≡ x → Halted x e z
    → (tell_applies i (n ∷ ns) limit w u s o v k).answer ≡ record { ran = not_ran e; stop = at_place i (steps k + steps z.uses) (wanted z) }
unfolding tell_applies after_ended apply_ended running.stopped
halts_told i n ns limit w u s o v k q h = rw (q, halted_ends u s h)

module _ (w s o l : List ℕ) where
  -- a run that comes to want a use, which lacks something, stops there
  pub lacks_told : {p : Packet} {t : Term} {args : List Tree} → Checked w s o l p t args → {i j : ℕ} {y : State} → Comes w s p t i j y → {e : Refusal}
      → LacksFirst (frames s) p.limit j y e → (stopped w s o l).answer ≡ Applying e i j (kind (wanted y))
  unfolding stopped stop_by
  lacks_told {p} checked {i} {j} {y} c {e} lacks =
      let a = told_forward checked c.rule_laid c.arguments_read c.reached i (omega (arith, c.place)) in
      let b = begin c.table.words c.table.used c.function c.argument in
      let h = led_halts b c.led (lacks_here (steps c.k) c.steps_are lacks) in
      let d : Counted 0 c.taken (more y) = subst (Counted 0 c.taken) c.led (uses_steps (frames s) c.taken b) in
      let m : steps c.k + steps y.uses ≡ j = omega (arith, c.steps_are) in
      let q : (tell w s o l).answer ≡ record { ran = not_ran e; stop = at_place i j (wanted y) } =
      ap (λ (y : Outcome Told). y.answer) a.2
      ∙ halts_told i c.argument c.left p.limit c.table.words c.table.used a.0 o c.function c.k (rw a.1 h.1) h.2
      ∙ rw m in
      rw q

  stops_told : {e : Refusal} {i j : ℕ} {c : Kind} → StopsAt w s o l e i j c → (stopped w s o l).answer ≡ Applying e i j c
  stops_told x = rw x.rule (lacks_told x.checked x.comes x.lacks)

  -- "for a stop while applying, gives Run's number, the argument's place (1 to 8), the steps taken in the whole run and which of the five rules was wanted.
  -- That rule is shown to be the next use by the definitions, and the thing named to be the first that it lacked.": and so exactly then.
  pub stopped_exactly : (e : Refusal) (i j : ℕ) (c : Kind) → ((stopped w s o l).answer ≡ Applying e i j c) ↔ StopsAt w s o l e i j c
  stopped_exactly e i j c = (stopped_at w s o l e i j c, stops_told)

  -- "A tool runs a packet alone": every lent word and byte is as Run leaves it
  pub stopped_memory : ((stopped w s o l).table ≡ (run w s o l).table) × ((stopped w s o l).stack ≡ (run w s o l).stack) × ((stopped w s o l).out ≡ (run w s o l).out)
  unfolding stopped
  stopped_memory = let q = tell_runs w s o l in (ap (λ (x : Outcome (Result Ran Refusal)). x.table) q, ap (λ (x : Outcome (Result Ran Refusal)). x.stack) q, ap (λ (x : Outcome (Result Ran Refusal)). x.out) q)

  -- Run's answer is the one told
  told_ran : (tell w s o l).answer.ran ≡ (run w s o l).answer
  told_ran = ap (λ (x : Outcome (Result Ran Refusal)). x.answer) (tell_runs w s o l)

  -- "For every other outcome it gives Run's number alone."
  pub alone_exactly : (e : Refusal)
      → ((stopped w s o l).answer ≡ Refused e) ↔ (((run w s o l).answer ≡ not_ran e) × ((i j : ℕ) (c : Kind) → StopsAt w s o l e i j c → ⊥))
  unfolding stopped stop_by
  alone_exactly e = (
    λ q. (sym told_ran ∙ from (tell w s o l).answer.ran (tell w s o l).answer.stop q, λ i j c x. zero_one (cc (stops_told x))),
    λ h. to (tell w s o l).answer.stop refl h.0 h.1,
  )
    where
      from : (a : Result Ran Refusal) (p : code.Option Stop) → stop_by a p ≡ Refused e → a ≡ not_ran e
      from (Ok m) p q = zero_one (cc)
      from (Err d) None q = let r : d ≡ e = cc in rw r
      from (Err d) (Some m) q = zero_one (cc)

      to : (p : code.Option Stop) → (tell w s o l).answer.stop ≡ p → (run w s o l).answer ≡ not_ran e → ((i j : ℕ) (c : Kind) → StopsAt w s o l e i j c → ⊥)
          → (stopped w s o l).answer ≡ Refused e
      to None r q n = answer_by w s o l q r
      to (Some m) r q n = absurd (n m.place m.steps (kind m.rule) (stopped_at w s o l e m.place m.steps (kind m.rule) (answer_by w s o l q r)))

  -- 0 exactly where Run writes a text
  pub completed_exactly : ((stopped w s o l).answer ≡ Completed) ↔ ((j : ℕ) × (u : ℕ) × (n : ℕ) × (k : Uses) × ((run w s o l).answer ≡ ran j u n k))
  unfolding stopped stop_by
  completed_exactly = (λ q. from (tell w s o l).answer.ran (tell w s o l).answer.stop told_ran q, λ h. answer_by w s o l h.4 refl)
    where
      from : (a : Result Ran Refusal) (p : code.Option Stop) → a ≡ (run w s o l).answer → stop_by a p ≡ Completed
          → (j : ℕ) × (u : ℕ) × (n : ℕ) × (k : Uses) × ((run w s o l).answer ≡ ran j u n k)
      from (Ok m) p r q = (m.steps, m.used, m.digits, m.uses, sym r)
      from (Err d) None r q = zero_one (cc)
      from (Err d) (Some m) r q = zero_one (cc)

  -- the first of the four numbers is Run's
  pub stopped_number : get_or (stopped_numbers (stopped w s o l).answer) 0 0 ≡ (ran_numbers (run w s o l).answer).refusal
  unfolding stopped stop_by stopped_numbers ran_numbers refused_numbers
  stopped_number = rw (← told_ran) (go (tell w s o l).answer.ran (tell w s o l).answer.stop)
    where
      go : (a : Result Ran Refusal) (p : code.Option Stop) → get_or (stopped_numbers (stop_by a p)) 0 0 ≡ (ran_numbers a).refusal
      go (Ok m) p = refl
      go (Err d) None = refl
      go (Err d) (Some m) = refl

  -- "gives Run's number": Run is refused with the refusal that is given
  pub stopped_refused : (e : Refusal) (i j : ℕ) (c : Kind) → (stopped w s o l).answer ≡ Applying e i j c → (run w s o l).answer ≡ not_ran e
  unfolding stopped stop_by
  stopped_refused e i j c q = sym told_ran ∙ from (tell w s o l).answer.ran (tell w s o l).answer.stop q
    where
      from : (a : Result Ran Refusal) (p : code.Option Stop) → stop_by a p ≡ Applying e i j c → a ≡ not_ran e
      from (Ok m') p q = zero_one (cc)
      from (Err d) None q = zero_one (cc)
      from (Err d) (Some m') q = let x : d ≡ e = cc in rw x

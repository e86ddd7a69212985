-- What a refused Run leaves, and the exact condition of each check's refusal. Assumes nothing.
use Rattle.std.specs.Prelude.{Result}
use Rattle.std.specs.Prelude as code
use Prim.Native.Nat.{ℕ}
use mathlib.Core.Path.{◌≡◌, refl, ap}
use mathlib.Core.Bool.{true, false}
use mathlib.Core.List.{List}
use mathlib.Core.Logic.{◌↔◌}
use mathlib.Core.Option.{none}
use Rattle.calculus.specs.Tree.{Tree}
use Rattle.calculus.specs.Term.{Term}
use Rattle.calculus.specs.Uses.{no_uses}
use Rattle.table.specs.Nodes.{Table}
use Rattle.table.specs.Outcome.{Outcome}
use Rattle.table.specs.Refusal.{number, refused_numbers, clears}
use Rattle.table.specs.declared.Refusal.{Refusal}
use Rattle.table.specs.declared.Refusal.TheVariants.{Limits, Broken, Node, Text, Rule, Steps, Nodes, Frames, Out}
use Rattle.table.specs.declared.Refusal.TheVariants as refusal
use Rattle.ternary.specs.Write.{lacks}
use Rattle.table.proofs.Words.{zero_one}
use Rattle.ternary.specs.Held.{Spent, no_out, no_frame}
use Rattle.applying.specs.Machine.{State}
use Rattle.applying.specs.Lacks.{Lacks, no_place, all_held, Halts, limit_reached, at_use}
use Rattle.fields.specs.Packet.{Packet, packet}
use Rattle.running.specs.Run.{run, ran_numbers, ran_uses, not_ran}
use Rattle.running.specs.Claims.{Fit, Checked, ReadStops, no_nodes, no_frames, later, ApplyStops, translate_nodes, translate_frames, Stops, in_translate, in_read, in_apply, in_write, Refuses, too_long, no_packet, no_rule, no_text, stops, Undid, BadRule, BadText}
use Rattle.running.specs.declared.Ran.{Ran}
use Rattle.running.specs.declared.Stop.{Stop}
use Rattle.running.proofs.Outcomes.{Staged}
use Rattle.running.proofs.Outcomes as outcomes
use Rattle.running.proofs.Checks.{run_long, run_broken_packet, run_bad_rule, run_bad_text, run_checked, Checking, fails, goes_on, checking}

-- a stage stops for nodes, frames or out bytes, or an application for steps
pub stops_by : (P : Refusal → Type 0) {w s o : List ℕ} {p : Packet} {t : Term} {args : List Tree}
    → ((z : Table) (v : ℕ) (ns : List ℕ) → ApplyStops w s p t args z v ns Steps → P Steps) → P Nodes → P Frames → P Out
    → {e : Refusal} {m : ℕ} → Stops w s o p t args e m → P e
stops_by P a b c d (in_translate (translate_frames h)) = c
stops_by P a b c d (in_translate (translate_nodes h k)) = b
stops_by P a b c d (in_read i r) = go r
  where
    go : {s : List ℕ} {z : Table} {ls : List (List ℕ)} {e : Refusal} {m : ℕ} → ReadStops s z ls e m → P e
    go (no_frames h) = c
    go (no_nodes h k l) = b
    go (later h k l r) = go r
stops_by P {w = w} {s = s} {p = p} {t = t} {args = args} a b c d (in_apply i j x h) = go x.halts x
  where
    lacked : {all : ℕ} {z : State} {e : Refusal} → Lacks all z e → P e
    lacked (no_place h l k) = b
    lacked (all_held h l) = c

    go : {all limit : ℕ} {z : State} {y : Table} {v : ℕ} {ns : List ℕ} {e : Refusal} → Halts all limit z e → ApplyStops w s p t args y v ns e → P e
    go (limit_reached h l) x = a _ _ _ x
    go (at_use h l m) x = lacked m
stops_by P a b c d (in_write i j x h r k l) = go r
  where
    go : {all held n : ℕ} {r : Tree} {e : Refusal} → Spent all held r n (lacks e) → P e
    go (no_out h) = d
    go (no_frame h) = c

-- the stages stop with 7 to 10 alone
pub stops_clears : {w s o : List ℕ} {p : Packet} {t : Term} {args : List Tree} {e : Refusal} {m : ℕ} → Stops w s o p t args e m → clears e ≡ true
unfolding clears number
stops_clears = stops_by (λ (e : Refusal). clears e ≡ true) (λ z v ns a. refl) refl refl refl

no_stage : {A : Type 0} {w s o : List ℕ} {p : Packet} {t : Term} {args : List Tree} {e : Refusal} {m : ℕ} → Stops w s o p t args e m → clears e ≡ false → A
no_stage h k = zero_one (cc (stops_clears h))

pub refuses_with : {w s o l : List ℕ} {x : Outcome (Result Ran Refusal)} {e : Refusal} → Refuses w s o l x e → x.answer ≡ not_ran e
refuses_with (too_long h q) = ap (λ (z : Outcome (Result Ran Refusal)). z.answer) q
refuses_with (no_packet f h q) = ap (λ (z : Outcome (Result Ran Refusal)). z.answer) q
refuses_with (no_rule f h k q) = ap (λ (z : Outcome (Result Ran Refusal)). z.answer) q
refuses_with (no_text f h k u q) = ap (λ (z : Outcome (Result Ran Refusal)). z.answer) q
refuses_with (stops c h k q) = ap (λ (z : Outcome (Result Ran Refusal)). z.answer) q

module _ (w s o l : List ℕ) where
  -- "A refusal returns its number [..] Numbers 1 to 6 [..] leave lent memory as found. Numbers 7 to 10 set to 0 the words of the nodes made in the call
  -- and the whole stack; the out bytes stay as at entry": each refusal of Run comes only on its condition, and leaves lent memory so.
  pub run_refused : (e : Refusal) → (run w s o l).answer ≡ not_ran e → Refuses w s o l (run w s o l) e
  run_refused e q = go (checking w s o l)
    where
      by : {c : Refusal} → Refuses w s o l (run w s o l) c → Refuses w s o l (run w s o l) e
      by {c} r = let a : c ≡ e = cc (refuses_with r) in rw (← a) r

      of_stages : {p : Packet} {t : Term} {args : List Tree} {at : code.Option Stop} → Checked w s o l p t args → Staged w s o p t args (run w s o l) at → Refuses w s o l (run w s o l) e
      of_stages c (outcomes.stops h k r i) = by (stops c h k r)
      of_stages c (outcomes.ends h r i) = zero_one (cc)

      go : Checking w s o l → Refuses w s o l (run w s o l) e
      go (fails r) = by r
      go (goes_on c) = of_stages c (run_checked c)

  -- "the out bytes stay as at entry"
  pub refused_out : (e : Refusal) → (run w s o l).answer ≡ not_ran e → (run w s o l).out ≡ o
  refused_out e q = go (run_refused e q)
    where
      go : {c : Refusal} → Refuses w s o l (run w s o l) c → (run w s o l).out ≡ o
      go (too_long h r) = cc
      go (no_packet f h r) = cc
      go (no_rule f h k r) = cc
      go (no_text f h k u r) = cc
      go (stops c h k r) = cc

  -- "Numbers 1 to 6 [..] leave lent memory as found."
  pub refused_early : (e : Refusal) → (run w s o l).answer ≡ not_ran e → clears e ≡ false → ((run w s o l).table ≡ w) × ((run w s o l).stack ≡ s)
  refused_early e q = go (run_refused e q)
    where
      go : {c : Refusal} → Refuses w s o l (run w s o l) c → clears c ≡ false → ((run w s o l).table ≡ w) × ((run w s o l).stack ≡ s)
      go (too_long h r) n = (cc, cc)
      go (no_packet f h r) n = (cc, cc)
      go (no_rule f h k r) n = (cc, cc)
      go (no_text f h k u r) n = (cc, cc)
      go (stops c h k r) n = no_stage h n

  -- "Numbers 7 to 10 set to 0 the words of the nodes made in the call and the whole stack"
  pub refused_late : (e : Refusal) → (run w s o l).answer ≡ not_ran e → clears e ≡ true → Undid w s o l e (run w s o l)
  unfolding clears number
  refused_late e q = go (run_refused e q)
    where
      go : {c : Refusal} → Refuses w s o l (run w s o l) c → clears c ≡ true → Undid w s o l c (run w s o l)
      go (too_long h r) n = zero_one (cc)
      go (no_packet f h r) n = zero_one (cc)
      go (no_rule f h k r) n = zero_one (cc)
      go (no_text f h k u r) n = zero_one (cc)
      go (stops {p = p} {t = t} {args = args} c {m = m} h k r) n =
          record { sent = p; term = t; args = args; checked = c; made = m; stopped = h; within = k; table = cc; stack = cc }

  -- Run takes "the table taken as empty", so that no node is broken and no node number is the caller's: 2 and 3 do not come.
  pub never_broken : (run w s o l).answer ≡ not_ran Broken → ⊥
  unfolding clears number
  never_broken q = go (run_refused Broken q)
    where
      go : Refuses w s o l (run w s o l) Broken → ⊥
      go (stops c h k r) = no_stage h refl

  pub never_node : (run w s o l).answer ≡ not_ran Node → ⊥
  unfolding clears number
  never_node q = go (run_refused Node q)
    where
      go : Refuses w s o l (run w s o l) Node → ⊥
      go (stops c h k r) = no_stage h refl

  -- "A refusal returns its number [..] and 0 for node number, steps and digits." "On refusal used is 0."
  pub refused_numbers_lem : (e : Refusal) → (run w s o l).answer ≡ not_ran e
      → ran_numbers (run w s o l).answer ≡ record { refusal = number e; node = 0; used = 0; steps = 0; digits = 0 }
  unfolding ran_numbers refused_numbers
  refused_numbers_lem e q = rw q

  -- "all 0 on refusal" ([5])
  pub refused_counts : (e : Refusal) → (run w s o l).answer ≡ not_ran e → ran_uses (run w s o l).answer ≡ no_uses
  unfolding ran_uses
  refused_counts e q = rw q

  -- "1: lengths only."
  pub run_limits : ((run w s o l).answer ≡ not_ran Limits) ↔ (Fit w s o → ⊥)
  unfolding clears number
  run_limits = (λ q. go (run_refused Limits q), λ h. ap (λ (x : Outcome (Result Ran Refusal)). x.answer) (run_long l h))
    where
      go : Refuses w s o l (run w s o l) Limits → Fit w s o → ⊥
      go (too_long h r) = h
      go (stops c h k r) = no_stage h refl

  -- "6: packet broken."
  pub run_packet_lem : ((run w s o l).answer ≡ not_ran refusal.Packet) ↔ (Fit w s o × (packet l ≡ none))
  unfolding clears number
  run_packet_lem = (λ q. go (run_refused refusal.Packet q), λ h. ap (λ (x : Outcome (Result Ran Refusal)). x.answer) (run_broken_packet l h.0 h.1))
    where
      go : Refuses w s o l (run w s o l) refusal.Packet → Fit w s o × (packet l ≡ none)
      go (no_packet f h r) = (f, h)
      go (stops c h k r) = no_stage h refl

  -- "5: its rule."
  pub run_rule : ((run w s o l).answer ≡ not_ran Rule) ↔ BadRule w s o l
  unfolding clears number
  run_rule = (λ q. go (run_refused Rule q), λ h. ap (λ (x : Outcome (Result Ran Refusal)). x.answer) (run_bad_rule l h.0 h.2 h.3))
    where
      go : Refuses w s o l (run w s o l) Rule → BadRule w s o l
      go (no_rule f {p = p} h k r) = (f, p, h, k)
      go (stops c h k r) = no_stage h refl

  -- "4: its arguments' texts, first to last.", and then the label's ([1])
  pub run_text : ((run w s o l).answer ≡ not_ran Text) ↔ BadText w s o l
  unfolding clears number
  run_text = (λ q. go (run_refused Text q), λ h. ap (λ (x : Outcome (Result Ran Refusal)). x.answer) (run_bad_text l h.0 h.2 h.4 h.5))
    where
      go : Refuses w s o l (run w s o l) Text → BadText w s o l
      go (no_text f {p = p} h {t = t} k u r) = (f, p, h, t, k, u)
      go (stops c h k r) = no_stage h refl

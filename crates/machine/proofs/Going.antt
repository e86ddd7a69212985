-- Laws for each way that the loop over uses goes, over plain values. Assumes nothing.
use Prim.Native.Nat.{ℕ, zero, suc, ◌+◌, ◌-◌, ◌≤◌, ◌<◌}
use mathlib.Core.Path.{◌≡◌, sym, ◌∙◌, subst}
use mathlib.Core.List.{List}
use native.Mathlib.Omega.{arith}
use Rattle.calculus.specs.Uses.{steps}
use Rattle.applying.specs.Machine.{State, Turn, more, turn, after, uses}
use Rattle.applying.specs.States.{Good}
use Rattle.applying.proofs.States.{Later, turn_later, Counted, turn_steps}
use Rattle.frames.specs.declared.End.TheVariants as ended
use Rattle.frames.specs.declared.Turned.{Turned}
use Rattle.index.specs.Index.{Ready}
use Rattle.rules.specs.Code.{ReadyEnd, ReadyTurned}

uses_turn : (all k : ℕ) (s : State) → 0 < k → uses all k s ≡ after (uses all (k - 1)) (turn all s)
unfolding uses
uses_turn all zero s h = absurd (omega arith)
uses_turn all (suc k) s h = let q : suc k - 1 ≡ k = omega arith in rw q

-- A run of at most `budget` uses from `begun`, at the state s after `taken` of them: what is left of the budget leads to what all of it does.
pub record Going (all : ℕ) (begun : State) (budget : ℕ) (s : State) (taken : ℕ) : Type 0 where
  pub within : taken ≤ budget
  pub counted : steps s.uses ≡ steps begun.uses + taken
  pub good : Good all s
  pub leads : uses all (budget - taken) s ≡ uses all budget begun

pub going_start : {all : ℕ} {s : State} (budget : ℕ) → Good all s → Going all s budget s 0
going_start budget g =
    let q : budget - 0 ≡ budget = omega arith in
    record { within = omega arith; counted = omega arith; good = g; leads = rw q }

-- a use that goes on, one that ends the run, and the last one that the budget allows
module _ {all : ℕ} {begun : State} {budget : ℕ} {s : State} {taken : ℕ} (r : Going all begun budget s taken) where
  pub going_on : (z : State) → taken < budget → more z ≡ turn all s → Going all begun budget z (taken + 1)
  unfolding after
  going_on z h e =
      let l : Later all s.table (more z) = subst (Later all s.table) (sym e) (turn_later r.good) in
      let c : Counted (steps s.uses) 1 (more z) = subst (Counted (steps s.uses) 1) (sym e) (turn_steps all s) in
      let q : budget - (taken + 1) ≡ budget - taken - 1 = omega arith in
      record {
        within = omega arith;
        counted = omega (arith, c, r.counted);
        good = l.ready;
        leads = rw q (sym (uses_turn all (budget - taken) s (omega arith) ∙ rw (← e)) ∙ r.leads);
      }

  pub going_over : (x : Turn) → taken < budget → x ≡ turn all s → ((go : State → Turn) → after go x ≡ x) → x ≡ uses all budget begun
  going_over x h e f = sym (uses_turn all (budget - taken) s (omega arith) ∙ rw (← e) (f (uses all (budget - taken - 1)))) ∙ r.leads

  pub going_out : budget ≤ taken → more s ≡ uses all budget begun
  unfolding uses
  going_out h = let q : budget - taken ≡ 0 = omega arith in rw q at r.leads

-- a use that goes on leaves the table ready for the next
pub ready_more : (r : Turned) (w : List ℕ) (s : ℕ) (ix : List ℕ) → r.end ≡ ended.More → ReadyTurned r w s ix → Ready w r.state.used s ix
unfolding ReadyEnd
ready_more r w s ix e h = rw e at h

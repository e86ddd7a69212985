-- An application told with where it stopped is Apply's, and its stop is where the uses halt. Assumes nothing.
use Prim.Native.Nat.{ℕ, suc, ◌+◌, ◌-◌, ◌<◌}
use mathlib.Core.Path.{◌≡◌, refl, sym, ap, ◌∙◌, subst}
use mathlib.Core.List.{List}
use native.Mathlib.Omega.{arith}
use lib.Dec.{leb}
use Rattle.calculus.specs.Uses.{steps}
use Rattle.table.specs.Outcome.{Entered, answered, frames, stopped}
use Rattle.table.specs.declared.Refusal.{Refusal}
use Rattle.table.specs.declared.Refusal.TheVariants.{Steps}
use Rattle.applying.specs.Machine.{State, wanted, Turn, more, done, stop, after, uses}
use Rattle.applying.specs.Apply.{settle, begin, apply_nodes, apply}
use Rattle.applying.specs.Lacks.{Halts, limit_reached, at_use}
use Rattle.applying.specs.Ended.{Halted, for_steps, for_lack, ended, apply_ended, applied_of, stopped_with}
use Rattle.applying.specs.declared.Rule.{Rule}
use Rattle.applying.specs.declared.Stopped.{Stopped}
use Rattle.table.proofs.Laid.{same_err}
use Rattle.applying.proofs.States.{uses_add}
use Rattle.applying.proofs.Cases.{entered_apply}
use Rattle.applying.proofs.Stops.{lacks_stop}

settle_is : (u : ℕ) (s : List ℕ) (x : Turn) → answered applied_of (ended u s x) ≡ settle u s x
unfolding ended settle stopped applied_of
settle_is u s (more z) = refl
settle_is u s (done p k) = refl
settle_is u s (stop e z) = refl

-- without where it stopped, the outcome is that of Apply's inner definition, in the answer and in every lent word
pub nodes_told : (w : List ℕ) (u : ℕ) (s : List ℕ) (f n limit : ℕ) → answered applied_of (apply_ended w u s f n limit) ≡ apply_nodes w u s f n limit
unfolding apply_ended apply_nodes
nodes_told w u s f n limit = settle_is u s (uses (frames s) limit (begin w u f n))

pub apply_told : {w : List ℕ} {u : ℕ} {s : List ℕ} {f n : ℕ} (limit : ℕ) → Entered (leb limit 1000000) w u s → f < u → n < u
    → answered applied_of (apply_ended w u s f n limit) ≡ apply w u s f n limit
apply_told {w} {u} {s} {f} {n} limit e h k = nodes_told w u s f n limit ∙ entered_apply limit e h k

-- the uses that halt end in the state that wants the use
pub halts_in : {all limit : ℕ} {s : State} {e : Refusal} → Halts all limit s e → (z : State) × Halted (uses all limit s) e z
unfolding uses after
halts_in (limit_reached {z} q c) = (z, subst (λ (x : Turn). Halted x Steps z) (sym q) for_steps)
halts_in {all} {limit} {s} {e} (at_use {z} {j} h q l) =
    let d : j + suc (limit - j - 1) ≡ limit = omega arith in
    (z, rw (← d, uses_add all j (suc (limit - j - 1)) s, q, lacks_stop all z l) for_lack)

-- two stops that are equal are so in each part
pub stopped_is : {e d : Refusal} {j k : ℕ} {r s : Rule} → stopped_with e j r ≡ stopped_with d k s → (e ≡ d) × (j ≡ k) × (r ≡ s)
stopped_is q = let p = same_err q in (ap (λ (x : Stopped). x.refusal) p, ap (λ (x : Stopped). x.steps) p, ap (λ (x : Stopped). x.rule) p)

-- the answer at a stop
pub halted_ends : (u : ℕ) (s : List ℕ) {x : Turn} {e : Refusal} {z : State} → Halted x e z → (ended u s x).answer ≡ stopped_with e (steps z.uses) (wanted z)
unfolding ended stopped
halted_ends u s for_steps = refl
halted_ends u s for_lack = refl

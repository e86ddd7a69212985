-- Where the rules give a tree within the limit, Run writes its text or lacks nodes, frames or out bytes. Assumes nothing.
use Rattle.std.specs.Prelude.{Result}
use Rattle.std.specs.Prelude as code
use Prim.Native.Nat.{ℕ, ◌+◌, ◌≤◌}
use mathlib.Core.Path.{refl, ap}
use mathlib.Core.List.{List, [], ◌∷◌}
use mathlib.Core.Logic.{inl, inr}
use native.Mathlib.Omega.{arith}
use Rattle.table.specs.Outcome.{Outcome}
use Rattle.table.specs.declared.Refusal.{Refusal}
use Rattle.calculus.specs.Tree.{Tree}
use Rattle.calculus.specs.declared.Uses.{Uses}
use Rattle.calculus.specs.Uses.{steps, InSteps}
use Rattle.calculus.specs.Rules.{ApplyAll}
use Rattle.calculus.specs.Term.{Term}
use Rattle.calculus.specs.Abstraction.{rule_tree}
use Rattle.calculus.specs.Runs.{Direct, Translated, difference}
use Rattle.calculus.proofs.Unique.{apply_all_unique}
use Rattle.calculus.proofs.Rule.{rule_exact}
use Rattle.calculus.proofs.Demand3.{one_argument}
use Rattle.fields.specs.Packet.{Packet}
use Rattle.running.specs.Run.{run}
use Rattle.running.specs.Claims.{Checked, TooFew, few_nodes, few_frames, few_bytes, Writes}
use Rattle.running.specs.declared.Ran.{Ran}
use Rattle.running.specs.declared.Stop.{Stop}
use Rattle.running.proofs.Outcomes.{Staged, stops, ends}
use Rattle.running.proofs.Checks.{run_checked}
use Rattle.running.proofs.Refused.{stops_by}

module _ {w s o l : List ℕ} {p : Packet} {t : Term} {args : List Tree} (c : Checked w s o l p t args) where
  -- "Apply in order under one step limit, Write, each with its 7 to 10.": where the translated run ends in r within the packet's limit, Run writes the text
  -- of r with the same uses, or its nodes, frames or out bytes are too few.
  pub run_complete : {r : Tree} {k : Uses} → ApplyAll (rule_tree t) args r k → steps k ≤ p.limit → Writes w s o l r k
  run_complete {r} {k} d h = go (run_checked c)
    where
      go : {at : code.Option Stop} → Staged w s o p t args (run w s o l) at → Writes w s o l r k
      go (stops {e = e} x b q j) = inr (e, stops_by TooFew (λ z v ns a. absurd (omega (arith, a.no_tree refl d))) few_nodes few_frames few_bytes x, ap (λ (z : Outcome (Result Ran Refusal)). z.answer) q)
      go (ends {z = z} x q j) =
          let i = apply_all_unique d x.translated in
          inl (z.used, rw (i.0, i.1) (ap (λ (z : Outcome (Result Ran Refusal)). z.answer) q))

-- "the steps that Apply returned are the planner's plus 2L + 5X − 1": where the direct run of a rule on one argument ends in r and the packet's limit has
-- room for its steps and the difference, Run writes the text of r, or its nodes, frames or out bytes are too few.
pub run_one : {w s o l : List ℕ} {p : Packet} {t : Term} {a : Tree} → Checked w s o l p t (a ∷ []) → (r : Tree) (j : ℕ) → Direct t (a ∷ []) r j → j + difference t ≤ p.limit
    → InSteps (Writes w s o l r) (j + difference t)
unfolding Translated
run_one {p = p} {t = t} {a = a} c r j d h =
    let x = (one_argument ((rule_exact p.rule t).0 c.is_rule) a r).0 j d in
    record { uses = x.uses; gives = run_complete c x.gives (omega (arith, x.counted)); counted = x.counted }

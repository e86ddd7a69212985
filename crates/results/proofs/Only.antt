-- The tree that Apply gives, and the one whose text Run writes, is the only one in which ways on paper can end. Assumes nothing.
use Prim.Native.Nat.{ℕ}
use mathlib.Core.Path.{◌≡◌}
use mathlib.Core.List.{List}
use Rattle.calculus.specs.declared.Uses.{Uses}
use Rattle.calculus.specs.Runs.{Direct}
use Rattle.calculus.proofs.Rule.{rule_exact}
use Rattle.calculus.proofs.Size.{rule_tree_lem}
use Rattle.rewriting.proofs.Normal.{term_closed}
use Rattle.rewriting.proofs.Rules.{apply_way, apply_all_way, eval_way, applied_closed, closed_term_closed, result_by}
use Rattle.applying.specs.Apply.{apply, applied}
use Rattle.applying.proofs.Follows.{apply_follows}
use Rattle.running.specs.Run.{run, ran}
use Rattle.running.proofs.Direct.{run_direct}
use Rattle.results.specs.Claims.{ApplyResult, RunResult}

-- "a tree given by Apply is the only one they can end in" ([11]), and the uses that Apply returns are such a way
pub apply_only : (w : List ℕ) (u : ℕ) (s : List ℕ) (f n limit v u' j : ℕ) (k : Uses) → (apply w u s f n limit).answer ≡ applied v u' j k → ApplyResult w u s f n limit v k
apply_only w u s f n limit v u' j k e = result_by _ (term_closed _, term_closed _) (apply_way (apply_follows w u s f n limit v u' j k e).applies)

-- the same of Run and its arguments
pub run_only : (w s o l : List ℕ) (m u n : ℕ) (k : Uses) → (run w s o l).answer ≡ ran m u n k → RunResult w s o l m u n k
unfolding Direct
run_only w s o l m u n k e =
    let c = run_direct w s o l m u n k e in
    let t = rule_tree_lem ((rule_exact c.sent.rule c.term).0 c.is_rule) in
    record {
      completes = c;
      result = rw t (result_by c.tree (applied_closed _ c.args (term_closed _)) (apply_all_way c.translated));
      direct = λ low high. let d = (c.direct low high).1 in (d.uses, d.gives, result_by c.tree (closed_term_closed _) (eval_way d.gives));
    }

-- What a Run that writes a text is: the direct run of the packet's rule on its arguments. Assumes nothing.
use Rattle.std.specs.Prelude.{Err, Ok, Result}
use Rattle.std.specs.Prelude as code
use Prim.Native.Nat.{ℕ}
use mathlib.Core.Path.{◌≡◌, refl, sym, ap, ◌∙◌}
use mathlib.Core.List.{List, [], ◌∷◌, ◌++◌, map}
use mathlib.Core.Option.{some}
use native.Mathlib.Omega.{arith}
use lib.ListN.{length, drop}
use lib.Seq.{take_at}
use Rattle.table.specs.Nodes.{Table}
use Rattle.table.specs.Outcome.{Outcome}
use Rattle.table.specs.Refusal.{refused_numbers}
use Rattle.table.specs.declared.Refusal.{Refusal}
use Rattle.calculus.specs.Tree.{Tree}
use Rattle.calculus.specs.declared.Uses.{Uses}
use Rattle.calculus.specs.Uses.{steps, InSteps}
use Rattle.calculus.specs.Rules.{ApplyAll}
use Rattle.calculus.specs.Term.{Term}
use Rattle.calculus.specs.Abstraction.{rule_tree}
use Rattle.calculus.specs.Runs.{Translated}
use Rattle.calculus.proofs.Unique.{apply_all_unique}
use Rattle.calculus.proofs.Rule.{rule_leads}
use Rattle.calculus.proofs.Demand3.{demand_3}
use Rattle.ternary.specs.Text.{text, tree_of}
use Rattle.ternary.specs.Read.{readable}
use Rattle.table.proofs.Words.{zero_one}
use Rattle.ternary.proofs.Reading.{readable_some}
use Rattle.fields.specs.Packet.{Packet}
use Rattle.running.specs.Run.{run, ran_numbers, ran_uses, not_ran, ran}
use Rattle.running.specs.Claims.{end_table, Checked, Completes}
use Rattle.running.specs.declared.Ran.{Ran}
use Rattle.running.specs.declared.Stop.{Stop}
use Rattle.running.proofs.Undone.{reached_ends}
use Rattle.running.proofs.OneStage.{ran_is}
use Rattle.running.proofs.Outcomes.{Staged, stops, ends}
use Rattle.running.proofs.Checks.{run_checked, Checking, fails, goes_on, checking}
use Rattle.running.proofs.Refused.{refuses_with}

-- texts that Read takes are whole
trees_of : (ls : List (List ℕ)) (xs : List Tree) → map readable ls ≡ map some xs → map tree_of ls ≡ map some xs
trees_of [] [] e = refl
trees_of [] (x ∷ xs) e = zero_one (cc)
trees_of (l ∷ ls) [] e = zero_one (cc)
trees_of (l ∷ ls) (x ∷ xs) e = let h = (readable_some l x (cc)).tree_is in let t = trees_of ls xs (cc) in cc

module _ (w s o l : List ℕ) (m u n : ℕ) (k : Uses) where
  -- "Run a packet": where Run writes a text, with one argument or more it is that of the tree that the direct run of the packet's rule on its arguments
  -- ends in; with one argument the steps are the direct run's plus 2L + 5X − 1. "Their sum is the steps" ([5]), and the uses are the sums over its arguments.
  pub run_direct : (run w s o l).answer ≡ ran m u n k → Completes w s o l m u n k
  unfolding Translated ran_numbers ran_uses end_table
  run_direct q = go (checking w s o l)
    where
      of_stages : {p : Packet} {t : Term} {args : List Tree} {at : code.Option Stop} → Checked w s o l p t args → Staged w s o p t args (run w s o l) at → Completes w s o l m u n k
      of_stages c (stops h b e i) = zero_one (cc)
      of_stages {p} {t} {args} c (ends {r = r} {k = j} {z = z} h e no_stop) =
          let same : ran (steps j) z.used (length (text r)) j ≡ ran m u n k = cc in
          let parts = ran_is same in
          let a : j ≡ k = parts.3 in
          let i : m ≡ steps k = rw (← a) (sym parts.0) in
          let b : z.used ≡ u = parts.1 in
          let d : n ≡ length (text r) = sym parts.2 in
          let words : (run w s o l).table ≡ z.words = cc in
          let out : (run w s o l).out ≡ text r ++ drop n o = rw d (ap (λ (x : Outcome (Result Ran Refusal)). x.out) e) in
          let x : ApplyAll (rule_tree t) args r k = rw (← a) h.translated in
          let y : InSteps (ApplyAll (rule_tree t) args r) m = record { uses = k; gives = x; counted = sym i } in
          let rules = c.is_rule in
          record {
            numbers = rw q;
            uses_are = rw q;
            steps_are = i;
            sent = p;
            is_packet = c.is_packet;
            term = t;
            is_rule = rules;
            args = args;
            arguments_are = trees_of p.arguments args c.are_texts;
            tree = r;
            digits_are = d;
            written = rw out (take_at (text r) (drop n o) n (sym d));
            out_is = out;
            translated = x;
            only = λ d. (apply_all_unique d x).1;
            within_limit = omega (arith, h.within_limit, ap steps a);
            direct = λ low high. (demand_3 p.rule t rules args low high r).0.0 (m, y);
            steps = λ one j d. (demand_3 p.rule t rules args (omega arith) (omega (arith, rule_leads p.rule rules)) r).1 m j one y d;
            placed = h.placed;
            rule_laid = h.rule_laid;
            read_table = h.read_table;
            read_nodes = h.read_nodes;
            arguments_read = h.arguments_read;
            node = h.node;
            reached = rw (words, ← b, ← a) h.reached;
            node_has = rw (words, ← b) h.node_has;
            used_is = sym b ∙ ap (λ (y : Table). y.used) (reached_ends h.reached);
            used_most = rw (← a) (omega (arith, h.used_most));
            stack = cc;
            same_length = ap length words ∙ h.extends.kept.same_length;
            beyond = λ i l. rw words (h.extends.beyond i (omega arith));
            fine = rw (words, ← b) h.fine;
          }

      go : Checking w s o l → Completes w s o l m u n k
      go (fails r) = zero_one (cc (refuses_with r))
      go (goes_on c) = of_stages c (run_checked c)

-- "Their sum is the steps" ([5]), refused or not
pub run_sum : (w s o l : List ℕ) → (ran_numbers (run w s o l).answer).steps ≡ steps (ran_uses (run w s o l).answer)
unfolding ran_numbers ran_uses refused_numbers
run_sum w s o l = go (run w s o l).answer refl
  where
    go : (a : Result Ran Refusal) → (run w s o l).answer ≡ a → (ran_numbers a).steps ≡ steps (ran_uses a)
    go (Ok m) e = (run_direct w s o l m.steps m.used m.digits m.uses e).steps_are
    go (Err d) e = refl

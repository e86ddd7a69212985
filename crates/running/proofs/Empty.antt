-- A Run without arguments. Assumes nothing.
use Prim.Native.Nat.{ℕ}
use mathlib.Core.Path.{◌≡◌, refl, sym, ap, ◌∙◌}
use mathlib.Core.List.{List, [], ◌∷◌, map}
use mathlib.Core.Option.{some}
use native.Mathlib.Omega.{arith}
use Rattle.calculus.specs.Tree.{Tree}
use Rattle.calculus.specs.declared.Uses.{Uses}
use Rattle.calculus.specs.Uses.{no_uses, steps, new_nodes}
use Rattle.calculus.specs.Rules.{ApplyAll, at_end}
use Rattle.calculus.specs.Term.{Term}
use Rattle.calculus.specs.Bytes.{rule}
use Rattle.calculus.specs.Abstraction.{rule_tree}
use Rattle.table.specs.Nodes.{Table}
use Rattle.ternary.specs.Text.{tree_of}
use Rattle.table.proofs.Words.{zero_one}
use Rattle.fields.specs.Packet.{Packet, packet}
use Rattle.running.specs.Run.{run, ran}
use Rattle.running.specs.Claims.{total, end_table, ReadsHad, all_read, Completes, Bare}
use Rattle.running.proofs.Direct.{run_direct}

-- nothing applied to is nothing applied
none_applied : {f r : Tree} {k : Uses} → ApplyAll f [] r k → (r ≡ f) × (k ≡ no_uses)
none_applied at_end = (refl, refl)

-- nothing to read is nothing read
none_read : {s : List ℕ} {z y : Table} {ns : List ℕ} → ReadsHad s z [] y ns → (y ≡ z) × (ns ≡ [])
none_read all_read = (refl, refl)

-- "then none to eight of tag 2, an argument's text" (The packet): with none of them, the text is that of the translated rule, in no step. Of "Rule 02 03 00
-- without arguments" (Depot examples) the line is 0 0 3 21010, by "rows and lines that count nodes are worked out afresh" ([8]).
pub run_empty : (w s o l : List ℕ) (j u n : ℕ) (k : Uses) (p : Packet) (t : Term) → packet l ≡ some p → p.arguments ≡ [] → rule p.rule ≡ some t
    → (run w s o l).answer ≡ ran j u n k → Bare w s o l t j u n k
unfolding total end_table
run_empty w s o l j u n k p t e a q h = go x.args (ap (map tree_of) (sym (ap (λ (y : Packet). y.arguments) sent ∙ a)) ∙ x.arguments_are) x.translated
  where
    x : Completes w s o l j u n k
    x = run_direct w s o l j u n k h

    sent : x.sent ≡ p
    sent = cc x.is_packet

    same : x.term ≡ t
    same = cc (x.is_rule, sent)

    rest : (x.read_table ≡ x.placed.table) × (x.read_nodes ≡ [])
    rest = none_read (rw (sent, a) at x.arguments_read)

    none : total x.sent.arguments ≡ 0
    none = rw (sent, a)

    go : (args : List Tree) → map tree_of [] ≡ map some args → ApplyAll (rule_tree x.term) args x.tree k → Bare w s o l t j u n k
    go [] i d =
        let y = none_applied d in
        let r : x.tree ≡ rule_tree t = y.0 ∙ ap rule_tree same in
        record {
          steps_none = omega (arith, x.steps_are, ap steps y.1);
          uses_none = y.1;
          placed = x.placed;
          rule_laid = rw (← same) x.rule_laid.nodes_enough;
          used_is = rw (rest.0, rest.1) at x.used_is;
          used_most = rw (← same) (omega (arith, x.used_most, ap new_nodes y.1, none));
          digits_are = rw (← r) x.digits_are;
          out_is = rw (← r) x.out_is;
        }
    go (y ∷ ys) i d = zero_one (cc)

-- What `stopped` answers where a run stops while applying: the place, the steps and the rule wanted, which lacks first what is named. Assumes nothing.
use Prim.Native.Nat.{ℕ, ◌+◌, ◌-◌, ◌≤◌, ◌<◌}
use mathlib.Core.Path.{◌≡◌, refl, ap, subst}
use mathlib.Core.Bool.{true}
use mathlib.Core.List.{List, [], ◌∷◌, map}
use mathlib.Core.Option.{some}
use native.Mathlib.Omega.{arith}
use lib.ListN.{length, length-append}
use Rattle.calculus.specs.Tree.{Tree}
use Rattle.calculus.specs.Uses.{◌⊕◌, steps}
use Rattle.calculus.specs.Term.{Term}
use Rattle.table.specs.Nodes.{Table, Placed, tree_at}
use Rattle.table.specs.Outcome.{frames}
use Rattle.table.specs.declared.Refusal.{Refusal}
use Rattle.table.proofs.Words.{told_apart, zero_one}
use Rattle.ternary.specs.Read.{readable}
use Rattle.applying.specs.declared.Rule.{Rule}
use Rattle.applying.specs.Machine.{needs_frame, State, wanted, Turn, more, uses}
use Rattle.applying.specs.Apply.{begin}
use Rattle.applying.specs.Ended.{Halted, for_steps, for_lack}
use Rattle.applying.specs.Lacks.{WantsNode, of_leaf, of_stem, Lacks, no_place, all_held}
use Rattle.applying.specs.States.{Good}
use Rattle.applying.proofs.States.{Later, uses_later, Counted, uses_steps}
use Rattle.applying.proofs.Cases.{sound_begin}
use Rattle.applying.proofs.Stops.{stop_lacks}
use Rattle.fields.specs.Packet.{Packet}
use Rattle.running.specs.Claims.{Checked, TranslateHad, ReadsHad, ApplyStops}
use Rattle.running.proofs.Limit.{packet_few}
use Rattle.stopping.specs.Stopped.{kind}
use Rattle.stopping.specs.Claims.{LacksFirst, no_steps, no_node, no_frame, StopsAt}
use Rattle.stopping.proofs.Following.{uses_next_lem}

-- a rule that needs a frame wants no node
frame_no_node : {n a b : ℕ} {r : Rule} → needs_frame r ≡ true → WantsNode n r a b → ⊥
unfolding needs_frame
frame_no_node h of_leaf = told_apart h refl
frame_no_node h of_stem = told_apart h refl

pub lacks_first : {all limit j : ℕ} {y : State} {e : Refusal} → j < limit → Lacks all y e → LacksFirst all limit j y e
lacks_first h (no_place n f l) = no_node (omega arith) n f l
lacks_first h (all_held n l) = no_frame (omega arith) (λ a b. frame_no_node n) n l

-- What the uses up to a limit left where they halt: the state that wants a use, so many uses further, and what it lacks first.
halted_led : (all limit : ℕ) (w : List ℕ) (u f n : ℕ) {x : Turn} {e : Refusal} {z : State} → Halted x e z → uses all limit (begin w u f n) ≡ x
    → (uses all (steps z.uses) (begin w u f n) ≡ more z) × LacksFirst all limit (steps z.uses) z e
halted_led all limit w u f n (for_steps {z}) q =
    let d : Counted 0 limit (more z) = subst (Counted 0 limit) q (uses_steps all limit (begin w u f n)) in
    let c : steps z.uses ≡ limit = omega arith in
    (rw c q, no_steps c)
halted_led all limit w u f n (for_lack {e} {z}) q =
    let l = stop_lacks all limit (begin w u f n) e z q in
    let d : Counted 0 l.0 (more z) = subst (Counted 0 l.0) l.2 (uses_steps all l.0 (begin w u f n)) in
    let c : steps z.uses ≡ l.0 = omega arith in
    (rw c l.2, lacks_first (omega (arith, l.1)) l.3)

-- the steps of the arguments before count too
lacks_whole : {all limit j : ℕ} {y : State} {e : Refusal} (k : ℕ) → k ≤ limit → LacksFirst all (limit - k) j y e → LacksFirst all limit (k + j) y e
lacks_whole k h (no_steps q) = no_steps (omega arith)
lacks_whole k h (no_node l n f c) = no_node (omega arith) n f c
lacks_whole k h (no_frame l n f c) = no_frame (omega arith) n f c

same_number : (ls : List (List ℕ)) (xs : List Tree) → map readable ls ≡ map some xs → length xs ≡ length ls
same_number [] [] e = refl
same_number [] (x ∷ xs) e = zero_one (cc)
same_number (l ∷ ls) [] e = zero_one (cc)
same_number (l ∷ ls) (x ∷ xs) e = let h = same_number ls xs (cc) in omega arith

lacks_within : {all limit j : ℕ} {y : State} {e : Refusal} → LacksFirst all limit j y e → j ≤ limit
lacks_within (no_steps q) = omega arith
lacks_within (no_node l n f c) = omega arith
lacks_within (no_frame l n f c) = omega arith

-- a run that stops while applying stops at a use
pub stops_at : {w s o l : List ℕ} {p : Packet} {t : Term} {args : List Tree} → Checked w s o l p t args → {r : Placed} {z : Table} {ns : List ℕ} {e : Refusal}
    → TranslateHad w s t r → ReadsHad s r.table p.arguments z ns → (x : ApplyStops w s p t args z r.node ns e)
    → StopsAt w s o l e (length x.before + 1) (steps x.k + steps x.state.uses) (kind (wanted x.state))
stops_at {w} {s} {o} {l} {p} {t} {args} c {r} {z} {ns} {e} h i x =
    record {
      sent = p;
      term = t;
      args = args;
      checked = c;
      state = x.state;
      comes = record {
        placed = r;
        rule_laid = h;
        read_table = z;
        read_nodes = ns;
        arguments_read = i;
        table = x.table;
        function = x.function;
        argument = x.argument;
        left = x.left;
        k = x.k;
        reached = x.reached;
        place = omega (arith, x.place);
        taken = steps x.state.uses;
        led = led.0;
        steps_are = refl;
        within_limit = lacks_within lacks;
      };
      rule = refl;
      lacks = lacks;
      from_one = omega arith;
      to_eight = omega (
        arith,
        ap length x.arguments_are,
        length-append x.before (tree_at x.table.words x.argument ∷ x.after),
        same_number p.arguments args c.are_texts,
        packet_few l c.is_packet,
      );
      k = x.k ⊕ x.state.uses;
      next = record {
        before = x.before;
        argument = tree_at x.table.words x.argument;
        after = x.after;
        arguments_are = x.arguments_are;
        place = refl;
        outcome = tree_at x.table.words x.function;
        taken_before = x.k;
        taken_here = x.state.uses;
        so_far = x.so_far;
        next = uses_next_lem (steps x.state.uses) x.fine x.function_in x.argument_in led.0 good;
        uses_are = refl;
      };
      steps_are = omega arith;
    }
  where
    b : State
    b = begin x.table.words x.table.used x.function x.argument

    led : (uses (frames s) (steps x.state.uses) b ≡ more x.state) × LacksFirst (frames s) (p.limit - steps x.k) (steps x.state.uses) x.state e
    led = halted_led (frames s) (p.limit - steps x.k) x.table.words x.table.used x.function x.argument x.halted refl

    lacks : LacksFirst (frames s) p.limit (steps x.k + steps x.state.uses) x.state e
    lacks = lacks_whole (steps x.k) x.within_limit led.1

    good : Good (frames s) x.state
    good = (subst (Later (frames s) x.table) led.0 (uses_later (steps x.state.uses) (sound_begin x.fine x.function_in x.argument_in))).ready

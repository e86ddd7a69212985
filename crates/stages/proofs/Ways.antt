-- Laws of Run's stages, one for each way that their code goes. Each stage calls an inner operation on a sound table, so that its outcome is the
-- operation's. Assumes nothing.
use Prim.Native.Nat.{ℕ, ◌+◌, ◌-◌, ◌≤◌, ◌<◌}
use mathlib.Core.Path.{◌≡◌, refl, sym, ap, ◌∙◌, subst}
use mathlib.Core.Bool.{Bool, true, false}
use mathlib.Core.List.{List, [], ◌∷◌, ◌++◌, append_assoc, append-nil}
use native.Mathlib.Omega.{arith}
use native.Mathlib.Numerals.{add-one}
use lib.ListN.{length, get_or, set, take, drop, length-take, length-set, drop_of_length-le}
use lib.Seq.{drop-cons, get_or-take, take-suc-set, get_or-set_same, get_or-set_other}
use lib.Dec.{ltb}
use borrow.Author.Tests.{le-leb, ltb-true, ltb-false}
use Rattle.calculus.specs.declared.Uses.{Uses}
use Rattle.calculus.specs.Uses.{no_uses, ◌⊕◌, steps}
use Rattle.calculus.specs.Bytes.{rule}
use Rattle.table.specs.Outcome.{Outcome, whole, whole_out, answered, frames}
use Rattle.table.specs.Outcome as outcome
use Rattle.table.specs.declared.Refusal.{Refusal}
use Rattle.table.specs.declared.Made.{Made}
use Rattle.std.specs.Prelude.{None, Result, Ok, Err}
use Rattle.table.proofs.Words.{zero_one}
use Rattle.ternary.specs.Read.{read, readable, read_tree}
use Rattle.translation.specs.Translate.{translate_rule}
use Rattle.applying.specs.declared.Applied.{Applied}
use Rattle.applying.specs.declared.Stopped.{Stopped}
use Rattle.applying.specs.Machine.{Turn, more, done, stop, uses}
use Rattle.applying.specs.Apply.{begin, apply}
use Rattle.applying.specs.Ended.{Ended, apply_ended, applied_of}
use Rattle.applying.specs.Ended as application
use Rattle.applying.specs.States.{Counted}
use Rattle.applying.proofs.States.{uses_steps}
use Rattle.applying.proofs.Told.{apply_told}
use Rattle.applying.proofs.Follows.{apply_follows}
use Rattle.fields.specs.Packet.{Packet}
use Rattle.packet.specs.Code.{end_at, value_at, Stand, values_at}
use Rattle.packet.proofs.Parts.{next_field}
use Rattle.running.specs.Run.{stopped, after_made_by, writes, reads_by}
use Rattle.running.specs.Tell.{at_place, tell_at, told, after_ended, tell_applies, tell_stages}
use Rattle.running.specs.declared.Ran.{Ran}
use Rattle.running.specs.declared.Told.{Told}
use Rattle.endings.specs.Ready.{Ready}
use Rattle.index.specs.Index as indexing
use Rattle.index.specs.Code.{ReadyMade}
use Rattle.index.proofs.Ready.{made_ready}
use Rattle.machine.specs.Code.{ReadyEnded}
use Rattle.endings.proofs.Ways.{entered_by, is_translate, is_read, read_ready}
use Rattle.stages.specs.Asked.{NodesIn}

-- where an application gave a node, the table keeps its index
ended_ready : {a : Ended} {w : List ℕ} {slots : ℕ} {ix : List ℕ} {b : Applied} → ReadyEnded a w slots ix → a ≡ Ok b → indexing.Ready w b.used slots ix
unfolding ReadyEnded
ended_ready {w = w} {slots = slots} {ix = ix} x q = subst (λ (a : Ended). ReadyEnded a w slots ix) q x

stop_same : {b c : Stopped} → ◌≡◌ {A = Ended} (Err b) (Err c) → b ≡ c
stop_same e = cc

-- an outcome of Run that is no stop while applying
pub tells : {a : Result Ran Refusal} {r : Told} {w s o : List ℕ} {x : Outcome (Result Ran Refusal)} → r ≡ record { ran = a; stop = None } → whole_out a w s o ≡ x → whole_out r w s o ≡ told x
tells q e = rw q (ap told e)

-- ---- Apply, of the argument nodes, i of them applied

-- where the applications stand: the rest of them comes to what all of them do
pub record Applying (nodes : List ℕ) (limit : ℕ) (o w₀ : List ℕ) (u₀ : ℕ) (s₀ : List ℕ) (v₀ : ℕ) (slots : ℕ) (ix₀ : List ℕ) (w s ix : List ℕ) (v u : ℕ) (k : Uses) (i : ℕ) : Type 0 where
  pub ready : Ready w u s o
  pub indexed : indexing.Ready w u slots ix
  pub limited : limit ≤ 1000000
  pub within_limit : steps k ≤ limit
  pub function_in : v < u
  pub nodes_in_lem : NodesIn u nodes (length nodes)
  pub same_table : length w ≡ length w₀
  pub same_stack : length s ≡ length s₀
  pub same_index : length ix ≡ length ix₀
  pub rest : tell_applies (i + 1) (drop i nodes) limit w u s o v k ≡ tell_applies 1 nodes limit w₀ u₀ s₀ o v₀ no_uses

pub applies_begin : {nodes : List ℕ} {limit : ℕ} {o w : List ℕ} {u : ℕ} {s : List ℕ} {v slots : ℕ} {ix : List ℕ} → Ready w u s o → v < u → limit ≤ 1000000
    → NodesIn u nodes (length nodes) → indexing.Ready w u slots ix → Applying nodes limit o w u s v slots ix w s ix v u no_uses 0
applies_begin r h l n x =
    record {
      ready = r;
      indexed = x;
      limited = l;
      within_limit = omega arith;
      function_in = h;
      nodes_in_lem = n;
      same_table = refl;
      same_stack = refl;
      same_index = refl;
      rest = refl;
    }

module _ {nodes : List ℕ} {limit : ℕ} {o w₀ : List ℕ} {u₀ : ℕ} {s₀ : List ℕ} {v₀ slots : ℕ} {ix₀ w s ix : List ℕ} {v u : ℕ} {k : Uses} {i : ℕ}
    (p : Applying nodes limit o w₀ u₀ s₀ v₀ slots ix₀ w s ix v u k i) where
  pub applies_end : length nodes ≤ i → {x : Outcome Told} → x ≡ told (writes w u s o v k) → x ≡ tell_applies 1 nodes limit w₀ u₀ s₀ o v₀ no_uses
  unfolding tell_applies
  applies_end h q =
      let e : told (writes w u s o v k) ≡ tell_applies (i + 1) (drop i nodes) limit w u s o v k = rw (drop_of_length-le nodes {i = i} h) in
      q ∙ e ∙ p.rest

  module _ (h : i < length nodes) where
    pub argument_in : get_or nodes i 0 < u
    argument_in = p.nodes_in_lem i h

    first : drop i nodes ≡ get_or nodes i 0 ∷ drop (i + 1) nodes
    first = rw (drop-cons nodes i 0 h, add-one i)

    module _ {a : Ended} {z y : List ℕ} (e : whole a z y ≡ apply_ended w u s v (get_or nodes i 0) (limit - steps k)) where
      is_apply : whole (applied_of a) z y ≡ apply w u s v (get_or nodes i 0) (limit - steps k)
      is_apply =
          ap (answered applied_of) e
          ∙ apply_told (limit - steps k) (entered_by p.ready (le-leb (limit - steps k) 1000000 (omega (arith, p.limited)))) p.function_in argument_in

      pub applies_stop : {x : Outcome Told} {b : Stopped} {m : ℕ} → m ≡ steps k → a ≡ Err b → x ≡ tell_at (at_place (i + 1) (m + b.steps) b.rule) (stopped b.refusal z u y o)
          → x ≡ tell_applies 1 nodes limit w₀ u₀ s₀ o v₀ no_uses
      unfolding tell_applies after_ended
      applies_stop {x} n q g =
          let b : x ≡ tell_applies (i + 1) (drop i nodes) limit w u s o v k = rw (first, ← e, q, ← n) g in
          b ∙ p.rest

      -- the steps at a stop are within the limit
      pub stop_steps : {b : Stopped} → a ≡ Err b → b.steps ≤ 1000000
      unfolding apply_ended application.ended outcome.stopped
      stop_steps {b} q =
          go (uses (frames s) (limit - steps k) (begin w u v (get_or nodes i 0))) (uses_steps (frames s) (limit - steps k) (begin w u v (get_or nodes i 0)))
          (sym q ∙ ap (λ (x : Outcome Ended). x.answer) e)
        where
          go : (x : Turn) → Counted 0 (limit - steps k) x → ◌≡◌ {A = Ended} (Err b) (application.ended u s x).answer → b.steps ≤ 1000000
          go (more m) n r = let c : b.steps ≡ steps m.uses = ap (λ (x : Stopped). x.steps) (stop_same r) in omega (arith, p.limited)
          go (done m l) n r = zero_one (cc)
          go (stop f m) n r = let c : b.steps ≡ steps m.uses = ap (λ (x : Stopped). x.steps) (stop_same r) in omega (arith, p.limited, n.1)

      -- the steps that were left were enough for those that were taken
      pub applies_steps : {b : Applied} → a ≡ Ok b → steps k + steps b.uses ≤ limit
      unfolding applied_of
      applies_steps {b} q =
          let f = apply_follows w u s v (get_or nodes i 0) (limit - steps k) b.node b.used b.steps b.uses (rw (← is_apply, q)) in
          omega (arith, f.steps_are, f.within_limit, p.within_limit)

      pub applies_next : {b : Applied} {ix' : List ℕ} → a ≡ Ok b → length y ≡ length s → length ix' ≡ length ix → ReadyEnded a z slots ix'
          → Applying nodes limit o w₀ u₀ s₀ v₀ slots ix₀ z y ix' b.node b.used (k ⊕ b.uses) (i + 1)
      unfolding tell_applies after_ended applied_of
      applies_next {b} q l n x =
          let f = apply_follows w u s v (get_or nodes i 0) (limit - steps k) b.node b.used b.steps b.uses (rw (← is_apply, q)) in
          let t : (apply w u s v (get_or nodes i 0) (limit - steps k)).table ≡ z = rw (← is_apply) in
          let c : length z ≡ length w = ap length (sym t) ∙ f.extends.kept.same_length in
          let d : tell_applies (i + 1 + 1) (drop (i + 1) nodes) limit z b.used y o b.node (k ⊕ b.uses) ≡ tell_applies (i + 1) (drop i nodes) limit w u s o v k =
          rw (first, ← e, q) in
          record {
            ready = record { fine = rw t at f.fine; stack = omega (arith, p.ready.stack); out = p.ready.out };
            indexed = ended_ready x q;
            limited = p.limited;
            within_limit = omega (arith, applies_steps q);
            function_in = f.inside;
            nodes_in_lem = λ n h. omega (arith, p.nodes_in_lem n h, f.extends.kept.up);
            same_table = c ∙ p.same_table;
            same_stack = l ∙ p.same_stack;
            same_index = n ∙ p.same_index;
            rest = d ∙ p.rest;
          }

-- ---- Read, of count arguments from a position of the packet l on, i of them read

-- where the reading stands: the rest of it comes to what all of it does
pub record Reading (l : List ℕ) (count : ℕ) (o : List ℕ) (next : List ℕ → List ℕ → ℕ → List ℕ → Outcome Told) (v : ℕ) (w₀ : List ℕ) (u₀ : ℕ) (s₀ : List ℕ) (from : ℕ)
    (slots : ℕ) (ix₀ : List ℕ) (w s ix nodes : List ℕ) (at u i : ℕ) : Type 0 where
  pub ready : Ready w u s o
  pub indexed : indexing.Ready w u slots ix
  pub inside : i ≤ count
  pub stand : Stand l at (count - i)
  pub rule_in : v < u
  pub eight : length nodes ≡ 8
  pub few : count ≤ 8
  pub nodes_in_lem : NodesIn u nodes i
  pub same_table : length w ≡ length w₀
  pub same_stack : length s ≡ length s₀
  pub same_index : length ix ≡ length ix₀
  pub rest : reads_by told (values_at l at (count - i)) w u s o (λ ns. next (take i nodes ++ ns)) ≡ reads_by told (values_at l from count) w₀ u₀ s₀ o next

pub reads_begin : {l : List ℕ} {count : ℕ} {o : List ℕ} {next : List ℕ → List ℕ → ℕ → List ℕ → Outcome Told} {v : ℕ} {w : List ℕ} {u : ℕ} {s : List ℕ} {from slots : ℕ} {ix nodes : List ℕ}
    → Ready w u s o → v < u → count ≤ 8 → Stand l from count → length nodes ≡ 8 → indexing.Ready w u slots ix → Reading l count o next v w u s from slots ix w s ix nodes from u 0
reads_begin {count = count} r h f st n x =
    let e : count - 0 ≡ count = omega arith in
    record {
      ready = r;
      indexed = x;
      inside = omega arith;
      stand = rw e st;
      rule_in = h;
      eight = n;
      few = f;
      nodes_in_lem = λ i b. absurd (omega arith);
      same_table = refl;
      same_stack = refl;
      same_index = refl;
      rest = rw e;
    }

module _ {l : List ℕ} {count : ℕ} {o : List ℕ} {next : List ℕ → List ℕ → ℕ → List ℕ → Outcome Told} {v : ℕ} {w₀ : List ℕ} {u₀ : ℕ} {s₀ : List ℕ} {from slots : ℕ}
    {ix₀ w s ix nodes : List ℕ} {at u i : ℕ} (p : Reading l count o next v w₀ u₀ s₀ from slots ix₀ w s ix nodes at u i) where
  pub reads_end : count ≤ i → {x : Outcome Told} → x ≡ next (take count nodes) w u s → x ≡ reads_by told (values_at l from count) w₀ u₀ s₀ o next
  unfolding reads_by values_at
  reads_end m q =
      let a : count - i ≡ 0 = omega arith in
      let b : i ≡ count = omega (arith, p.inside) in
      let e : next (take count nodes) w u s ≡ reads_by told (values_at l at (count - i)) w u s o (λ ns. next (take i nodes ++ ns)) = rw (a, append-nil, b) in
      q ∙ e ∙ p.rest

  -- the nodes that are kept are those of all arguments
  pub reads_all : count ≤ i → NodesIn u (take count nodes) (length (take count nodes))
  reads_all m n b =
      let k : n < count = omega (arith, simp length-take at b) in
      rw (get_or-take count nodes n 0 k) (p.nodes_in_lem n (omega arith))

  module _ (h : i < count) {a : Result Made Refusal} {z y : List ℕ} (e : whole a z y ≡ read_tree w u s (value_at l at) (readable (value_at l at))) where
    as_read : whole a z y ≡ read w u s (value_at l at)
    as_read = is_read p.ready (value_at l at) e

    pub reads_stop : {x : Outcome Told} {c : Refusal} → a ≡ Err c → x ≡ told (stopped c z u y o) → x ≡ reads_by told (values_at l from count) w₀ u₀ s₀ o next
    unfolding reads_by after_made_by
    reads_stop {x} {c} q g =
        let b : x ≡ reads_by told (values_at l at (count - i)) w u s o (λ ns. next (take i nodes ++ ns)) = rw ((next_field l at count i h p.stand).values, ← as_read, q) g in
        b ∙ p.rest

    pub reads_next : {made : Made} {ix' : List ℕ} → a ≡ Ok made → length y ≡ length s → length ix' ≡ length ix → ReadyMade a z slots ix'
        → Reading l count o next v w₀ u₀ s₀ from slots ix₀ z y ix' (set nodes i made.node) (end_at l at) made.used (i + 1)
    unfolding reads_by after_made_by
    reads_next {made} q k d x =
        let g = read_ready p.ready (value_at l at) e q k in
        let m : i < length nodes = omega (arith, p.eight, p.few) in
        let c : take (i + 1) (set nodes i made.node) ≡ take i nodes ++ (made.node ∷ []) = rw (add-one i, take-suc-set nodes i made.node m) in
        let b : reads_by told (values_at l (end_at l at) (count - (i + 1))) z made.used y o (λ ns. next (take (i + 1) (set nodes i made.node) ++ ns))
        ≡ reads_by told (values_at l at (count - i)) w u s o (λ ns. next (take i nodes ++ ns)) =
        rw ((next_field l at count i h p.stand).values, ← as_read, q, c) (simp append_assoc) in
        record {
          ready = g.ready;
          indexed = made_ready x q;
          inside = omega arith;
          stand = (next_field l at count i h p.stand).stand;
          rule_in = omega (arith, p.rule_in, g.up);
          eight = rw length-set p.eight;
          few = p.few;
          nodes_in_lem = λ j h. go j h (ltb j i) refl g.up g.inside m;
          same_table = g.same_length ∙ p.same_table;
          same_stack = k ∙ p.same_stack;
          same_index = d ∙ p.same_index;
          rest = b ∙ p.rest;
        }
      where
        go : (j : ℕ) → j < i + 1 → (x : Bool) → ltb j i ≡ x → u ≤ made.used → made.node < made.used → i < length nodes → get_or (set nodes i made.node) j 0 < made.used
        go j d true f up k m =
            let b : j < i = ltb-true j i f in
            rw (get_or-set_other nodes i j made.node 0 (λ q. omega arith)) (omega (arith, p.nodes_in_lem j b))
        go j d false f up k m =
            let b : i ≤ j = ltb-false j i f in
            let c : j ≡ i = omega arith in
            rw (c, get_or-set_same nodes i made.node 0 m) k

-- ---- Translate, and the stages

module _ {w s o : List ℕ} (r : Ready w 0 s o) (p : Packet) {a : Result Made Refusal} {z y : List ℕ} (e : whole a z y ≡ translate_rule w 0 s (rule p.rule)) where
  pub stages_next : {b : Made} → a ≡ Ok b → {x : Outcome Told}
      → x ≡ reads_by told p.arguments z b.used y o (λ ns w'' u'' s''. tell_applies 1 ns p.limit w'' u'' s'' o b.node no_uses) → x ≡ tell_stages w s o p
  unfolding tell_stages after_made_by
  stages_next q g = rw (← is_translate r p.rule e, q) g

  pub stages_stop : {x : Outcome Told} {c : Refusal} → a ≡ Err c → x ≡ told (stopped c z 0 y o) → x ≡ tell_stages w s o p
  unfolding tell_stages after_made_by
  stages_stop q g = rw (← is_translate r p.rule e, q) g

-- Laws for each way that the code of a use goes, over plain values. Assumes nothing.
use Prim.Native.Nat.{ℕ, ◌+◌, ◌-◌, ◌*◌, ◌≤◌, ◌<◌}
use mathlib.Core.Path.{◌≡◌, sym, ap, ◌∙◌, subst}
use mathlib.Core.List.{List}
use native.Mathlib.Omega.{arith}
use lib.ListN.{length}
use Rattle.std.specs.Prelude.{Option, Some, None}
use Rattle.calculus.specs.declared.Uses.{Uses}
use Rattle.calculus.specs.Uses.{counts, new_nodes, ◌⊕◌}
use Rattle.calculus.proofs.Counts.{same_uses}
use Rattle.table.specs.Nodes.{Table, first, Sound, make}
use Rattle.table.specs.Outcome.{frames}
use Rattle.table.specs.declared.Refusal.TheVariants.{Nodes}
use Rattle.table.specs.Claims.{Unbroken}
use Rattle.table.proofs.Words.{sound_node}
use Rattle.table.proofs.Making.{make_full, full_case, make_places}
use Rattle.index.specs.Index.{Ready}
use Rattle.index.specs.Code.{got_by}
use Rattle.table.specs.declared.Made.{Made}
use Rattle.applying.specs.declared.Frame.{Frame}
use Rattle.applying.specs.declared.Frame.TheVariants.{SpreadFirst, TriageFirst}
use Rattle.applying.specs.declared.Rule.{Rule}
use Rattle.applying.specs.declared.Rule.TheVariants.{Leaf, Stem, Drop, Spread, Triage}
use Rattle.applying.specs.Machine.{rule, State, Turn, stop, resume, grow_by, grow, use_rule, turn}
use Rattle.applying.specs.States.{Good, table_of}
use Rattle.applying.proofs.States.{one_use, turn_is, RuleIn, rule_in, resume_table, hold_table}
use Rattle.frames.specs.declared.Machine.{Machine}
use Rattle.frames.specs.declared.End.{End}
use Rattle.frames.specs.declared.End.TheVariants as ended
use Rattle.frames.specs.declared.Turned.{Turned}
use Rattle.frames.specs.Code.{frames_of, uses_of, state_of, end_of, turn_of}
use Rattle.frames.proofs.Frames.{length_frames}
use Rattle.rules.specs.Code.{ReadyEnd, ReadyTurned}

-- where a use leads to an end with the table z, and z with so many nodes in use is ready, so is what the use leaves
pub ready_turned : (r : Turned) (z y : List ℕ) {u s : ℕ} {ix : List ℕ} {x : Turn} → turn_of r z y ≡ x → (table_of x).used ≡ u → Ready z u s ix → ReadyTurned r z s ix
unfolding ReadyEnd
ready_turned r z y {u} {s} {ix} {x} e q h = go r.end (ap (λ (t : Turn). (table_of t).used) e ∙ q)
  where
    go : (d : End) → (table_of (end_of d r.state z y)).used ≡ u → ReadyEnd d z r.state.used s ix
    go ended.More l = rw l h
    go ended.Done l = rw l h
    go ended.Nodes l = tt
    go ended.Frames l = tt

-- a frame that is taken leaves the table ready, and so does every use that wants no node
pub resume_ready : (r : Turned) (w y : List ℕ) {u i : ℕ} {ix : List ℕ} (fs : List Frame) (k : Uses) (v : ℕ)
    → turn_of r w y ≡ resume (record { words = w; used = u }) fs k v → Ready w u i ix → ReadyTurned r w i ix
resume_ready r w y {u} fs k v e h = ready_turned r w y e (ap (λ (t : Table). t.used) (resume_table (record { words = w; used = u }) fs k v)) h

no_node : (all : ℕ) (m : State) (k : Uses) (r : Rule) → new_nodes (one_use r) ≡ 0 → table_of (use_rule all m k r) ≡ m.table
unfolding use_rule
no_node all m k Leaf e = absurd (omega arith)
no_node all m k (Stem p) e = absurd (omega arith)
no_node all m k (Drop y) e = resume_table m.table m.frames k y
no_node all m k (Spread p y) e = hold_table all m k (SpreadFirst p m.argument) y m.argument
no_node all m k (Triage p q) e = hold_table all m k (TriageFirst q) m.argument p

pub use_ready : (r : Turned) (w y : List ℕ) {i : ℕ} {ix : List ℕ} (all : ℕ) (m : State) (k : Uses) (d : Rule) → new_nodes (one_use d) ≡ 0
    → turn_of r w y ≡ use_rule all m k d → Ready w m.table.used i ix → ReadyTurned r w i ix
use_ready r w y all m k d n e h = ready_turned r w y e (ap (λ (t : Table). t.used) (no_node all m k d n)) h

-- the node is there, or a place for it is free or not
module _ (m : Machine) (k : Uses) (w s : List ℕ) (a b : ℕ) {g : Option Made} (z : List ℕ) (e : got_by g z ≡ make (record { words = w; used = m.used }) a b) where
  pub grow_full : g ≡ None → stop Nodes (state_of m z s) ≡ grow (state_of m w s) k a b
  unfolding grow grow_by got_by
  grow_full q =
      let f = full_case (record { words = w; used = m.used }) a b (sym (rw q at e)) in
      let c : z ≡ w = ap (λ (t : Table). t.words) f.same in
      rw (make_full (record { words = w; used = m.used }) a b f.absent f.all_used, c)

  module _ {n : Made} (q : g ≡ Some n) where
    pub grow_got : {x : Turn} → x ≡ resume (record { words = z; used = n.used }) (frames_of s m.held) k n.node → x ≡ grow (state_of m w s) k a b
    unfolding grow grow_by got_by
    grow_got r = rw (← e, q) r

    -- its number fits a word
    pub got_word : {i : ℕ} {ix : List ℕ} → Ready z n.used i ix → Sound (record { words = w; used = m.used }) → Unbroken m.used a b → n.node < 4294967296
    unfolding got_by
    got_word h s o = let l = make_places s a b o (sym (rw q at e)) in omega (arith, l.inside, h.fine.within, h.fine.short)

-- a node in use and its first branch lie in the table
pub reach : {w : List ℕ} {u f : ℕ} → Sound (record { words = w; used = u }) → f < u → (f * 2 + 1 < length w) × ((first w f - 1) * 2 + 1 < length w)
reach {w} {u} {f} s h = let a = sound_node w u f h s.unbroken in (omega (arith, s.within), omega (arith, a.first_in, s.within))

-- What the code of a rule asks of the numbers that it takes on: the frames held lie in the stack, and the nodes named are in use and fit a word.
pub record Asks (m : Machine) (s : List ℕ) (r : Rule) : Type 0 where
  pub held : m.held * 3 ≤ length s
  pub few : m.used ≤ 65536
  pub argument : m.argument < m.used
  pub named : RuleIn m.used r

pub asks : (m : Machine) (w s : List ℕ) → Good (frames s) (state_of m w s) → (r : Rule) → rule w m.function ≡ r → Asks m s r
asks m w s g r e =
    record {
      held = omega (arith, g.held_in, length_frames s m.held);
      few = omega (arith, g.fine.short, g.fine.within);
      argument = g.argument_in;
      named = subst (RuleIn m.used) e (rule_in g.fine m.function g.function_in);
    }

-- the counts with one use more of a rule
abbrev pub counting : Uses → Rule → Uses
counting k Leaf = counts (k.leaf + 1) k.stem k.drop k.spread k.triage
counting k (Stem p) = counts k.leaf (k.stem + 1) k.drop k.spread k.triage
counting k (Drop y) = counts k.leaf k.stem (k.drop + 1) k.spread k.triage
counting k (Spread p y) = counts k.leaf k.stem k.drop (k.spread + 1) k.triage
counting k (Triage p q) = counts k.leaf k.stem k.drop k.spread (k.triage + 1)

counting_is : (k : Uses) (r : Rule) → counting k r ≡ k ⊕ one_use r
counting_is k Leaf = same_uses (omega arith) (omega arith) (omega arith) (omega arith) (omega arith)
counting_is k (Stem p) = same_uses (omega arith) (omega arith) (omega arith) (omega arith) (omega arith)
counting_is k (Drop y) = same_uses (omega arith) (omega arith) (omega arith) (omega arith) (omega arith)
counting_is k (Spread p y) = same_uses (omega arith) (omega arith) (omega arith) (omega arith) (omega arith)
counting_is k (Triage p q) = same_uses (omega arith) (omega arith) (omega arith) (omega arith) (omega arith)

-- the rule that is wanted is used, and its use is counted
pub by_rule : (all : ℕ) (m : Machine) (w s : List ℕ) {x : Turn} {k : Uses} (r : Rule) → k ≡ uses_of m → rule w m.function ≡ r
    → x ≡ use_rule all (state_of m w s) (counting k r) r → x ≡ turn all (state_of m w s)
by_rule all m w s {x} {k} r c e q = rw (turn_is all (state_of m w s), e, ← (counting_is k r ∙ ap (λ (u : Uses). u ⊕ one_use r) c)) q

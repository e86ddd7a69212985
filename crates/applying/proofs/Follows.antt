-- A completed application follows the five rules, and a refused one leaves the nodes as they were. Assumes nothing.
use Prim.Native.Nat.{ℕ, zero, suc, ◌<◌}
use mathlib.Core.Path.{◌≡◌, refl, sym, ap, ◌∙◌, subst}
use mathlib.Core.List.{List}
use native.Mathlib.Omega.{arith}
use lib.Dec.{leb}
use Rattle.std.specs.Prelude.{Err, Ok, Result}
use Rattle.calculus.specs.Tree.{Tree}
use Rattle.calculus.specs.declared.Uses.{Uses}
use Rattle.calculus.specs.Uses.{no_uses, ◌⊕◌, steps, new_nodes}
use Rattle.calculus.specs.Rules.{Apply}
use Rattle.calculus.proofs.Counts.{uses_none, none_uses, uses_assoc}
use Rattle.calculus.proofs.Unique.{apply_unique}
use Rattle.table.specs.Nodes.{Table, Placed, tree_at}
use Rattle.table.specs.Outcome.{Entered, frames, stopped}
use Rattle.table.specs.Refusal.{refused_numbers}
use Rattle.table.specs.declared.Refusal.{Refusal}
use Rattle.table.specs.Claims.{Kept}
use Rattle.table.proofs.Trees.{kept_refl, kept_tree}
use Rattle.table.proofs.Entry.{enters, stopped_kept}
use Rattle.table.proofs.Laid.{same_ok}
use Rattle.applying.specs.Machine.{State, wanted, Turn, more, done, stop, turn, after, uses}
use Rattle.applying.specs.Apply.{applied_numbers, applied_uses, settle, begin, apply, applied, not_applied}
use Rattle.applying.specs.States.{Good}
use Rattle.applying.specs.declared.Applied.{Applied}
pub use Rattle.applying.specs.Claims.{Follows}
use Rattle.applying.proofs.States.{table_of, Later, turn_later, uses_later, one_use, uses_next, Took, turn_took, Counted, uses_steps, New, uses_new}
use Rattle.applying.proofs.Leads.{Leads, TurnLeads, leads_before}
use Rattle.applying.proofs.Cases.{Ways, refused, ran, ways, good_begin}

-- A run that comes to the node of p and the uses j leads there from s, by the rules; trees are read in the last table.
pub record Ran (s : State) (p : Placed) (j : Uses) : Type 0 where
  pub taken : Uses
  pub leads : Leads p.table.words s (tree_at p.table.words p.node) taken
  pub counted : j ≡ s.uses ⊕ taken

-- the same of a turn x that the run came to from s
record After (s : State) (x : Turn) (p : Placed) (j : Uses) : Type 0 where
  left : Uses
  leads : TurnLeads p.table.words (tree_at p.table.words p.node) left ⊥ x
  kept : Kept (table_of x) p.table
  counted : j ≡ uses_next s ⊕ left

-- A run that comes to an outcome follows the five rules from its state on: "Applying program f to program N", with the uses that it counts.
pub uses_follow : (k : ℕ) {all : ℕ} {s : State} → Good all s → (p : Placed) (j : Uses) → uses all k s ≡ done p j → Ran s p j
unfolding uses after
uses_follow zero g p j e = let n : ◌≡◌ {A = ℕ} 0 1 = cc in absurd (omega arith)
uses_follow (suc k) {all} {s} g p j e =
    let a = go (turn all s) (turn_later g) (turn_took all s) (λ (z : State) (h : Good all z). uses_follow k h p j) e in
    let l : Later all s.table (done p j) = subst (Later all s.table) e (uses_later (suc k) g) in
    record {
      taken = one_use (wanted s) ⊕ a.left;
      leads = leads_before g l.fine a.kept _ a.left a.leads;
      counted = a.counted ∙ uses_assoc s.uses (one_use (wanted s)) a.left;
    }
  where
    go : (x : Turn) → Later all s.table x → Took (uses_next s) x → ((z : State) → Good all z → uses all k z ≡ done p j → Ran z p j)
        → after (uses all k) x ≡ done p j → After s x p j
    go (more z) l t r q =
        let a = r z l.ready q in
        let m : Later all z.table (done p j) = subst (Later all z.table) q (uses_later k l.ready) in
        record { left = a.taken; leads = a.leads; kept = m.extends.kept; counted = a.counted ∙ ap (λ (x : Uses). x ⊕ a.taken) t }
    go (done v i) l t r q =
        let a : v ≡ p = cc in
        let b : j ≡ i = cc in
        let c : tree_at p.table.words v.node ≡ tree_at p.table.words p.node = rw a in
        record { left = no_uses; leads = (c, refl); kept = rw a (kept_refl p.table); counted = b ∙ t ∙ sym (uses_none (uses_next s)) }
    go (stop d t) l x r q = let n : ◌≡◌ {A = ℕ} 0 1 = cc in absurd (omega arith)

apply_by : {f g n m r o : Tree} {j k : Uses} → f ≡ g → n ≡ m → r ≡ o → j ≡ k → Apply f n r j → Apply g m o k
apply_by a b c d x = rw (← a, ← b, ← c, ← d) x

-- the uses of one application that began with none and left none
alone : {j t a l : Uses} → j ≡ no_uses ⊕ t → t ≡ a ⊕ l → l ≡ no_uses → a ≡ j
alone {t = t} {a = a} p q r = sym (uses_none a) ∙ ap (λ (x : Uses). a ⊕ x) (sym r) ∙ sym q ∙ sym (none_uses t) ∙ sym p

module _ (w : List ℕ) (u : ℕ) (s : List ℕ) (f n limit : ℕ) where
  settle_follows : (v u' m : ℕ) (k : Uses) → Entered (leb limit 1000000) w u s → f < u → n < u
      → (x : Turn) → uses (frames s) limit (begin w u f n) ≡ x → apply w u s f n limit ≡ settle u s x
      → (settle u s x).answer ≡ applied v u' m k → Follows w u s f n limit v u' m k
  unfolding settle stopped
  settle_follows v u' m k i h l (more z) q r e = let c : ◌≡◌ {A = ℕ} 0 1 = cc in absurd (omega arith)
  settle_follows v u' m k i h l (stop d t) q r e = let c : ◌≡◌ {A = ℕ} 0 1 = cc in absurd (omega arith)
  settle_follows v u' m k i h l (done p j) q r e =
      let g : Good (frames s) (begin w u f n) = good_begin i h l in
      let y = subst (Later (frames s) (begin w u f n).table) q (uses_later limit g) in
      let z = uses_follow limit g p j q in
      let c = subst (Counted 0 limit) q (uses_steps (frames s) limit (begin w u f n)) in
      let new = subst (New (begin w u f n)) q (uses_new (frames s) limit (begin w u f n)) in
      let given_is : applied p.node p.table.used (steps j) j ≡ applied v u' m k = e in
      let a : p.node ≡ v = ap (λ (x : Applied). x.node) (same_ok given_is) in
      let b : p.table.used ≡ u' = ap (λ (x : Applied). x.used) (same_ok given_is) in
      let d : j ≡ k = ap (λ (x : Applied). x.uses) (same_ok given_is) in
      let o : steps j ≡ m = ap (λ (x : Applied). x.steps) (same_ok given_is) in
      let same : (i : ℕ) → i < u → tree_at p.table.words i ≡ tree_at w i = kept_tree i.table y.extends.kept in
      let goes = z.leads.goes in
      let all : z.leads.taken ≡ k = alone z.counted z.leads.counted goes.1 ∙ d in
      let x : Apply (tree_at w f) (tree_at w n) (tree_at (apply w u s f n limit).table v) k =
      rw r (apply_by (same f h) (same n l) (goes.0 ∙ ap (tree_at p.table.words) a) all z.leads.applies) in
      record {
        entered = enters i;
        function_in = h;
        argument_in = l;
        applies = x;
        only = λ d. (apply_unique d x).1;
        steps_are = omega (arith, ap steps d);
        within_limit = omega (arith, c.1);
        used_most = omega (arith, new, ap new_nodes d);
        ends = rw (r, ← a, ← b, ← d) q;
        fine = rw (r, ← b) y.fine;
        extends = rw (r, ← b) y.extends;
        inside = rw (← a, ← b) y.ready;
        stack = rw r;
      }

  -- An application that completes follows the five rules with exactly the uses that it reports: "Each use is one step, counted when taken". "Their sum is the
  -- steps" ([5]), and leaf plus stem is at least the number of nodes made ([8]). "Success also sets the stack to 0, and no other table word than those of new
  -- nodes changes", so old nodes keep their trees.
  pub apply_follows : (v u' j : ℕ) (k : Uses) → (apply w u s f n limit).answer ≡ applied v u' j k → Follows w u s f n limit v u' j k
  apply_follows v u' j k e = go (ways w u s f n limit)
    where
      go : Ways w u s f n limit → Follows w u s f n limit v u' j k
      go (refused c q) = let a : ◌≡◌ {A = ℕ} 0 1 = cc in absurd (omega arith)
      go (ran i h l q) = settle_follows v u' j k i h l (uses (frames s) limit (begin w u f n)) refl q (rw q at e)

  -- "Their sum is the steps" ([5]), refused or not
  pub apply_sum : (applied_numbers u (apply w u s f n limit).answer).steps ≡ steps (applied_uses (apply w u s f n limit).answer)
  unfolding applied_numbers applied_uses refused_numbers
  apply_sum = go (apply w u s f n limit).answer refl
    where
      go : (a : Result Applied Refusal) → (apply w u s f n limit).answer ≡ a → (applied_numbers u a).steps ≡ steps (applied_uses a)
      go (Ok m) e = (apply_follows m.node m.used m.steps m.uses e).steps_are
      go (Err d) e = refl

  -- A refused application leaves the nodes in use as they were: "Numbers 1 to 6 [..] leave lent memory as found. Numbers 7 to 10 set to 0 the words
  -- of the nodes made in the call".
  pub apply_refused : (e : Refusal) → (apply w u s f n limit).answer ≡ not_applied e
      → Kept (record { words = w; used = u }) (record { words = (apply w u s f n limit).table; used = u })
  unfolding settle stopped
  apply_refused d e = go (ways w u s f n limit)
    where
      t : Table
      t = record { words = w; used = u }

      left : {all : ℕ} (x : Turn) → Later all t x → (settle u s x).answer ≡ not_applied d → Kept t (record { words = (settle u s x).table; used = u })
      left (more z) l q = stopped_kept l.extends.kept l.fine.within
      left (stop c z) l q = stopped_kept l.extends.kept l.fine.within
      left (done p j) l q = let c : ◌≡◌ {A = ℕ} 0 1 = cc in absurd (omega arith)

      go : Ways w u s f n limit → Kept t (record { words = (apply w u s f n limit).table; used = u })
      go (refused c q) = rw q (kept_refl t)
      go (ran i h l q) = rw q (left (uses (frames s) limit (begin w u f n)) (uses_later limit (good_begin i h l)) (rw q at e))

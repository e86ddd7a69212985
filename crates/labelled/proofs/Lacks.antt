-- Label is refused exactly on a refusal's condition, and what it leaves then. Assumes nothing.
use Prim.Native.Nat.{ℕ, ◌<◌}
use mathlib.Core.Path.{◌≡◌, refl, sym, ap, ◌∙◌}
use mathlib.Core.Bool.{Bool, true, false, ◌&&◌}
use mathlib.Core.List.{List, []}
use mathlib.Core.Logic.{◌↔◌}
use lib.Dec.{ltb}
use borrow.Author.Tests.{ltb-true}
use Rattle.std.specs.Prelude.{Result}
use Rattle.table.specs.Outcome.{Outcome, whole, placed, settled}
use Rattle.table.specs.declared.Refusal.{Refusal}
use Rattle.table.specs.Claims.{Kept}
use Rattle.table.proofs.Words.{zero_one, and_left, and_right}
use Rattle.table.proofs.Trees.{kept_refl}
use Rattle.table.proofs.Entry.{entered, lacks_entry, full_kept}
use Rattle.table.proofs.Laid.{full_outcome}
use Rattle.table.specs.Refusal.{not_made}
use Rattle.table.specs.declared.Made.{Made}
use Rattle.labelled.specs.Label.{label_rule, label}
use Rattle.labelled.specs.Claims.{LabelLacks, of_entry, not_in_use, no_nodes}
use Rattle.labelled.proofs.Labels.{Case, refuses, gives, label_case, nodes_full, nodes_fill, entered_label}

module _ (w : List ℕ) (u f t : ℕ) (e : Refusal) where
  -- "1, 2, then 3 for either number.", then 8 while making nodes: each comes only on its condition, and leaves the table so.
  pub label_lacks : (label w u f t).answer ≡ not_made e → LabelLacks w u f t e (label w u f t).table
  unfolding placed
  label_lacks q = go (label_case w u f t)
    where
      go : Case w u f t (label w u f t) → LabelLacks w u f t e (label w u f t).table
      go (refuses {e = c} {x} k r) =
          let a : (label w u f t).table ≡ x = cc in
          let b : c ≡ e = cc in
          rw (a, ← b) k
      go (gives p h k m r) = zero_one (cc)

  -- all nodes are as they were
  pub label_refused : (label w u f t).answer ≡ not_made e → Kept (record { words = w; used = u }) (record { words = (label w u f t).table; used = u })
  label_refused q = go (label_lacks q)
    where
      go : {c : Refusal} {x : List ℕ} → LabelLacks w u f t c x → Kept (record { words = w; used = u }) (record { words = x; used = u })
      go (of_entry h) = kept_refl _
      go (not_in_use h k) = kept_refl _
      go (no_nodes h k l m) = full_kept (record { words = w; used = u }) (entered true w u [] h).table.within

-- on each condition its refusal comes
not_both : (u f t : ℕ) → (f < u → t < u → ⊥) → (ltb f u && ltb t u) ≡ false
not_both u f t n = go (ltb f u && ltb t u) refl
  where
    go : (b : Bool) → (ltb f u && ltb t u) ≡ b → b ≡ false
    go true q = absurd (n (ltb-true f u (and_left (ltb f u) (ltb t u) q)) (ltb-true t u (and_right (ltb f u) (ltb t u) q)))
    go false q = refl

stops : {w : List ℕ} {u f t : ℕ} {e : Refusal} {x : List ℕ} → LabelLacks w u f t e x → label w u f t ≡ whole (not_made e) x []
unfolding label label_rule settled
stops (of_entry h) = rw (lacks_entry h)
stops {u = u} {f = f} {t = t} (not_in_use h k) = rw (h, not_both u f t k)
stops {w} {u} {f} {t} (no_nodes h k l {z} m) =
    let n = entered true w u [] h in
    let q = (nodes_full n.table f t k l z).1 m in
    sym (entered_label n k l) ∙ rw q (full_outcome w u [] (nodes_fill n.table f t k l q))

-- Each refusal comes exactly on its condition.
pub label_stops : (w : List ℕ) (u f t : ℕ) (e : Refusal) (x : List ℕ) → (label w u f t ≡ whole (not_made e) x []) ↔ LabelLacks w u f t e x
label_stops w u f t e x = (λ q. rw (ap (λ (o : Outcome (Result Made Refusal)). o.table) q) at (label_lacks w u f t e (ap (λ (o : Outcome (Result Made Refusal)). o.answer) q)), stops)

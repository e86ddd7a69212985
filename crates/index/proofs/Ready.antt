-- What callers cite of the index: an empty one, and what an answer says by its case. Assumes nothing.
use Prim.Native.Nat.{ℕ, zero, suc, ◌+◌, ◌≤◌, ◌<◌}
use mathlib.Core.Path.{◌≡◌, refl, sym, ap, ◌∙◌, subst}
use mathlib.Core.List.{List}
use native.Mathlib.Omega.{arith}
use lib.ListN.{length, get_or, replicate, length-replicate}
use Rattle.std.specs.Prelude as code
use Rattle.std.specs.Prelude.{Some, None, Result, Ok}
use Rattle.table.specs.Nodes.{Making, got, full, capacity, sound}
use Rattle.table.specs.Outcome.{Outcome, whole, placed, stopped, settled}
use Rattle.table.specs.declared.Refusal.TheVariants.{Nodes}
use Rattle.table.specs.Refusal.{not_made}
use Rattle.table.specs.declared.Refusal.{Refusal}
use Rattle.table.specs.declared.Made.{Made}
use Rattle.index.specs.Index.{Ready, Empty}
use Rattle.index.specs.Code.{got_by, ReadyGot, ReadyMade}

zeros_at : (n p : ℕ) → ◌≡◌ {A = ℕ} (get_or (replicate n 0) p 0) 0
zeros_at zero p = refl
zeros_at (suc n) zero = refl
zeros_at (suc n) (suc p) = zeros_at n p

-- an array of zeros is an empty index
pub empty_index : (n s : ℕ) (w : List ℕ) → s + capacity w ≤ n → 0 < s → Empty w s (replicate n 0)
empty_index n s w h k =
    record { none_yet = zeros_at n; room = let e = length-replicate {A = ℕ} n 0 in omega arith; some_slots = k }

-- a table without nodes is ready with an empty index
pub ready_none : {w : List ℕ} {s : ℕ} {ix : List ℕ} → length w ≤ 131072 → Empty w s ix → Ready w 0 s ix
unfolding sound
ready_none h x =
    record {
      fine = record { short = h; within = omega arith; unbroken = refl };
      indexed = record { each = λ i o l. absurd (omega arith); inside = λ p n. absurd (n (x.none_yet p)); low = λ p n. absurd (n (x.none_yet p)) };
      room = x.room;
      some_slots = x.some_slots;
    }

-- what came of wanting a node, by the answer's case
module _ {r : code.Option Made} {w : List ℕ} where
  module _ {x : Making} (e : got_by r w ≡ x) where
    pub node_got : {m : Made} → r ≡ Some m → x ≡ got (record { table = record { words = w; used = m.used }; node = m.node })
    unfolding got_by
    node_got q = sym e ∙ ap (λ (y : code.Option Made). got_by y w) q

    pub full_got : r ≡ None → x ≡ full (record { words = w; used = capacity w })
    unfolding got_by
    full_got q = sym e ∙ ap (λ (y : code.Option Made). got_by y w) q

  pub node_ready : {s : ℕ} {ix : List ℕ} → ReadyGot r w s ix → {m : Made} → r ≡ Some m → Ready w m.used s ix
  unfolding ReadyGot
  node_ready {s} {ix} x q = subst (λ (y : code.Option Made). ReadyGot y w s ix) q x

pub made_ready : {r : Result Made Refusal} {w : List ℕ} {s : ℕ} {ix : List ℕ} → ReadyMade r w s ix → {m : Made} → r ≡ Ok m → Ready w m.used s ix
unfolding ReadyMade
made_ready {r} {w} {s} {ix} x q = subst (λ (y : Result Made Refusal). ReadyMade y w s ix) q x

-- an answer that is settled leaves the table ready
pub settled_ready : (g : code.Option Made) (w f : List ℕ) (u s : ℕ) (ix : List ℕ) {r : Result Made Refusal} {z t : List ℕ} → whole r z t ≡ settled u f (got_by g w) → ReadyGot g w s ix → ReadyMade r z s ix
unfolding settled placed stopped got_by ReadyGot ReadyMade
settled_ready (Some m) w f u s ix {r} {z} e x =
    let p : r ≡ Ok m = ap (λ (o : Outcome (Result Made Refusal)). o.answer) e in
    let q : z ≡ w = ap (λ (o : Outcome (Result Made Refusal)). o.table) e in
    rw (p, q) x
settled_ready None w f u s ix {r} {z} e x =
    let p : r ≡ not_made Nodes = ap (λ (o : Outcome (Result Made Refusal)). o.answer) e in
    rw p tt

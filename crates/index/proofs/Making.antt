-- Laws of the index with one node more, and of what `make` and `settle` answer. Assumes nothing.
use Prim.Native.Nat.{ℕ, ◌+◌, ◌*◌, ◌/◌, ◌≤◌, ◌<◌}
use mathlib.Core.Path.{◌≡◌, refl, sym, ap, ◌∙◌}
use mathlib.Core.Bool.{false}
use mathlib.Core.List.{List}
use native.Mathlib.Omega.{arith}
use lib.ListN.{length, set, length-set}
use Rattle.std.specs.Prelude as code
use Rattle.std.specs.Prelude.{Some, None, Ok}
use Rattle.table.specs.Nodes.{Placed, got, full, capacity, first, second, broken, Sound, new_node, make, cleared}
use Rattle.table.specs.Outcome.{whole, placed, stopped, settled}
use Rattle.table.specs.Claims.{Unbroken}
use Rattle.table.specs.declared.Refusal.TheVariants.{Nodes}
use Rattle.table.proofs.Words.{sound_more, wrote, wrote_other, wrote_first, wrote_second, length_wrote, cleared_all}
use Rattle.table.proofs.Making.{make_found, make_new, make_full, make_places}
use Rattle.table.specs.Refusal.{not_made}
use Rattle.nodes.specs.Code.{placed_by}
use Rattle.table.specs.declared.Made.{Made}
use Rattle.index.specs.Index.{Ready}
use Rattle.index.specs.Code.{Sought, got_by, ReadyGot}
use Rattle.index.specs.declared.Found.{Found}
use Rattle.index.specs.declared.Found.TheVariants as found
use Rattle.index.proofs.Indexing.{indexed_more, node_sought, none_sought, place_sought}

module _ (w : List ℕ) (u s : ℕ) (ix : List ℕ) (a b p : ℕ) (r : Found) (x : Ready w u s ix) (t : Sought w u s ix a b r) (e : r ≡ found.Place p) where
  pub place_in : p < length ix
  place_in = let v = place_sought w u s ix a b p r t e in omega (arith, v.below, x.room, x.fine.within)

  -- z is sound and has the nodes of w and one more, with the words a and b
  pub ready_more : (z : List ℕ) → Sound (record { words = z; used = u + 1 }) → length z ≡ length w
      → ((i : ℕ) → i < u → first z i ≡ first w i) → ((i : ℕ) → i < u → second z i ≡ second w i) → first z u ≡ a → second z u ≡ b
      → Ready z (u + 1) s (set ix p u)
  ready_more z y l f g fa gb =
      let n : length (set ix p u) ≡ length ix = length-set ix p u in
      record {
        fine = y;
        indexed = indexed_more w z u s ix a b p x.indexed (place_sought w u s ix a b p r t e) place_in f g fa gb;
        room = omega (arith, x.room);
        some_slots = x.some_slots;
      }

  -- the next node of the same table is entered
  pub ready_next : u < capacity w → a ≡ first w u → b ≡ second w u → false ≡ broken u a b → Ready w (u + 1) s (set ix p u)
  ready_next h f g d =
      ready_more w
      (record {
        short = x.fine.short;
        within = omega arith;
        unbroken =
            sound_more w u
            (record {
              unbroken_last = rw (f, g) at (sym d);
              only = rw (f, g) at (none_sought w u s ix a b p r t e);
              before = x.fine.unbroken;
            });
      })
      refl (λ i l. refl) (λ i l. refl) (sym f) (sym g)

  pub got_full : capacity w ≤ u → (got_by None w ≡ make (record { words = w; used = u }) a b) × ReadyGot None w s ix
  unfolding got_by ReadyGot
  got_full h =
      let q : capacity w ≡ u = omega (arith, x.fine.within) in
      (ap (λ (n : ℕ). full (record { words = w; used = n })) q ∙ sym (make_full (record { words = w; used = u }) a b (none_sought w u s ix a b p r t e) h), tt)

  pub got_new : Unbroken u a b → (m : Made) (z : List ℕ) → u < capacity w → placed_by m z ≡ new_node (record { words = w; used = u }) a b
      → (got_by (Some m) z ≡ make (record { words = w; used = u }) a b) × ReadyGot (Some m) z s (set ix p u)
  unfolding got_by ReadyGot new_node
  got_new o m z h q =
      let k = make_new (record { words = w; used = u }) a b (none_sought w u s ix a b p r t e) h in
      let c : z ≡ wrote w u a b = ap (λ (n : Placed). n.table.words) q in
      let d : m.used ≡ u + 1 = ap (λ (n : Placed). n.table.used) q in (
        ap got q ∙ sym k,
        rw (c, d)
            (ready_more (wrote w u a b) (make_places x.fine a b o k).fine (length_wrote w u a b)
            (λ i l. wrote_other w u a b (i * 2) (λ n. omega arith) (λ n. omega arith))
            (λ i l. wrote_other w u a b (i * 2 + 1) (λ n. omega arith) (λ n. omega arith))
            (wrote_first w u a b (omega arith)) (wrote_second w u a b (omega arith))),
      )

pub got_found : (w : List ℕ) (u s : ℕ) (ix : List ℕ) (a b n : ℕ) (r : Found) → Ready w u s ix → Sought w u s ix a b r → r ≡ found.Node n
    → (got_by (Some (record { node = n; used = u })) w ≡ make (record { words = w; used = u }) a b) × ReadyGot (Some (record { node = n; used = u })) w s ix
unfolding got_by ReadyGot
got_found w u s ix a b n r x t e = (sym (make_found (record { words = w; used = u }) a b (node_sought w u s ix a b n r t e)), x)

-- what is settled
module _ (w : List ℕ) (u : ℕ) (f z : List ℕ) (c : z ≡ cleared f 0 (length f)) {g : code.Option Made} where
  pub settled_node : (m : Made) → g ≡ Some m → whole (Ok m) w z ≡ settled u f (got_by g w)
  unfolding settled placed got_by
  settled_node m e = rw (e, c, cleared_all f)

  pub settled_full : {y : List ℕ} → y ≡ cleared w (u * 2) (length w / 2 * 2) → g ≡ None → whole (not_made Nodes) y z ≡ settled u f (got_by g w)
  unfolding settled stopped got_by
  settled_full d e = rw (e, c, d, cleared_all f)

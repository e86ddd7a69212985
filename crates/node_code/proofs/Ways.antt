-- The place that the search gives is the code, and one law for each way that an answer is given. Assumes nothing.
use Prim.Native.Nat.{ℕ, ◌+◌, ◌≤◌, ◌<◌}
use mathlib.Core.Path.{◌≡◌, refl, sym, subst}
use mathlib.Core.Bool.{Bool, true, false}
use mathlib.Core.List.{List, []}
use mathlib.Core.Option.{none}
use native.Mathlib.Omega.{arith}
use lib.Dec.{ltb}
use borrow.Author.Tests.{ltb-true, ltb-false}
use Rattle.calculus.specs.Tree.{Tree}
use Rattle.table.specs.Nodes.{tree_at}
use Rattle.table.specs.Outcome.{at_entry}
use Rattle.table.specs.declared.Refusal.TheVariants.{Node}
use Rattle.std.specs.Prelude.{Some, None, Ok, Err}
use Rattle.table.proofs.Ascending.{place_below, earlier_place}
use Rattle.ternary.specs.Text.{text}
use Rattle.ternary.proofs.OneText.{length_text}
use Rattle.short_codes.specs.Values.{value, values}
use Rattle.short_codes.specs.ShortCodes.{code}
use Rattle.short_codes.specs.Claims.{AtPlace, IsCode, Askable, too_many, coded, not_in_use}
use Rattle.short_codes.proofs.Holding.{values_hold, values_many}
use Rattle.short_codes.proofs.Codes.{has_code, code_place}
use Rattle.short_codes.proofs.Outcomes.{code_gives}
use Rattle.code_values.specs.Code.{PlaceFor}
use Rattle.node_code.specs.Code.{digits, taken_text}
use Rattle.node_code.proofs.Taking.{takes_all, takes_too_many}

-- the place that is found is that of a value that the table holds
found_place : (x c r : ℕ) → AtPlace values x c → PlaceFor x r → c ≡ r
found_place x c r a p = go (ltb c r) (ltb (r + 1) 1374) refl refl
  where
    go : (k m : Bool) → ltb c r ≡ k → ltb (r + 1) 1374 ≡ m → c ≡ r
    go true m e f = absurd (omega (arith, place_below values_hold.ascending c r (ltb-true c r e) (omega (arith, p.inside, values_many)), p.at_most, a.1))
    go false true e f = omega (arith, ltb-false c r e, earlier_place values_hold.ascending c (r + 1) a.0 (omega (arith, p.next_above (ltb-true (r + 1) 1374 f), a.1)))
    go false false e f = omega (arith, ltb-false c r e, ltb-false (r + 1) 1374 f, a.0, values_many)

found_code : (t : Tree) {m x r : ℕ} → taken_text 0 0 t ≡ Some (digits m x) → PlaceFor x r → IsCode t r
unfolding value
found_code t {m} {x} {r} e p =
    let a = takes_all 0 0 t e in
    let i = (has_code t).1 (omega (arith, a.few, a.many_is)) in
    let k : PlaceFor (value (text t)) r = subst (λ (y : ℕ). PlaceFor y r) a.value_is p in
    subst (IsCode t) (found_place (value (text t)) i.0 r (code_place i.1) k) i.1

module _ (w : List ℕ) (u v : ℕ) (q : at_entry true w u [] ≡ none) where
  pub no_node : u ≤ v → Err Node ≡ code w u v
  no_node h = sym (code_gives w u v (not_in_use q h))

  module _ (h : v < u) where
    asked : Askable w u v
    asked = record { entered = q; in_use = h }

    pub long_none : taken_text 0 0 (tree_at w v) ≡ None → Ok None ≡ code w u v
    long_none e = sym (code_gives w u v (too_many asked (omega (arith, length_text (tree_at w v), takes_too_many 0 0 (tree_at w v) e))))

    pub short_coded : {m x r : ℕ} → taken_text 0 0 (tree_at w v) ≡ Some (digits m x) → PlaceFor x r → Ok (Some r) ≡ code w u v
    short_coded e p = sym (code_gives w u v (coded asked (found_code (tree_at w v) e p)))

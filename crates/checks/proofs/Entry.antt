-- Laws of the checks at entry, one for each way that their code goes. Assumes nothing.
use Prim.Native.Nat.{ℕ, ◌/◌, ◌≤◌, ◌<◌}
use mathlib.Core.Path.{◌≡◌, refl, sym, ◌∙◌}
use mathlib.Core.Bool.{Bool, true, false, cond, not, ◌&&◌}
use mathlib.Core.List.{List}
use mathlib.Core.Option.{some, none}
use lib.ListN.{length}
use lib.Dec.{leb}
use borrow.Author.Tests.{lt-leb, le-leb, leb-true, not-true, not-false}
use Rattle.std.specs.Prelude.{⊤, IsOk, Err}
use Rattle.table.specs.Nodes.{capacity, sound}
use Rattle.table.specs.Outcome.{fits, at_entry}
use Rattle.table.specs.declared.Refusal.{Refusal}
use Rattle.table.specs.declared.Refusal.TheVariants.{Limits, Broken}
use Rattle.table.proofs.Words.{zero_one, and_left, and_right}
use Rattle.index.specs.Index.{Ready}
use Rattle.checks.specs.Code.{refusal_of}

module _ (within : Bool) (w : List ℕ) (u : ℕ) (s : List ℕ) where
  -- a refusal leaves nothing to say of the index
  pub refuses : {n : ℕ} {ix : List ℕ} {e : Refusal} → some e ≡ at_entry within w u s
      → (refusal_of (Err e) ≡ at_entry within w u s) × (IsOk {T = ⊤} {E = Refusal} (Err e) → Ready w u n ix)
  refuses q = (q, λ c. zero_one (cc))

  -- the tests of 1
  pub limits_unfit : within ≡ false → (within && fits w u s) ≡ false
  limits_unfit e = rw e

  pub table_unfit : 131072 < length w → (within && fits w u s) ≡ false
  unfolding fits
  table_unfit h = rw (lt-leb (length w) 131072 h) (go within)
    where
      go : (z : Bool) → (z && false) ≡ false
      go true = refl
      go false = refl

  module _ (o : within ≡ true) (a : length w ≤ 131072) where
    pub stack_unfit : 65536 < length s → (within && fits w u s) ≡ false
    unfolding fits
    stack_unfit h = rw (o, le-leb (length w) 131072 a, lt-leb (length s) 65536 h)

    pub used_fits : length s ≤ 65536 → leb u (length w / 2) ≡ (within && fits w u s)
    unfolding fits
    used_fits b = rw (o, le-leb (length w) 131072 a, le-leb (length s) 65536 b)

  -- 1 is met, by any of them
  pub unfit : (within && fits w u s) ≡ false → some Limits ≡ at_entry within w u s
  unfolding at_entry
  unfit e = rw e

  pub not_within : within ≡ false → some Limits ≡ at_entry within w u s
  not_within e = unfit (limits_unfit e)

  -- a table that is too long is refused, whatever else
  pub too_long : 131072 < length w → some Limits ≡ at_entry within w u s
  too_long h = unfit (table_unfit h)

  module _ (o : within ≡ true) (a : length w ≤ 131072) where
    pub long_stack : 65536 < length s → some Limits ≡ at_entry within w u s
    long_stack h = unfit (stack_unfit o a h)

    pub over_used : length s ≤ 65536 → length w / 2 < u → some Limits ≡ at_entry within w u s
    over_used b h = unfit (sym (used_fits o a b) ∙ lt-leb u (length w / 2) h)

  -- what the code finds of 1 and then of the nodes
  module _ {f : Bool} (e : f ≡ (within && fits w u s)) where
    pub refused_unfit : not f ≡ true → some Limits ≡ at_entry within w u s
    refused_unfit n = unfit (sym e ∙ not-true f n)

    module _ (n : not f ≡ false) where
      fit : (within && fits w u s) ≡ true
      fit = sym e ∙ not-false f n

      pub may_fill : (length w ≤ 131072) × (u ≤ capacity w)
      unfolding fits
      may_fill =
          let g = and_right within (fits w u s) fit in
          (leb-true (length w) 131072 (and_left (leb (length w) 131072) _ g), leb-true u (capacity w) (and_right (leb (length s) 65536) _ (and_right (leb (length w) 131072) _ g)))

      pub by_nodes : {x y : Bool} → x ≡ sound w u → x ≡ y → cond y none (some Broken) ≡ at_entry within w u s
      unfolding at_entry
      by_nodes p q = rw (fit, ← p, q)

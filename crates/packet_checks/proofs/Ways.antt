-- Laws of the checks that the readers of a packet share, one for each way that the code goes. Assumes nothing.
use Prim.Native.Nat.{ℕ, ◌+◌, ◌-◌, ◌≤◌, ◌<◌}
use mathlib.Core.Path.{◌≡◌, refl}
use mathlib.Core.Bool.{Bool, true, false, ◌&&◌}
use Rattle.std.proofs.Common as code
use Rattle.std.proofs.Common.{not}
use Rattle.calculus.specs.Term.{Term}
use mathlib.Core.List.{List, [], ◌∷◌, ◌++◌}
use mathlib.Core.Option.{Option, none, some}
use native.Mathlib.Omega.{arith}
use lib.ListN.{length}
use Rattle.calculus.specs.Tree.{Tree}
use Rattle.calculus.specs.Bytes.{rule}
use Rattle.table.specs.declared.Refusal.TheVariants as refusal
use Rattle.ternary.specs.Read.{readable, is_some}
use Rattle.table.proofs.Words.{zero_one}
use Rattle.rule_size.specs.Weight.{size_of}
use Rattle.packet.specs.Code.{end_at, value_at, Stand, values_at, label_at}
use Rattle.packet.proofs.Parts.{next_field}
use Rattle.running.specs.Run.{all_readable, label_texts, parts_lack}

-- ---- texts

module _ (l : List ℕ) (at count i : ℕ) where
  pub texts_end : count ≤ i → true ≡ all_readable (values_at l at (count - i))
  unfolding values_at all_readable
  texts_end h = let a : count - i ≡ 0 = omega arith in rw a

  module _ (h : i < count) (st : Stand l at (count - i)) where
    pub texts_next : {b : Bool} → b ≡ is_some (readable (value_at l at)) → b ≡ true
        → all_readable (values_at l (end_at l at) (count - (i + 1))) ≡ all_readable (values_at l at (count - i))
    unfolding all_readable is_some
    texts_next {b} e q = rw (next_field l at count i h st).values (go (readable (value_at l at)) refl)
      where
        go : (r : Option Tree) → readable (value_at l at) ≡ r
            → all_readable (values_at l (end_at l at) (count - (i + 1))) ≡ all_readable (value_at l at ∷ values_at l (end_at l at) (count - (i + 1)))
        go none p = zero_one (cc (rw p at e))
        go (some t) p = rw p

    pub texts_stop : {b : Bool} → b ≡ is_some (readable (value_at l at)) → b ≡ false → false ≡ all_readable (values_at l at (count - i))
    unfolding all_readable is_some
    texts_stop {b} e q = rw (next_field l at count i h st).values (go (readable (value_at l at)) refl)
      where
        go : (r : Option Tree) → readable (value_at l at) ≡ r → false ≡ all_readable (value_at l at ∷ values_at l (end_at l at) (count - (i + 1)))
        go none p = rw p
        go (some t) p = zero_one (cc (rw p at e))

-- the label's text
pub no_label_text : (l : List ℕ) {m : code.Option ℕ} → m ≡ code.None → true ≡ all_readable (label_texts (label_at l m))
unfolding all_readable label_texts label_at
no_label_text l e = rw e

pub label_text_is : (l : List ℕ) {m : code.Option ℕ} {n : ℕ} → m ≡ code.Some n → {b : Bool} → b ≡ is_some (readable (value_at l (length l - n)))
    → b ≡ all_readable (label_texts (label_at l m))
unfolding all_readable label_texts label_at is_some
label_text_is l {n = n} q {b} e = rw q (go (is_some (readable (value_at l (length l - n)))) e)
  where
    go : (x : Bool) → b ≡ x → b ≡ (x && true)
    go true p = p
    go false p = p

-- ---- the parts

texts_append : (vs bs : List (List ℕ)) → all_readable (vs ++ bs) ≡ (all_readable vs && all_readable bs)
unfolding all_readable
texts_append [] bs = refl
texts_append (l ∷ vs) bs = rw (texts_append vs bs) (go (is_some (readable l)) (all_readable vs) (all_readable bs))
  where
    go : (x y z : Bool) → (x && (y && z)) ≡ ((x && y) && z)
    go true y z = refl
    go false y z = refl

-- the size of a rule's tree is there where the bytes are a rule
pub rule_is : (b : List ℕ) {n : code.Option ℕ} → n ≡ size_of (rule b) → is_some (rule b) ≡ code.is_some n
unfolding size_of is_some
rule_is b e = go (rule b) e
  where
    go : (r : Option Term) {n : code.Option ℕ} → n ≡ size_of r → is_some r ≡ code.is_some n
    go none p = rw p
    go (some t) p = rw p

module _ (l : List ℕ) (vs bs : List (List ℕ)) {n : Bool} (e : is_some (rule (value_at l 0)) ≡ not n) where
  pub rule_none : n ≡ true → some refusal.Rule ≡ parts_lack (value_at l 0) (vs ++ bs)
  unfolding parts_lack
  rule_none z = rw (e, z)

  module _ (z : n ≡ false) {a : Bool} (f : a ≡ all_readable vs) where
    pub text_none : a ≡ false → some refusal.Text ≡ parts_lack (value_at l 0) (vs ++ bs)
    unfolding parts_lack
    text_none q = rw (e, z, texts_append vs bs, ← f, q)

    module _ (g : a ≡ true) {b : Bool} (h : b ≡ all_readable bs) where
      pub label_none : b ≡ false → some refusal.Text ≡ parts_lack (value_at l 0) (vs ++ bs)
      unfolding parts_lack
      label_none q = rw (e, z, texts_append vs bs, ← f, g, ← h, q)

      pub all_checked : b ≡ true → none ≡ parts_lack (value_at l 0) (vs ++ bs)
      unfolding parts_lack
      all_checked q = rw (e, z, texts_append vs bs, ← f, g, ← h, q)

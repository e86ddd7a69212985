-- What the size of a rule's tree says to callers: none where the bytes are no rule, else how many nodes, and that twice as many do not wrap.
-- Assumes nothing.
use Prim.Native.Nat.{ℕ, ◌*◌, ◌≤◌}
use mathlib.Core.Path.{◌≡◌, refl, ap}
use mathlib.Core.List.{List}
use mathlib.Core.Option.{Option, none, some}
use Rattle.std.specs.Prelude.{None, Some}
use native.Mathlib.Omega.{arith}
use lib.ListN.{length}
use Rattle.calculus.specs.Tree.{size}
use Rattle.calculus.specs.Term.{Term}
use Rattle.calculus.specs.Bytes.{rule}
use Rattle.calculus.specs.Abstraction.{translate, rule_tree}
use Rattle.calculus.proofs.Rule.{rule_exact}
use Rattle.calculus.proofs.Size.{translate_within, rule_size_lem}
use Rattle.rule_size.specs.Weight.{size_of}
use Rattle.rule_size.proofs.Weights.{weight_closed, weight_most}

pub no_rule : (b : List ℕ) → None ≡ size_of (rule b) → rule b ≡ none
unfolding size_of
no_rule b e = go (rule b) refl e
  where
    go : (r : Option Term) → rule b ≡ r → None ≡ size_of r → r ≡ none
    go none p q = refl
    go (some t) p q = cc

-- a rule's tree has n nodes: no more than three times 5 to the 16th for each of 4,096 bytes
pub record Sized (b : List ℕ) (n : ℕ) : Type 0 where
  pub term : Term
  pub is_rule : rule b ≡ some term
  pub nodes : n ≡ size (rule_tree term)
  pub most : n ≤ 457763671875 * 4096

pub sized : (b : List ℕ) {n : ℕ} → Some n ≡ size_of (rule b) → Sized b n
unfolding size_of
sized b {n} e = go (rule b) refl e
  where
    go : (r : Option Term) → rule b ≡ r → Some n ≡ size_of r → Sized b n
    go none p q = cc
    go (some t) p q =
        let i = (rule_exact b t).0 p in
        let w = weight_closed (translate t) (translate_within t 0 i.closed) in
        let m = weight_most t 0 (omega (arith, i.shallow)) in
        let x : n ≡ size (rule_tree t) = cc in
        record { term = t; is_rule = p; nodes = x; most = omega (arith, rule_size_lem i, ap length i.whole, i.short) }

-- Laws of the comparison with a node's words, one for each way that its code goes. Assumes nothing.
use Prim.Native.Nat.{ℕ}
use mathlib.Core.Path.{◌≡◌}
use mathlib.Core.List.{List}
use lib.Dec.{eqb}
use borrow.Author.Tests.{eq-eqb, ne_eqb}
use Rattle.table.specs.Nodes.{first, second, has_words}

module _ (w : List ℕ) (i a b x : ℕ) (p : x ≡ first w i) where
  pub words_then : (y : ℕ) → y ≡ second w i → x ≡ a → eqb y b ≡ has_words w i a b
  unfolding has_words
  words_then y q e = rw (← p, ← q, eq-eqb x a e)

  pub words_else : (x ≡ a → ⊥) → eqb x a ≡ has_words w i a b
  unfolding has_words
  words_else n = rw (← p, ne_eqb x a n)

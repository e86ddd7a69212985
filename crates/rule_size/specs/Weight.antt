-- The size of a rule's tree, counted in one pass over its bytes. Assumes nothing: these are definitions.
use Rattle.std.specs.Prelude.{ℕ, zero, suc, ◌+◌, ◌-◌, ◌*◌, length, Option as Optional, None, Some}
use Rattle.std.proofs.Math.Option.{Option, none, some}
use Rattle.calculus.specs.Tree.{size}
use Rattle.calculus.specs.Term.{Term}
use Rattle.calculus.specs.Bytes.{bytes}
use Rattle.calculus.specs.Abstraction.{Combination, leaf, app, var, translate, rule_tree}
use Rattle.rule_size.specs.declared.Measured.{Measured}

-- "A term of k leaves and variables, m of them x, becomes one of 5k − 2 + 2m": each abstraction around a leaf makes it count five times.
unfoldable pub leaf_weight : ℕ → ℕ
leaf_weight zero = 1
leaf_weight (suc d) = 5 * leaf_weight d

-- What a term counts under d abstractions: a leaf or a variable 5 for each of them, and a variable besides 2 where its own is translated, for
-- each abstraction around that one. An abstraction takes 2 away where it is translated (the theorem `weight_bracket`); under none, a term counts
-- its leaves (`weight_closed`).
unfoldable pub weight : ℕ → Combination → ℕ
weight d leaf = leaf_weight d
weight d (app u v) = weight d u + weight d v
weight d (var i) = leaf_weight d + 2 * leaf_weight (d - 1 - i)

-- a term that was read at `at` under d abstractions: the place after it, and what it counts; 0 and 0 for none
unfoldable pub measured : ℕ → ℕ → Option Term → Measured
measured at d none = record { next = 0; weight = 0 }
measured at d (some t) = record { next = at + length (bytes t); weight = weight d (translate t) }

-- the size of a rule's tree
unfoldable pub size_of : Option Term → Optional ℕ
size_of none = None
size_of (some t) = Some (size (rule_tree t))

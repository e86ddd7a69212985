-- What is claimed of weights, in whole grams and without the definitions that compute on digits ([9]). Assumes nothing: these are definitions.
use Rattle.std.specs.Prelude.{ℕ, ◌+◌, ◌*◌, ◌≤◌, ◌<◌, ◌≡◌, true, List, [], length, get_or, Result, Ok, Err}
use Rattle.std.specs.declared.cmp.Ordering.{Ordering}
use Rattle.std.specs.declared.cmp.Ordering.TheVariants.{Less, Equal, Greater}
use Rattle.std.proofs.Math.Option.{none}
use Rattle.calculus.specs.Tree.{Tree}
use Rattle.table.specs.Nodes.{Table, Placed, got, capacity, tree_at, lay, cleared}
use Rattle.table.specs.Outcome.{Outcome, whole, at_entry, placed}
use Rattle.table.specs.Claims.{Lacking, EntryLacks}
use Rattle.table.specs.Refusal.{not_made}
use Rattle.table.specs.Same.{Comparable}
use Rattle.table.specs.declared.Refusal.{Refusal}
use Rattle.table.specs.declared.Refusal.TheVariants.{Node, Nodes, Weight}
use Rattle.table.specs.declared.Made.{Made}
use Rattle.weights.specs.Digits.{list_tree, grams_of}

-- each number is a decimal digit
abbrev pub Decimal : List ℕ → Type 0
Decimal l = (i : ℕ) → get_or l i 0 ≤ 9

-- "exactly nine decimal digits" ([9])
pub record NineDigits (l : List ℕ) : Type 0 where
  pub nine : length l ≡ 9
  pub decimal : Decimal l

-- "A weight is [..] in whole grams, written as a tree list of exactly nine decimal digits, lowest first." ([9]): the tree x is the weight of g grams. A
-- weight is the paper's term.
pub record IsWeight (x : Tree) (g : ℕ) : Type 0 where
  pub digits : List ℕ
  pub nine_digits : NineDigits digits
  pub tree : x ≡ list_tree digits
  pub grams : g ≡ grams_of digits

-- the trees of nodes a and b are the weights of g and h grams
pub record AreWeights (w : List ℕ) (a b g h : ℕ) : Type 0 where
  pub one : IsWeight (tree_at w a) g
  pub two : IsWeight (tree_at w b) h

-- "then 8" ([9]), which comes "only when a node not yet in the table is wanted and the table is full" ([8]): the outcome o where the tree x is laid out. On
-- 8 the nodes made, which are all from the first new one to the capacity, are cleared.
pub data LaidOut (w : List ℕ) (u : ℕ) (x : Tree) (o : Outcome (Result Made Refusal)) : Type 0 where
  no_nodes : {z : Table} → Lacking (record { words = w; used = u }) x z → o ≡ whole (not_made Nodes) (cleared w (u * 2) (capacity w * 2)) [] → LaidOut w u x o
  enough : {m : Placed} → lay (record { words = w; used = u }) x ≡ got m → o ≡ placed m [] → LaidOut w u x o

-- Each outcome o of `weight` with its condition: 1, 2, 14 and 8, or the node of the weight
pub data WeightMade (w : List ℕ) (u g : ℕ) (o : Outcome (Result Made Refusal)) : Type 0 where
  of_entry : {e : Refusal} → EntryLacks true w u [] e → o ≡ whole (not_made e) w [] → WeightMade w u g o
  above_top : at_entry true w u [] ≡ none → 999999999 < g → o ≡ whole (not_made Weight) w [] → WeightMade w u g o
  laid_out : at_entry true w u [] ≡ none → {x : Tree} → IsWeight x g → LaidOut w u x o → WeightMade w u g o

-- Each outcome o of `add_weights` with its condition: 1, 2, "14, not a weight or a sum above the top, after 3; then 8" ([9]), or the node of the sum
pub data WeightsAdded (w : List ℕ) (u a b : ℕ) (o : Outcome (Result Made Refusal)) : Type 0 where
  of_entry : {e : Refusal} → EntryLacks true w u [] e → o ≡ whole (not_made e) w [] → WeightsAdded w u a b o
  not_in_use : at_entry true w u [] ≡ none → (a < u → b < u → ⊥) → o ≡ whole (not_made Node) w [] → WeightsAdded w u a b o
  not_weights : Comparable w u a b → ((g h : ℕ) → AreWeights w a b g h → ⊥) → o ≡ whole (not_made Weight) w [] → WeightsAdded w u a b o
  above_top : Comparable w u a b → {g h : ℕ} → AreWeights w a b g h → 999999999 < g + h → o ≡ whole (not_made Weight) w [] → WeightsAdded w u a b o
  laid_out : Comparable w u a b → {g h : ℕ} → AreWeights w a b g h → {x : Tree} → IsWeight x (g + h) → LaidOut w u x o → WeightsAdded w u a b o

-- Each answer of `grams` with its condition
pub data Weighs (w : List ℕ) (u v : ℕ) : Result ℕ Refusal → Type 0 where
  of_entry : {e : Refusal} → EntryLacks true w u [] e → Weighs w u v (Err e)
  not_in_use : at_entry true w u [] ≡ none → u ≤ v → Weighs w u v (Err Node)
  not_weight : at_entry true w u [] ≡ none → v < u → ((g : ℕ) → IsWeight (tree_at w v) g → ⊥) → Weighs w u v (Err Weight)
  weighs : at_entry true w u [] ≡ none → v < u → {g : ℕ} → IsWeight (tree_at w v) g → Weighs w u v (Ok g)

-- Each answer of `compare_weights` with its condition
pub data Compares (w : List ℕ) (u a b : ℕ) : Result Ordering Refusal → Type 0 where
  of_entry : {e : Refusal} → EntryLacks true w u [] e → Compares w u a b (Err e)
  not_in_use : at_entry true w u [] ≡ none → (a < u → b < u → ⊥) → Compares w u a b (Err Node)
  not_weights : Comparable w u a b → ((g h : ℕ) → AreWeights w a b g h → ⊥) → Compares w u a b (Err Weight)
  less : Comparable w u a b → {g h : ℕ} → AreWeights w a b g h → g < h → Compares w u a b (Ok Less)
  equal : Comparable w u a b → {g h : ℕ} → AreWeights w a b g h → g ≡ h → Compares w u a b (Ok Equal)
  greater : Comparable w u a b → {g h : ℕ} → AreWeights w a b g h → h < g → Compares w u a b (Ok Greater)

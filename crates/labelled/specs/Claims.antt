-- What is claimed of Label: what it lacked where it is refused, what it gives where it is not, and what the labelled tree does. Assumes nothing: these are definitions.
use Rattle.std.specs.Prelude.{ℕ, ◌+◌, ◌*◌, ◌≤◌, ◌<◌, ◌≡◌, true, List, [], ◌↔◌}
use Rattle.std.proofs.Math.Option.{none}
use Rattle.calculus.specs.Tree.{Tree}
use Rattle.calculus.specs.declared.Uses.{Uses}
use Rattle.calculus.specs.Uses.{counts, ◌⊕◌, InSteps}
use Rattle.calculus.specs.Rules.{Apply}
use Rattle.table.specs.Nodes.{Table, Placed, got, capacity, find, tree_at, make, cleared}
use Rattle.table.specs.Outcome.{at_entry}
use Rattle.table.specs.declared.Refusal.{Refusal}
use Rattle.table.specs.declared.Refusal.TheVariants.{Node, Nodes}
use Rattle.table.specs.Claims.{Places, EntryLacks}
use Rattle.labelled.specs.Label.{labelled, nodes, label}

-- "New nodes in order" (Operations, Label; [4]): Label of the nodes f and t in a table comes, once those before are there, to want the node with the words a
-- and b in the table z.
pub data LabelWants (table : Table) (f t : ℕ) : Table → ℕ → ℕ → Type 0 where
  the_leaf : LabelWants table f t table 0 0
  its_stem : {n1 : Placed} → make table 0 0 ≡ got n1 → LabelWants table f t n1.table (n1.node + 1) 0
  their_fork : {n1 n2 : Placed} → make table 0 0 ≡ got n1 → make n1.table (n1.node + 1) 0 ≡ got n2
      → LabelWants table f t n2.table (n1.node + 1) (n2.node + 1)
  stem_of_rule : {n1 n2 n3 : Placed} → make table 0 0 ≡ got n1 → make n1.table (n1.node + 1) 0 ≡ got n2
      → make n2.table (n1.node + 1) (n2.node + 1) ≡ got n3 → LabelWants table f t n3.table (f + 1) 0
  fork_of_rule : {n1 n2 n3 n4 : Placed} → make table 0 0 ≡ got n1 → make n1.table (n1.node + 1) 0 ≡ got n2
      → make n2.table (n1.node + 1) (n2.node + 1) ≡ got n3 → make n3.table (f + 1) 0 ≡ got n4
      → LabelWants table f t n4.table (n4.node + 1) (n3.node + 1)
  fork_of_label : {n1 n2 n3 n4 n5 : Placed} → make table 0 0 ≡ got n1 → make n1.table (n1.node + 1) 0 ≡ got n2
      → make n2.table (n1.node + 1) (n2.node + 1) ≡ got n3 → make n3.table (f + 1) 0 ≡ got n4
      → make n4.table (n4.node + 1) (n3.node + 1) ≡ got n5 → LabelWants table f t n5.table (n1.node + 1) (t + 1)
  stem_of_label : {n1 n2 n3 n4 n5 n6 : Placed} → make table 0 0 ≡ got n1 → make n1.table (n1.node + 1) 0 ≡ got n2
      → make n2.table (n1.node + 1) (n2.node + 1) ≡ got n3 → make n3.table (f + 1) 0 ≡ got n4
      → make n4.table (n4.node + 1) (n3.node + 1) ≡ got n5 → make n5.table (n1.node + 1) (t + 1) ≡ got n6
      → LabelWants table f t n6.table (n6.node + 1) 0
  the_whole : {n1 n2 n3 n4 n5 n6 n7 : Placed} → make table 0 0 ≡ got n1 → make n1.table (n1.node + 1) 0 ≡ got n2
      → make n2.table (n1.node + 1) (n2.node + 1) ≡ got n3 → make n3.table (f + 1) 0 ≡ got n4
      → make n4.table (n4.node + 1) (n3.node + 1) ≡ got n5 → make n5.table (n1.node + 1) (t + 1) ≡ got n6
      → make n6.table (n6.node + 1) 0 ≡ got n7 → LabelWants table f t n7.table (n7.node + 1) (n5.node + 1)

-- One of Label's nodes is wanted that is not yet in the table, which has become z and is full.
pub record LabelLacking (table : Table) (f t : ℕ) (z : Table) : Type 0 where
  pub a : ℕ
  pub b : ℕ
  pub wanted : LabelWants table f t z a b
  pub absent : find z.words z.used a b ≡ none
  pub all_used : capacity z.words ≤ z.used

-- The refusal of Label, and the table as it leaves it: "1, 2, then 3 for either number." (Operations, Label), then 8 "only when a node not yet in the table
-- is wanted and the table is full" ([8]). 1 to 3 leave every word as found; on 8 the nodes made are all from the first new one to the capacity.
pub data LabelLacks (w : List ℕ) (u f t : ℕ) : Refusal → List ℕ → Type 0 where
  of_entry : {e : Refusal} → EntryLacks true w u [] e → LabelLacks w u f t e w
  not_in_use : at_entry true w u [] ≡ none → (f < u → t < u → ⊥) → LabelLacks w u f t Node w
  no_nodes : at_entry true w u [] ≡ none → f < u → t < u → {z : Table} → LabelLacking (record { words = w; used = u }) f t z
      → LabelLacks w u f t Nodes (cleared w (u * 2) (capacity w * 2))

-- What a Label that gave node v says: both nodes were in use, the node has the labelled tree, old nodes keep their trees, and at most seven
-- are new: a node is in use, so that node 0 is a leaf and Label's first node is found.
pub record Labels (w : List ℕ) (u f t v u' : ℕ) : Type 0 where
  pub entered : at_entry true w u [] ≡ none
  pub rule_in : f < u
  pub label_in : t < u
  pub places : Places (record { words = w; used = u }) (record { table = record { words = (label w u f t).table; used = u' }; node = v }) (labelled (tree_at w f) (tree_at w t))
  pub nodes_are : nodes (record { words = w; used = u }) f t ≡ got (record { table = record { words = (label w u f t).table; used = u' }; node = v })
  pub used_most : u' ≤ u + 7

-- The uses that a label adds to those of the rule: six steps.
abbrev pub label_uses : Uses
label_uses = counts 0 1 3 2 0

-- What follows from a labelled tree that gave r on N with the uses k: the rule gave r, with all of them but the label's.
pub record OfRule (f N r : Tree) (k : Uses) : Type 0 where
  pub own : Uses
  pub rule_gives : Apply f N r own
  pub uses : k ≡ own ⊕ label_uses

-- "a labelled rule on an argument gives the rule's tree in exactly six more steps, and has no tree where the rule has none" ([4]): P r and Q r are the
-- ways to the tree r without and with the label.
pub record SixMore (P Q : Tree → Uses → Type 0) : Type 0 where
  pub exactly : (r : Tree) (s : ℕ) → InSteps (P r) s ↔ InSteps (Q r) (s + 6)
  pub at_least : (r : Tree) (s : ℕ) → InSteps (Q r) s → 6 ≤ s
  pub no_tree : ((r : Tree) (s : ℕ) → InSteps (P r) s → ⊥) → (r : Tree) (s : ℕ) → InSteps (Q r) s → ⊥

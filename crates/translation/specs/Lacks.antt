-- What Translate lacks where it is refused, and what it had where it gives a node. Assumes nothing: these are definitions.
use Rattle.std.specs.Prelude.{ℕ, ◌*◌, ◌≤◌, ◌<◌, ◌≡◌, true, List}
use Rattle.std.proofs.Math.Option.{none, some}
use Rattle.calculus.specs.Tree.{size}
use Rattle.calculus.specs.Term.{Term}
use Rattle.calculus.specs.Bytes.{rule}
use Rattle.calculus.specs.Abstraction.{rule_tree}
use Rattle.table.specs.Nodes.{Table, Placed, got, capacity, lay, cleared}
use Rattle.table.specs.Outcome.{Entered, zeros, frames, placed}
use Rattle.table.specs.Claims.{Lays, Lacking, EntryLacks}
use Rattle.table.specs.declared.Refusal.{Refusal}
use Rattle.table.specs.declared.Refusal.TheVariants.{Rule, Nodes, Frames}
use Rattle.translation.specs.Translate.{translate}

-- The refusal, and the table and the stack as they are left: "5: bytes not a rule. [..] 9: fewer than two frames for each node of the tree." (Operations,
-- Translate), then 8 "only when a node not yet in the table is wanted and the table is full" ([8]), each met only where the checks before it were passed.
-- On 8 the nodes made are all from the first new one to the capacity.
pub data Lacks (w : List ℕ) (u : ℕ) (s b : List ℕ) : Refusal → List ℕ → List ℕ → Type 0 where
  of_entry : {e : Refusal} → EntryLacks true w u s e → Lacks w u s b e w s
  no_rule : Entered true w u s → rule b ≡ none → Lacks w u s b Rule w s
  no_frames : Entered true w u s → {t : Term} → rule b ≡ some t → frames s < 2 * size (rule_tree t) → Lacks w u s b Frames w (zeros s)
  no_nodes : Entered true w u s → {t : Term} → rule b ≡ some t → 2 * size (rule_tree t) ≤ frames s → {z : Table} → Lacking (record { words = w; used = u }) (rule_tree t) z
      → Lacks w u s b Nodes (cleared w (u * 2) (capacity w * 2)) (zeros s)

-- What Translate had where it lays out the tree of the term t.
pub record Has (w : List ℕ) (u : ℕ) (s b : List ℕ) (t : Term) : Type 0 where
  pub entered : Entered true w u s
  pub is_rule : rule b ≡ some t
  pub frames_enough : 2 * size (rule_tree t) ≤ frames s
  pub placed_as : Placed
  pub nodes_enough : lay (record { words = w; used = u }) (rule_tree t) ≡ got placed_as

-- What a Translate that gave node v says: its bytes are a rule, the node has the translated rule's tree, "Nodes lie as Read would lay its text",
-- and old nodes keep their trees.
pub record Translates (w : List ℕ) (u : ℕ) (s b : List ℕ) (v u' : ℕ) : Type 0 where
  pub entry : Entered true w u s
  pub term : Term
  pub is_rule : rule b ≡ some term
  pub had : Has w u s b term
  pub lays : Lays w u (rule_tree term) (translate w u s b) v u'
  pub laid_is : translate w u s b ≡ placed had.placed_as s
  pub stack : (translate w u s b).stack ≡ zeros s

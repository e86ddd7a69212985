-- Lists of Read, Translate and Apply calls on one table (The two runs of demand 3). A call's outcome is the definition that the operation's
-- contract cites. Assumes nothing: these are definitions.
use Rattle.std.specs.Prelude.{ℕ, ◌+◌, ◌≡◌, List, [], ◌∷◌, ◌++◌}
use Rattle.std.proofs.Math.Option.{some}
use Rattle.calculus.specs.Tree.{Tree}
use Rattle.calculus.specs.declared.Uses.{Uses}
use Rattle.table.specs.Nodes.{Table, tree_at}
use Rattle.table.specs.Refusal.{made_numbers, made}
use Rattle.ternary.specs.Text.{tree_of}
use Rattle.ternary.specs.Read as ternary
use Rattle.translation.specs.Translate as translation
use Rattle.applying.specs.Apply as applying
use Rattle.applying.specs.Apply.{applied}

-- A call with all that its caller chooses: the stack's words, and the text, the bytes or the two node numbers and the step limit.
pub data Call : Type 0 where
  read : List ℕ → List ℕ → Call
  translate : List ℕ → List ℕ → Call
  apply : List ℕ → ℕ → ℕ → ℕ → Call

-- "Each call gets the words and the used that the last one left": what a call leaves of them, refused or not
unfoldable pub left : Call → Table → Table
left (read s l) t =
    let o = ternary.read t.words t.used s l in
    record { words = o.table; used = (made_numbers t.used o.answer).used }
left (translate s b) t =
    let o = translation.translate t.words t.used s b in
    record { words = o.table; used = (made_numbers t.used o.answer).used }
left (apply s f n limit) t =
    let o = applying.apply t.words t.used s f n limit in
    record { words = o.table; used = (applying.applied_numbers t.used o.answer).used }

-- what a list of calls leaves
unfoldable pub left_by : List Call → Table → Table
left_by [] t = t
left_by (c ∷ cs) t = left_by cs (left c t)

-- A node that was applied to, and the calls of the list before that: "Its arguments are the trees of the nodes applied to", in a list that
-- starts from t.
pub record Argument : Type 0 where
  pub before : List Call
  pub node : ℕ

unfoldable pub argument_tree : Table → Argument → Tree
argument_tree t a = tree_at (left_by a.before t).words a.node

-- In a list from the table t, after the calls `before`, where the run's last node is f: each further Apply applies the node last given, to the
-- next argument, and the last node given has the tree r; k is the sum of the steps that they returned. Other calls may stand between.
pub data Applied (t : Table) : List Call → List Call → ℕ → List Argument → Tree → ℕ → Type 0 where
  at_end : {before cs : List Call} {f : ℕ} → Applied t before cs f [] (tree_at (left_by before t).words f) 0
  other : {before : List Call} {c : Call} {cs : List Call} {f : ℕ} {args : List Argument} {r : Tree} {k : ℕ}
      → Applied t (before ++ (c ∷ [])) cs f args r k
      → Applied t before (c ∷ cs) f args r k
  applies : {before : List Call} {s : List ℕ} {f n limit v u j : ℕ} {i : Uses} {cs : List Call} {args : List Argument} {r : Tree} {k : ℕ}
      → (applying.apply (left_by before t).words (left_by before t).used s f n limit).answer ≡ applied v u j i
      → Applied t (before ++ (apply s f n limit ∷ [])) cs v args r k
      → Applied t before (apply s f n limit ∷ cs) f (record { before = before; node = n } ∷ args) r (j + k)

-- "An engine's run is completed in it where a Translate succeeded and after it n Apply calls did, one after another": of the rule b, on the
-- arguments args, with the tree r of the last node given, in k steps.
pub data Completed (t : Table) : List Call → List Call → List ℕ → List Argument → Tree → ℕ → Type 0 where
  other : {before : List Call} {c : Call} {cs : List Call} {b : List ℕ} {args : List Argument} {r : Tree} {k : ℕ}
      → Completed t (before ++ (c ∷ [])) cs b args r k
      → Completed t before (c ∷ cs) b args r k
  translates : {before : List Call} {s b : List ℕ} {v u : ℕ} {cs : List Call} {args : List Argument} {r : Tree} {k : ℕ}
      → (translation.translate (left_by before t).words (left_by before t).used s b).answer ≡ made v u
      → Applied t (before ++ (translate s b ∷ [])) cs v args r k
      → Completed t before (translate s b ∷ cs) b args r k

-- a Read in the list gave node v, and its text's tree is x
pub data Gave : List Call → Table → ℕ → Tree → Type 0 where
  other : {c : Call} {cs : List Call} {t : Table} {v : ℕ} {x : Tree} → Gave cs (left c t) v x → Gave (c ∷ cs) t v x
  reads : {s l : List ℕ} {v u : ℕ} {cs : List Call} {t : Table} {x : Tree}
      → (ternary.read t.words t.used s l).answer ≡ made v u
      → tree_of l ≡ some x
      → Gave (read s l ∷ cs) t v x

-- The labelled tree, and the whole outcome of Label (Operations, Label). Assumes nothing: these are definitions.
use Rattle.std.specs.Prelude.{ℕ, ◌+◌, true, cond, ◌&&◌, List, [], ltb, Result}
use Rattle.calculus.specs.Tree.{Tree, leaf, stem, fork}
use Rattle.table.specs.Nodes.{Table, Making, make, and_then}
use Rattle.table.specs.Outcome.{Outcome, whole, settled, at_entry, unless}
use Rattle.table.specs.declared.Refusal.TheVariants as refusal
use Rattle.table.specs.Refusal.{not_made}
use Rattle.table.specs.declared.Refusal.{Refusal}
use Rattle.table.specs.declared.Made.{Made}

-- "Label a rule with a label tree t (section 5.4)"; "Label puts K before the label tree, Δ(Δ(Kt))(Δ(Δf)(KK))." ([4]) K is ΔΔ, Kt is ΔΔt and KK is
-- ΔΔ(ΔΔ).
abbrev pub labelled : Tree → Tree → Tree
labelled f t = fork (stem (fork leaf t)) (fork (stem f) (fork leaf (stem leaf)))

-- "New nodes in order: leaf; its stem; fork of these; stem of f; fork of it and the third" (Operations, Label); "the sixth is the fork of the first and
-- t, then its stem, then the whole" ([4]): the fork of that stem and the fifth.
unfoldable pub nodes : Table → ℕ → ℕ → Making
nodes table f t =
    and_then (make table 0 0) (λ n1.
    and_then (make n1.table (n1.node + 1) 0) (λ n2.
    and_then (make n2.table (n1.node + 1) (n2.node + 1)) (λ n3.
    and_then (make n3.table (f + 1) 0) (λ n4.
    and_then (make n4.table (n4.node + 1) (n3.node + 1)) (λ n5.
    and_then (make n5.table (n1.node + 1) (t + 1)) (λ n6.
    and_then (make n6.table (n6.node + 1) 0) (λ n7.
    make n7.table (n7.node + 1) (n5.node + 1))))))))

-- Label on a table that passed 1 and 2, with both nodes in use: 8 is met "while making nodes" ([8]).
unfoldable pub label_rule : List ℕ → ℕ → ℕ → ℕ → Outcome (Result Made Refusal)
label_rule w u f t = settled u [] (nodes (record { words = w; used = u }) f t)

-- Label the rule at node f with the tree of node t, in the table w with u nodes in use: "1, 2, then 3 for either number.", then 8. "Label has no
-- stack."
unfoldable pub label : List ℕ → ℕ → ℕ → ℕ → Outcome (Result Made Refusal)
label w u f t =
    unless (at_entry true w u []) (λ e. whole (not_made e) w [])
    (cond (ltb f u && ltb t u) (label_rule w u f t) (whole (not_made refusal.Node) w []))

-- One list of calls, computed: two runs are completed in it, with refused calls and calls of the other run between, and demand 3's claim gives their
-- direct runs. So the claim is not empty. Assumes nothing.
use Prim.Native.Nat.{ℕ}
use mathlib.Core.Path.{◌≡◌, refl}
use mathlib.Core.List.{List, [], ◌∷◌}
use native.Mathlib.Omega.{arith}
use lib.ListN.{take, replicate}
use Rattle.calculus.specs.Tree.{leaf, stem, size}
use Rattle.calculus.specs.Term.{Term, app, abs, var, parameters, body_under}
use Rattle.calculus.specs.Bytes as bytes
use Rattle.calculus.specs.Abstraction as abstraction
use Rattle.calculus.specs.Runs.{Direct, L, X, difference, body}
use Rattle.calculus.proofs.Endless.{ω_rule}
use Rattle.calculus.proofs.Vectors.{first_rule, first_counts}
use Rattle.table.specs.Nodes as nodes
use Rattle.table.specs.Nodes.{Table}
use Rattle.table.specs.Outcome as outcome
use Rattle.table.specs.Refusal as refusal
use Rattle.table.specs.Refusal.{Numbers, made_numbers}
use Rattle.ternary.specs.Text as text
use Rattle.ternary.specs.Read as ternary
use Rattle.translation.specs.Translate as translation
use Rattle.applying.specs.Machine as machine
use Rattle.applying.specs.Apply as applying
use Rattle.calls.specs.Calls.{Call, read, translate, apply, left, left_by, Argument, Applied, at_end, applies, Completed, translates, Gave, reads}
use Rattle.calls.specs.Claim.{ArgumentTrees, of_read, Claim}
use Rattle.calls.proofs.Lists.{demand_3_in_lists}

-- a table of 64 nodes that has a leaf in node 0, and 7 in each word that is not in use
abbrev start : Table
start = record { words = 0 ∷ 0 ∷ replicate 126 7; used = 1 }

-- 30 frames
abbrev stack : List ℕ
stack = replicate 90 5

-- λx.xx and λx.λy.x
abbrev twice : Term
twice = abs (app (var 0) (var 0))

abbrev first : Term
first = abs (abs (var 1))

abbrev twice_bytes : List ℕ
twice_bytes = 2 ∷ 1 ∷ 3 ∷ 0 ∷ 3 ∷ 0 ∷ []

abbrev first_bytes : List ℕ
first_bytes = 2 ∷ 2 ∷ 3 ∷ 1 ∷ []

abbrev sequence : List Call
sequence =
    -- a text that is none
    read stack (0x33 ∷ [])
    ∷ translate stack twice_bytes
    ∷ read stack (0x30 ∷ [])
    -- one step too few
    ∷ apply stack 4 0 9
    ∷ translate stack first_bytes
    ∷ apply stack 4 0 10
    ∷ apply stack 8 0 1000
    ∷ read stack (0x31 ∷ 0x30 ∷ [])
    -- a node that is not in use
    ∷ apply stack 64 0 1000
    ∷ apply stack 5 1 1000
    -- a text whose stem alone is new
    ∷ read stack (0x31 ∷ 0x31 ∷ 0x30 ∷ [])
    ∷ []

-- the numbers that a call returns, and those of each call of a list
abbrev numbers : Call → Table → Numbers
numbers (read s l) t = made_numbers t.used (ternary.read t.words t.used s l).answer
numbers (translate s b) t = made_numbers t.used (translation.translate t.words t.used s b).answer
numbers (apply s f n limit) t = applying.applied_numbers t.used (applying.apply t.words t.used s f n limit).answer

abbrev numbers_by : List Call → Table → List Numbers
numbers_by [] t = []
numbers_by (c ∷ cs) t = numbers c t ∷ numbers_by cs (left c t)

abbrev returned : ℕ → ℕ → ℕ → ℕ → Numbers
returned e n u k = record { refusal = e; node = n; used = u; steps = k; digits = 0 }

-- the Apply of λx.xx, and the two of λx.λy.x: each argument with the calls before it
abbrev of_twice : List Argument
of_twice = record { before = take 5 sequence; node = 0 } ∷ []

abbrev of_first : List Argument
of_first = record { before = take 6 sequence; node = 0 } ∷ record { before = take 9 sequence; node = 1 } ∷ []

-- What holds of the list: the refusal, node number, used and steps of each call, the two runs, and the Reads that gave their arguments.
pub record Computed : Type 0 where
  pub answers : numbers_by sequence start
      ≡ returned 4 0 1 0
      ∷ returned 0 4 5 0
      ∷ returned 0 0 5 0
      ∷ returned 7 0 5 0
      ∷ returned 0 8 9 0
      ∷ returned 0 1 9 10
      ∷ returned 0 5 9 10
      ∷ returned 0 1 9 0
      ∷ returned 3 0 9 0
      ∷ returned 0 0 9 1
      ∷ returned 0 9 10 0
      ∷ []
  pub twice_run : Completed start [] sequence twice_bytes of_twice (stem leaf) 10
  pub first_run : Completed start [] sequence first_bytes of_first leaf 11
  pub gave_leaf : Gave sequence start 0 leaf
  pub gave_stem : Gave sequence start 1 (stem leaf)

pub computed : Computed
unfolding left left_by size
    bytes.bytes bytes.abstraction bytes.application bytes.argument bytes.parse bytes.whole bytes.rule
    abstraction.bracket abstraction.translate abstraction.grown abstraction.tree_of abstraction.rule_tree
    nodes.broken nodes.has_words nodes.find nodes.is_none nodes.sound nodes.branches nodes.tree_to nodes.new_node nodes.or_new nodes.make nodes.and_then nodes.lay
    outcome.fits outcome.at_entry outcome.stopped outcome.placed outcome.settled outcome.laid outcome.laid_within
    refusal.number refusal.refused_numbers refusal.made_numbers
    text.take_leaf text.take_stem text.take_fork text.take_digit text.pending text.single text.tree_of text.many_pending text.most_pending
    ternary.readable ternary.read_tree ternary.read
    translation.translate_rule translation.translate
    machine.fork_rule machine.rule machine.resume machine.grow_by machine.grow machine.hold machine.use_rule machine.take_rule machine.turn machine.after machine.uses
    applying.settle applying.apply_nodes applying.apply applying.applied_numbers
computed =
    record {
      answers = refl;
      twice_run = Completed.other (translates refl (Applied.other (Applied.other (Applied.other (applies refl at_end)))));
      first_run = Completed.other (Completed.other (Completed.other (Completed.other
          (translates refl (Applied.other (applies refl (Applied.other (Applied.other (applies refl at_end)))))))));
      gave_leaf = Gave.other (Gave.other (reads refl refl));
      gave_stem = Gave.other (Gave.other (Gave.other (Gave.other (Gave.other (Gave.other (Gave.other (reads refl refl)))))));
    }

-- the parameters of λx.xx, and 2L + 5X − 1
twice_counts : (parameters twice ≡ 1) × (difference twice ≡ 9)
unfolding parameters L X difference body body_under abstraction.translate abstraction.leaves abstraction.nearest
twice_counts = (refl, refl)

twice_claim : Claim sequence start twice_bytes of_twice (stem leaf) 10
twice_claim = demand_3_in_lists sequence start twice_bytes of_twice (stem leaf) 10 computed.twice_run

first_claim : Claim sequence start first_bytes of_first leaf 11
first_claim = demand_3_in_lists sequence start first_bytes of_first leaf 11 computed.first_run

-- What the claim says of them: on the texts' trees, the direct run of λx.xx on 0 ends in 10, after 10 − 9 steps; that of λx.λy.x on 0 and 10 ends in 0.
pub twice_direct : Direct twice (leaf ∷ []) (stem leaf) 1
twice_direct =
    let c = twice_claim in
    let e : c.term ≡ twice = cc (c.is_rule, ω_rule) in
    let m : ArgumentTrees sequence start of_twice (leaf ∷ []) = of_read computed.gave_leaf ArgumentTrees.at_end in
    let d = c.direct (leaf ∷ []) m (omega arith) (rw e (omega (arith, twice_counts.0))) in
    let k = c.steps (leaf ∷ []) m refl d.0 d.1 in
    let j : d.0 ≡ 1 = omega (arith, rw e at k, twice_counts.1) in
    rw (e, j) at d.1

pub first_direct : (j : ℕ) × Direct first (leaf ∷ stem leaf ∷ []) leaf j
first_direct =
    let c = first_claim in
    let e : c.term ≡ first = cc (c.is_rule, first_rule) in
    let m : ArgumentTrees sequence start of_first (leaf ∷ stem leaf ∷ []) = of_read computed.gave_leaf (of_read computed.gave_stem ArgumentTrees.at_end) in
    rw e at (c.direct (leaf ∷ stem leaf ∷ []) m (omega arith) (rw e (omega (arith, first_counts.0))))

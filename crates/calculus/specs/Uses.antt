-- Counts of the five rules' uses ([5] of document 02). Assumes nothing: these are definitions.
use Rattle.std.specs.Prelude.{ℕ, ◌+◌, ◌≡◌}
use Rattle.calculus.specs.declared.Uses.{Uses}

infixl 65 ◌⊕◌
-- "the uses of each, five counts in document 01's order": of leaf, stem, drop, spread and triage
abbrev pub counts : ℕ → ℕ → ℕ → ℕ → ℕ → Uses
counts l s d p t = record { leaf = l; stem = s; drop = d; spread = p; triage = t }

-- no use, and one use of each rule
abbrev pub no_uses : Uses
no_uses = counts 0 0 0 0 0

abbrev pub one_leaf : Uses
one_leaf = counts 1 0 0 0 0

abbrev pub one_stem : Uses
one_stem = counts 0 1 0 0 0

abbrev pub one_drop : Uses
one_drop = counts 0 0 1 0 0

abbrev pub one_spread : Uses
one_spread = counts 0 0 0 1 0

abbrev pub one_triage : Uses
one_triage = counts 0 0 0 0 1

-- the counts of both, rule by rule
abbrev pub ◌⊕◌ : Uses → Uses → Uses
a ⊕ b =
    record {
      leaf = a.leaf + b.leaf;
      stem = a.stem + b.stem;
      drop = a.drop + b.drop;
      spread = a.spread + b.spread;
      triage = a.triage + b.triage;
    }

-- "Their sum is the steps": "Each use is one step" (The five rules of document 01)
abbrev pub steps : Uses → ℕ
steps u = u.leaf + u.stem + u.drop + u.spread + u.triage

-- "leaf: [..] one new node. stem: [..] one new node." (The five rules of document 01) "leaf plus stem is the number of nodes made by Apply" ([5]),
-- which "becomes an upper bound" ([8]): a node that is found is not made
abbrev pub new_nodes : Uses → ℕ
new_nodes u = u.leaf + u.stem

-- P holds of some uses, and their sum is k: "The steps are the uses" (The two runs of demand 3, document 01)
pub record InSteps (P : Uses → Type 0) (k : ℕ) : Type 0 where
  pub uses : Uses
  pub gives : P uses
  pub counted : steps uses ≡ k

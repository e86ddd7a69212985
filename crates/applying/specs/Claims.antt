-- What is claimed of an Apply that completes. Assumes nothing: these are definitions.
use Rattle.std.specs.Prelude.{ℕ, ◌+◌, ◌≤◌, ◌<◌, ◌≡◌, List, leb}
use Rattle.std.proofs.Math.Option.{none}
use Rattle.calculus.specs.Tree.{Tree}
use Rattle.calculus.specs.declared.Uses.{Uses}
use Rattle.calculus.specs.Uses.{steps, new_nodes}
use Rattle.calculus.specs.Rules.{Apply}
use Rattle.table.specs.Nodes.{Sound, tree_at}
use Rattle.table.specs.Outcome.{frames, zeros, at_entry}
use Rattle.table.specs.Claims.{Extends}
use Rattle.applying.specs.Machine.{done, uses}
use Rattle.applying.specs.Apply.{begin, apply, applied}

-- What a completed application is, that gave node v, j steps and the uses k, and left u' nodes in use: "Each use is one step, counted when taken" (The five
-- rules); "Their sum is the steps" ([5]), and leaf plus stem is at least the number of nodes made: "[5]'s node sum becomes an upper bound" ([8]); "Success
-- also sets the stack to 0, and no other table word than those of new nodes changes." (Operations)
pub record Follows (w : List ℕ) (u : ℕ) (s : List ℕ) (f n limit v u' j : ℕ) (k : Uses) : Type 0 where
  pub entered : at_entry (leb limit 1000000) w u s ≡ none
  pub function_in : f < u
  pub argument_in : n < u
  pub applies : Apply (tree_at w f) (tree_at w n) (tree_at (apply w u s f n limit).table v) k
  -- the uses of every application of the one program to the other by the five rules are these
  pub only : {r : Tree} {i : Uses} → Apply (tree_at w f) (tree_at w n) r i → i ≡ k
  pub steps_are : j ≡ steps k
  pub within_limit : j ≤ limit
  pub used_most : u' ≤ u + new_nodes k
  pub ends : uses (frames s) limit (begin w u f n) ≡ done (record { table = record { words = (apply w u s f n limit).table; used = u' }; node = v }) k
  pub fine : Sound (record { words = (apply w u s f n limit).table; used = u' })
  pub extends : Extends (record { words = w; used = u }) (record { words = (apply w u s f n limit).table; used = u' })
  pub inside : v < u'
  pub stack : (apply w u s f n limit).stack ≡ zeros s

-- the answer is a node of the tree r after the uses k
abbrev pub Gives : List ℕ → ℕ → List ℕ → ℕ → ℕ → ℕ → Tree → Uses → Type 0
Gives w u s f n limit r k = (v : ℕ) × (u' : ℕ) × ((apply w u s f n limit).answer ≡ applied v u' (steps k) k) × (tree_at (apply w u s f n limit).table v ≡ r)

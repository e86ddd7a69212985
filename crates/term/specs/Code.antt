-- What the functions that lay out a rule's tree ask. Assumes nothing: these are definitions.
use Rattle.std.specs.Prelude.{ℕ, ◌*◌, ◌≤◌, ◌≡◌, List, length}
use Rattle.std.proofs.Math.Option.{some}
use Rattle.calculus.specs.Tree.{Tree, size}
use Rattle.calculus.specs.Term.{Term}
use Rattle.calculus.specs.Bytes.{rule}
use Rattle.calculus.specs.Abstraction.{term, rule_tree}
use Rattle.table.specs.Outcome.{frames}
use Rattle.bracket.specs.Words.{words, Holds}

-- the words of a tree's term stand in s from p on
pub record LayAt (s : List ℕ) (p : ℕ) : Type 0 where
  pub tree : Tree
  pub stands : Holds s p (words (term tree))

-- the bytes are a rule whose tree has n nodes unshared, and whose words have room in the stack twice
pub record PlaceAt (s b : List ℕ) (n : ℕ) : Type 0 where
  pub term : Term
  pub is_rule : rule b ≡ some term
  pub counted : n ≡ size (rule_tree term)
  pub frames : 2 * size (rule_tree term) ≤ frames s
  pub stack : length s ≤ 65536

-- What a rule text says, with its operators ([3]). Assumes nothing: these are definitions.
use Rattle.std.specs.Prelude.{ℕ}

-- A reading of a text: a leaf, a variable by the count of the abstractions between it and its own, an application, an abstraction, and the four
-- operators on their operands.
pub data Expression : Type 0 where
  leaf : Expression
  var : ℕ → Expression
  app : Expression → Expression → Expression
  abs : Expression → Expression
  not : Expression → Expression
  and : Expression → Expression → Expression
  or : Expression → Expression → Expression
  implies : Expression → Expression → Expression

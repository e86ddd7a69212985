-- `code_values::all_values` meets its contract: a test over the whole of the constant, which is computed here, says that it is the table. Assumes nothing.
use mathlib.Core.Path.{refl}
use Rattle.short_codes.specs.Values.{value_after, values_from, values_to, values, each_same, is_values}
use Rattle.short_codes.proofs.Holding.{tested_holds}
use Rattle.code_values.proofs.all_values.Goals as goal

pub returns : goal.returns
unfolding is_values each_same values values_to values_from value_after
returns c = tested_holds _ refl

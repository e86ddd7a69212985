-- `parser::find` meets its contract: the first name that is equal. Assumes nothing.
use lib.Dec.{eqb}
use mathlib.Core.Path.{◌∙◌, sym}
use Rattle.std.proofs.Common.{rules}
use borrow.Author.Tests.{tests}
use Rattle.std.proofs.lemmas.Iterator.{YieldsList-from_slice}
use Rattle.std.proofs.lemmas.Iterator.Search.{position_from_yields_List}
use Rattle.parser.proofs.Names.{lookup_is}
use Rattle.parser.proofs.find.Goals as goal

pub returns : goal.returns
returns c =
    let x = c.args.x in
    position_from_yields_List (λ y. eqb x y) _ _ c.position.result c.position.ensures.ran (YieldsList-from_slice c.args.names.now cc) (λ y b q k. search (rules, tests)) ∙ sym (lookup_is c.args.names.now x)

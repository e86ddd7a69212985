-- `operators::bangs` meets its contract: the words up to the first that is no !. Assumes nothing.
use lib.Dec.{eqb}
use lib.ListN.{drop, take, length}
use mathlib.Core.Path.{◌≡◌, ◌∙◌}
use mathlib.Core.Bool.{Bool}
use Prim.Native.Nat.{ℕ, ◌-◌}
use native.Mathlib.Omega.{arith}
use Rattle.std.proofs.Common.{rules}
use borrow.Author.Tests.{tests}
use Rattle.std.specs.List.{prefix_len}
use Rattle.std.proofs.lemmas.Iterator.{YieldsList-from_slice}
use Rattle.std.proofs.lemmas.Iterator.Consumers.{count_from_yields_List}
use Rattle.std.proofs.lemmas.Iterator.Search.{YieldsList-from_take_while}
use Rattle.std.proofs.lemmas.List.Folds.{length-prefix_len}
use Rattle.std.proofs.lemmas.Slice.{between_to_end}
use Rattle.operators.proofs.Joints.{bangs_are}
use Rattle.operators.proofs.bangs.Goals as goal

pub returns : goal.returns
returns c =
    let bang : ℕ → Bool = λ t. eqb t 33 in
    let ws = drop c.args.from c.args.words.now in
    let r : take (length c.args.words.now - c.args.from) ws ≡ ws = between_to_end c.args.words.now c.args.from (length c.args.words.now) (omega arith) in
    let e : c.count.result ≡ length (take (prefix_len bang ws) ws) =
    count_from_yields_List _ c.count.result c.count.ensures.ran (YieldsList-from_take_while _ bang (YieldsList-from_slice ws cc) c.take_while.ensures.closure c.take_while.ensures.done (λ x b q k. search (rules, tests))) in
    bangs_are c.args.words.now c.args.from c.count.result c.requires (e ∙ length-prefix_len bang ws)

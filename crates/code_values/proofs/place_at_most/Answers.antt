-- `code_values::place_at_most` meets its contract: as many values are at most the value as the search answers. Assumes nothing.
use Rattle.std.proofs.Common.{arith, leb, rules}
use Rattle.std.proofs.lemmas.List.Sorted.{IsPartitionPoint-from_clause}
use Rattle.code_values.proofs.Search.{parted, some, place}
use Rattle.code_values.proofs.place_at_most.Goals as goal

pub overflow_sub-result : goal.overflow_sub-result
overflow_sub-result c =
    let point = IsPartitionPoint-from_clause (λ y. leb y c.args.value) _ _ c.partition_point-many.ensures.partitioned (parted c.args.value _ c.all_values.ensures) (λ a r q k. search rules) in
    omega (arith, some c.args.value _ c.all_values.ensures _ c.partition_point-many.ensures.bound point)

pub returns : goal.returns
returns c =
    let point = IsPartitionPoint-from_clause (λ y. leb y c.args.value) _ _ c.partition_point-many.ensures.partitioned (parted c.args.value _ c.all_values.ensures) (λ a r q k. search rules) in
    place c.args.value _ c.all_values.ensures _ c.partition_point-many.ensures.bound point

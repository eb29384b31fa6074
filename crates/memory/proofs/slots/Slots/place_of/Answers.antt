use Rattle.std.proofs.Common.{rules, ltb, ap, ◌∙◌}
use Rattle.std.proofs.lemmas.List.Sorted.{IsPartitionPoint-from_clause}
use Rattle.memory.specs.declared.row.Row.{Row}
use Rattle.memory.specs.Rows.{row_prefixes, falling, place_of}
use Rattle.memory.proofs.RowSearches.{longer_first, placed}
use Rattle.memory.proofs.slots.Slots.place_of.Goals as goal

pub returns : goal.returns
returns c =
    let rs = c.deref.result.now in
    let ordered = ap (λ xs. falling 32 (row_prefixes xs)) c.deref.ensures.value ∙ c.args.self.now.ordered in
    placed c.args.length rs c.partition_point.result c.partition_point.ensures.bound
    (IsPartitionPoint-from_clause (λ (r : Row). ltb c.args.length r.rule.prefix.length) rs _ c.partition_point.ensures.partitioned (longer_first 32 c.args.length rs ordered) (λ a r f' k. search rules))
    ∙ ap (λ xs. place_of xs c.args.length) c.deref.ensures.value

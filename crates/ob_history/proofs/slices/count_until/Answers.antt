use Rattle.std.proofs.Common.{rules, not}
use Rattle.std.specs.Prelude.{int_lt}
use Rattle.std.proofs.lemmas.List.Sorted.{IsPartitionPoint-from_clause}
use Rattle.ob_times.specs.Times.{instant}
use Rattle.ob_history.proofs.Order.{partitioned, count_point, low_until}
use Rattle.ob_history.specs.declared.records.Record.{Record}
use Rattle.ob_history.proofs.slices.count_until.Goals as goal

pub returns-clause-count : goal.returns-clause-count
returns-clause-count c =
    let t = instant c.args.end.now in
    count_point (λ r. not (int_lt t (instant r.time))) c.args.records.now c.partition_point.result c.partition_point.ensures.bound
    (IsPartitionPoint-from_clause (λ (r : Record). not (int_lt t (instant r.time))) _ _ c.partition_point.ensures.partitioned (partitioned (λ z. not (int_lt t z)) (low_until t) _ c.requires) (λ a r q k. search rules))

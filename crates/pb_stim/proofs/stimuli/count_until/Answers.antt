use Rattle.std.proofs.Common.{rules}
use Rattle.std.proofs.Math.Dec.{leb}
use Rattle.std.proofs.lemmas.List.Sorted.{IsPartitionPoint-from_clause, IsPartitionedBy-leb}
use Rattle.pb_stim.specs.declared.stimuli.Row.{Row}
use Rattle.pb_stim.proofs.StimulusLemmas.{never_falls, past_front, coming_back}
use Rattle.pb_stim.proofs.stimuli.count_until.Goals as goal

pub returns-clause-past : goal.returns-clause-past
returns-clause-past c =
    let parted = IsPartitionedBy-leb (λ (row : Row). row.tick) c.args.rows.now c.args.tick (never_falls c.args.rows.now 0 c.requires) in
    let point = IsPartitionPoint-from_clause (λ (row : Row). leb row.tick c.args.tick) _ _ c.partition_point.ensures.partitioned parted (λ a r q k. search rules) in
    past_front c.args.rows.now c.args.tick c.partition_point.result point.0 c.partition_point.ensures.bound

pub returns-clause-coming : goal.returns-clause-coming
returns-clause-coming c =
    let parted = IsPartitionedBy-leb (λ (row : Row). row.tick) c.args.rows.now c.args.tick (never_falls c.args.rows.now 0 c.requires) in
    let point = IsPartitionPoint-from_clause (λ (row : Row). leb row.tick c.args.tick) _ _ c.partition_point.ensures.partitioned parted (λ a r q k. search rules) in
    coming_back c.args.rows.now c.args.tick c.partition_point.result point.1

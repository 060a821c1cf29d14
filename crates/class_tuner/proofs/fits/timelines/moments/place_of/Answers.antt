use Rattle.std.proofs.{Common.{rules, ltb, arith}, lemmas.Bool.{ltb-false, ltb-true}}
use Rattle.std.proofs.lemmas.List.Sorted.{IsPartitionPoint-from_clause, IsPartitionedBy-ltb}
use Rattle.class_tuner.proofs.FitLemmas.TimelineLemmas.Ascending.{ascending-rises}
use Rattle.class_tuner.proofs.fits.timelines.moments.place_of.Goals as goal

pub returns-clause-below : goal.returns-clause-below
returns-clause-below c ascending k lt =
    let parted = IsPartitionedBy-ltb (λ n. n) _ c.args.moment (ascending-rises c.args.numbers.now ascending) in
    let point = IsPartitionPoint-from_clause (λ n. ltb n c.args.moment) _ _ c.partition_point.ensures.partitioned parted (λ a r q k. search rules) in
    ltb-true _ _ (point.0 k 0 (omega arith) lt)

pub returns-clause-above : goal.returns-clause-above
returns-clause-above c ascending k le lt =
    let parted = IsPartitionedBy-ltb (λ n. n) _ c.args.moment (ascending-rises c.args.numbers.now ascending) in
    let point = IsPartitionPoint-from_clause (λ n. ltb n c.args.moment) _ _ c.partition_point.ensures.partitioned parted (λ a r q k. search rules) in
    ltb-false _ _ (point.1 k 0 le lt)

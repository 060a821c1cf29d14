use Rattle.std.proofs.Common.{◌≡◌, ◌-◌, ◌*◌, ◌≤◌, max, drop}
use Rattle.tuner_theory.specs.{Histories.{most}, Lists.{lists_of}, Profiles.{greatest_count}}
use Rattle.history_count.specs.Histories.{blocks_from}
use Rattle.history_count.proofs.footprint.most_between.Given as goal

abbrev pub invariant-loop-t : goal.invariant-loop-t
invariant-loop-t l = record {
  rest : max l.most (most (blocks_from l.start l.stop) (drop l.t (lists_of l.columns)))
      ≡ most (blocks_from l.start l.stop) (lists_of l.columns);
  small : l.most ≤ greatest_count * (l.stop - l.start);
}

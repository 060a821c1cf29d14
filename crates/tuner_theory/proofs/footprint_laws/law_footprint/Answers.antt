use Rattle.tuner_theory.proofs.FootprintLawLemmas.{counts_more, fitted_is_tuned, one_snapshot, snapshot_more}
use Rattle.tuner_theory.proofs.footprint_laws.law_footprint.Goals as goal

pub returns-clause-footprint : goal.returns-clause-footprint
returns-clause-footprint c = one_snapshot

pub returns-clause-table : goal.returns-clause-table
returns-clause-table c = fitted_is_tuned

pub returns-clause-snapshot : goal.returns-clause-snapshot
returns-clause-snapshot c = snapshot_more

pub returns-clause-counts : goal.returns-clause-counts
returns-clause-counts c = counts_more

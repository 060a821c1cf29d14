use Rattle.profile_count.specs.Counts.{zeros}
use Rattle.history_count.proofs.timelines.counting.zeros.Goals as goal

pub returns : goal.returns
unfolding zeros
returns c = c.no_counts.ensures

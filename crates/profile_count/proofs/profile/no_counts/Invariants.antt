use Rattle.std.proofs.Common.{◌≡◌, ◌++◌}
use Rattle.profile_count.specs.Counts.{zeros}
use Rattle.profile_count.proofs.profile.no_counts.Given as goal

abbrev pub invariant-loop-rest : goal.invariant-loop-rest
invariant-loop-rest l = l.counts.items ++ zeros l.rest ≡ zeros l.n

abbrev pub decreases-loop-rest : goal.decreases-loop-rest
decreases-loop-rest l = l.rest

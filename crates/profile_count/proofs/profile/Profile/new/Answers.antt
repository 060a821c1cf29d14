use Rattle.std.proofs.Common.{arith}
use Rattle.profile_count.proofs.Zeros.{zeros_are_counts}
use Rattle.profile_count.proofs.profile.Profile.new.Goals as goal

pub invariant_of-result : goal.invariant_of-result
invariant_of-result c = record { counts = zeros_are_counts c.in_ok-counts.counts.items c.in_ok-counts.ensures; large = omega arith }

use Rattle.std.proofs.Common.{◌-◌, ◌<◌, ◌≤◌, length, slice_index}
use Rattle.potential_check.proofs.CertificateLemmas.SpansBuilt.{IsBuilt}
use Rattle.tuner_theory.specs.Profiles.{AreCounts}
use Rattle.potential_check.proofs.certificates.spans.Spans.new.Given as goal

abbrev pub invariant-loop-n : goal.invariant-loop-n
invariant-loop-n l = record {
  built : IsBuilt l.profile.counts l.step l.n l.needs.items l.counted.items l.bytes.items l.total l.total_bytes;
  are_counts : AreCounts l.profile.counts;
  within : l.n ≤ length l.profile.counts;
  some : l.n < length l.profile.counts → 0 < slice_index l.profile.counts l.n;
}

abbrev pub decreases-loop-n : goal.decreases-loop-n
decreases-loop-n l = length l.profile.counts - l.n

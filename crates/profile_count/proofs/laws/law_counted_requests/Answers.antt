use Rattle.profile_count.proofs.CountedRequests.{profile_counts_requests}
use Rattle.profile_count.proofs.laws.law_counted_requests.Goals as goal

pub returns : goal.returns
returns c sizes = profile_counts_requests sizes

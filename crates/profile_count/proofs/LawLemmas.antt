-- What the proofs of the crates above cite of profiles, their texts and the profile of requests.
pub use Rattle.profile_count.proofs.CountedRequests.{added_requests_are_counted, counts_are_few, one_more_is_counted}
pub use Rattle.profile_count.proofs.EntryLines.{number_is_not_large}
pub use Rattle.profile_count.proofs.FirstFaults.{first_fault_is_refused, lines_before_it_spell, refused_line_is_there}
pub use Rattle.profile_count.proofs.ReadIsSpelled.{profile_is_spelled}
pub use Rattle.profile_count.proofs.RequestLosses.{serves_each_request, waste_is_the_sum_of_losses}
pub use Rattle.profile_count.proofs.SpelledIsRead.{spelled_profile_is_read}
pub use Rattle.profile_count.proofs.Waste.{sum_up_to_the_rest}
pub use Rattle.profile_count.proofs.Zeros.{each_is_zero, length-zeros, zeros_are_counts}

-- What the proofs of the checker cite of the sums at two places.
pub use Rattle.potential_check.proofs.CertificateLemmas.SpanSums.{payload_fits, span_balance}

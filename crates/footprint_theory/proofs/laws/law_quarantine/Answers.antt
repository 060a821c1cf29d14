use Rattle.footprint_theory.proofs.LawLemmas.{at_least_peak, at_most_peak, bytes_at_least, bytes_at_most}
use Rattle.footprint_theory.proofs.laws.law_quarantine.Goals as goal

pub returns-clause-at_least : goal.returns-clause-at_least
returns-clause-at_least c = at_least_peak

pub returns-clause-at_most : goal.returns-clause-at_most
returns-clause-at_most c = at_most_peak

pub returns-clause-bytes_at_least : goal.returns-clause-bytes_at_least
returns-clause-bytes_at_least c = bytes_at_least

pub returns-clause-bytes_at_most : goal.returns-clause-bytes_at_most
returns-clause-bytes_at_most c = bytes_at_most

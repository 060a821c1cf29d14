-- A certificate of the code as a sheet of the theory, whatever cost it is of.
use Rattle.potential_check.specs.declared.certificates.certificate.Certificate.{Certificate}
use Rattle.tuner_theory.specs.Sheets.{Sheet}

abbrev pub sheet_of : {C : Type 0} → Certificate C → Sheet
sheet_of s = record { table = s.table; limit = s.limit; step = s.step; forced = s.forced; cost = s.cost; rows = s.rows }

-- A sheet beside the counts of the profile that it is for.
use Rattle.std.specs.Prelude.{ℕ, List}
use Rattle.tuner_theory.specs.Sheets.{Sheet}

pub record SheetOnCounts : Type 0 where
  pub counts : List ℕ
  pub sheet : Sheet

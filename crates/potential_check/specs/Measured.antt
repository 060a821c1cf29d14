-- What the tests of a certificate's rows say by a measure.
use Rattle.std.specs.Prelude.{◌↔◌, IsTrue}
use Rattle.potential_check.specs.declared.measured_load.RowTests.{RowTests}
use Rattle.tuner_theory.specs.{Measures.{Measure}, Sheets.{MeetsOn, Sheet}}
use Rattle.tuner_theory.specs.declared.verdict.Refusal.TheVariants.{LastClass, StageDrop, Edge}

-- Each test says whether its condition is met. The edges need not be looked at where another test failed.
pub record AreTestsOf (m : Measure) (sheet : Sheet) (tests : RowTests) : Type 0 where
  pub last_class : IsTrue tests.last_class ↔ MeetsOn m sheet LastClass
  pub stage_drop : IsTrue tests.stage_drop ↔ MeetsOn m sheet StageDrop
  pub edge : IsTrue tests.last_class → IsTrue tests.stage_drop → (IsTrue tests.edge ↔ MeetsOn m sheet Edge)

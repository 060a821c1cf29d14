use Rattle.std.proofs.Common.{arith, ◌≡◌, Bool, true, false, not, rules, IsTrue}
use Rattle.potential_check.specs.{Certificates.SheetView.{sheet_of}, Measured.{AreTestsOf}, declared.measured_load.RowTests.{RowTests}}
use Rattle.tuner_theory.specs.{Measures.{Measure}, Sheets.{AreMetBefore, IsVerdictBy, IsVerdictOn, MeetsOn, Sheet}}
use Rattle.tuner_theory.specs.declared.verdict.{Refusal.{Refusal}, Refusal.TheVariants.{Shape, LastClass, StageDrop, Edge, NotTight}}
use Rattle.tuner_theory.specs.declared.verdict.Verdict.TheVariants.{Refused}
use Rattle.potential_check.proofs.checker.numbers_refusal.Goals as goal

-- The first refusal for the numbers of rows that have their shape.
holds : (b : Bool) → not b ≡ false → IsTrue b
holds b is = grind arith

fails : (b : Bool) → not b ≡ true → IsTrue b → ⊥
fails b is also = grind arith

module _ (meets : Refusal → Type 0) (met : AreMetBefore meets LastClass) where
  module _ (last : meets LastClass) where
    by-drop : (meets StageDrop → ⊥) → IsVerdictBy meets (Refused StageDrop)
    by-drop = search rules

    module _ (drop : meets StageDrop) where
      by-edge : (meets Edge → ⊥) → IsVerdictBy meets (Refused Edge)
      by-edge = search rules

      before-tight : meets Edge → AreMetBefore meets NotTight
      before-tight = search rules

module _ (m : Measure) (sheet : Sheet) (tests : RowTests) (met : AreMetBefore (MeetsOn m sheet) LastClass)
    (are : AreTestsOf m sheet tests) where
  module _ (last : IsTrue tests.last_class) where
    refused-drop : (IsTrue tests.stage_drop → ⊥) → IsVerdictOn m sheet (Refused StageDrop)
    refused-drop broken = by-drop (MeetsOn m sheet) met (are.last_class.0 last) (λ is. broken (are.stage_drop.1 is))

    module _ (drop : IsTrue tests.stage_drop) where
      refused-edge : (IsTrue tests.edge → ⊥) → IsVerdictOn m sheet (Refused Edge)
      refused-edge broken =
          by-edge (MeetsOn m sheet) met (are.last_class.0 last) (are.stage_drop.0 drop) (λ is. broken ((are.edge last drop).1 is))

      none-refused : IsTrue tests.edge → AreMetBefore (MeetsOn m sheet) NotTight
      none-refused edge =
          before-tight (MeetsOn m sheet) met (are.last_class.0 last) (are.stage_drop.0 drop) ((are.edge last drop).0 edge)

pub row_tests-requires-clause-shape : goal.row_tests-requires-clause-shape
row_tests-requires-clause-shape g c = c.requires.met Shape (omega arith)

pub returns-then-not-tests-clause-refused : goal.returns-then-not-tests-clause-refused
returns-then-not-tests-clause-refused g c = grind arith

pub returns-then-not-tests-2-clause-refused : goal.returns-then-not-tests-2-clause-refused
returns-then-not-tests-2-clause-refused g c =
    refused-drop (g.M.MeasuredLoad.measure c.args.measured.now) (sheet_of c.args.sheet.now) c.in_ok-tests.tests c.requires.met c.in_ok-tests.ensures
    (holds c.in_ok-tests.tests.last_class c.if-not-tests.false) (fails c.in_ok-tests.tests.stage_drop c.if-not-tests-2.true)

pub returns-then-not-tests-3-clause-refused : goal.returns-then-not-tests-3-clause-refused
returns-then-not-tests-3-clause-refused g c =
    refused-edge (g.M.MeasuredLoad.measure c.args.measured.now) (sheet_of c.args.sheet.now) c.in_ok-tests.tests c.requires.met c.in_ok-tests.ensures
    (holds c.in_ok-tests.tests.last_class c.if-not-tests.false) (holds c.in_ok-tests.tests.stage_drop c.if-not-tests-2.false)
    (fails c.in_ok-tests.tests.edge c.if-not-tests-3.true)

pub returns-clause-none : goal.returns-clause-none
returns-clause-none g c =
    none-refused (g.M.MeasuredLoad.measure c.args.measured.now) (sheet_of c.args.sheet.now) c.in_ok-tests.tests c.requires.met c.in_ok-tests.ensures
    (holds c.in_ok-tests.tests.last_class c.if-not-tests.false) (holds c.in_ok-tests.tests.stage_drop c.if-not-tests-2.false)
    (holds c.in_ok-tests.tests.edge c.if-not-tests-3.false)

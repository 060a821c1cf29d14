use Rattle.std.proofs.{Common.{arith, ◌≡◌, ℕ, Bool, List}, lemmas.Result.{IfOk-weaker}}
use Rattle.potential_check.specs.{Certificates.SheetView.{sheet_of}, Footprints.RowConditions.{AreRowTests}, Measured.{AreTestsOf}}
use Rattle.potential_check.specs.declared.measured_load.RowTests.{RowTests}
use Rattle.tuner_theory.{proofs.LawLemmas.{few_places}, specs.Footprint.{footprint_between}, specs.Histories.{peaks}, specs.Served.{served}}
use Rattle.tuner_theory.specs.{Intervals.{span_cost}, Measures.{footprint_on}, Sheets.{MeetsOn, Sheet}, Spans.{places}}
use Rattle.tuner_theory.specs.declared.verdict.Refusal.TheVariants.{Shape}
use Rattle.potential_check.proofs.footprints.on_history.OnHistoryMeasuredLoad.row_tests.Goals as goal

-- What the tests of rows say of a fit whose rows have their shape.
module _ (forced : Bool) (snapshots : List (List ℕ)) (fit : Sheet) (counts : List ℕ) (step : ℕ)
    (counts_are : counts ≡ served forced (peaks snapshots)) (step_is : step ≡ fit.step) (cost : ℕ → ℕ → ℕ) (d : ℕ) (tests : RowTests)
    (cost_is : cost ≡ span_cost (footprint_between snapshots step) counts step) (d_is : d ≡ places counts step)
    (shape : MeetsOn (footprint_on forced snapshots) fit Shape) (are : AreRowTests cost d fit.rows tests) where
  here : (let its = served forced (peaks snapshots) in
      AreRowTests (span_cost (footprint_between snapshots fit.step) its fit.step) (places its fit.step) fit.rows tests)
  here = rw (cost_is, d_is, counts_are, step_is) at are

  tests_of : AreTestsOf (footprint_on forced snapshots) fit tests
  tests_of = record {
    last_class = here.last_class;
    stage_drop = rw shape.row_count at here.stage_drop;
    edge = λ last drop. rw shape.row_count at here.edge;
  }

pub test_rows-requires-clause-places : goal.test_rows-requires-clause-places
test_rows-requires-clause-places c = grind (arith, few_places)

pub test_rows-requires-clause-shape : goal.test_rows-requires-clause-shape
test_rows-requires-clause-shape c = grind arith

pub test_rows-requires-clause-few : goal.test_rows-requires-clause-few
test_rows-requires-clause-few c = omega (arith, c.requires.shape.row_count)

pub returns : goal.returns
returns c =
    IfOk-weaker c.test_rows.result _ _
    (λ tests are. tests_of c.args.self.now.forced c.args.self.now.history.now.snapshots (sheet_of c.args.sheet.now) c.args.spans.now.counts c.args.spans.now.step
    c.requires.counts c.requires.step _ _ tests c.in_ok-costs.ensures.cost c.in_ok-costs.ensures.places c.requires.shape are)
    c.test_rows.ensures.tests

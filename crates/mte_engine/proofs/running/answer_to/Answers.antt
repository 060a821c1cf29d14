use Rattle.std.proofs.{Common.{ap, ◌∙◌, List, ℕ, ◌++◌, ◌≡◌, false, Ok, Err, sym, subst}, lemmas.Result.{err_from_is_err_and}}
use Rattle.potential_check.specs.{Certificates.SheetView.{sheet_of}, SheetText.{sheet_text}, declared.cost.OfWaste.{OfWaste}}
use Rattle.potential_check.specs.declared.certificates.certificate.Certificate.{Certificate}
use Rattle.mte_engine.{proofs.Headline.{headline}, proofs.TracePieces.{trace_ends, trace_refused}, specs.Outcome.{GivesFault}}
use Rattle.mte_engine.specs.{Replay.{report_on}, ReportLeft.{report_left}, Run.{RunAnswers}, declared.engine.Status.TheVariants.{Done}}
use Rattle.mte_engine.specs.{Traces.{HasEnded, KeepsEvents, profile_of_events}, declared.fault.AnswerError.{AnswerError}}
use Rattle.mte_engine.specs.declared.fault.AnswerError.TheVariants.{OutOfMemory, Input}
use Rattle.class_tuner.specs.Tuned.{IsTuned}
use Rattle.heap_theory.specs.declared.config.Config.{Config}
use Rattle.trace_reader.{proofs.LawLemmas.{one_piece_is_the_text}, specs.Reading.{Reading, finished, whole_reading}}
use Rattle.trace_reader.specs.TraceText.{trace_of}
use Rattle.tuner_theory.specs.{Profiles.{Profile as Counted}, Sheets.{Sheet}}
use Rattle.mte_engine.proofs.running.answer_to.Goals as goal

-- From a trace to the answer of `run`.
module _ (limit step : ℕ) (config : Config) (reading : Reading) (bytes : List ℕ)
    (keeps : KeepsEvents reading bytes) where
  finished_is : finished reading ≡ whole_reading (trace_of bytes)
  finished_is = ap finished keeps ∙ one_piece_is_the_text bytes

  run_refused : (error : AnswerError) → HasEnded 0 (finished reading).state (Err error) →
      GivesFault (RunAnswers limit step config bytes) error
  run_refused OutOfMemory ended = tt
  run_refused (Input refused) ended =
      trace_refused 0 (trace_of bytes) (finished reading).state refused (ap (λ (r : Reading). r.state) finished_is) ended

  run_written : (reading' : Reading) (profile : Counted) (sheet : Sheet) (text : List ℕ) → HasEnded 0 (finished reading).state (Ok tt)
      → reading' ≡ finished reading → profile ≡ profile_of_events reading'.events → IsTuned profile.counts step limit false sheet
      → text ≡ sheet_text sheet ++ report_on config sheet.table reading'.events
      → RunAnswers limit step config bytes (Ok (record { text = text; status = Done }))
  run_written reading' profile sheet text ended same is_profile tuned is_text =
      let events = reading'.events in
      let part = trace_ends 0 (trace_of bytes) (finished reading).state (ap (λ (r : Reading). r.state) finished_is) ended in
      let is_tuned : IsTuned (profile_of_events events).counts step limit false sheet =
      subst (λ (p : Counted). IsTuned p.counts step limit false sheet) is_profile tuned in (
        events,
        part ∙ ap (λ (r : Reading). Ok r.events) (sym (same ∙ finished_is)),
        rw is_text (headline limit step config events sheet is_tuned),
      )

pub returns-in_err-reader : goal.returns-in_err-reader
returns-in_err-reader c = λ bytes keeps.
    let error = err_from_is_err_and c.from_residual.result c.from_residual.ensures.1 in
    rw (error.1, error.2)
    (run_refused c.args.limit c.args.step c.args.config c.args.input.reader bytes keeps.events c.in_err-reader.field-0.0 c.in_err-reader.ensures.ended)

pub returns : goal.returns
returns c = λ bytes keeps.
    let all = c.in_ok-reader.ensures in
    let events = c.in_ok-reader.reader.events in
    let sheet = c.in_ok-tuned.tuned.sheet in
    let text = c.in_ok-write_sheet.ensures.written
    ∙ ap (λ (before : List ℕ). before ++ sheet_text (sheet_of c.sheet-sheet.result.now)) c.new-text.ensures.items
    ∙ ap (λ (s : Certificate OfWaste). sheet_text (sheet_of s)) c.sheet-sheet.ensures in
    let report = c.in_ok-report.ensures
    ∙ ap (λ (t : List ℕ). t ++ report_on c.args.config c.sheet-sheet.result.now.table events) text
    ∙ ap (λ (s : Certificate OfWaste). sheet_text (sheet_of sheet) ++ report_on c.args.config s.table events) c.sheet-sheet.ensures in
    run_written c.args.limit c.args.step c.args.config c.args.input.reader bytes keeps.events c.in_ok-reader.reader c.in_ok-reader.profile
    (sheet_of sheet) (report_left c.in_ok-report.report) all.ended all.events (all.counts keeps.counts) c.in_ok-tuned.ensures.tuned report

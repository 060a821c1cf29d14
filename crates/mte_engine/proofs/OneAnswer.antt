-- One answer of `tune`, `fit` and `run` to an input, since there is one certificate for what it spells, a step and a limit.
use Rattle.std.proofs.Common.{◌≡◌, ℕ, Bool, true, false, List, ◌++◌, MatchBool, Result, Ok, Err, ap, sym, subst, inl, inr, refl, ◌∙◌}
use Rattle.class_tuner.proofs.LawLemmas.{least-or_between, one-between, one-least, one_fit, one_sheet}
use Rattle.heap_theory.specs.declared.config.Config.{Config}
use Rattle.history_count.specs.{Histories.{History}, HistoryText.{history_of}, Timelines.TimelineText.{timeline_of}}
use Rattle.line_text.specs.Lines.{lines}
use Rattle.potential_check.specs.SheetText.{fit_text, sheet_text}
use Rattle.profile_count.specs.ProfileText.{profile_of}
use Rattle.replay_theory.specs.Report.{report}
use Rattle.trace_event.specs.declared.event.Event.{Event}
use Rattle.trace_reader.specs.TraceText.{trace_of}
use Rattle.tuner_theory.specs.{Profiles.{Profile as Counted}, Sheets.{Sheet}, declared.size_event.SizeEvent.{SizeEvent}}
use Rattle.mte_engine.specs.{Fit.{FitAnswers, IsFitText}, FitOver.{FitEitherAnswers, FitOverAnswers, IsFoundText}, Outcome.{Answer}}
use Rattle.mte_engine.specs.{Parts.{AnswersPart, history_part, profile_part, timeline_part}, Replay.{report_on}}
use Rattle.mte_engine.specs.{Run.{IsTunedRun, RunAnswers}, Timelines.{begins_timeline}, Traces.{profile_of_events, trace_part}}
use Rattle.mte_engine.specs.{Tune.{IsTunedText, tune_answers}, declared.engine.Status.TheVariants.{Done}}
use Rattle.mte_engine.specs.declared.fault.InputFault.{InputFault}
use Rattle.tool_call.specs.declared.options.Options.{Options}

-- what is read is one, and what is said of it is one
one_answer : {A : Type 0} (part : Result A InputFault) (says : A → Answer → Type 0) → ((x : A) (a b : Answer) → says x a → says x b → a ≡ b)
    → (a b : Result Answer InputFault) → AnswersPart part says a → AnswersPart part says b → a ≡ b
one_answer part says one (Ok a) (Ok b) first second =
    let same : first.0 ≡ second.0 = (let read = sym first.1 ∙ second.1 in cc) in
    ap Ok (one second.0 a b (subst (λ x. says x a) same first.2) second.2)
one_answer part says one (Ok a) (Err fault) first second = let read = sym first.1 ∙ second in cc
one_answer part says one (Err fault) (Ok b) first second = let read = sym first ∙ second.1 in cc
one_answer part says one (Err fault) (Err other) first second = let read = sym first ∙ second in cc

module _ (options : Options) (text : List ℕ) where
  tune_written : (p : Counted) (a b : Answer) → IsTunedText options p a → IsTunedText options p b → a ≡ b
  tune_written p a b first second =
      let same = one_sheet p.counts _ _ _ first.sheet second.sheet first.tuned second.tuned in
      first.written ∙ ap (λ (s : Sheet). record { text = sheet_text s; status = Done }) same ∙ sym second.written

  pub one_tune : (a b : Result Answer InputFault) → tune_answers options text a → tune_answers options text b → a ≡ b
  one_tune = one_answer (profile_part 0 (profile_of text)) (IsTunedText options) tune_written

module _ (limit step : ℕ) (forced : Bool) (text : List ℕ) where
  fit_written : (h : History) (a b : Answer) → IsFitText limit step forced h a → IsFitText limit step forced h b → a ≡ b
  fit_written h a b first second =
      let same = one_fit h.snapshots step limit forced first.fit second.fit first.fitted second.fitted in
      first.written ∙ ap (λ (s : Sheet). record { text = fit_text s; status = Done }) same ∙ sym second.written

  pub one_fitted : (a b : Result Answer InputFault) → FitAnswers limit step forced text a → FitAnswers limit step forced text b → a ≡ b
  one_fitted = one_answer (history_part 0 (history_of text)) (IsFitText limit step forced) fit_written

  over_written : (events : List SizeEvent) (a b : Answer) → IsFoundText limit step forced events a → IsFoundText limit step forced events b → a ≡ b
  over_written events a b (inl first) (inl second) =
      let same = one-least events step limit forced first.made second.made first.numbers second.numbers first.fit second.fit first.least
      second.least in
      first.written ∙ (rw (same.0, same.1) refl ∙ sym second.written)
  over_written events a b (inl first) (inr second) =
      absurd (least-or_between events step limit forced first.made 1024 first.numbers second.table first.fit second.takes second.least first.few
      first.least second.between)
  over_written events a b (inr first) (inl second) =
      absurd (least-or_between events step limit forced second.made 1024 second.numbers first.table second.fit first.takes first.least second.few
      second.least first.between)
  over_written events a b (inr first) (inr second) =
      let same = one-between events step limit forced 1024 first.table second.table first.takes second.takes first.least second.least first.between
      second.between in
      first.written ∙ (rw (same.0, same.1, same.2) refl ∙ sym second.written)

  by_first_line : (over : Bool) (a b : Result Answer InputFault)
      → MatchBool over (FitOverAnswers limit step forced text a) (FitAnswers limit step forced text a)
      → MatchBool over (FitOverAnswers limit step forced text b) (FitAnswers limit step forced text b) → a ≡ b
  by_first_line true = one_answer (timeline_part 0 (timeline_of text)) (IsFoundText limit step forced) over_written
  by_first_line false = one_fitted

  pub one_either : (a b : Result Answer InputFault) → FitEitherAnswers limit step forced text a → FitEitherAnswers limit step forced text b → a ≡ b
  one_either = by_first_line (begins_timeline (lines text))

module _ (limit step : ℕ) (config : Config) (text : List ℕ) where
  run_written : (events : List Event) (a b : Answer) → IsTunedRun limit step config events a → IsTunedRun limit step config events b → a ≡ b
  unfolding report
  run_written events a b first second =
      let same = one_sheet (profile_of_events events).counts step limit false first.sheet second.sheet first.tuned second.tuned in
      first.written ∙ ap (λ (s : Sheet). record { text = sheet_text s ++ report_on config s.table events; status = Done }) same
      ∙ sym second.written

  pub one_run : (a b : Result Answer InputFault) → RunAnswers limit step config text a → RunAnswers limit step config text b → a ≡ b
  one_run = one_answer (trace_part 0 (trace_of text)) (IsTunedRun limit step config) run_written

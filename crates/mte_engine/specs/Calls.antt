-- The answers of each call's engine, to one text and to two.
use Rattle.std.specs.Prelude.{ℕ, List, Result}
use Rattle.mte_engine.specs.{Check.{check_answers, check_on_answers}, CheckFitOver.{check_fit_answers, check_fit_on_answers}}
use Rattle.mte_engine.specs.{FitOver.{fit_answers}, FootprintOver.{footprint_after, footprint_answers}, Outcome.{Answer}}
use Rattle.mte_engine.specs.{Parts.{AfterText}, Peaks.{peaks_after, peaks_answers}, Profile.{profile_answers}, Run.{run_answers}}
use Rattle.mte_engine.specs.{Replay.{replay_answers, replay_on_answers}, Score.{score_after, score_answers}, Tune.{tune_answers}}
use Rattle.mte_engine.specs.declared.fault.InputFault.{InputFault}
use Rattle.tool_call.specs.declared.{call.Call.{Call}, call.CommandName.{CommandName}, options.Options.{Options}}
use Rattle.tool_call.specs.declared.call.CommandName.TheVariants.{Score, Tune, Check, Footprint, Fit, CheckFit, Peaks, Profile, Replay, Run}

abbrev pub answers_by : CommandName → Options → List ℕ → Result Answer InputFault → Type 0
answers_by Score options = score_answers options
answers_by Tune options = tune_answers options
answers_by Check options = check_answers options
answers_by Footprint options = footprint_answers options
answers_by Fit options = fit_answers options
answers_by CheckFit options = check_fit_answers options
answers_by Peaks options = peaks_answers options
answers_by Profile options = profile_answers options
answers_by Replay options = replay_answers options
answers_by Run options = run_answers options

abbrev pub answers_of : Call → List ℕ → Result Answer InputFault → Type 0
answers_of call = answers_by call.command call.options

-- The answers of a call whose input is two texts (`has_two_texts`): a class line, a sheet or a fit, and nothing else; and what comes after
-- it in one text. The lines of a fault are counted in its own text.
abbrev pub answers_beside : CommandName → Options → List ℕ → List ℕ → Result Answer InputFault → Type 0
answers_beside Score options first = AfterText (score_after options) first
answers_beside Check options first = check_on_answers options first
answers_beside Footprint options first = AfterText (footprint_after options) first
answers_beside CheckFit options first = check_fit_on_answers options first
answers_beside Peaks options first = AfterText (peaks_after options) first
answers_beside Replay options first = replay_on_answers options first
answers_beside command options first = answers_by command options

abbrev pub answers_on : Call → List ℕ → List ℕ → Result Answer InputFault → Type 0
answers_on call = answers_beside call.command call.options

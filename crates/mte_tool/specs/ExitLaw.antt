-- What the exit status of a whole run tells.
use Rattle.std.specs.Prelude.{◌≡◌, ◌≤◌, ℕ, List, MatchBool, Result, true, Ok}
use Rattle.byte_streams.specs.Streams.{SinkState, SourceState}
use Rattle.claim_line.specs.Claims.{history_claim, profile_claim, timeline_claim}
use Rattle.clap.specs.{Kinds.{IsAmong}, Words.{Text, fault_of}, declared.error.kind.ErrorKind.{ErrorKind}}
use Rattle.command_words.specs.{AcceptedWords.{program}, Words.{AreRefused, Mean}}
use Rattle.history_count.specs.Histories.{History}
use Rattle.line_text.specs.Lines.{lines}
use Rattle.mte_engine.specs.{Calls.{answers_of}, Check.{claim_asked, optimal_text, sheet_and_profile}, declared.engine.Status.{Status}}
use Rattle.mte_engine.specs.{CheckFitOver.{fit_and_history, fit_and_timeline, names_moments_at}, declared.fault.InputFault.{InputFault}}
use Rattle.mte_tool.specs.{Exit.{is_shown, status_of}, Told.{IsWaitingAtMost}, WholeRun.{AnswersAll, HasRun}, declared.end.End.{End}}
use Rattle.mte_tool.specs.declared.end.End.TheVariants.{Shown, Ended}
use Rattle.tool_call.specs.declared.call.{Call.{Call}, CommandName.{CommandName}, CommandName.TheVariants.{Check, CheckFit}}
use Rattle.tool_call.specs.declared.options.Options.{Options}
use Rattle.tuner_theory.specs.{Best.{IsBest}, Footprint.{IsLeastFootprint}, Profiles.{Profile}, Served.{served}, Sheets.{Sheet}}
use Rattle.tuner_theory.specs.{Timelines.{IsLeastOver}, declared.size_event.SizeEvent.{SizeEvent}}

-- The program ran on these words, and ended so.
abbrev pub Ran : List Text → SourceState → SinkState → SinkState → End → Type 0
Ran words source sink errors end = HasRun (Mean words) (AreRefused words) source sink errors end

-- The whole input is a sheet and a profile, and `optimal` is what was written, with the claim if the options ask for it. Of the tables of the
-- sheet's limit and step that serve the profile, and where the largest class is forced have it, none wastes less than the sheet's.
pub record IsOptimal (options : Options) (source : SourceState) (sink : SinkState) : Type 0 where
  pub sheet : Sheet
  pub profile : Profile
  pub whole : source.at_end ≡ true
  pub read : sheet_and_profile options.first_lines (lines source.given) ≡ Ok (sheet, profile)
  pub best : IsBest (served sheet.forced profile.counts) sheet.step sheet.limit sheet.table
  pub written : sink.written ≡ optimal_text (claim_asked options (profile_claim sheet profile))

-- The input is a fit and a history, and the fit's table takes least of such tables;
abbrev pub IsLeastInHistory : Options → Result (Sheet × History) InputFault → List ℕ → Type 0
IsLeastInHistory options read written =
    (fit : Sheet) × (history : History) × (read ≡ Ok (fit, history))
    × IsLeastFootprint fit.forced history.snapshots fit.step fit.limit fit.table
    × (written ≡ optimal_text (claim_asked options (history_claim fit history)))

-- or it is a fit with its moments and a timeline, and the table takes least over every moment.
abbrev pub IsLeastInTimeline : Options → Result (Sheet × (List ℕ × List SizeEvent)) InputFault → List ℕ → Type 0
IsLeastInTimeline options read written =
    (fit : Sheet) × (parts : List ℕ × List SizeEvent) × (read ≡ Ok (fit, parts))
    × IsLeastOver fit.forced parts.1 fit.step fit.limit fit.table
    × (written ≡ optimal_text (claim_asked options (timeline_claim fit parts.1)))

-- This is the whole input, one of the two by whether moments are named, and `optimal` is what was written.
pub record IsOptimalFit (options : Options) (source : SourceState) (sink : SinkState) : Type 0 where
  pub whole : source.at_end ≡ true
  pub least : MatchBool (names_moments_at options.first_lines (lines source.given))
      (IsLeastInTimeline options (fit_and_timeline options.first_lines (lines source.given)) sink.written)
      (IsLeastInHistory options (fit_and_history options.first_lines (lines source.given)) sink.written)

-- The words mean a call of this command with these options.
abbrev pub MeanCommand : List Text → CommandName → Options → Type 0
MeanCommand words command options = Mean words (record { command = command; options = options })

-- Status 0 of `check`;
abbrev pub CheckLaw : Type 0
CheckLaw = (words : List Text) (options : Options) (source : SourceState) (sink errors : SinkState) (end : End)
    → Ran words source sink errors end → MeanCommand words Check options → status_of end ≡ 0 → IsOptimal options source sink

-- and of `check-fit`.
abbrev pub CheckFitLaw : Type 0
CheckFitLaw = (words : List Text) (options : Options) (source : SourceState) (sink errors : SinkState) (end : End)
    → Ran words source sink errors end → MeanCommand words CheckFit options → status_of end ≡ 0 → IsOptimalFit options source sink

-- Status 0 or 1 of any call: what was written is its answer to the whole input, and 1 is a no.
abbrev pub AnswerLaw : Type 0
AnswerLaw = (words : List Text) (call : Call) (source : SourceState) (sink errors : SinkState) (end : End)
    → Ran words source sink errors end → Mean words call → status_of end ≤ 1
    → (status : Status) × (end ≡ Ended (Ok status))
    × AnswersAll (answers_of call) source (Ok (record { text = sink.written; status = status }))

-- Help and the version are shown only to words that ask for them.
abbrev pub ShownLaw : Type 0
ShownLaw = (words : List Text) (source : SourceState) (sink errors : SinkState)
    → Ran words source sink errors Shown → (kind : ErrorKind) × IsAmong kind (fault_of program words) × (is_shown kind ≡ true)

-- Status 0 or 1: standard error took at most the line that says that the program waits for its input.
abbrev pub QuietLaw : Type 0
QuietLaw = (words : List Text) (source : SourceState) (sink errors : SinkState) (end : End)
    → Ran words source sink errors end → status_of end ≤ 1 → IsWaitingAtMost errors

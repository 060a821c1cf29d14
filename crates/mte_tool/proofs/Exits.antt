-- What the exit status of a whole run tells.
use Rattle.std.proofs.Common.{◌≡◌, ◌≤◌, ℕ, Bool, true, List, Result, Ok, Err, MatchBool, length, nat_lt, arith}
use Rattle.std.proofs.Common.{refl}
use Rattle.byte_streams.specs.{Streams.{SinkState, SourceState}, Transfer.{most_input}}
use Rattle.clap.specs.{Kinds.{IsAmong}, Words.{Text, fault_of}, declared.error.kind.ErrorKind.{ErrorKind}}
use Rattle.command_words.specs.{AcceptedWords.{program}, Words.{AreRefused, Mean}, declared.refusal.Refusal.{Refusal}}
use Rattle.history_count.specs.Histories.{History}
use Rattle.line_text.specs.Lines.{lines}
use Rattle.mte_engine.specs.{Calls.{answers_by, answers_of}, Check.{check_answers}, CheckFit.{IsFitChecked}, Parts.{AnswersPart}}
use Rattle.mte_engine.specs.CheckFitOver.{IsCheckedOver, check_fit_answers, fit_and_history, fit_and_timeline, names_moments_at}
use Rattle.mte_engine.specs.Outcome.{Answer}
use Rattle.tuner_theory.specs.{Sheets.{Sheet}, declared.size_event.SizeEvent.{SizeEvent}}
use Rattle.mte_engine.specs.declared.{engine.Status.{Status}, engine.Status.TheVariants.{Done}, fault.InputFault.{InputFault}}
use Rattle.mte_engine.specs.declared.fault.InputFault.TheVariants.{TooLong}
use Rattle.mte_engine.specs.declared.fault.ToolFault.TheVariants.{OutOfMemory, Input, ReadFault, WriteFault}
use Rattle.mte_tool.{proofs.OneCall.{one_call}, specs.Exit.{AsksForText, is_shown, status_of}, specs.WholeRun.{AnswersAll, Ends}}
use Rattle.mte_tool.specs.ExitLaw.{AnswerLaw, CheckFitLaw, CheckLaw, IsLeastInHistory, IsLeastInTimeline, IsOptimal, IsOptimalFit, MeanCommand}
use Rattle.mte_tool.specs.{ExitLaw.{QuietLaw, Ran, ShownLaw}, Told.{IsWaitingAtMost}}
use Rattle.mte_tool.specs.declared.end.{End.{End}, End.TheVariants.{Shown, Refused, Ended}}
use Rattle.tool_call.specs.declared.call.{Call.{Call}, CommandName.{CommandName}, CommandName.TheVariants.{Check, CheckFit}}
use Rattle.tool_call.specs.declared.options.Options.{Options}

-- an answer is to an input of at most so many bytes
answer_of_short : {A : Type 0} (long : Bool) (result : Result Answer InputFault) (answer : Answer) → result ≡ Ok answer
    → MatchBool long (result ≡ Err TooLong) A → A
answer_of_short long result answer same is = grind arith

the_answer : (words : List Text) (call : Call) (source : SourceState) (sink errors : SinkState) (end : End)
    → Ends (Mean words) (AreRefused words) source sink errors end → Mean words call → status_of end ≤ 1
    → (status : Status) × (end ≡ Ended (Ok status))
    × AnswersAll (answers_of call) source (Ok (record { text = sink.written; status = status }))
the_answer words call source sink errors Shown ends means small = grind arith
the_answer words call source sink errors Refused ends means small = absurd (omega (arith, small))
the_answer words call source sink errors (Ended (Ok status)) ends means small = (
  status,
  refl,
  grind (arith, one_call),
)
the_answer words call source sink errors (Ended (Err (Input fault))) ends means small = absurd (omega (arith, small))
the_answer words call source sink errors (Ended (Err OutOfMemory)) ends means small = absurd (omega (arith, small))
the_answer words call source sink errors (Ended (Err ReadFault)) ends means small = absurd (omega (arith, small))
the_answer words call source sink errors (Ended (Err WriteFault)) ends means small = absurd (omega (arith, small))

pub answer_law : AnswerLaw
answer_law words call source sink errors end ran means small = the_answer words call source sink errors end ran.ends means small

-- the same for a command
answer_by : (words : List Text) (command : CommandName) (options : Options) (source : SourceState) (sink errors : SinkState) (end : End)
    → Ran words source sink errors end → MeanCommand words command options → status_of end ≤ 1
    → (status : Status) × (end ≡ Ended (Ok status))
    × AnswersAll (answers_by command options) source (Ok (record { text = sink.written; status = status }))
answer_by words command options source sink errors end ran means small =
    answer_law words (record { command = command; options = options }) source sink errors end ran means small

at_end_of_short : (A : Type 0) (n : ℕ) (at_end : Bool) (result : Result Answer InputFault) (answer : Answer) → result ≡ Ok answer
    → MatchBool (nat_lt most_input n) (result ≡ Err TooLong) A → (n ≤ most_input → at_end ≡ true) → at_end ≡ true
at_end_of_short A n at_end result answer same is ends = grind arith

the_check : (options : Options) (source : SourceState) (sink : SinkState) (end : End) → status_of end ≡ 0
    → ((status : Status) × (end ≡ Ended (Ok status))
    × AnswersAll (check_answers options) source (Ok (record { text = sink.written; status = status }))) → IsOptimal options source sink
the_check options source sink end h3 h4 = grind arith

pub check_law : CheckLaw
check_law words options source sink errors end ran means zero =
    the_check options source sink end zero (answer_by words Check options source sink errors end ran means (omega (arith, zero)))

-- the same of `check-fit`, by what follows the fit
module _ (options : Options) (timeline : Result (Sheet × (List ℕ × List SizeEvent)) InputFault) (history : Result (Sheet × History) InputFault) where
  least_in : (named : Bool) (text : List ℕ)
      → MatchBool named
      (AnswersPart timeline (λ parts. IsCheckedOver options parts.0 parts.1.0 parts.1.1) (Ok (record { text = text; status = Done })))
      (AnswersPart history (λ parts. IsFitChecked options parts.0 parts.1) (Ok (record { text = text; status = Done })))
      → MatchBool named (IsLeastInTimeline options timeline text) (IsLeastInHistory options history text)
  least_in named text is = grind arith

least_of : (options : Options) (source : SourceState) (sink : SinkState)
    → AnswersAll (check_fit_answers options) source (Ok (record { text = sink.written; status = Done })) → IsOptimalFit options source sink
least_of options source sink answers =
    let checked = answer_of_short (nat_lt most_input (length source.given)) _ _ refl answers.0 in
    let ls = lines source.given in
    record {
      whole = at_end_of_short _ (length source.given) source.at_end _ _ refl answers.0 answers.1;
      least = least_in options (fit_and_timeline options.first_lines ls) (fit_and_history options.first_lines ls)
          (names_moments_at options.first_lines ls) sink.written checked;
    }

the_check_fit : (options : Options) (source : SourceState) (sink : SinkState) (end : End) → status_of end ≡ 0
    → ((status : Status) × (end ≡ Ended (Ok status))
    × AnswersAll (check_fit_answers options) source (Ok (record { text = sink.written; status = status }))) → IsOptimalFit options source sink
the_check_fit options source sink end h3 h4 = grind (arith, least_of)

pub check_fit_law : CheckFitLaw
check_fit_law words options source sink errors end ran means zero =
    the_check_fit options source sink end zero (answer_by words CheckFit options source sink errors end ran means (omega (arith, zero)))

kind_asked : (words : List Text) (why : Refusal) → AreRefused words why → AsksForText why
    → (kind : ErrorKind) × IsAmong kind (fault_of program words) × (is_shown kind ≡ true)
kind_asked words why refused asks = grind arith

pub shown_law : ShownLaw
shown_law words source sink errors ran = kind_asked words ran.ends.0.0.0 ran.ends.0.0.1 ran.ends.0.0.2

quiet_by : (words : List Text) (source : SourceState) (sink errors : SinkState) (end : End)
    → Ends (Mean words) (AreRefused words) source sink errors end → status_of end ≤ 1 → IsWaitingAtMost errors
quiet_by words source sink errors Shown ends small = ends.2
quiet_by words source sink errors Refused ends small = absurd (omega (arith, small))
quiet_by words source sink errors (Ended (Ok status)) ends small = ends.1
quiet_by words source sink errors (Ended (Err (Input fault))) ends small = absurd (omega (arith, small))
quiet_by words source sink errors (Ended (Err OutOfMemory)) ends small = absurd (omega (arith, small))
quiet_by words source sink errors (Ended (Err ReadFault)) ends small = absurd (omega (arith, small))
quiet_by words source sink errors (Ended (Err WriteFault)) ends small = absurd (omega (arith, small))

pub quiet_law : QuietLaw
quiet_law words source sink errors end ran small = quiet_by words source sink errors end ran.ends small

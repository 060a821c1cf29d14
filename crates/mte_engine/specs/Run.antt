-- The headline: the answers of `run`. It tunes a class table for the requests of a trace, and replays the trace on the heap over that
-- table.
use Rattle.std.specs.Prelude.{◌≡◌, ℕ, false, ◌≤◌, List, ◌++◌, length, zip, Result}
use Rattle.class_table.specs.Tables.{IsLegalTable, rounding_loss}
use Rattle.class_tuner.specs.Tuned.{IsTuned}
use Rattle.replay_theory.specs.{AccessLaws.{AccessesAreAnswered}, Losses.{ServesEach, counted_sizes, refused_reallocs}}
use Rattle.replay_theory.specs.{Replay.{Replay, answers, first_replay, Answer as HeapAnswer}, Report.{report_lines, totals_text}}
use Rattle.replay_theory.specs.Totals.{Totals, totals_of}
use Rattle.trace_event.specs.declared.event.Event.{Event}
use Rattle.potential_check.specs.SheetText.{sheet_text}
use Rattle.heap_theory.specs.{Config.{layout_for}, declared.config.Config.{Config}}
use Rattle.trace_reader.specs.TraceText.{trace_of}
use Rattle.tuner_theory.specs.Sheets.{Sheet}
use Rattle.mte_engine.specs.{Outcome.{Answer}, Parts.{AnswersPart}, Traces.{profile_of_events, trace_part}}
use Rattle.mte_engine.specs.declared.{engine.Status.TheVariants.{Done}, fault.InputFault.{InputFault}}
use Rattle.tool_call.specs.{Options.{config_of}, declared.options.Options.{Options}}

-- ---- the tables in question

-- A table that is legal for the step, has at most `limit` classes, and serves each counted request of the events.
pub record IsTableFor (step limit : ℕ) (events : List Event) (table : List ℕ) : Type 0 where
  pub legal : IsLegalTable step table
  pub few : length table ≤ limit
  pub serves : ServesEach table events

-- ---- the replay on a table

-- A new heap over the table, and all variables null.
abbrev pub new_replay : Config → List ℕ → Replay
new_replay config table = first_replay (layout_for config table) config.seed config.quarantine

-- The results of the events on the tagged machine, one after the other.
abbrev pub answers_on : Config → List ℕ → List Event → List HeapAnswer
answers_on config table events = answers (new_replay config table) events

-- The totals over these events and their results.
abbrev pub totals_on : Config → List ℕ → List Event → Totals
totals_on config table events = totals_of table (zip events (answers_on config table events))

-- ---- the headline

-- What is written for the events of a trace, for at most `limit` classes that are multiples of `step`, on a heap that is set up by
-- `config`.
pub record IsTunedRun (limit step : ℕ) (config : Config) (events : List Event) (answer : Answer) : Type 0 where
  pub sheet : Sheet
  -- The sheet's table is legal, within the limit, and serves every counted request.
  pub in_question : IsTableFor step limit events sheet.table
  -- Its waste is the sum, over all counted requests, of the bytes lost by rounding.
  pub waste : sheet.cost ≡ rounding_loss sheet.table (counted_sizes events)
  -- No table in question wastes less.
  pub least : (other : List ℕ) → IsTableFor step limit events other → sheet.cost ≤ rounding_loss other (counted_sizes events)
  -- It is the canonical sheet for the profile of the events, so one function of profile, limit and step.
  pub tuned : IsTuned (profile_of_events events).counts step limit false sheet
  -- What is written is the sheet, then a line for each event of the replay on that very table that has one, and the totals.
  pub written : answer ≡ record {
    text = sheet_text sheet ++ (report_lines 1 (answers_on config sheet.table events) ++ totals_text (totals_on config sheet.table events));
    status = Done;
  }
  -- Each load and store in it is answered as unmapped exactly where it is not mapped; as a tag fault exactly where it is mapped and touches
  -- a granule whose tag differs from the pointer's; and else it succeeds. No other event is answered as either fault.
  pub accesses : AccessesAreAnswered (new_replay config sheet.table) events
  -- No request is refused for want of a class.
  pub no_class : (totals_on config sheet.table events).null_no_class ≡ 0
  -- The bytes lost in the replay are at most the waste, and exactly the waste where no request was exhausted and no realloc was refused
  -- for its pointer.
  pub loss : (totals_on config sheet.table events).loss ≤ sheet.cost
  pub all_loss : (totals_on config sheet.table events).null_exhausted ≡ 0 →
      refused_reallocs (zip events (answers_on config sheet.table events)) ≡ 0
      → (totals_on config sheet.table events).loss ≡ sheet.cost

-- The whole text is a trace. The answer is the headline for its events, or the trace's first fault.
abbrev pub RunAnswers : ℕ → ℕ → Config → List ℕ → Result Answer InputFault → Type 0
RunAnswers limit step config text answer = AnswersPart (trace_part 0 (trace_of text)) (IsTunedRun limit step config) answer

-- The same by the options.
abbrev pub run_answers : Options → List ℕ → Result Answer InputFault → Type 0
run_answers options = RunAnswers options.limit options.step (config_of options)

-- The answers of `replay`: the report on a trace, replayed on the heap over a class table.
use Rattle.std.specs.Prelude.{◌≡◌, ℕ, List, drop, take, Result, Ok}
use Rattle.line_text.specs.{FirstFault.{◌>>=◌}, Lines.{lines}}
use Rattle.replay_theory.specs.Report.{report}
use Rattle.trace_event.specs.declared.event.Event.{Event}
use Rattle.heap_theory.specs.{Config.{layout_for}, declared.config.Config.{Config}}
use Rattle.trace_reader.specs.TraceText.{trace_from}
use Rattle.mte_engine.specs.{Outcome.{Answer}, Parts.{class_part}, Traces.{trace_part}, declared.engine.Status.TheVariants.{Done}}
use Rattle.mte_engine.specs.declared.fault.InputFault.{InputFault}
use Rattle.tool_call.specs.{Options.{config_of}, declared.options.Options.{Options}}

-- The report on the events of a trace, on the heap that is set up so for this table.
abbrev pub report_on : Config → List ℕ → List Event → List ℕ
report_on config table events = report (layout_for config table) config.seed config.quarantine events

-- Over a table, the lines of a trace, which come after this many of their input.
abbrev pub replay_over : Config → List ℕ → ℕ → List (List ℕ) → Result Answer InputFault
replay_over config table before ls = do
  events ← trace_part before (trace_from 1 ls)
  Ok (record { text = report_on config table events; status = Done })

-- The same over the table of the lines of a class line.
abbrev pub replay_of_parts : Config → List (List ℕ) → ℕ → List (List ℕ) → Result Answer InputFault
replay_of_parts config class before ls = do
  table ← class_part class
  replay_over config table before ls

-- One text: a class line, and then a trace.
abbrev pub replay_of_lines : Config → List (List ℕ) → Result Answer InputFault
replay_of_lines config ls = replay_of_parts config (take 1 ls) 1 (drop 1 ls)

unfoldable pub replay_answer : Config → List ℕ → Result Answer InputFault
replay_answer config input = replay_of_lines config (lines input)

-- Two texts: a class line, and a trace.
unfoldable pub replay_answer_on : Config → List ℕ → List ℕ → Result Answer InputFault
replay_answer_on config first text = replay_of_parts config (lines first) 0 (lines text)

-- The one answer to a text.
abbrev pub ReplayAnswers : Config → List ℕ → Result Answer InputFault → Type 0
ReplayAnswers config text answer = replay_answer config text ≡ answer

-- The one answer to a class line and a trace.
abbrev pub ReplayOnAnswers : Config → List ℕ → List ℕ → Result Answer InputFault → Type 0
ReplayOnAnswers config first text answer = replay_answer_on config first text ≡ answer

-- The same by the options.
abbrev pub replay_answers : Options → List ℕ → Result Answer InputFault → Type 0
replay_answers options = ReplayAnswers (config_of options)

abbrev pub replay_on_answers : Options → List ℕ → List ℕ → Result Answer InputFault → Type 0
replay_on_answers options = ReplayOnAnswers (config_of options)

-- The answers of `profile`: the profile of a trace.
use Rattle.std.specs.Prelude.{◌≡◌, ℕ, List, Result, Ok}
use Rattle.line_text.specs.FirstFault.{◌>>=◌}
use Rattle.trace_event.specs.declared.event.Event.{Event}
use Rattle.profile_count.specs.ProfileText.{profile_text}
use Rattle.trace_reader.specs.TraceText.{trace_of}
use Rattle.mte_engine.specs.{Outcome.{Answer}, Traces.{profile_of_events, trace_part}, declared.engine.Status.TheVariants.{Done}}
use Rattle.mte_engine.specs.declared.fault.InputFault.{InputFault}
use Rattle.tool_call.specs.declared.options.Options.{Options}

abbrev pub profiled : List Event → Answer
profiled events = record { text = profile_text (profile_of_events events); status = Done }

-- The whole text is a trace.
unfoldable pub profile_answer : List ℕ → Result Answer InputFault
profile_answer text = do
  events ← trace_part 0 (trace_of text)
  Ok (profiled events)

-- The one answer to a text.
abbrev pub ProfileAnswers : List ℕ → Result Answer InputFault → Type 0
ProfileAnswers text answer = profile_answer text ≡ answer

-- The same by the options.
abbrev pub profile_answers : Options → List ℕ → Result Answer InputFault → Type 0
profile_answers options = ProfileAnswers

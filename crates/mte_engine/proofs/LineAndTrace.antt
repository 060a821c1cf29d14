-- From a class line and a trace to the answer of `replay`.
use Rattle.std.proofs.Common.{◌≡◌, ℕ, Bool, true, false, List, [], ◌∷◌, ◌++◌, drop, Result, Ok, Err, refl, sym, ap, ◌∙◌, arith}
use Rattle.std.proofs.{Common.{slice_index_or}, lemmas.List.Elements.{All-nil}}
use Rattle.line_text.{proofs.LawLemmas.{cut_lines_are_read, line_in_front_is_read}, specs.Lines.{lines, words, IsLine}}
use Rattle.class_table.specs.ClassLine.{table_of_line}
use Rattle.heap_theory.specs.declared.config.Config.{Config}
use Rattle.trace_reader.{proofs.LawLemmas.{one_piece_is_the_text}, specs.Reading.{Reading, finished, whole_reading}}
use Rattle.trace_reader.specs.TraceText.{trace_of}
use Rattle.mte_engine.{proofs.TracePieces.{nothing_fed}, specs.Outcome.{GivesAnswer, GivesFault}}
use Rattle.mte_engine.specs.{Parts.{GivesPart, class_part, table_part}, Traces.{HasEnded, IsLineAndTrace, KeepsEvents, KeepsLineAndEvents}}
use Rattle.mte_engine.specs.Replay.{ReplayAnswers, replay_answer, replay_of_lines, replay_of_parts, replay_over, report_on}
use Rattle.mte_engine.specs.declared.{engine.Status.{Status}, engine.Status.TheVariants.{Done}, fault.AnswerError.{AnswerError}}

-- an empty line spells no table, so an input without lines is answered as one of an empty line
answer_by_lines : (config : Config) (ls : List (List ℕ)) →
    replay_of_lines config ls ≡ replay_of_lines config (slice_index_or ls 0 [] ∷ drop 1 ls)
unfolding table_of_line words
answer_by_lines config ls = grind arith

abbrev first : List (List ℕ) → List ℕ
first ls = slice_index_or ls 0 []

-- the first line of an input, and the trace after it
pub line_and_trace : (has_ended : Bool) (line : List ℕ) (reading : Reading) (bytes : List ℕ)
    → KeepsLineAndEvents has_ended line reading bytes → (trace : List ℕ) × IsLineAndTrace bytes line trace reading
unfolding lines
line_and_trace false line reading [] keeps = ([], record { line_is = keeps.0; others = refl; keeps = keeps.2 ∙ sym nothing_fed })
line_and_trace false line reading (b ∷ bytes) keeps =
    let whole : lines (b ∷ bytes) ≡ (b ∷ bytes) ∷ [] = cut_lines_are_read [] (b ∷ bytes) (All-nil IsLine) keeps.1 (omega arith) in
    ([], record { line_is = keeps.0 ∙ sym (ap first whole); others = sym (ap (drop 1) whole); keeps = keeps.2 ∙ sym nothing_fed })
line_and_trace true line reading bytes keeps = grind (arith, line_in_front_is_read)

-- ---- over a table, a trace whose events wait in the reader

module _ (config : Config) (table : List ℕ) (before : ℕ) (trace : List ℕ) (reading : Reading) (keeps : KeepsEvents reading trace) where
  finished_is : finished reading ≡ whole_reading (trace_of trace)
  finished_is = ap finished keeps ∙ one_piece_is_the_text trace

  pub trace_is_refused : (error : AnswerError) → HasEnded before (finished reading).state (Err error)
      → GivesFault (λ answer. replay_over config table before (lines trace) ≡ answer) error
  trace_is_refused error ended = grind (arith, finished_is)

  pub report_written : (reading' : Reading) (text : List ℕ) → HasEnded before (finished reading).state (Ok tt)
      → reading' ≡ finished reading → text ≡ [] ++ report_on config table reading'.events
      → replay_over config table before (lines trace) ≡ Ok (record { text = text; status = Done })
  report_written reading' text ended same is_text = grind (arith, finished_is)

-- ---- a class line and a trace

module _ (config : Config) (class : List (List ℕ)) (before : ℕ) (ls : List (List ℕ)) where
  pub class_refused : (error : AnswerError) → GivesPart {A = List ℕ} (Err error) (class_part class)
      → GivesFault (λ answer. replay_of_parts config class before ls ≡ answer) error
  class_refused error gives = grind arith

  pub class_replayed : {O : Type 0} (left : O → List ℕ) (table : List ℕ) → class_part class ≡ Ok table
      → (result : Result (O × Status) AnswerError) → GivesAnswer left (λ answer. replay_over config table before ls ≡ answer) result
      → GivesAnswer left (λ answer. replay_of_parts config class before ls ≡ answer) result
  class_replayed left table read result gives = grind arith

module _ (config : Config) (bytes line trace : List ℕ) (reading : Reading) (is : IsLineAndTrace bytes line trace reading) where
  parts_answer : replay_answer config bytes ≡ replay_of_parts config (line ∷ []) 1 (lines trace)
  unfolding replay_answer
  parts_answer = answer_by_lines config (lines bytes) ∙ rw (is.line_is, is.others) refl

  pub line_refused : (error : AnswerError) → GivesPart {A = List ℕ} (Err error) (table_part (table_of_line line))
      → GivesFault (ReplayAnswers config bytes) error
  line_refused error gives = grind (arith, parts_answer)

  pub line_replayed : {O : Type 0} (left : O → List ℕ) (table : List ℕ) → table_part (table_of_line line) ≡ Ok table
      → (result : Result (O × Status) AnswerError) → GivesAnswer left (λ answer. replay_over config table 1 (lines trace) ≡ answer) result
      → GivesAnswer left (ReplayAnswers config bytes) result
  line_replayed left table read result gives = grind (arith, parts_answer)

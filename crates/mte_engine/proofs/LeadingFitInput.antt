-- What is kept of an input of a fit and the counts after it, and what the answer to it is.
use Rattle.std.proofs.Common.{◌≡◌, ℕ, ◌+◌, ◌-◌, ◌≤◌, true, List, [], ◌∷◌, ◌++◌, length, take, drop, Option, Some, None, Ok, Result, refl}
use Rattle.std.proofs.{Common.{sym, ap, ◌∙◌, arith, append_assoc, length-append}, lemmas.List.{drop-append-le, length-drop, take-append-drop}}
use Rattle.std.{proofs.lemmas.List.{take-append-le, take_at}, specs.Option.{is_some}, specs.Prelude.{option_and_then}}
use Rattle.history_count.proofs.TimelineLemmas.LawLemmas.{head_is_in_front, nothing_is_read, whole_ended}
use Rattle.history_count.specs.{Timelines.Pieces.{IsReadingOf, Reading}, Timelines.TimelineText.{head_line, timeline_of, timeline_of_lines}}
use Rattle.line_text.specs.Lines.{ended, lines, words}
use Rattle.class_table.specs.NamedLines.{words_after}
use Rattle.potential_check.specs.{Certificates.SheetView.{sheet_of}, Leading.{leading_lines, lines_after}, SheetText.{fit_of_lines}}
use Rattle.potential_check.specs.{Footprints.Timelines.MomentsLine.{moments_name, moments_of_words, names_moments}}
use Rattle.potential_check.specs.declared.cost.Cost.TheVariants.{Footprint}
use Rattle.tuner_theory.specs.{Sheets.{Sheet}, declared.size_event.SizeEvent.{SizeEvent}}
use Rattle.potential_check.proofs.LawLemmas.{leading_lines-settled}
use Rattle.mte_engine.proofs.TwoParts.{one_answers, then_answered}
use Rattle.mte_engine.specs.CheckFitOver.{CheckFitEitherAnswers, CheckFitOverAnswers, IsCheckedOver, begins_moments, whole_moments_part}
use Rattle.mte_engine.specs.{CheckFit.{CheckFitAnswers}, LeadingFitInput.{IsCutAfterLine, IsFitBeforeEvents, KeepsFitOr}}
use Rattle.mte_engine.specs.{Outcome.{GivesAnswer}, Parts.{AnswersPart, both_parts, sheet_part, timeline_part}}
use Rattle.mte_engine.specs.declared.{engine.Status.{Status}, fault.AnswerError.{AnswerError}, fault.InputFault.{InputFault}}
use Rattle.tool_call.specs.declared.options.Options.{Options}
use Rattle.mte_engine.specs.declared.leading_fit.LeadingFit.{LeadingFit}

-- ---- while it is read

-- the text up to the end of the first line of what is unread of it
pub cut_after_line : (text unread line rest : List ℕ) (at : ℕ) → unread ≡ drop at text → unread ≡ line ++ 10 ∷ rest
    → IsCutAfterLine text (take (length text - length rest) text) rest
cut_after_line text unread line rest at is parts =
    let front = (take at text ++ line) ++ 10 ∷ [] in
    let all : text ≡ front ++ rest =
    grind (arith, take-append-drop, append_assoc) in
    grind (arith, length-append, take_at, whole_ended)

-- the events go on
pub keeps_events : (leading : Option LeadingFit) (old new : Reading) (text bytes piece : List ℕ) → is_some leading ≡ true
    → ((read : List ℕ) → IsReadingOf old read → IsReadingOf new (read ++ piece)) → KeepsFitOr leading old text bytes
    → KeepsFitOr leading new text (bytes ++ piece)
keeps_events leading old new text bytes piece some fed keeps = grind (arith, append_assoc)

-- The fit is known, and the reader is fed what came after the first line of the timeline.
pub keeps_begun : (leading : Option LeadingFit) (old new : Reading) (text text' bytes front rest : List ℕ) (fit : LeadingFit)
    → leading ≡ None → text ≡ front ++ rest → IsFitBeforeEvents front fit
    → ((read : List ℕ) → IsReadingOf old read → IsReadingOf new (read ++ rest)) → KeepsFitOr leading old text bytes
    → KeepsFitOr (Some fit) new text' bytes
keeps_begun (Some other) old new text text' bytes front rest fit none parts is fed keeps = absurd cc
keeps_begun None old new text text' bytes front rest fit none parts is fed keeps =
    (front, rest, sym keeps.0 ∙ parts, is, fed [] (rw keeps.1 nothing_is_read))

-- ---- in the end

-- a line of moments names them
named : (ws : Option (List (List ℕ))) (numbers : List ℕ) → option_and_then moments_of_words ws ≡ Some numbers → is_some ws ≡ true
named ws numbers e = grind arith

module _ (options : Options) (bytes front rest : List ℕ) (leading : LeadingFit) (parts : bytes ≡ front ++ rest) (is : IsFitBeforeEvents front leading) where
  all_lines : lines bytes ≡ lines front ++ lines rest
  all_lines = ap lines parts ∙ is.whole rest

  size : length (lines front) ≡ length (leading_lines (lines front)) + 2
  unfolding lines_after
  size = omega (arith, ap length is.after, length-drop (length (leading_lines (lines front))) (lines front))

  same_fit : leading_lines (lines bytes) ≡ leading_lines (lines front)
  same_fit =
      let n = length (leading_lines (lines front)) + 1 in
      let within : n ≤ length (lines front) = omega (arith, size) in
      rw all_lines
      (leading_lines-settled n (lines front) (lines front ++ lines rest) (omega arith) within
      (sym (take-append-le n (lines front) (lines rest) within)))

  after_fit : lines_after (lines bytes) ≡ is.line ∷ head_line ∷ lines rest
  unfolding lines_after
  after_fit = grind (arith, size, same_fit, drop-append-le)

  abbrev part : Result Sheet InputFault
  part = sheet_part Footprint (fit_of_lines (leading_lines (lines bytes)))

  abbrev moments : Result (List ℕ) InputFault
  moments = whole_moments_part (length (leading_lines (lines bytes))) (take 1 (lines_after (lines bytes)))

  abbrev timeline : Result (List SizeEvent) InputFault
  timeline = timeline_part (length (leading_lines (lines bytes)) + 1) (timeline_of_lines (drop 1 (lines_after (lines bytes))))

  -- The answer to a fit with its moments, and to the events after it.
  pub events_answered : {O : Type 0} (left : O → List ℕ) (result : Result (O × Status) AnswerError)
      → GivesAnswer left (AnswersPart (timeline_part leading.lines (timeline_of (ended head_line ++ rest)))
      (λ events answer. IsCheckedOver options (sheet_of leading.fit) leading.numbers.items events answer)) result
      → GivesAnswer left (CheckFitEitherAnswers options bytes) result
  events_answered left result given =
      let fit = sheet_of leading.fit in
      let numbers = leading.numbers.items in
      let names : names_moments is.line ≡ true = named (words_after moments_name (words is.line)) numbers is.moments in
      let begins : begins_moments (lines_after (lines bytes)) ≡ true = rw after_fit names in
      let read : part ≡ Ok fit = rw (same_fit, is.read) refl in
      let found : moments ≡ Ok numbers = rw (after_fit, is.moments) refl in
      let events : timeline ≡ timeline_part leading.lines (timeline_of (ended head_line ++ rest)) =
      rw (after_fit, head_is_in_front rest, is.size, same_fit) refl in
      one_answers left (CheckFitOverAnswers options bytes) (CheckFitAnswers options bytes) (begins_moments (lines_after (lines bytes))) begins result
      (then_answered part (both_parts moments timeline) (λ parts answer. IsCheckedOver options parts.0 parts.1.0 parts.1.1 answer) left fit read result
      (then_answered moments timeline (λ parts answer. IsCheckedOver options fit parts.0 parts.1 answer) left numbers found result (rw events given)))

pub fit_answered : {O : Type 0} (options : Options) (left : O → List ℕ) (known : Option LeadingFit) (leading : LeadingFit) (reading : Reading)
    (text bytes : List ℕ) (result : Result (O × Status) AnswerError) → known ≡ Some leading → KeepsFitOr known reading text bytes
    → ((rest : List ℕ) → IsReadingOf reading rest
    → GivesAnswer left (AnswersPart (timeline_part leading.lines (timeline_of (ended head_line ++ rest)))
    (λ events answer. IsCheckedOver options (sheet_of leading.fit) leading.numbers.items events answer)) result)
    → GivesAnswer left (CheckFitEitherAnswers options bytes) result
fit_answered options left None leading reading text bytes result is keeps given = absurd cc
fit_answered options left (Some other) leading reading text bytes result is (front, rest, parts, fit, read) given =
    let same : other ≡ leading = cc in
    events_answered options bytes front rest leading parts (rw same at fit) left result (given rest read)

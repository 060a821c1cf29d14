-- What is kept of an input that is a timeline or another text.
use Rattle.std.proofs.Common.{◌≡◌, ℕ, Bool, true, false, MatchBool, List, [], ◌∷◌, ◌++◌, Result, Err, refl, sym, ap, ◌∙◌, arith, drop}
use Rattle.std.proofs.{Common.{slice_index_or}, lemmas.List.Elements.{All-nil}}
use Rattle.history_count.proofs.TimelineLemmas.LawLemmas.{head_is_in_front, nothing_is_read}
use Rattle.history_count.specs.{HistoryText.{history_of, history_of_lines}, Timelines.Pieces.{IsReadingOf, Reading}}
use Rattle.history_count.specs.{Timelines.TimelineText.{head_line, timeline_of}, declared.fault.HistoryFault.TheVariants.{BadSnapshots}}
use Rattle.line_text.{proofs.LawLemmas.{cut_lines_are_read, line_in_front_is_read}, specs.Lines.{IsLine, ended, lines, words}}
use Rattle.tuner_theory.specs.declared.size_event.SizeEvent.{SizeEvent}
use Rattle.mte_engine.specs.{CountsInput.{GivesCounts, IsLineAndRest, KeepsLineAnd, KeepsTimelineOr}, Outcome.{Answer, GivesFault}}
use Rattle.mte_engine.specs.{Parts.{GivesPart, timeline_part}, Timelines.{begins_timeline}, declared.fault.AnswerError.{AnswerError}}
use Rattle.mte_engine.specs.declared.fault.{InputFault.{InputFault}}

-- ---- while it is read

-- or kept
pub keeps_text : (is : Bool) (reading : Reading) (text text' bytes piece : List ℕ) → is ≡ false → text' ≡ text ++ piece
    → KeepsTimelineOr is reading text bytes → KeepsTimelineOr is reading text' (bytes ++ piece)
keeps_text true reading text text' bytes piece is more keeps = absurd cc
keeps_text false reading text text' bytes piece is more keeps = (more ∙ ap (λ (all : List ℕ). all ++ piece) keeps.0, keeps.1)

-- the reader is fed what came after the first line
pub keeps_begun : (is : Bool) (old new : Reading) (text bytes line rest : List ℕ) → is ≡ false → text ≡ line ++ 10 ∷ rest
    → line ≡ head_line → ((read : List ℕ) → IsReadingOf old read → IsReadingOf new (read ++ rest)) → KeepsTimelineOr is old text bytes
    → KeepsTimelineOr true new text bytes
keeps_begun true old new text bytes line rest is parts head fed keeps = absurd cc
keeps_begun false old new text bytes line rest is parts head fed keeps = (
  rest,
  sym keeps.0 ∙ parts ∙ ap (λ (first : List ℕ). first ++ 10 ∷ rest) head,
  fed [] (rw keeps.1 nothing_is_read),
)

-- ---- in the end

begins : (rest : List ℕ) → begins_timeline (lines (ended head_line ++ rest)) ≡ true
begins rest = ap begins_timeline (head_is_in_front rest)

-- what the reader gives is what the bytes are
pub timeline_ended : (is : Bool) (reading : Reading) (text bytes : List ℕ) (before : ℕ) (result : Result (List SizeEvent) AnswerError)
    → is ≡ true → KeepsTimelineOr is reading text bytes
    → ((read : List ℕ) → IsReadingOf reading read → GivesPart result (timeline_part before (timeline_of (ended head_line ++ read))))
    → (begins_timeline (lines bytes) ≡ true) × GivesPart result (timeline_part before (timeline_of bytes))
timeline_ended true reading text bytes before result is (rest, parts, read) gives = rw parts (begins rest, gives rest read)
timeline_ended false reading text bytes before result is keeps gives = absurd cc

pub text_kept : (is : Bool) (reading : Reading) (text bytes : List ℕ) → is ≡ false → KeepsTimelineOr is reading text bytes → text ≡ bytes
text_kept true reading text bytes is keeps = absurd cc
text_kept false reading text bytes is keeps = keeps.0

-- a fault is the timeline's
pub counts_refused : (one other : Result Answer InputFault → Type 0) (before : ℕ) (bytes : List ℕ) (error : AnswerError)
    → GivesCounts (Err error) before bytes
    → ((fault : InputFault) → timeline_part before (timeline_of bytes) ≡ Err fault → one (Err fault))
    → GivesFault (λ answer. MatchBool (begins_timeline (lines bytes)) (one answer) (other answer)) error
counts_refused one other before bytes error gives refused = grind arith

pub counts_failed : (before : ℕ) (bytes : List ℕ) (error : AnswerError) → begins_timeline (lines bytes) ≡ true
    → GivesPart {A = List SizeEvent} (Err error) (timeline_part before (timeline_of bytes)) → GivesCounts (Err error) before bytes
counts_failed before bytes error begins gives = grind arith

-- a timeline is no history
pub no_history : (is : Bool) (reading : Reading) (text bytes : List ℕ) → is ≡ true → KeepsTimelineOr is reading text bytes
    → history_of bytes ≡ Err (1, BadSnapshots)
unfolding words
no_history true reading text bytes is (rest, parts, read) = ap history_of parts ∙ ap history_of_lines (head_is_in_front rest)
no_history false reading text bytes is keeps = absurd cc

-- ---- a line before it

abbrev first : List (List ℕ) → List ℕ
first ls = slice_index_or ls 0 []

-- the first line of an input, and what comes after it
pub line_and_rest : (is : Bool) (line bytes : List ℕ) (taken : List ℕ → Type 0) → KeepsLineAnd is line taken bytes
    → (rest : List ℕ) × IsLineAndRest bytes line rest × taken rest
unfolding lines
line_and_rest false line [] taken keeps = ([], record { line_is = keeps.0; others = refl }, keeps.2)
line_and_rest false line (b ∷ bytes) taken keeps =
    let whole : lines (b ∷ bytes) ≡ (b ∷ bytes) ∷ [] = cut_lines_are_read [] (b ∷ bytes) (All-nil IsLine) keeps.1 (omega arith) in
    ([], record { line_is = keeps.0 ∙ sym (ap first whole); others = sym (ap (drop 1) whole) }, keeps.2)
line_and_rest true line bytes taken keeps = grind (arith, line_in_front_is_read)

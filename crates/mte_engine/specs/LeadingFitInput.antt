-- An input of a fit and the counts after it: what is kept of it.
use Rattle.std.specs.Prelude.{◌≡◌, ℕ, ◌+◌, List, [], ◌∷◌, ◌++◌, length, Option, Some, None, Ok}
use Rattle.history_count.specs.Timelines.{Pieces.{AreWholeLines, IsReadingOf, Reading, nothing_read}, TimelineText.{head_line}}
use Rattle.line_text.specs.Lines.{lines}
use Rattle.potential_check.specs.{Certificates.SheetView.{sheet_of}, Footprints.Timelines.MomentsLine.{moments_of}}
use Rattle.potential_check.specs.{Leading.{leading_lines, lines_after}, SheetText.{fit_of_lines}}
use Rattle.mte_engine.specs.declared.{leading_fit_input.LeadingFitInput.{LeadingFitInput}, leading_fit.LeadingFit.{LeadingFit}}

-- A text is cut at the end of a line.
pub record IsCutAfterLine (text front rest : List ℕ) : Type 0 where
  pub parts : text ≡ front ++ rest
  pub whole : AreWholeLines front

-- These whole lines are a fit, the line of its moments, and the first line of a timeline.
pub record IsFitBeforeEvents (text : List ℕ) (fit : LeadingFit) : Type 0 where
  pub whole : AreWholeLines text
  pub read : fit_of_lines (leading_lines (lines text)) ≡ Ok (sheet_of fit.fit)
  pub size : fit.lines ≡ length (leading_lines (lines text)) + 1
  pub line : List ℕ
  pub moments : moments_of line ≡ Some fit.numbers.items
  pub after : lines_after (lines text) ≡ line ∷ head_line ∷ []

-- What is kept of the bytes taken so far: the bytes; or the fit that they begin with, and what was read of the timeline after it.
abbrev pub KeepsFitOr : Option LeadingFit → Reading → List ℕ → List ℕ → Type 0
KeepsFitOr None reading text bytes = (text ≡ bytes) × (reading ≡ nothing_read)
KeepsFitOr (Some fit) reading text bytes =
    (front rest : List ℕ) × (bytes ≡ front ++ rest) × IsFitBeforeEvents front fit × IsReadingOf reading rest

-- The input took these bytes.
abbrev pub HasTakenFit : LeadingFitInput → List ℕ → Type 0
HasTakenFit input bytes = KeepsFitOr input.leading input.reader input.text.text.items bytes

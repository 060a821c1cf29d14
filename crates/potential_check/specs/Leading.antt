-- A certificate before other lines, as a checker's input has it before the profile or the history.
use Rattle.std.specs.Prelude.{◌≡◌, ◌≤◌, ℕ, ◌+◌, if◌then◌else◌, List, [], ◌∷◌, length, drop, Result, Ok, Err}
use Rattle.line_text.specs.Lines.{lines}
use Rattle.potential_check.specs.{Certificates.SheetView.{sheet_of}, SheetText.{is_left, most_head_lines, part_after, part_of, read_by}}
use Rattle.potential_check.specs.declared.{cost.Cost.{Cost}, cost.Cost.TheVariants.{Waste, Footprint}, part.Part.{Part}}
use Rattle.potential_check.specs.declared.{part.Part.TheVariants.{Table}, fault.SheetError.{SheetError}}
use Rattle.potential_check.specs.declared.fault.SheetError.TheVariants.{OutOfMemory as NoMemory, BadSheet, BadFit}
use Rattle.potential_check.specs.declared.leading_sheet.LeadingSheet.{LeadingSheet}
use Rattle.class_table.specs.declared.table.TheConstants.{MOST_CLASSES}

-- The lines of a sheet or a fit from the one on where this part comes next: up to the first that is left.
unfoldable pub lines_from : Part → List (List ℕ) → List (List ℕ)
lines_from next [] = []
lines_from next (line ∷ ls) = if is_left next line then [] else line ∷ lines_from (part_after (part_of next line)) ls

-- The lines of the sheet, or of the fit: those before its rows, and all lines directly after them whose first word is `row`.
unfoldable pub leading_lines : List (List ℕ) → List (List ℕ)
leading_lines ls = lines_from Table ls

-- The lines after it.
unfoldable pub lines_after : List (List ℕ) → List (List ℕ)
lines_after ls = drop (length (leading_lines ls)) ls

-- What is read of the leading lines, how many they are, and the text after them.
pub record IsLeadingOf {A : Type 0} (reading : List (List ℕ) → Result A ℕ) (ls : List (List ℕ)) (value : A) (count : ℕ)
    (rest : List ℕ) : Type 0 where
  pub read : reading (leading_lines ls) ≡ Ok value
  pub size : count ≡ length (leading_lines ls)
  pub few : count ≤ most_head_lines + MOST_CLASSES
  pub after : lines rest ≡ lines_after ls

-- What was read of these lines by a cost, unless memory ran out.
abbrev pub GivesLeadingBy : {C : Type 0} → Cost → List (List ℕ) → Result (LeadingSheet C) SheetError → Type 0
GivesLeadingBy cost ls (Ok leading) = IsLeadingOf (read_by cost) ls (sheet_of leading.sheet) leading.lines leading.rest.now
GivesLeadingBy cost ls (Err NoMemory) = Unit {0}
GivesLeadingBy cost ls (Err (BadSheet number)) = (cost ≡ Waste) × (read_by cost (leading_lines ls) ≡ Err number)
GivesLeadingBy cost ls (Err (BadFit number)) = (cost ≡ Footprint) × (read_by cost (leading_lines ls) ≡ Err number)

-- A sheet's text: a class line, `limit K`, `step S` where the step is not 1, `forced 1024` where the largest class is forced, `waste W`, and a
-- line `row ..` for each row.
-- A fit has `footprint F` in place of `waste W`. What is below names the cost.
use Rattle.std.specs.{List.{list_all}, Option.{ok_or, option_map}, Result.{result_map_both, result_ok}}
use Rattle.std.specs.Prelude.{◌≡◌, ℕ, ◌<◌, ◌+◌, ◌-◌, ◌≤◌, ◌^◌, Bool, true, false, ◌||◌, ◌&&◌, not, List, [], ◌∷◌, ◌++◌, length, map, All}
use Rattle.std.specs.Prelude.{codes, Option, Some, None, is_some, option_and_then, Result, Ok, Err, nat_lt, nat_le, ◌==◌, if◌then◌else◌}
use Rattle.line_text.specs.{Lines.{IsTextOf, lines, words, text_of}, LineSteps.{LineSteps, read_lines}, declared.line_reader.Stop.{Stop}}
use Rattle.line_text.specs.declared.line_reader.Stop.TheVariants.{OutOfMemory, Fault}
use Rattle.class_table.specs.{ClassLine.{class_line, table_of_line}, NamedLines.{named_line, numbers_of, words_after}, Steps.{IsStep}}
use Rattle.class_table.specs.{Tables.{IsLegalTable}, declared.sizes.TheConstants.{LARGEST_CLASS, MOST_NEEDS}}
use Rattle.class_table.specs.declared.table.TheConstants.{MOST_CLASSES}
use Rattle.potential_check.specs.declared.{cost.Cost.{Cost}, cost.Cost.TheVariants.{Waste, Footprint}, fault.SheetError.{SheetError}}
use Rattle.potential_check.specs.declared.{part.Part.{Part}, part.Part.TheVariants.{Table, Limit, Step, Forced, Stated, Row}}
use Rattle.potential_check.specs.declared.fault.SheetError.TheVariants.{OutOfMemory as NoMemory, BadSheet, BadFit}
pub use Rattle.potential_check.specs.declared.reading.SheetReading.{SheetReading}
use Rattle.tuner_theory.specs.Sheets.{Sheet}

-- ---- the spelling

-- The first word of the line that states the cost.
abbrev pub word_of : Cost → List ℕ
word_of Waste = codes "waste"
word_of Footprint = codes "footprint"

-- For step 1 there is no line.
abbrev pub step_lines : ℕ → List (List ℕ)
step_lines step = if step == 1 then [] else named_line (codes "step") (step ∷ []) ∷ []

-- Where no class is forced there is no line.
abbrev pub forced_lines : Bool → List (List ℕ)
forced_lines false = []
forced_lines true = named_line (codes "forced") (LARGEST_CLASS ∷ []) ∷ []

-- The lines before the rows.
abbrev pub head_lines : Cost → Sheet → List (List ℕ)
head_lines cost s =
    class_line s.table ∷ named_line (codes "limit") (s.limit ∷ []) ∷ step_lines s.step
    ++ (forced_lines s.forced ++ named_line (word_of cost) (s.cost ∷ []) ∷ [])

-- The lines of a table with its certificate by a cost, the waste or the footprint.
abbrev pub lines_by : Cost → Sheet → List (List ℕ)
lines_by cost s =
    class_line s.table ∷ named_line (codes "limit") (s.limit ∷ []) ∷ step_lines s.step
    ++ (forced_lines s.forced ++ named_line (word_of cost) (s.cost ∷ []) ∷ map (named_line (codes "row")) s.rows)

abbrev pub text_by : Cost → Sheet → List ℕ
text_by cost s = text_of (lines_by cost s)

-- The text of a sheet, and of a fit.
abbrev pub sheet_text : Sheet → List ℕ
sheet_text s = text_by Waste s

abbrev pub fit_text : Sheet → List ℕ
fit_text f = text_by Footprint f

-- ---- the limits of the format

abbrev pub IsRow : List ℕ → Type 0
IsRow numbers = (length numbers ≤ MOST_NEEDS) × All (λ n. n < 2 ^ 64) numbers

-- What a sheet keeps to, for its text to be read.
pub record IsWithinLimits (s : Sheet) : Type 0 where
  pub table : IsLegalTable 1 s.table
  pub limit : (1 ≤ s.limit) × (s.limit ≤ MOST_CLASSES)
  pub step : IsStep s.step
  pub cost : s.cost < 2 ^ 64
  pub few : length s.rows ≤ MOST_CLASSES
  pub rows : All IsRow s.rows

-- The text spells this sheet by the cost, its last line with its newline or without.
pub record SpellsBy (cost : Cost) (text : List ℕ) (s : Sheet) : Type 0 where
  pub limits : IsWithinLimits s
  pub spelled : IsTextOf text (lines_by cost s)

abbrev pub SpellsSheet : List ℕ → Sheet → Type 0
SpellsSheet text s = SpellsBy Waste text s

abbrev pub SpellsFit : List ℕ → Sheet → Type 0
SpellsFit text f = SpellsBy Footprint text f

-- ---- reading a line

-- What was read, where it passes a test.
abbrev pub passing : {A : Type 0} → (A → Bool) → Option A → Option A
passing test None = None
passing test (Some x) = if test x then Some x else None

abbrev pub only_one : List ℕ → Option ℕ
only_one (n ∷ []) = Some n
only_one numbers = None

-- The number that words spell if they are just one number, where it passes the test.
abbrev pub number_of_words : (ℕ → Bool) → List (List ℕ) → Option ℕ
number_of_words test ws = passing test (option_and_then only_one (numbers_of ws))

-- The number of a line of this name and just one number, where it passes the test.
abbrev pub number_in : List ℕ → (ℕ → Bool) → List ℕ → Option ℕ
number_in name test line = option_and_then (number_of_words test) (words_after name (words line))

-- What 64 bits hold.
abbrev pub fits : ℕ → Bool
fits n = nat_lt n (2 ^ 64)

abbrev pub is_limit : ℕ → Bool
is_limit k = nat_le 1 k && nat_le k MOST_CLASSES

-- A step of 1 is not written.
abbrev pub is_written_step : ℕ → Bool
is_written_step step = step == 2 || step == 4 || step == 8

-- Only the largest class is forced.
abbrev pub is_forced : ℕ → Bool
is_forced class = class == LARGEST_CLASS

abbrev pub is_row : List ℕ → Bool
is_row numbers = nat_le (length numbers) MOST_NEEDS && list_all fits numbers

abbrev pub table_in : List ℕ → Option (List ℕ)
table_in line = result_ok (table_of_line line)

abbrev pub limit_in : List ℕ → Option ℕ
limit_in line = number_in (codes "limit") is_limit line

abbrev pub step_in : List ℕ → Option ℕ
step_in line = number_in (codes "step") is_written_step line

-- That a class is forced.
abbrev pub forced_in : List ℕ → Option Bool
forced_in line = option_map (λ class. true) (number_in (codes "forced") is_forced line)

abbrev pub cost_in : Cost → List ℕ → Option ℕ
cost_in cost line = number_in (word_of cost) fits line

-- The row that the words after a line's name spell.
abbrev pub row_of_words : List (List ℕ) → Option (List ℕ)
row_of_words ws = passing is_row (numbers_of ws)

abbrev pub row_in : List ℕ → Option (List ℕ)
row_in line = option_and_then row_of_words (words_after (codes "row") (words line))

-- Whether a line's first word is this name.
abbrev pub is_named : List ℕ → List ℕ → Bool
is_named name line = is_some (words_after name (words line))

-- ---- reading line by line

-- The part that a line states, where this one comes next. The lines of a step and of a forced class may be missing.
abbrev pub part_of : Part → List ℕ → Part
part_of Step line = if is_named (codes "step") line then Step else if is_named (codes "forced") line then Forced else Stated
part_of Forced line = if is_named (codes "forced") line then Forced else Stated
part_of next line = next

-- The part that comes after one.
abbrev pub part_after : Part → Part
part_after Table = Limit
part_after Limit = Step
part_after Step = Forced
part_after Forced = Stated
part_after Stated = Row
part_after Row = Row

-- Whether the next line is left to others: one after the cost's that is no row.
abbrev pub is_left : Part → List ℕ → Bool
is_left Row line = not (is_named (codes "row") line)
is_left next line = false

abbrev pub with_row : Sheet → List ℕ → Sheet
with_row s row = record {
  table = s.table;
  limit = s.limit;
  step = s.step;
  forced = s.forced;
  cost = s.cost;
  rows = s.rows ++ row ∷ [];
}

-- No row comes after as many as are allowed.
abbrev pub with_row_of : Sheet → List ℕ → Option Sheet
with_row_of s line = if nat_lt (length s.rows) MOST_CLASSES then option_map (with_row s) (row_in line) else None

-- What the line of a part makes of the sheet that was read before it, by the cost.
abbrev pub with_part : Cost → Part → Sheet → List ℕ → Option Sheet
with_part cost Table s line =
    option_map (λ table. record { table = table; limit = s.limit; step = s.step; forced = s.forced; cost = s.cost; rows = s.rows })
    (table_in line)
with_part cost Limit s line =
    option_map (λ limit. record { table = s.table; limit = limit; step = s.step; forced = s.forced; cost = s.cost; rows = s.rows })
    (limit_in line)
with_part cost Step s line =
    option_map (λ step. record { table = s.table; limit = s.limit; step = step; forced = s.forced; cost = s.cost; rows = s.rows })
    (step_in line)
with_part cost Forced s line =
    option_map (λ forced. record { table = s.table; limit = s.limit; step = s.step; forced = forced; cost = s.cost; rows = s.rows })
    (forced_in line)
with_part cost Stated s line =
    option_map (λ stated. record { table = s.table; limit = s.limit; step = s.step; forced = s.forced; cost = stated; rows = s.rows })
    (cost_in cost line)
with_part cost Row s line = with_row_of s line

-- The sheet is whole where only rows are left to come.
abbrev pub whole : Part → Sheet → Option Sheet
whole Row s = Some s
whole next s = None

abbrev pub sheet_steps : LineSteps SheetReading Sheet (Unit {0})
sheet_steps = record {
  step = λ r line. ok_or (option_map (λ s. record { cost = r.cost; next = part_after (part_of r.next line); sheet = s })
      (with_part r.cost (part_of r.next line) r.sheet line)) tt;
  finish = λ r. ok_or (whole r.next r.sheet) tt;
}

-- Nothing was read: the parts whose lines may be missing stand as they are without these.
abbrev pub nothing_stated : Sheet
nothing_stated = record { table = []; limit = 1; step = 1; forced = false; cost = 0; rows = [] }

abbrev pub nothing_read : Cost → SheetReading
nothing_read cost = record { cost = cost; next = Table; sheet = nothing_stated }

-- There are at most so many lines before the rows.
abbrev pub most_head_lines : ℕ
most_head_lines = 5

-- How many of them may come from a part on.
abbrev pub before_rows : Part → ℕ
before_rows Table = most_head_lines
before_rows Limit = 4
before_rows Step = 3
before_rows Forced = 2
before_rows Stated = 1
before_rows Row = 0

abbrev pub may_come : SheetReading → ℕ
may_come r = before_rows r.next + (MOST_CLASSES - length r.sheet.rows)

-- What is read of lines, or the number of the first faulty one. A missing line is faulty too.
unfoldable pub read_by : Cost → List (List ℕ) → Result Sheet ℕ
read_by cost ls = result_map_both (λ s. s) (λ fault. fault.0) (read_lines sheet_steps 1 (nothing_read cost) ls)

abbrev pub sheet_of_lines : List (List ℕ) → Result Sheet ℕ
sheet_of_lines ls = read_by Waste ls

abbrev pub fit_of_lines : List (List ℕ) → Result Sheet ℕ
fit_of_lines ls = read_by Footprint ls

-- What is read of a text, or the number of its first faulty line.
abbrev pub read_in : Cost → List ℕ → Result Sheet ℕ
read_in cost text = read_by cost (lines text)

-- What was made of a line, unless memory ran out.
abbrev pub IsTaken : Option Sheet → Sheet → Result (Unit {0}) (Stop (Unit {0})) → Type 0
IsTaken read new (Ok done) = read ≡ Some new
IsTaken read new (Err OutOfMemory) = Unit {0}
IsTaken read new (Err (Fault fault)) = read ≡ None

-- That the line of this number is faulty or missing, by the cost.
abbrev pub bad_line : Cost → ℕ → SheetError
bad_line Waste number = BadSheet number
bad_line Footprint number = BadFit number

-- What a reader of a cost returned is what the definition says, unless memory ran out.
abbrev pub GivesBy : {A B : Type 0} → Cost → (A → B) → Result A SheetError → Result B ℕ → Type 0
GivesBy cost view (Ok x) read = read ≡ Ok (view x)
GivesBy cost view (Err NoMemory) read = Unit {0}
GivesBy cost view (Err (BadSheet number)) read = (cost ≡ Waste) × (read ≡ Err number)
GivesBy cost view (Err (BadFit number)) read = (cost ≡ Footprint) × (read ≡ Err number)

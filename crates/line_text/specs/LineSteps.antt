-- Reading a text line by line: each line leads from what was read before it to what was read with it.
use Rattle.std.specs.Prelude.{ℕ, suc, List, [], ◌∷◌, Result, Ok, Err}
use Rattle.line_text.specs.FirstFault.{◌>>=◌}

-- How a text is read: what a line makes of what was read before it, and what was read in the end.
pub record LineSteps (State Value Fault : Type 0) : Type 0 where
  pub step : State → List ℕ → Result State Fault
  pub finish : State → Result Value Fault

-- A fault, at the line of this number.
abbrev pub at_line : {A Fault : Type 0} → ℕ → Result A Fault → Result A (ℕ × Fault)
at_line number (Ok x) = Ok x
at_line number (Err fault) = Err (number, fault)

-- What the lines are read as, after what was read before them: a value, or the number of the first faulty line and its fault. The first of
-- the lines has this number. Where the end is a fault, a line is missing: that after the last.
unfoldable pub read_lines : {State Value Fault : Type 0} → LineSteps State Value Fault → ℕ → State → List (List ℕ) → Result Value (ℕ × Fault)
read_lines steps number s [] = at_line number (steps.finish s)
read_lines steps number s (line ∷ ls) = at_line number (steps.step s line) >>= λ next. read_lines steps (suc number) next ls

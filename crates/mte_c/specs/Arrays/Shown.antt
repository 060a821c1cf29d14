-- What C is told of the answer of a call over arrays.
use Rattle.std.specs.Prelude.{◌≡◌, ℕ, List, ◌++◌, length, Some, Result, Ok, Err, OnErr}
use Rattle.class_table.specs.FaultText.{shown_table_error}
use Rattle.handed_text.specs.declared.ends.TheConstants.{DONE, NO, REFUSED, OUT_OF_MEMORY, BAD_OPTION, MISUSE}
use Rattle.line_text.specs.Numbers.{leading_number_of}
use Rattle.profile_count.specs.FaultText.{shown_profile_fault}
use Rattle.tuner_theory.specs.{Sheets.{code_of}, declared.verdict.Verdict.{Verdict}}
use Rattle.tuner_theory.specs.declared.verdict.Verdict.TheVariants.{Optimal, Refused}
use Rattle.mte_c.specs.{Arrays.Calls.{IsChecked, IsScored, IsTunedInto, IsTunedOr}, declared.arrays.fault.ArrayError.{ArrayError}}
use Rattle.mte_c.specs.declared.arrays.fault.ArrayError.TheVariants.{OutOfMemory, Table, Entry, BadOption, Misuse}
use Rattle.mte_c.specs.declared.arrays.{numbers.Numbers.{Numbers}, tuning.TunedNumbers.{TunedNumbers}}
use Rattle.mte_engine.specs.declared.scoring.{TableScore.{TableScore}, TableScore.TheVariants.{Waste, NotServing}}
use Rattle.tool_call.specs.declared.options.Options.{Options}

-- An end and no number.
abbrev pub plain : ℕ → Numbers
plain end = record { end = end; fault = 0; at = 0; waste = 0; classes = 0; places = 0 }

-- The code is the number at the start of the fault's text.
abbrev pub IsCodeIn : List ℕ → ℕ → Type 0
IsCodeIn shown code = (rest : List ℕ) → leading_number_of (shown ++ rest) ≡ Some code

abbrev pub ShowsError : ArrayError → Numbers → Type 0
ShowsError OutOfMemory numbers = numbers ≡ plain OUT_OF_MEMORY
ShowsError BadOption numbers = numbers ≡ plain BAD_OPTION
ShowsError Misuse numbers = numbers ≡ plain MISUSE
ShowsError (Table fault) numbers =
    IsCodeIn (shown_table_error fault) numbers.fault × (numbers ≡ record (plain REFUSED) { fault = numbers.fault })
ShowsError (Entry index fault) numbers =
    IsCodeIn (shown_profile_fault fault) numbers.fault × (numbers ≡ record (plain REFUSED) { fault = numbers.fault; at = index })

abbrev pub ShowsScore : Result TableScore ArrayError → Numbers → Type 0
ShowsScore (Ok (Waste waste)) numbers = numbers ≡ record (plain DONE) { waste = waste }
ShowsScore (Ok (NotServing size)) numbers = numbers ≡ record (plain NO) { at = size }
ShowsScore (Err error) numbers = ShowsError error numbers

abbrev pub ShowsTuned : Result TunedNumbers ArrayError → Numbers → Type 0
ShowsTuned (Ok tuned) numbers = numbers ≡ record (plain DONE) { waste = tuned.waste; classes = tuned.classes; places = tuned.places }
ShowsTuned (Err error) numbers = ShowsError error numbers

abbrev pub ShowsVerdict : Result Verdict ArrayError → Numbers → Type 0
ShowsVerdict (Ok Optimal) numbers = numbers ≡ plain DONE
ShowsVerdict (Ok (Refused refusal)) numbers = numbers ≡ record (plain NO) { fault = code_of refusal }
ShowsVerdict (Err error) numbers = ShowsError error numbers

-- ---- the functions for C

pub record Scores (options : Options) (classes sizes counts : List ℕ) (numbers : Numbers) : Type 0 where
  pub scored : Result TableScore ArrayError
  pub is_scored : IsScored options classes sizes counts scored
  pub shown : ShowsScore scored numbers

pub record Tunes (options : Options) (sizes counts classes rows classes' rows' : List ℕ) (numbers : Numbers) : Type 0 where
  pub tuned : Result TunedNumbers ArrayError
  pub is_tuned : IsTunedOr options sizes counts (length classes) tuned (IsTunedInto options sizes counts classes rows classes' rows')
  pub classes_kept : OnErr tuned (classes' ≡ classes)
  pub rows_kept : OnErr tuned (rows' ≡ rows)
  pub shown : ShowsTuned tuned numbers

pub record Checks (options : Options) (waste : ℕ) (classes rows sizes counts : List ℕ) (numbers : Numbers) : Type 0 where
  pub checked : Result Verdict ArrayError
  pub is_checked : IsChecked options waste classes rows sizes counts checked
  pub shown : ShowsVerdict checked numbers

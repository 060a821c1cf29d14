-- What the calls over arrays answer.
use Rattle.std.specs.Prelude.{◌≡◌, ◌≢◌, ℕ, ◌*◌, ◌/◌, ◌%◌, ◌<◌, ◌≤◌, ◌==◌, List, ◌++◌, drop, length, Result, Ok, Err, IsOk}
use Rattle.class_table.specs.{Faults.{table_of_classes}, declared.fault.TableError.{TableError}}
use Rattle.mte_engine.specs.{Check.{IsJudged}, Score.{score_of}, Tune.{IsTunedBy}, declared.scoring.TableScore.{TableScore}}
use Rattle.tool_call.specs.{Options.{AreValid}, declared.options.Options.{Options}}
use Rattle.tool_call.specs.declared.call.CommandName.TheVariants.{Score, Tune, Check}
use Rattle.tuner_theory.specs.{Profiles.{Profile}, Served.{served}, Sheets.{Sheet}, Spans.{places}, declared.verdict.Verdict.{Verdict}}
use Rattle.mte_c.specs.{Arrays.Spelled.{AreRows, profile_of_arrays}, declared.arrays.fault.ArrayError.{ArrayError}}
use Rattle.mte_c.specs.declared.arrays.fault.ArrayError.TheVariants.{OutOfMemory, Table, Entry, BadOption, Misuse}
use Rattle.mte_c.specs.declared.arrays.tuning.TunedNumbers.{TunedNumbers}

-- The table of some classes, or their fault.
abbrev pub GivesTable : Result (List ℕ) ArrayError → Result (List ℕ) TableError → Type 0
GivesTable (Ok table) read = read ≡ Ok table
GivesTable (Err (Table fault)) read = read ≡ Err fault
GivesTable (Err other) read = ⊥

-- ---- score

abbrev pub IsScored : Options → List ℕ → List ℕ → List ℕ → Result TableScore ArrayError → Type 0
IsScored options classes sizes counts (Ok score) =
    AreValid Score options × ((table : List ℕ) × (profile : Profile) × (table_of_classes classes ≡ Ok table)
    × (profile_of_arrays sizes counts ≡ Ok profile) × (score ≡ score_of options table profile))
IsScored options classes sizes counts (Err OutOfMemory) = AreValid Score options × IsOk (table_of_classes classes)
IsScored options classes sizes counts (Err (Table fault)) = AreValid Score options × (table_of_classes classes ≡ Err fault)
IsScored options classes sizes counts (Err (Entry index fault)) =
    AreValid Score options × IsOk (table_of_classes classes) × (profile_of_arrays sizes counts ≡ Err (index, fault))
IsScored options classes sizes counts (Err BadOption) = AreValid Score options → ⊥
IsScored options classes sizes counts (Err Misuse) = ⊥

-- ---- tune

-- How many numbers each row of a profile's certificate has.
abbrev pub places_by : Options → Profile → ℕ
places_by options profile = places (served (options.largest_class == 1) profile.counts) options.step

-- The tuned sheet, as numbers: its classes at the start of one array, and its rows at the start of another if they fit.
pub record IsTunedInto (options : Options) (sizes counts classes rows classes' rows' : List ℕ) (tuned : TunedNumbers) : Type 0 where
  pub profile : Profile
  pub spelled : profile_of_arrays sizes counts ≡ Ok profile
  pub sheet : Sheet
  pub is_tuned : IsTunedBy options profile sheet
  pub class_count : tuned.classes ≡ length sheet.table
  pub waste : tuned.waste ≡ sheet.cost
  pub row_length : tuned.places ≡ places_by options profile
  pub table : classes' ≡ sheet.table ++ drop (length sheet.table) classes
  pub rows_fit : options.limit * tuned.places ≤ length rows → AreRows options.limit tuned.places rows' sheet.rows
  pub rows_rest : drop (options.limit * tuned.places) rows' ≡ drop (options.limit * tuned.places) rows
  pub rows_kept : length rows < options.limit * tuned.places → rows' ≡ rows

-- That, or the first error. `room` is how many classes there is room for.
abbrev pub IsTunedOr : Options → List ℕ → List ℕ → ℕ → Result TunedNumbers ArrayError → (TunedNumbers → Type 0) → Type 0
IsTunedOr options sizes counts room (Ok tuned) done = AreValid Tune options × (options.limit ≤ room) × done tuned
IsTunedOr options sizes counts room (Err OutOfMemory) done = AreValid Tune options × (options.limit ≤ room)
IsTunedOr options sizes counts room (Err (Table fault)) done = ⊥
IsTunedOr options sizes counts room (Err (Entry index fault)) done =
    AreValid Tune options × (options.limit ≤ room) × (profile_of_arrays sizes counts ≡ Err (index, fault))
IsTunedOr options sizes counts room (Err BadOption) done = AreValid Tune options → ⊥
IsTunedOr options sizes counts room (Err Misuse) done = AreValid Tune options × (room < options.limit)

-- ---- check

-- The verdict on the sheet that the numbers spell.
pub record IsCheckedAs (options : Options) (waste : ℕ) (classes numbers sizes counts : List ℕ) (verdict : Verdict) : Type 0 where
  pub table : List ℕ
  pub is_table : table_of_classes classes ≡ Ok table
  pub profile : Profile
  pub spelled : profile_of_arrays sizes counts ≡ Ok profile
  pub rows : List (List ℕ)
  pub are_rows : AreRows options.limit (length numbers / options.limit) numbers rows
  pub judged : IsJudged options (record {
    table = table;
    limit = options.limit;
    step = options.step;
    forced = options.largest_class == 1;
    cost = waste;
    rows = rows;
  }) profile verdict

-- The options of `check` are valid, and those of `tune`, by which the sheet was tuned.
abbrev pub AreToCheck : Options → Type 0
AreToCheck options = AreValid Check options × AreValid Tune options

-- That, or the first error.
abbrev pub IsChecked : Options → ℕ → List ℕ → List ℕ → List ℕ → List ℕ → Result Verdict ArrayError → Type 0
IsChecked options waste classes numbers sizes counts (Ok verdict) =
    AreToCheck options × (length numbers % options.limit ≡ 0) × IsCheckedAs options waste classes numbers sizes counts verdict
IsChecked options waste classes numbers sizes counts (Err OutOfMemory) =
    AreToCheck options × (length numbers % options.limit ≡ 0) × IsOk (table_of_classes classes)
IsChecked options waste classes numbers sizes counts (Err BadOption) = AreToCheck options → ⊥
IsChecked options waste classes numbers sizes counts (Err Misuse) = AreToCheck options × (length numbers % options.limit ≢ 0)
IsChecked options waste classes numbers sizes counts (Err (Table fault)) =
    AreToCheck options × (length numbers % options.limit ≡ 0) × (table_of_classes classes ≡ Err fault)
IsChecked options waste classes numbers sizes counts (Err (Entry index fault)) =
    AreToCheck options × (length numbers % options.limit ≡ 0) × IsOk (table_of_classes classes)
    × (profile_of_arrays sizes counts ≡ Err (index, fault))

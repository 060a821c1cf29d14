-- The conditions on a sheet at small sheets for the profile of three requests of 16 bytes and one of 40.
use Rattle.std.proofs.{Common.{ℕ, false, List, [], ◌∷◌, arith}, lemmas.Bool.{false≢true}}
use Rattle.tuner_theory.{proofs.ExampleProfiles.{two_sizes}, specs.Sheets.{IsVerdict, Meets, Sheet}, specs.Waste.{sum_below}}
use Rattle.tuner_theory.specs.declared.verdict.Refusal.TheVariants.{OffStep, OverLimit, NotServing, WasteWrong, Shape, LastClass, StageDrop}
use Rattle.tuner_theory.specs.declared.verdict.{Refusal.TheVariants.{Edge, NotTight}, Verdict.TheVariants.{Optimal}}

-- a sheet for step 1, with two rows of two numbers
abbrev sheet_of : List ℕ → ℕ → ℕ → List ℕ → List ℕ → Sheet
sheet_of table limit waste row1 row2 = record { table = table; limit = limit; step = 1; forced = false; cost = waste; rows = row1 ∷ row2 ∷ [] }

-- the sheet of the best table of two classes
abbrev best_sheet : Sheet
best_sheet = sheet_of (2 ∷ 4 ∷ []) 2 8 (104 ∷ 8 ∷ []) (8 ∷ 8 ∷ [])

-- ---- the best sheet is optimal

best_sheet_is_optimal : IsVerdict two_sizes best_sheet Optimal
unfolding sum_below
best_sheet_is_optimal = grind arith

-- ---- sheets that break one condition

-- the last row begins with 9, and not 8
edge_too_high : Meets two_sizes (sheet_of (2 ∷ 4 ∷ []) 2 8 (104 ∷ 8 ∷ []) (9 ∷ 8 ∷ [])) Edge → ⊥
unfolding sum_below
edge_too_high meets = let broken = meets 1 0 1 (omega arith) (omega arith) (omega arith) (omega arith) in omega arith

-- the last row ends with 9, above the 8 of the row before
drop_upwards : Meets two_sizes (sheet_of (2 ∷ 4 ∷ []) 2 8 (104 ∷ 8 ∷ []) (8 ∷ 9 ∷ [])) StageDrop → ⊥
drop_upwards meets = let broken = meets 1 1 (omega arith) (omega arith) (omega arith) in omega arith

-- the first row ends with 9, or with the largest number of 64 bits, where one class wastes 8
last_class_too_high : Meets two_sizes (sheet_of (2 ∷ 4 ∷ []) 2 8 (104 ∷ 9 ∷ []) (8 ∷ 8 ∷ [])) LastClass → ⊥
unfolding sum_below
last_class_too_high meets = let broken = meets 1 (omega arith) in omega arith

last_class_far_too_high : Meets two_sizes (sheet_of (2 ∷ 4 ∷ []) 2 8 (104 ∷ 18446744073709551615 ∷ []) (8 ∷ 8 ∷ [])) LastClass → ⊥
unfolding sum_below
last_class_far_too_high meets = let broken = meets 1 (omega arith) in omega arith

-- rows of zeros bound nothing
zeros_not_tight : Meets two_sizes (sheet_of (4 ∷ []) 2 104 (0 ∷ 0 ∷ []) (0 ∷ 0 ∷ [])) NotTight → ⊥
zeros_not_tight meets = omega (arith, meets)

two_classes_over_limit_1 : Meets two_sizes (sheet_of (2 ∷ 4 ∷ []) 1 8 (104 ∷ 8 ∷ []) []) OverLimit → ⊥
two_classes_over_limit_1 meets = omega (arith, meets)

class_2_does_not_serve_40_bytes : Meets two_sizes (sheet_of (2 ∷ []) 2 0 (104 ∷ 8 ∷ []) (8 ∷ 8 ∷ [])) NotServing → ⊥
class_2_does_not_serve_40_bytes meets = false≢true (meets 40 (omega arith, omega arith))

waste_of_one_more : Meets two_sizes (sheet_of (2 ∷ 4 ∷ []) 2 9 (104 ∷ 8 ∷ []) (8 ∷ 8 ∷ [])) WasteWrong → ⊥
unfolding sum_below
waste_of_one_more meets = omega (arith, meets)

row_missing : Meets two_sizes (record { table = 2 ∷ 4 ∷ []; limit = 2; step = 1; forced = false; cost = 8; rows = (104 ∷ 8 ∷ []) ∷ [] }) Shape → ⊥
row_missing meets = omega (arith, meets.row_count)

class_3_off_step_2 : Meets two_sizes (record { table = 2 ∷ 3 ∷ 4 ∷ []; limit = 3; step = 2; forced = false; cost = 0; rows = [] }) OffStep → ⊥
class_3_off_step_2 meets = omega (arith, meets.1 1 0 (omega arith))

no_step_3 : Meets two_sizes (record { table = 2 ∷ 4 ∷ []; limit = 3; step = 3; forced = false; cost = 0; rows = [] }) OffStep → ⊥
no_step_3 meets = false≢true meets.0

no_step_0 : Meets two_sizes (record { table = 2 ∷ 4 ∷ []; limit = 3; step = 0; forced = false; cost = 0; rows = [] }) OffStep → ⊥
no_step_0 meets = false≢true meets.0

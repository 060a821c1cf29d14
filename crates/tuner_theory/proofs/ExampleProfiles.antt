-- The definitions of needs, wastes and steps at small profiles.
use Rattle.std.proofs.Common.{◌≡◌, ℕ, List, [], ◌∷◌, ◌++◌, replicate, refl, arith, inl}
use Rattle.tuner_theory.specs.{Best.{IsLexicographicallyAtMost}, Rests.{counts_above}, Rows.{table_of_ends, number_at}}
use Rattle.tuner_theory.specs.{Spans.{distinct_needs, need_at, places, span_waste}, Waste.{sum_below, waste_of}}
use Rattle.class_table.specs.Steps.{round_up}

-- three requests of 16 bytes and one of 40
abbrev pub two_sizes : List ℕ
two_sizes = replicate 16 0 ++ 3 ∷ (replicate 23 0 ++ 1 ∷ [])

-- one request each of 16, 32 and 48 bytes
abbrev pub three_sizes : List ℕ
three_sizes = replicate 16 0 ++ 1 ∷ (replicate 15 0 ++ 1 ∷ (replicate 15 0 ++ 1 ∷ []))

-- one request of no bytes
abbrev pub empty_request : List ℕ
empty_request = 1 ∷ []

-- ---- rounding

rounds_up : (round_up 2 1 ≡ 2) × (round_up 3 2 ≡ 4) × (round_up 4 2 ≡ 4) × (round_up 5 4 ≡ 8) × (round_up 2 8 ≡ 8)
    × (round_up 1024 8 ≡ 1024)
rounds_up = (refl, refl, refl, refl, refl, refl)

-- ---- distinct needs

needs_of_two_sizes : (distinct_needs two_sizes 1 ≡ 2 ∷ 4 ∷ []) × (distinct_needs two_sizes 4 ≡ 4 ∷ [])
needs_of_two_sizes = (refl, refl)

needs_of_three_sizes : (distinct_needs three_sizes 1 ≡ 2 ∷ 3 ∷ 4 ∷ []) × (distinct_needs three_sizes 2 ≡ 2 ∷ 4 ∷ [])
    × (distinct_needs three_sizes 8 ≡ 8 ∷ [])
needs_of_three_sizes = (refl, refl, refl)

needs_of_empty_request : (distinct_needs empty_request 1 ≡ 2 ∷ []) × (distinct_needs [] 1 ≡ [])
needs_of_empty_request = (refl, refl)

-- ---- span wastes

spans_of_two_sizes : (span_waste two_sizes 1 0 1 ≡ 0) × (span_waste two_sizes 1 0 2 ≡ 104) × (span_waste two_sizes 1 1 2 ≡ 8)
unfolding sum_below
spans_of_two_sizes = (refl, refl, refl)

spans_of_three_sizes : (span_waste three_sizes 1 0 1 ≡ 0) × (span_waste three_sizes 1 0 2 ≡ 16) × (span_waste three_sizes 1 0 3 ≡ 48)
    × (span_waste three_sizes 1 1 2 ≡ 0) × (span_waste three_sizes 1 1 3 ≡ 16) × (span_waste three_sizes 1 2 3 ≡ 0)
unfolding sum_below
spans_of_three_sizes = (refl, refl, refl, refl, refl, refl)

spans_of_three_sizes_in_steps : (span_waste three_sizes 2 0 1 ≡ 0) × (span_waste three_sizes 2 0 2 ≡ 48)
    × (span_waste three_sizes 2 1 2 ≡ 16)
    × (span_waste three_sizes 8 0 1 ≡ 240)
unfolding sum_below
spans_of_three_sizes_in_steps = (refl, refl, refl, refl)

span_of_empty_request : span_waste empty_request 1 0 1 ≡ 16
unfolding sum_below
span_of_empty_request = refl

-- ---- wastes of tables

wastes_of_two_sizes : (waste_of two_sizes (4 ∷ []) ≡ 104) × (waste_of two_sizes (2 ∷ 4 ∷ []) ≡ 8)
unfolding sum_below
wastes_of_two_sizes = (refl, refl)

-- two tables that waste the same, and which of them comes first
tied_tables : (waste_of three_sizes (2 ∷ 4 ∷ []) ≡ 16) × (waste_of three_sizes (3 ∷ 4 ∷ []) ≡ 16)
    × IsLexicographicallyAtMost (2 ∷ 4 ∷ []) (3 ∷ 4 ∷ [])
unfolding sum_below
tied_tables = (refl, refl, inl (omega arith))

wastes_in_steps : (waste_of three_sizes (8 ∷ []) ≡ 240) × (waste_of empty_request (2 ∷ []) ≡ 16) × (waste_of empty_request (4 ∷ []) ≡ 48)
unfolding sum_below
wastes_in_steps = (refl, refl, refl)

-- what is above the first need: the request of 40 bytes alone
waste_of_rest : waste_of (counts_above two_sizes 1 1) (4 ∷ []) ≡ 8
unfolding sum_below
waste_of_rest = refl

-- ---- the table that ends give

table_of_two_rows :
    table_of_ends (need_at three_sizes 1) (number_at ((3 ∷ 3 ∷ 3 ∷ []) ∷ (1 ∷ 2 ∷ 3 ∷ []) ∷ [])) (places three_sizes 1) 2 0 ≡ 2 ∷ 4 ∷ []
table_of_two_rows = refl

-- Worked examples: the moment of the first round, and what a fit breaks over a whole timeline alone.
use Rattle.std.proofs.Common.{◌≡◌, ℕ, false, List, [], ◌∷◌, length, slice_index, refl, sym, subst, arith}
use Rattle.std.proofs.lemmas.Bool.{false≢true}
use Rattle.class_tuner.specs.Fits.Timelines.Rounds.{IsDecisive}
use Rattle.history_count.specs.Timelines.Requests.{IsFirstLive, IsLargest}
use Rattle.potential_check.specs.Footprints.Timelines.Verdicts.{IsBrokenBeyond}
use Rattle.tuner_theory.specs.{Histories.{peaks}, Sheets.{Sheet}, Timelines.{footprint_over, moments, snapshot_at}, Waste.{Serves, sum_below}}
use Rattle.tuner_theory.specs.declared.verdict.Refusal.TheVariants.{NotServing, NotTight, WasteWrong}
use Rattle.definition_examples.proofs.TimelineExamples.{block_of_40_is_first_live_at_2, blocks_of_40, larger_comes_second, largest_is_40, one_after_the_other}

-- ---- the moment of the first round

only_40_is_largest : (n : ℕ) → IsLargest larger_comes_second n → n ≡ 40
only_40_is_largest n largest =
    let above = largest.greatest 40 (omega arith) largest_is_40.some in
    let below = largest_is_40.greatest n largest.counted largest.some in omega (arith, above, below)

first_live_is_decisive : IsDecisive larger_comes_second 2
first_live_is_decisive = record {
  first = λ n largest. subst (λ size. IsFirstLive larger_comes_second size 2) (sym (only_40_is_largest n largest)) block_of_40_is_first_live_at_2;
  none = λ none. omega (arith, none 40 (omega arith), largest_is_40.some);
}

last_live_is_not_decisive : IsDecisive larger_comes_second 4 → ⊥
last_live_is_not_decisive decisive =
    let before = (decisive.first 40 largest_is_40).before 2 (omega arith) in omega (arith, before, blocks_of_40.2)

first_event_is_not_decisive : IsDecisive larger_comes_second 1 → ⊥
first_event_is_not_decisive decisive = let live = (decisive.first 40 largest_is_40).live in omega (arith, live, blocks_of_40.1)

-- ---- what breaks over the whole timeline alone

abbrev fit_of : List ℕ → ℕ → Sheet
fit_of table cost = record { table = table; limit = 2; step = 1; forced = false; cost = cost; rows = [] }

peaks_of_two_sizes : (length (peaks (moments one_after_the_other)) ≡ 16369) × (slice_index (peaks (moments one_after_the_other)) 40 ≡ 1)
unfolding peaks moments snapshot_at
peaks_of_two_sizes = (refl, refl)

-- each class takes its most over all moments: 32 and 64 bytes
footprint_over_all_moments : footprint_over one_after_the_other (2 ∷ 4 ∷ []) ≡ 96
unfolding moments snapshot_at sum_below
footprint_over_all_moments = refl

size_served_at_no_moment : IsBrokenBeyond one_after_the_other (fit_of (2 ∷ []) 32) NotServing
size_served_at_no_moment serves = false≢true (serves 40 (omega (arith, peaks_of_two_sizes.0), omega (arith, peaks_of_two_sizes.1)))

-- the most bytes that are live at once, which the table takes at no one moment
less_than_over_all_moments :
    Serves (peaks (moments one_after_the_other)) (2 ∷ 4 ∷ []) → IsBrokenBeyond one_after_the_other (fit_of (2 ∷ 4 ∷ []) 64) WasteWrong
less_than_over_all_moments serves = (serves, λ same. omega (arith, same, footprint_over_all_moments))

just_the_footprint_is_not_broken : IsBrokenBeyond one_after_the_other (fit_of (2 ∷ 4 ∷ []) 96) WasteWrong → ⊥
just_the_footprint_is_not_broken broken = broken.1 footprint_over_all_moments

nothing_else_breaks : IsBrokenBeyond one_after_the_other (fit_of (2 ∷ 4 ∷ []) 96) NotTight → ⊥
nothing_else_breaks broken = broken

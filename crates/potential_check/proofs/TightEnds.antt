-- The edges of the places from one on, as a walk down the ends has seen to them.
use Rattle.std.proofs.{Common.{◌≡◌, ℕ, ◌+◌, ◌<◌, ◌≤◌, List, length, slice_index, arith}, lemmas.Bool.{cases_lt}, lemmas.List.{get_or_past}}
use Rattle.potential_check.specs.{Certificates.Spanned.{Spanned}, RowConditions.{EdgesHold, HasTightEnd, IsTightEnd, edge_bound}}
use Rattle.tuner_theory.{proofs.LawLemmas.{places_cross}, specs.Spans.{places}}
use Rattle.class_table.specs.Steps.{IsStep}

-- the numbers from place i on are within their edges to the ends from `end` on
abbrev pub HoldFrom : Spanned → List ℕ → List ℕ → ℕ → ℕ → Type 0
HoldFrom s before row i end =
    (k j : ℕ) → i ≤ k → k < length row → k < j → end ≤ j → j ≤ places s.counts s.step → slice_index row k ≤ edge_bound s before k j

-- the same, and the number at place i is just what its edge to `end` allows
pub record IsWalked (s : Spanned) (before row : List ℕ) (i end : ℕ) : Type 0 where
  pub within : end ≤ places s.counts s.step
  pub after : i < length row → i < end
  pub tight : i < length row → slice_index row i ≡ edge_bound s before i end
  pub last : length row ≤ i → end ≡ places s.counts s.step
  pub hold : HoldFrom s before row i end

module _ (s : Spanned) (is_step : IsStep s.step) (before row : List ℕ) (full : length row ≡ places s.counts s.step) where
  -- more ends for the same places: where the first of them keeps within its edges there, all do
  pub walked-lower : (i end low : ℕ) → IsWalked s before row i end → i < length row
      → ((j : ℕ) → i < j → low ≤ j → j < end → slice_index row i ≤ edge_bound s before i j) → HoldFrom s before row i low
  walked-lower i end low walked some here = λ k j from within lt above upto. grind (
    arith,
    walked.hold k j from,
    walked.hold k end from,
    here j,
    places_cross s.counts s.step i k j end is_step,
  )

  -- a place more
  pub walked-more : (i later end tight : ℕ) → later ≡ i + 1 → IsWalked s before row later end → i < length row →
      IsTightEnd s before row i end tight
      → IsWalked s before row i tight
  walked-more i later end tight is so_far some found = let walked : IsWalked s before row (i + 1) end = rw is at so_far in record {
    within = omega (arith, walked.within, found.within);
    after = λ _. found.after;
    tight = λ _. found.tight;
    last = λ none. absurd (omega arith);
    hold = λ k j from within lt above upto. grind (
      arith,
      walked-lower (i + 1) end tight walked,
      found.here j,
      found.here end,
      found.next,
      walked.hold (i + 1) j,
      places_cross s.counts s.step i (i + 1) end j is_step,
    );
  }

  -- the whole row
  pub walked-all : (i end : ℕ) → i ≡ 0 → IsWalked s before row i end →
      ((j : ℕ) → 0 < j → j < end → slice_index row 0 ≤ edge_bound s before 0 j) → EdgesHold s before row
  walked-all i end is so_far first = let walked : IsWalked s before row 0 end = rw is at so_far in record {
    each =
        λ i j some lt upto. walked-lower 0 end 0 walked (omega arith) (λ j later _ below. first j later below) i j (omega arith) some lt
        (omega arith) upto;
  }

  -- where all edges hold, a place with a tight end has one up to that of the next place
  pub walked-end : (i later end : ℕ) → later ≡ i + 1 → IsWalked s before row later end → i < length row → EdgesHold s before row
      → HasTightEnd s before row i (places s.counts s.step) → HasTightEnd s before row i end
  walked-end i later end is so_far some hold (j, after, upto, tight) =
      let walked : IsWalked s before row (i + 1) end = rw is at so_far in
      grind (arith, hold.each i end, hold.each (i + 1) j, places_cross s.counts s.step i (i + 1) end j is_step)

-- a number that is more than one of its edges allows
pub exceeding : (s : Spanned) (before row : List ℕ) (i j : ℕ) → i < j → j ≤ places s.counts s.step
    → edge_bound s before i j < slice_index row i → EdgesHold s before row → ⊥
exceeding s before row i j lt le more holds = grind (arith, cases_lt, get_or_past)

-- The requested sizes, after all events; and an event's size is one of them.
use Rattle.std.proofs.Common.{◌≡◌, ℕ, ◌+◌, ◌^◌, ◌<◌, ◌≤◌, List, length, take, replicate, slice_index, slice_set, get_or, arith, inl}
use Rattle.std.proofs.{Common.{inr, ◌∙◌}, lemmas.Bool.{cases_lt}, lemmas.Bool.Decides.{eqb_tells}, lemmas.List.Sums.{sum_by-take-le}}
use Rattle.std.proofs.lemmas.List.{get_or-replicate, get_or-set_other, get_or-set_same, length-replicate, length-set, take_all}
use Rattle.class_table.specs.Sizes.{largest_counted}
use Rattle.tuner_theory.{proofs.TimelineSteps.{requests_at}, specs.Timelines.{IsTimeline, requested}}
use Rattle.tuner_theory.specs.declared.size_event.{SizeEvent.{SizeEvent}, SizeEvent.TheVariants.{Request, Free}}
use Rattle.history_count.proofs.TimelineLemmas.Requests.{freed-before, largest_kept, own-request, requested-free, requested-next}
use Rattle.history_count.{proofs.TimelineLemmas.Requests.{requested-other}, specs.Timelines.Requests.{IsLargestSoFar}}
use Rattle.history_count.specs.Timelines.{Runs.{size_of}, Stretches.{AreLinesBelow, AreRequested, AreSeen}}
use Rattle.history_count.specs.declared.timelines.requested_sizes.RequestedSizes.{RequestedSizes}

-- ---- the marks

pub seen-none : (events : List SizeEvent) → AreSeen events 0 (replicate (2 ^ 16) 0)
seen-none events = record {
  len = length-replicate {A = ℕ} (2 ^ 16) 0;
  marks = λ n le. (
    λ some. absurd (omega (arith, some, get_or-replicate {A = ℕ} (2 ^ 16) n 0 0 (omega arith))),
    λ some. absurd (omega (arith, some)),
  );
}

-- an event of a counted size: what is freed was requested
event-requests : (events : List SizeEvent) (k : ℕ) (event : SizeEvent) → IsTimeline events → k < length events
    → get_or events k (Request 0) ≡ event → size_of event ≤ largest_counted → 0 < requested (take (k + 1) events) (size_of event)
event-requests events k (Request n) timeline lt is counted = omega (arith, requested-next events k n (Request n) lt is, own-request n)
event-requests events k (Free n) timeline lt is counted = omega (arith, requested-free events k n n lt is, freed-before events k n timeline lt counted is)

-- one event more, of a size that had no mark,
pub seen-more : (events : List SizeEvent) (k : ℕ) (seen : List ℕ) (event : SizeEvent) → IsTimeline events → k < length events
    → AreSeen events k seen → get_or events k (Request 0) ≡ event → AreSeen events (k + 1) (slice_set seen (size_of event) 1)
seen-more events k seen event timeline lt are is = record {
  len = length-set seen (size_of event) 1 ∙ are.len;
  marks = λ n le. elim (eqb_tells n (size_of event)) [
    | inl same ↦ grind (arith, event-requests, get_or-set_same)
    | inr differs ↦
        let there = get_or-set_other seen (size_of event) n 1 0 differs.1 in
        let still = requested-other events k n event lt is differs.1 in grind arith
  ];
}

-- or of one that had: it moves no mark and not the largest size.
module _ (events : List SizeEvent) (k : ℕ) (seen : List ℕ) (event : SizeEvent) (timeline : IsTimeline events) (lt : k < length events)
    (are : AreSeen events k seen) (is : get_or events k (Request 0) ≡ event) (mark : 0 < slice_index seen (size_of event)) where
  pub seen-again : AreSeen events (k + 1) seen
  seen-again = record {
    len = are.len;
    marks = λ n le. elim (eqb_tells n (size_of event)) [
      | inl same ↦ grind (arith, event-requests)
      | inr differs ↦
          let still = requested-other events k n event lt is differs.1 in grind arith
    ];
  }

  pub largest-again : (above moment : ℕ) → IsLargestSoFar events k above moment → IsLargestSoFar events (k + 1) above moment
  largest-again above moment found = largest_kept events k above moment event lt found is (elim (cases_lt largest_counted (size_of event)) [
    | inl large ↦ inr large
    | inr counted ↦ inl (found.below (size_of event) counted ((are.marks (size_of event) counted).0 mark))
  ])

-- ---- the requested sizes

pub are-requested : (events : List SizeEvent) (seen : List ℕ) (r : RequestedSizes) → AreSeen events (length events) seen
    → AreLinesBelow seen (largest_counted + 1) r.sizes.items r.lines.items
    → IsLargestSoFar events (length events) r.largest.above r.largest.moment → AreRequested events r
are-requested events seen r are lines largest = grind (arith, take_all)

-- An event of a size is of a requested one.
some-request : (events : List SizeEvent) (k n : ℕ) → 0 < requested (take (k + 1) events) n → 0 < requested events n
some-request events k n some = omega (arith, some, sum_by-take-le (requests_at n) events (k + 1))

pub request-requests : (events : List SizeEvent) (k n : ℕ) → k < length events → get_or events k (Request 0) ≡ Request n
    → 0 < requested events n
request-requests events k n lt is =
    some-request events k n (omega (arith, requested-next events k n (Request n) lt is, own-request n))

pub free-requests : (events : List SizeEvent) (k n : ℕ) → IsTimeline events → k < length events → n ≤ largest_counted
    → get_or events k (Request 0) ≡ Free n → 0 < requested events n
free-requests events k n timeline lt counted is =
    omega (arith, freed-before events k n timeline lt counted is, sum_by-take-le (requests_at n) events k)

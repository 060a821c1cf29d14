-- The peak of some sizes over a timeline: one event more, and a stretch in which it is not higher.
use Rattle.std.proofs.Common.{◌≡◌, ℕ, zero, suc, ◌+◌, ◌-◌, ◌*◌, ◌<◌, ◌≤◌, ◌⊎◌, List, [], ◌∷◌, length, max, slice_index, slice_index_or}
use Rattle.std.proofs.{Common.{get_or, cond, ltb, true, arith, refl, ap, inl, inr, add-one}, lemmas.List.{get_or_default}}
use Rattle.std.proofs.lemmas.Bool.{cases_lt, le-ltb, lt-ltb}
use Rattle.class_table.specs.Sizes.{largest_counted}
use Rattle.tuner_theory.proofs.{Sums.{sum_balance, sum_below-more, sum_none}, Timelines.{live-at, moment-below}}
use Rattle.tuner_theory.{proofs.TimelineBlocks.{most_to-above, most_to-all, most_to-more, sum-one}, specs.Histories.{most}}
use Rattle.tuner_theory.{proofs.TimelineSteps.{frees_at, freed-more, requested-more, requests_at}, specs.Waste.{sum_below}}
use Rattle.tuner_theory.specs.{Timelines.{IsTimeline, moments, snapshot_at}, declared.size_event.SizeEvent.{SizeEvent}}
use Rattle.tuner_theory.specs.declared.size_event.SizeEvent.TheVariants.{Request, Free}
use Rattle.history_count.proofs.{CutLines.{sum-lines}, TimelineLemmas.Columns.{bounds-start, column-at, column-counts}}
use Rattle.history_count.specs.{CountedLines.{AreFew}, Histories.{blocks_from}, Timelines.LiveBlocks.{IsFirst}}
use Rattle.history_count.specs.Timelines.Stretches.{AreInOrder, AreRequested, AreStretchesTo, IsPeakTo, IsSpan, column_of}
use Rattle.history_count.specs.declared.timelines.{peaks.Peak.{Peak}, peaks.Span.{Span}, requested_sizes.RequestedSizes.{RequestedSizes}}

-- ---- sums

sum-up : (f : ℕ → ℕ) (low end : ℕ) → low ≤ end → sum_below f low ≤ sum_below f end
sum-up f low zero le = let none : low ≡ 0 = omega arith in rw none (omega arith)
sum-up f low (suc end) le = grind (arith, sum-up f low end, sum_below-more)

rest-at_most : (f g : ℕ → ℕ) (start stop : ℕ) → start ≤ stop → ((n : ℕ) → n < stop → f n ≤ g n)
    → sum_below f stop + sum_below g start ≤ sum_below g stop + sum_below f start
rest-at_most f g start zero le each = let none : start ≡ 0 = omega arith in rw none (omega arith)
rest-at_most f g start (suc stop) le each = grind (arith, rest-at_most f g start stop, sum_below-more)

-- ---- one event more

abbrev up_to : List SizeEvent → ℕ → ℕ → ℕ
up_to events k m = sum_below (slice_index (snapshot_at events k)) m

module _ (events : List SizeEvent) (k : ℕ) (timeline : IsTimeline events) (lt : k < length events) where
  balance : (m : ℕ) → m ≤ largest_counted + 1
      → up_to events (suc k) m + sum_below (λ n. frees_at n (get_or events k (Request 0))) m
      ≡ up_to events k m + sum_below (λ n. requests_at n (get_or events k (Request 0))) m
  balance m le =
      let e = get_or events k (Request 0) in
      let sums = sum_balance (slice_index (snapshot_at events (suc k))) (λ n. frees_at n e) (λ n. 0) (slice_index (snapshot_at events k))
      (λ n. requests_at n e) 1 m (λ n within. at n (omega arith)) in
      omega (arith, sums, sum_none (λ n. 0) m (λ n within. refl))
    where
      at : (n : ℕ) → n ≤ largest_counted
          → slice_index (snapshot_at events (suc k)) n + frees_at n (get_or events k (Request 0)) + 1 * 0
          ≡ 1 * slice_index (snapshot_at events k) n + requests_at n (get_or events k (Request 0))
      at n le =
          omega (
            arith,
            live-at events (suc k) n 0 le,
            live-at events k n 0 le,
            requested-more events k n (Request 0) lt,
            freed-more events k n (Request 0) lt,
            timeline.live k n le,
            timeline.live (suc k) n le,
          )

  none-below : (m : ℕ) → sum_below (λ n. 0) m ≡ 0
  none-below m = sum_none (λ n. 0) m (λ n within. refl)

  up-request : (n m : ℕ) → get_or events k (Request 0) ≡ Request n → m ≤ largest_counted + 1
      → up_to events (suc k) m ≡ up_to events k m + cond (ltb n m) 1 0
  up-request n m is le =
      omega (arith, rw is at (balance m le), none-below m, sum-one (λ _. true) n m)

  up-free : (n m : ℕ) → get_or events k (Request 0) ≡ Free n → m ≤ largest_counted + 1
      → up_to events (suc k) m + cond (ltb n m) 1 0 ≡ up_to events k m
  up-free n m is le =
      omega (arith, rw is at (balance m le), none-below m, sum-one (λ _. true) n m)

  module _ (low end n : ℕ) (sizes : AreInOrder low end) where
    ups : (j : ℕ) → up_to events j low ≤ up_to events j end
    ups j = sum-up (slice_index (snapshot_at events j)) low end sizes.order

    next : (f : List ℕ → ℕ) → f (snapshot_at events (k + 1)) ≡ f (snapshot_at events (suc k))
    next f = ap (λ (j : ℕ). f (snapshot_at events j)) (add-one k)

    pub span-request : get_or events k (Request 0) ≡ Request n → low ≤ n → n < end
        → blocks_from low end (snapshot_at events (k + 1)) ≡ blocks_from low end (snapshot_at events k) + 1
    span-request is from to =
        omega (
          arith,
          next (blocks_from low end),
          up-request n low is (omega (arith, sizes.order, sizes.small)),
          up-request n end is sizes.small,
          ap (λ b. cond {A = ℕ} b 1 0) (le-ltb n low from),
          ap (λ b. cond {A = ℕ} b 1 0) (lt-ltb n end to),
          ups k,
        )

    pub span-free : get_or events k (Request 0) ≡ Free n → low ≤ n → n < end
        → blocks_from low end (snapshot_at events (k + 1)) + 1 ≡ blocks_from low end (snapshot_at events k)
    span-free is from to =
        omega (
          arith,
          next (blocks_from low end),
          up-free n low is (omega (arith, sizes.order, sizes.small)),
          up-free n end is sizes.small,
          ap (λ b. cond {A = ℕ} b 1 0) (le-ltb n low from),
          ap (λ b. cond {A = ℕ} b 1 0) (lt-ltb n end to),
          ups (suc k),
        )

    same-tests : (n < low) ⊎ (end ≤ n) → cond {A = ℕ} (ltb n low) 1 0 ≡ cond {A = ℕ} (ltb n end) 1 0
    same-tests h0 = grind arith

    pub span-other_request : get_or events k (Request 0) ≡ Request n → (n < low) ⊎ (end ≤ n)
        → blocks_from low end (snapshot_at events (k + 1)) ≡ blocks_from low end (snapshot_at events k)
    span-other_request is out = grind (arith, up-request, same-tests)

    pub span-other_free : get_or events k (Request 0) ≡ Free n → (n < low) ⊎ (end ≤ n)
        → blocks_from low end (snapshot_at events (k + 1)) ≡ blocks_from low end (snapshot_at events k)
    span-other_free is out = grind (arith, up-free, same-tests)

-- ---- the peak

-- the peak with the moment after one event more
pub peak-more : (f : List ℕ → ℕ) (events : List SizeEvent) (floor k : ℕ) (peak next : Peak) → IsPeakTo f events floor k peak
    → next.most ≡ max peak.most (f (snapshot_at events (k + 1)))
    → next.first ≡ cond (ltb peak.most (f (snapshot_at events (k + 1)))) (k + 1) peak.first → IsPeakTo f events floor (k + 1) next
peak-more f events floor k peak next so_far most_is first_is = grind (arith, most_to-above, most_to-more)

-- the peak after moments at which no more are live
peak-same : (f : List ℕ → ℕ) (events : List SizeEvent) (floor from n : ℕ) (peak : Peak) → IsPeakTo f events floor from peak
    → ((m : ℕ) → from ≤ m → m ≤ from + n → f (snapshot_at events m) ≤ peak.most) → IsPeakTo f events floor (from + n) peak
peak-same f events floor from zero peak so_far none = grind arith
peak-same f events floor from (suc n) peak so_far none =
    let before = peak-same f events floor from n peak so_far (λ m le ge. none m le (omega arith)) in
    let here : from + suc n ≡ from + n + 1 = omega arith in
    grind (arith, peak-more)

pub peak-kept : (f : List ℕ → ℕ) (events : List SizeEvent) (floor from to : ℕ) (peak : Peak) → from ≤ to → IsPeakTo f events floor from peak
    → ((m : ℕ) → from ≤ m → m ≤ to → f (snapshot_at events m) ≤ peak.most) → IsPeakTo f events floor to peak
peak-kept f events floor from to peak le so_far none =
    let there : from + (to - from) ≡ to = omega arith in
    grind (arith, peak-same)

-- after all events
pub peak-all : (f : List ℕ → ℕ) (events : List SizeEvent) (floor : ℕ) (peak : Peak) → f (snapshot_at events 0) ≡ 0
    → IsPeakTo f events floor (length events) peak → (floor ≡ 0) ⊎ (floor < most f (moments events))
    → (peak.most ≡ most f (moments events)) × IsFirst f events (length events) peak.most peak.first
peak-all f events floor peak none all reached = grind (arith, most_to-all)

pub blocks_from-none : (events : List SizeEvent) (low end : ℕ) → IsTimeline events → end ≤ largest_counted + 1
    → blocks_from low end (snapshot_at events 0) ≡ 0
blocks_from-none events low end timeline small = grind (arith, sum_none, live-at)

-- ---- how many they are

module _ (events : List SizeEvent) (low end : ℕ) (timeline : IsTimeline events) (sizes : AreInOrder low end) where
  one-more : (k : ℕ) (e : SizeEvent) → k < length events → get_or events k (Request 0) ≡ e
      → blocks_from low end (snapshot_at events (k + 1)) ≤ blocks_from low end (snapshot_at events k) + 1
  one-more k (Request n) lt is = elim (cases_lt n low) [
    | inl under ↦ omega (arith, span-other_request events k timeline lt low end n sizes is (inl under))
    | inr from ↦ elim (cases_lt n end) [
      | inl to ↦ omega (arith, span-request events k timeline lt low end n sizes is from to)
      | inr over ↦ omega (arith, span-other_request events k timeline lt low end n sizes is (inr over))
    ]
  ]
  one-more k (Free n) lt is = elim (cases_lt n low) [
    | inl under ↦ omega (arith, span-other_free events k timeline lt low end n sizes is (inl under))
    | inr from ↦ elim (cases_lt n end) [
      | inl to ↦ omega (arith, span-free events k timeline lt low end n sizes is from to)
      | inr over ↦ omega (arith, span-other_free events k timeline lt low end n sizes is (inr over))
    ]
  ]

  pub span-few : (k : ℕ) → k ≤ length events → blocks_from low end (snapshot_at events k) ≤ k
  span-few zero le = omega (arith, blocks_from-none events low end timeline sizes.small)
  span-few (suc k) le =
      omega (
        arith,
        ap (λ (j : ℕ). blocks_from low end (snapshot_at events j)) (add-one k),
        one-more k (get_or events k (Request 0)) (omega arith) refl,
        span-few k (omega arith),
      )

-- ---- by the rows of the stretches

module _ (events : List SizeEvent) (r : RequestedSizes) (starts : List ℕ) (before bounds : List (List ℕ)) (span : Span)
    (timeline : IsTimeline events) (requested_are : AreRequested events r)
    (are : AreStretchesTo events r.sizes.items (length events) starts before bounds) (is : IsSpan r.sizes.items span) where
  -- the blocks of the sizes are those of the lines
  by-lines : (m : ℕ) → m ≤ length events
      → blocks_from span.start span.stop (column_of r.sizes.items (snapshot_at events m)) ≡ blocks_from span.low span.end (snapshot_at events m)
  by-lines m within =
      let column = column_of r.sizes.items (snapshot_at events m) in
      let counts = column-counts events r m requested_are within in
      omega (
        arith,
        sum-lines (snapshot_at events m) r.sizes.items column requested_are.sizes_are counts span.low span.start is.from,
        sum-lines (snapshot_at events m) r.sizes.items column requested_are.sizes_are counts span.end span.stop is.to,
      )

  pub live-before : (b : ℕ) → b < length starts
      → blocks_from span.start span.stop (slice_index_or before b []) ≡ blocks_from span.low span.end (snapshot_at events (slice_index starts b))
  live-before b lt = grind (arith, by-lines)

  pub most-within : (b m : ℕ) → b < length bounds → slice_index starts b ≤ m → m ≤ slice_index starts (b + 1)
      → blocks_from span.low span.end (snapshot_at events m) ≤ blocks_from span.start span.stop (slice_index_or bounds b [])
  most-within b m lt from to =
      let column = column_of r.sizes.items (snapshot_at events m) in
      let within : m ≤ length events = omega (arith, to, are.within (b + 1) (omega (arith, are.ends, lt))) in
      omega (
        arith,
        by-lines m within,
        rest-at_most (slice_index column) (slice_index (slice_index_or bounds b [])) span.start span.stop is.order (λ k less.
            grind (arith, column-at)),
      )

  -- what is live where a stretch begins is no more than the peak
  pub most-before : most (blocks_from span.start span.stop) before ≤ most (blocks_from span.low span.end) (moments events)
  most-before = grind (arith, most-less, live-before, moment-below)
    where
      most-less : (rows : List (List ℕ))
          → ((b : ℕ) → b < length rows
          → blocks_from span.start span.stop (slice_index_or rows b []) ≤ most (blocks_from span.low span.end) (moments events))
          → most (blocks_from span.start span.stop) rows ≤ most (blocks_from span.low span.end) (moments events)
      most-less [] each = omega arith
      most-less (row ∷ rows) each =
          omega (arith, each 0 (omega arith), most-less rows (λ b lt. each (suc b) (omega arith)))

  -- rows are as long as there are sizes, and their counts are in range
  pub before-few : AreFew (length r.sizes.items) before
  before-few = grind (arith, bounds-start, get_or_default)

-- What a heap takes of its region over a timeline, against the footprint of its table.
use Rattle.std.proofs.Common.{◌≡◌, ℕ, ◌+◌, ◌*◌, ◌/◌, ◌<◌, ◌≤◌, Bool, true, cond, eqb, List, [], ◌∷◌, ◌++◌, length, get_or, replicate}
use Rattle.std.proofs.Common.{append_assoc, refl, sym, ap, subst, ◌∙◌, inl, inr, sum_by, arith, Contains, IsSome}
use Rattle.std.proofs.{Math.Nat.{mul-le-mul_left}, lemmas.Bool.{cases_eq}, lemmas.Bool.Decides.{nat_tests}, lemmas.Nat.{le-div}}
use Rattle.std.proofs.lemmas.List.{length-append, length-replicate, take_all}
use Rattle.std.proofs.lemmas.List.Sums.{sum_by-cons}
use Rattle.class_table.proofs.LawLemmas.{AreClassesAbove, classes_of_legal_table, slots_have_classes}
use Rattle.class_table.specs.{Layout.{IsPartition, Partition, Slot, slot_count, slot_of}, Sizes.{largest_counted}}
use Rattle.class_table.specs.Tables.{IsLegalTable, class_for}
use Rattle.footprint_theory.proofs.Counted.{IsCounted, peaks_of}
use Rattle.footprint_theory.proofs.LargeSizes.{counted-timeline, counted_beginning, most-counted, requested-counted}
use Rattle.footprint_theory.proofs.{Peaks.{IsWithinPeaks, scaled}, Runs.{IsAfter, after_calls}}
use Rattle.footprint_theory.proofs.Slots.{freed_bytes_in, sized_in, sum_by_states, taken_in}
use Rattle.footprint_theory.specs.Calls.{Call, IsRun, counted_events, heap_after, heap_after_all, heap_of, timeline_of}
use Rattle.footprint_theory.specs.Taken.{taken_bytes, taken_slots}
use Rattle.heap_theory.proofs.{FirstHeap.{IsSoundHeap-first, get_or-replicate_any}, ListSearch.{Contains-cases, Contains-none}}
use Rattle.heap_theory.specs.State.{Heap, State, first_heap, is_fresh}
use Rattle.heap_theory.specs.State.State.{Fresh, Live}
use Rattle.tuner_theory.proofs.{Served.{served-cases}, Sums.{sum_none, sum_same, sum_split}, TimelineBlocks.{blocks-none, most_to-all}}
use Rattle.tuner_theory.proofs.{TimelineSteps.{requested_sizes}, Timelines.{fit_bounds_timeline, least_over_timeline}}
use Rattle.tuner_theory.specs.{Best.{IsCandidate}, Footprint.{blocks}, Histories.{most, peaks}, Served.{served}}
use Rattle.tuner_theory.specs.Sheets.{IsFitVerdict, Sheet}
use Rattle.tuner_theory.specs.Timelines.{AreMoments, IsLeastOver, IsTimeline, footprint_over, freed, history_at, moments, requested}
use Rattle.tuner_theory.specs.{Waste.{Serves}, declared.verdict.Verdict.TheVariants.{Optimal}}
use Rattle.tuner_theory.specs.declared.size_event.SizeEvent.{SizeEvent}

-- ---- the first heap

module _ (layout : Partition) where
  none : (weight : Slot → State → ℕ) → ((slot : Slot) → weight slot Fresh ≡ 0) →
      sum_by_states layout (replicate (slot_count layout) Fresh) weight ≡ 0
  none weight empty =
      sum_none _ (slot_count layout) (λ s lt.
      ap (weight (slot_of layout s)) (get_or-replicate_any (slot_count layout) s Fresh) ∙ empty (slot_of layout s))

  first-counts : IsCounted layout (replicate (slot_count layout) Fresh) []
  first-counts = record {
    long = length-replicate (slot_count layout) Fresh;
    fitting = λ s n t lt is. absurd (not-live (slot_count layout) s n t is);
    counted = λ n. omega (arith, none (sized_in n) (λ slot. refl));
    before = λ m n. subst (λ es. freed es n ≤ requested es n) (sym (take_all m [] (omega arith))) (omega arith);
    served = λ n some. absurd (omega (arith, some));
  }
    where
      not-live : (count s n t : ℕ) → get_or (replicate count Fresh) s Fresh ≡ Live n t → ⊥
      not-live count s n t is = let e : Fresh ≡ Live n t = sym (get_or-replicate_any count s Fresh) ∙ is in absurd cc

  first-within : (limit : ℕ) → IsWithinPeaks layout limit (replicate (slot_count layout) Fresh) 0 (peaks_of layout.classes [])
  first-within limit = record {
    window = λ class x. omega (arith, none (freed_bytes_in class x) (λ slot. grind arith));
    low = λ class. omega (arith, first-most class);
    high = λ class. record { slots = 0; covers = omega (arith, none (taken_in class) (λ slot. grind arith)); held = omega arith };
  }
    where
      first-most : (class : ℕ) → peaks_of layout.classes [] class ≡ 0
      first-most class = omega (arith, most_to-all (blocks layout.classes class) [], blocks-none [] layout.classes class)

  pub first_after : (seed limit : ℕ) → IsPartition layout → IsAfter layout limit (first_heap layout seed limit) []
  unfolding first_heap
  first_after seed limit is = record {
    at = record { sound = IsSoundHeap-first layout seed limit is; counts = first-counts; within = first-within limit };
    layout_is = refl;
    limit_is = refl;
  }

-- ---- the bytes of the slots that were ever given out, class by class

abbrev bytes_in : Slot → State → ℕ
bytes_in slot state = cond (is_fresh state) 0 (16 * slot.class)

module _ (class x : ℕ) where
  abbrev if_own : ℕ → ℕ
  if_own c = cond (eqb class c) x 0

  own : (c : ℕ) → class ≡ c → if_own c ≡ x
  own c is = grind (arith, nat_tests)

  above-none : (step low : ℕ) (classes : List ℕ) → AreClassesAbove step low classes → class ≤ low → sum_by if_own classes ≡ 0
  above-none step low [] above le = refl
  above-none step low (c ∷ cs) above le = grind (arith, nat_tests, sum_by-cons, above-none step c cs)

  -- a table has each class once
  once : (step low : ℕ) (classes : List ℕ) → AreClassesAbove step low classes → Contains classes class → sum_by if_own classes ≡ x
  once step low [] above there = absurd (Contains-none class there)
  once step low (c ∷ cs) above there = elim (cases_eq class c) [
    | inl is ↦ omega (arith, sum_by-cons if_own c cs, above-none step c cs above.3 (omega (arith, is)), own c is)
    | inr not ↦ grind (arith, nat_tests, sum_by-cons, Contains-cases c cs class there, once step c cs above.3)
  ]

module _ (layout : Partition) (states : List State) where
  abbrev own_bytes : ℕ → Slot → State → ℕ
  own_bytes c slot state = if_own slot.class (bytes_in slot state) c

  by-classes : (classes : List ℕ) → sum_by_states layout states (λ slot state. sum_by (λ c. own_bytes c slot state) classes)
      ≡ sum_by (λ c. 16 * c * sum_by_states layout states (taken_in c)) classes
  by-classes [] = sum_none _ (slot_count layout) (λ s lt. refl)
  by-classes (c ∷ cs) =
      omega (
        arith,
        sum_split (λ s. sum_by (λ c. own_bytes c (slot_of layout s) (get_or states s Fresh)) (c ∷ cs))
            (λ s. 16 * c * taken_in c (slot_of layout s) (get_or states s Fresh))
            (λ s. sum_by (λ c. own_bytes c (slot_of layout s) (get_or states s Fresh)) cs) (slot_count layout)
            (λ s lt. sum_by-cons (λ c. own_bytes c (slot_of layout s) (get_or states s Fresh)) c cs
            ∙ ap (λ v. v + sum_by (λ c. own_bytes c (slot_of layout s) (get_or states s Fresh)) cs)
            (same (slot_of layout s) (get_or states s Fresh))),
        scaled (λ s. taken_in c (slot_of layout s) (get_or states s Fresh)) (16 * c) (slot_count layout),
        by-classes cs,
        sum_by-cons (λ c. 16 * c * sum_by_states layout states (taken_in c)) c cs,
      )
    where
      same : (slot : Slot) (state : State) → own_bytes c slot state ≡ 16 * c * taken_in c slot state
      same slot state = grind (arith, nat_tests)

  bytes_of_classes : IsLegalTable 1 layout.classes →
      sum_by_states layout states bytes_in ≡ sum_by (λ c. 16 * c * sum_by_states layout states (taken_in c)) layout.classes
  bytes_of_classes legal =
      sum_same (λ s. bytes_in (slot_of layout s) (get_or states s Fresh))
      (λ s. sum_by (λ c. own_bytes c (slot_of layout s) (get_or states s Fresh)) layout.classes) (slot_count layout)
      (λ s lt. sym (once (slot_of layout s).class (bytes_in (slot_of layout s) (get_or states s Fresh)) 1 1 layout.classes
      (classes_of_legal_table 1 layout.classes legal) (slots_have_classes layout s lt)))
      ∙ by-classes layout.classes

sum-at_most : (f g : ℕ → ℕ) (more : ℕ) (xs : List ℕ) → ((x : ℕ) → f x ≤ g x + more) → sum_by f xs ≤ sum_by g xs + length xs * more
sum-at_most f g more [] each = omega arith
sum-at_most f g more (x ∷ xs) each =
    omega (arith, sum_by-cons f x xs, sum_by-cons g x xs, sum-at_most f g more xs each, each x)

-- ---- a run through a timeline

module _ (layout : Partition) (seed limit : ℕ) (calls : List Call) (events : List SizeEvent)
    (run : IsRun layout seed limit calls events) where
  abbrev heap : Heap
  heap = heap_of layout seed limit calls

  pub last : IsAfter layout limit heap (counted_events events)
  last =
      subst (IsAfter layout limit heap) run.timeline
      (after_calls layout limit (first_heap layout seed limit) [] calls (first_after layout seed limit run.partition))

  pub runs_timeline : IsTimeline events
  runs_timeline = counted-timeline events run.few last.at.counts.before

  pub run_serves : Serves (peaks (moments events)) layout.classes
  run_serves =
      (requested_sizes events layout.classes runs_timeline).1 (λ n small some.
      subst (λ (l : Partition). IsSome (class_for l.classes n)) last.layout_is
      (last.at.counts.served n (omega (arith, some, requested-counted events n small))))

  most-is : (class : ℕ) → peaks_of heap.layout.classes (counted_events events) class ≡ most (blocks layout.classes class) (moments events)
  most-is class =
      ap (λ (l : Partition). peaks_of l.classes (counted_events events) class) last.layout_is
      ∙ most-counted (blocks layout.classes class) events

  pub at_least_peak : (class : ℕ) → most (blocks layout.classes class) (moments events) ≤ taken_slots heap class
  at_least_peak class = omega (arith, last.at.within.low class, most-is class)

  pub at_most_peak : (class : ℕ) → 1 ≤ class →
      taken_slots heap class ≤ most (blocks layout.classes class) (moments events) + limit / (16 * class)
  at_most_peak class one =
      let e = last.at.within.high class in
      omega (
        arith,
        e.covers,
        most-is class,
        le-div e.slots limit (16 * class) (omega (arith, one)) (omega (arith, e.held, last.limit_is)),
      )

  bytes-at_most : (class : ℕ) →
      16 * class * taken_slots heap class ≤ 16 * class * most (blocks layout.classes class) (moments events) + limit
  bytes-at_most class =
      let e = last.at.within.high class in
      omega (arith, mul-le-mul_left (16 * class) (e.covers), ap (λ v. 16 * class * v) (most-is class), e.held, last.limit_is)

  bytes-are : taken_bytes heap ≡ sum_by (λ class. 16 * class * taken_slots heap class) layout.classes
  bytes-are =
      bytes_of_classes heap.layout heap.states
      (subst (λ (l : Partition). IsLegalTable 1 l.classes) (sym last.layout_is) run.partition.table)
      ∙ ap (λ (l : Partition). sum_by (λ class. 16 * class * taken_slots heap class) l.classes) last.layout_is

  pub bytes_at_least : footprint_over events layout.classes ≤ taken_bytes heap
  bytes_at_least =
      omega (
        arith,
        bytes-are,
        sum-at_most (λ class. 16 * class * most (blocks layout.classes class) (moments events))
            (λ class. 16 * class * taken_slots heap class) 0 layout.classes
            (λ class. omega (arith, mul-le-mul_left (16 * class) (at_least_peak class))),
      )

  pub bytes_at_most : taken_bytes heap ≤ footprint_over events layout.classes + length layout.classes * limit
  bytes_at_most =
      omega (
        arith,
        bytes-are,
        sum-at_most (λ class. 16 * class * taken_slots heap class)
            (λ class. 16 * class * most (blocks layout.classes class) (moments events)) limit layout.classes bytes-at_most,
      )

-- each beginning of a run is a run, through a beginning of its timeline
timeline-parts : (h : Heap) (before after : List Call) →
    timeline_of h (before ++ after) ≡ timeline_of h before ++ timeline_of (heap_after_all h before) after
timeline-parts h [] after = refl
timeline-parts h (call ∷ calls) after = grind (arith, timeline-parts (heap_after h call) calls after, append_assoc)

pub beginning_is_run : (layout : Partition) (seed limit : ℕ) (before after : List Call) (events : List SizeEvent) →
    IsRun layout seed limit (before ++ after) events →
    (first : List SizeEvent) × (rest : List SizeEvent) × (events ≡ first ++ rest) × IsRun layout seed limit before first
beginning_is_run layout seed limit before after events run =
    let h = first_heap layout seed limit in
    let c = counted_beginning events (timeline_of h before) (timeline_of (heap_after_all h before) after)
    (sym run.timeline ∙ timeline-parts h before after) in (
      c.0,
      c.1,
      c.2,
      record {
        partition = run.partition;
        few = omega (arith, run.few, ap length c.2, length-append c.0 c.1);
        timeline = sym c.3;
      },
    )

-- ---- without a quarantine

module _ (layout : Partition) (seed : ℕ) (calls : List Call) (events : List SizeEvent) (run : IsRun layout seed 0 calls events) where
  pub takes_its_peak : (class : ℕ) → 1 ≤ class →
      taken_slots (heap_of layout seed 0 calls) class ≡ most (blocks layout.classes class) (moments events)
  takes_its_peak class one =
      omega (
        arith,
        at_most_peak layout seed 0 calls events run class one,
        at_least_peak layout seed 0 calls events run class,
        nothing (16 * class) (omega (arith, one)),
      )
    where
      nothing : (k : ℕ) → 0 < k → 0 / k ≡ 0
      nothing k pos = grind arith

  pub takes_its_footprint : taken_bytes (heap_of layout seed 0 calls) ≡ footprint_over events layout.classes
  takes_its_footprint =
      omega (arith, bytes_at_most layout seed 0 calls events run, bytes_at_least layout seed 0 calls events run)

-- ---- the least

module _ (events : List SizeEvent) (layout other : Partition) (seed other_seed limit : ℕ) (calls other_calls : List Call)
    (run : IsRun layout seed 0 calls events) (other_run : IsRun other other_seed limit other_calls events) where
  pub least_takes_least : (forced : Bool) (step most_classes : ℕ) → IsLeastOver forced events step most_classes layout.classes →
      IsLegalTable step other.classes → length other.classes ≤ most_classes →
      (forced ≡ true → IsSome (class_for other.classes largest_counted)) →
      taken_bytes (heap_of layout seed 0 calls) ≤ taken_bytes (heap_of other other_seed limit other_calls)
  least_takes_least forced step most_classes least legal few largest =
      omega (
        arith,
        takes_its_footprint layout seed calls events run,
        least.least other.classes (record { legal = legal; few = few; serving = serving }),
        bytes_at_least other other_seed limit other_calls events other_run,
      )
    where
      serving : Serves (served forced (peaks (moments events))) other.classes
      serving n counted = elim (served-cases forced (peaks (moments events)) n counted) [
        | inl its ↦ run_serves other other_seed limit other_calls events other_run n its
        | inr forces ↦ subst (λ m. IsSome (class_for other.classes m)) (sym forces.1) (largest forces.0)
      ]

  -- with the table of an optimal fit it takes the fit's cost, and no other takes less
  pub fit_takes_its_cost : (numbers : List ℕ) (fit : Sheet) → AreMoments events numbers →
      IsFitVerdict (history_at events numbers) fit Optimal →
      footprint_over events fit.table ≡ fit.cost → layout.classes ≡ fit.table → IsLegalTable fit.step other.classes →
      length other.classes ≤ fit.limit → (fit.forced ≡ true → IsSome (class_for other.classes largest_counted)) →
      (taken_bytes (heap_of layout seed 0 calls) ≡ fit.cost) × (fit.cost ≤ taken_bytes (heap_of other other_seed limit other_calls))
  fit_takes_its_cost numbers fit are optimal same table legal few largest =
      let takes : taken_bytes (heap_of layout seed 0 calls) ≡ fit.cost =
      takes_its_footprint layout seed calls events run ∙ ap (footprint_over events) table ∙ same in
      let least : IsLeastOver fit.forced events fit.step fit.limit fit.table =
      least_over_timeline events numbers fit (runs_timeline layout seed 0 calls events run) are
      (subst (IsLegalTable 1) table run.partition.table) optimal
      (subst (Serves (peaks (moments events))) table (run_serves layout seed 0 calls events run)) same in (
        takes,
        omega (
          arith,
          takes,
          least_takes_least fit.forced fit.step fit.limit
              (subst (IsLeastOver fit.forced events fit.step fit.limit) (sym table) least) legal few
              largest,
        ),
      )

-- the cost of a fit that is optimal over some moments is at most what any heap takes that runs through the timeline
pub fit_bounds_heaps : (events : List SizeEvent) (numbers : List ℕ) (fit : Sheet) (other : Partition) (seed limit : ℕ) (calls : List Call)
    → AreMoments events numbers → IsLegalTable 1 fit.table → IsFitVerdict (history_at events numbers) fit Optimal
    → IsRun other seed limit calls events
    → IsCandidate (served fit.forced (peaks (moments events))) fit.step fit.limit other.classes
    → fit.cost ≤ taken_bytes (heap_of other seed limit calls)
fit_bounds_heaps events numbers fit other seed limit calls are legal optimal run candidate =
    omega (
      arith,
      fit_bounds_timeline events numbers fit other.classes (runs_timeline other seed limit calls events run) are legal optimal candidate,
      bytes_at_least other seed limit calls events run,
    )

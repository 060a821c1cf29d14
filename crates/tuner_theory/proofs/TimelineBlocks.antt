-- What one event changes of the blocks of a class, and of the most that were live.
use Rattle.std.proofs.Common.{◌≡◌, ℕ, zero, suc, ◌+◌, ◌<◌, ◌≤◌, Bool, List, [], ◌∷◌, ◌++◌, length, map, max, slice_index}
use Rattle.std.proofs.{Common.{get_or, cond, eqb, ltb, arith, refl, ap, sym, ◌∙◌, add-one}}
use Rattle.std.{proofs.lemmas.Bool.Decides.{nat_tests}, specs.List.{range_with_len}}
use Rattle.std.proofs.lemmas.List.FromFn.{get_or-map-range_with_len, length-map-range_with_len, map-range_with_len_more}
use Rattle.class_table.specs.Sizes.{largest_counted}
use Rattle.tuner_theory.proofs.{Footprint.{most-above}, Sums.{sum_balance, sum_below-more, sum_below-none, sum_none}}
use Rattle.tuner_theory.proofs.{TimelineSteps.{frees_at, freed-more, requested-more, requests_at}, Timelines.{live-at, snapshot-length}}
use Rattle.tuner_theory.specs.{Footprint.{blocks, is_class_of}, Histories.{most}, Timelines.{IsTimeline, moments, most_to, snapshot_at}}
use Rattle.tuner_theory.specs.{Waste.{sum_below}, declared.size_event.SizeEvent.{SizeEvent}}
use Rattle.tuner_theory.specs.declared.size_event.SizeEvent.TheVariants.{Request, Free}

-- ---- one event

pub sum-one : (p : ℕ → Bool) (size m : ℕ)
    → sum_below (λ n. cond (p n) (cond (eqb size n) 1 0) 0) m ≡ cond (ltb size m) (cond (p size) 1 0) 0
sum-one p size zero = sum_below-none (λ n. cond (p n) (cond (eqb size n) 1 0) 0) ∙ grind (arith, nat_tests)
sum-one p size (suc m) = grind (arith, sum-one p size m, sum_below-more, nat_tests)

none-masked : (b : Bool) → cond {A = ℕ} b 0 0 ≡ 0
none-masked b = grind arith

-- how many blocks of a class an event makes live, and how many it ends
abbrev pub comes_at : List ℕ → ℕ → SizeEvent → ℕ
comes_at classes class e = sum_below (λ n. cond (is_class_of classes class n) (requests_at n e) 0) (largest_counted + 1)

abbrev pub goes_at : List ℕ → ℕ → SizeEvent → ℕ
goes_at classes class e = sum_below (λ n. cond (is_class_of classes class n) (frees_at n e) 0) (largest_counted + 1)

pub request-comes : (classes : List ℕ) (class size : ℕ) → size ≤ largest_counted
    → (comes_at classes class (Request size) ≡ cond (is_class_of classes class size) 1 0)
    × (goes_at classes class (Request size) ≡ 0)
request-comes classes class size le = (
  sum-one (is_class_of classes class) size (largest_counted + 1) ∙ grind (arith, nat_tests),
  sum_none _ (largest_counted + 1) (λ n lt. none-masked (is_class_of classes class n)),
)

pub free-goes : (classes : List ℕ) (class size : ℕ) → size ≤ largest_counted
    → (goes_at classes class (Free size) ≡ cond (is_class_of classes class size) 1 0)
    × (comes_at classes class (Free size) ≡ 0)
free-goes classes class size le = (
  sum-one (is_class_of classes class) size (largest_counted + 1) ∙ grind (arith, nat_tests),
  sum_none _ (largest_counted + 1) (λ n lt. none-masked (is_class_of classes class n)),
)

pub large-does-nothing : (classes : List ℕ) (class size : ℕ) → largest_counted < size
    → ((comes_at classes class (Request size) ≡ 0) × (goes_at classes class (Request size) ≡ 0))
    × ((comes_at classes class (Free size) ≡ 0) × (goes_at classes class (Free size) ≡ 0))
large-does-nothing classes class size lt = grind (arith, sum_none)

-- ---- the blocks of a class, event by event

pub blocks-step : (events : List SizeEvent) (classes : List ℕ) (class k : ℕ) (d : SizeEvent) → IsTimeline events → k < length events
    → blocks classes class (snapshot_at events (suc k)) + goes_at classes class (get_or events k d)
    ≡ blocks classes class (snapshot_at events k) + comes_at classes class (get_or events k d)
blocks-step events classes class k d timeline lt =
    let e = get_or events k d in
    let p = is_class_of classes class in
    let balance = sum_balance (λ n. cond (p n) (slice_index (snapshot_at events (suc k)) n) 0) (λ n. cond (p n) (frees_at n e) 0) (λ n. 0)
    (λ n. cond (p n) (slice_index (snapshot_at events k) n) 0) (λ n. cond (p n) (requests_at n e) 0) 1 (largest_counted + 1)
    (grind (arith, at)) in
    omega (
      arith,
      balance,
      sum_none (λ n. 0) (largest_counted + 1) (λ n within. refl),
      ap (sum_below (λ n. cond (p n) (slice_index (snapshot_at events (suc k)) n) 0)) (snapshot-length events (suc k)),
      ap (sum_below (λ n. cond (p n) (slice_index (snapshot_at events k) n) 0)) (snapshot-length events k),
    )
  where
    at : (n : ℕ) → n ≤ largest_counted
        → slice_index (snapshot_at events (suc k)) n + frees_at n (get_or events k d)
        ≡ slice_index (snapshot_at events k) n + requests_at n (get_or events k d)
    at n le =
        omega (
          arith,
          live-at events (suc k) n 0 le,
          live-at events k n 0 le,
          requested-more events k n d lt,
          freed-more events k n d lt,
          timeline.live k n le,
          timeline.live (suc k) n le,
        )

-- before any event
pub blocks-none : (events : List SizeEvent) (classes : List ℕ) (class : ℕ) → blocks classes class (snapshot_at events 0) ≡ 0
blocks-none events classes class = grind (arith, sum_none, live-at, snapshot-length)

-- ---- the most

most-last : (f : List ℕ → ℕ) (ss : List (List ℕ)) (s : List ℕ) → most f (ss ++ s ∷ []) ≡ max (most f ss) (f s)
most-last f [] s = omega arith
most-last f (t ∷ ss) s = omega (arith, most-last f ss s)

pub most_to-more : (f : List ℕ → ℕ) (events : List SizeEvent) (k : ℕ)
    → most_to f events (suc k) ≡ max (most_to f events k) (f (snapshot_at events (suc k)))
most_to-more f events k =
    ap (most f) (map-range_with_len_more (snapshot_at events) 0 (suc k) (suc k) (omega arith))
    ∙ most-last f (map (snapshot_at events) (range_with_len 0 (suc k))) (snapshot_at events (suc k))
    ∙ ap (λ j. max (most f (map (snapshot_at events) (range_with_len 0 j))) (f (snapshot_at events (suc k)))) (sym (add-one k))

pub most_to-above : (f : List ℕ → ℕ) (events : List SizeEvent) (k m : ℕ) → m ≤ k → f (snapshot_at events m) ≤ most_to f events k
most_to-above f events k m le =
    omega (
      arith,
      ap f (get_or-map-range_with_len (snapshot_at events) 0 (k + 1) m m [] (omega arith) (omega arith)),
      most-above f (map (snapshot_at events) (range_with_len 0 (k + 1))) m []
          (omega (arith, length-map-range_with_len (snapshot_at events) 0 (k + 1))),
    )

pub most_to-all : (f : List ℕ → ℕ) (events : List SizeEvent) → most_to f events (length events) ≡ most f (moments events)
unfolding moments
most_to-all f events = refl

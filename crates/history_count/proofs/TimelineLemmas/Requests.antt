-- The requested sizes, one event more.
use Rattle.std.proofs.Common.{◌≡◌, ◌≢◌, ◌↔◌, ℕ, suc, ◌+◌, ◌-◌, ◌<◌, ◌≤◌, ◌⊎◌, List, [], ◌∷◌, length, min, take, slice_index, get_or, arith}
use Rattle.std.proofs.Common.{refl, ap, ◌∙◌, inl, inr, add-one, None, Some, Option, IsSome, IfNone, IfSome}
use Rattle.std.proofs.{Math.Nat.{min-eq_left}, lemmas.Bool.{cases_lt, false≢true}, lemmas.Bool.Decides.{eqb_tells, nat_tests}}
use Rattle.std.proofs.lemmas.{List.{take_all, take-take}, List.Sums.{sum_by-take-le}}
use Rattle.class_table.specs.{Sizes.{largest_counted}, Tables.{class_for}}
use Rattle.tuner_theory.proofs.TimelineSteps.{frees_at, freed-more, largest_is_live, requested-more, requested_sizes, requests_at}
use Rattle.tuner_theory.{proofs.Timelines.{live-at}, specs.Histories.{peaks}, specs.Waste.{Serves}}
use Rattle.tuner_theory.specs.{Timelines.{IsTimeline, freed, moments, requested, snapshot_at}, declared.size_event.SizeEvent.{SizeEvent}}
use Rattle.tuner_theory.specs.declared.size_event.SizeEvent.TheVariants.{Request, Free}
use Rattle.history_count.specs.Timelines.Requests.{Decides, IsFirstLive, IsLargest, IsLargestSoFar, IsLeastSoFar, IsLeastUnserved}
use Rattle.history_count.specs.Timelines.Runs.{size_of}

-- how many requests of a size there are after one event more
pub requested-next : (events : List SizeEvent) (k n : ℕ) (event : SizeEvent) → k < length events → get_or events k (Request 0) ≡ event
    → requested (take (k + 1) events) n ≡ requested (take k events) n + requests_at n event
requested-next events k n event lt is =
    ap (λ j. requested (take j events) n) (add-one k) ∙ requested-more events k n (Request 0) lt
    ∙ ap (λ e. requested (take k events) n + requests_at n e) is

pub own-request : (n : ℕ) → requests_at n (Request n) ≡ 1
own-request n = grind (arith, nat_tests)

other-request : (m n : ℕ) → m ≢ n → requests_at m (Request n) ≡ 0
other-request m n other = grind (arith, nat_tests)

requested-still : (events : List SizeEvent) (k m n : ℕ) → k < length events → get_or events k (Request 0) ≡ Request n → m ≢ n
    → requested (take (k + 1) events) m ≡ requested (take k events) m
requested-still events k m n lt is other = omega (arith, requested-next events k m (Request n) lt is, other-request m n other)

pub requested-free : (events : List SizeEvent) (k m n : ℕ) → k < length events → get_or events k (Request 0) ≡ Free n
    → requested (take (k + 1) events) m ≡ requested (take k events) m
requested-free events k m n lt is = omega (arith, requested-next events k m (Free n) lt is)

-- an event of another size requests nothing of this one
pub requested-other : (events : List SizeEvent) (k m : ℕ) (event : SizeEvent) → k < length events → get_or events k (Request 0) ≡ event
    → m ≢ size_of event → requested (take (k + 1) events) m ≡ requested (take k events) m
requested-other events k m (Request n) lt is other = requested-still events k m n lt is other
requested-other events k m (Free n) lt is other = requested-free events k m n lt is

-- ---- the largest one

own-free : (n : ℕ) → frees_at n (Free n) ≡ 1
own-free n = grind (arith, nat_tests)

-- what is freed was requested before
pub freed-before : (events : List SizeEvent) (k n : ℕ) → IsTimeline events → k < length events → n ≤ largest_counted
    → get_or events k (Request 0) ≡ Free n → 0 < requested (take k events) n
freed-before events k n timeline lt counted is =
    omega (
      arith,
      requested-free events k n n lt is,
      timeline.live (k + 1) n counted,
      ap (λ j. freed (take j events) n) (add-one k),
      freed-more events k n (Request 0) lt,
      ap (frees_at n) is,
      own-free n,
    )

pub largest_none : (events : List SizeEvent) → IsLargestSoFar events 0 0 0
largest_none events = omega arith

-- a size that was not requested up to a moment was not live before
pub unrequested-before : (events : List SizeEvent) (k earlier n : ℕ) → earlier ≤ k → n ≤ largest_counted → requested (take k events) n ≡ 0
    → slice_index (snapshot_at events earlier) n ≡ 0
unrequested-before events k earlier n le counted none =
    omega (
      arith,
      live-at events earlier n 0 counted,
      ap (λ es. requested es n) (take-take earlier k events le),
      sum_by-take-le (requests_at n) (take k events) earlier,
      none,
    )

largest_request : (events : List SizeEvent) (k above moment n : ℕ) → IsTimeline events → k < length events
    → IsLargestSoFar events k above moment → get_or events k (Request 0) ≡ Request n → above ≤ n → n ≤ largest_counted
    → IsLargestSoFar events (k + 1) (n + 1) (k + 1)
largest_request events k above moment n timeline lt found is larger counted = record {
  within = omega arith;
  counted = omega arith;
  below = λ m le some. elim (eqb_tells m n) [
    | inl same ↦ omega (arith, same.1)
    | inr differs ↦ omega (arith, found.below m le (omega (arith, some, requested-still events k m n lt is differs.1)))
  ];
  some = λ _. rw here (omega (arith, requested-next events k n (Request n) lt is, own-request n));
  first = λ _. rw here (record {
    live = omega (
      arith,
      ap (λ j. slice_index (snapshot_at events j) n) (add-one k),
      live-at events (suc k) n 0 counted,
      requested-more events k n (Request 0) lt,
      freed-more events k n (Request 0) lt,
      timeline.live k n counted,
      own-request n,
      ap (requests_at n) is,
      no-free n (get_or events k (Request 0)) is,
    );
    before = λ earlier less. unrequested-before events k earlier n (omega arith) counted unrequested;
  });
  none = λ e. absurd (omega (arith, e));
}
  where
    here : n + 1 - 1 ≡ n
    here = omega arith

    unrequested : requested (take k events) n ≡ 0
    unrequested =
        elim (cases_lt 0 (requested (take k events) n)) [
          | inl some ↦ absurd (omega (arith, found.below n counted some))
          | inr none ↦ omega (arith, none)
        ]

    no-free : (m : ℕ) (event : SizeEvent) → event ≡ Request n → frees_at m event ≡ 0
    no-free m event e = rw e refl

largest_other : (events : List SizeEvent) (k above moment n : ℕ) → k < length events → IsLargestSoFar events k above moment
    → get_or events k (Request 0) ≡ Request n → (n < above) ⊎ (largest_counted < n) → IsLargestSoFar events (k + 1) above moment
largest_other events k above moment n lt found is which = record {
  within = omega (arith, found.within);
  counted = found.counted;
  below = λ m le some. elim (eqb_tells m n) [
    | inl same ↦ omega arith
    | inr differs ↦ found.below m le (omega (arith, some, requested-still events k m n lt is differs.1))
  ];
  some = λ some. omega (arith, found.some some, requested-next events k (above - 1) (Request n) lt is);
  first = found.first;
  none = found.none;
}

largest_free : (events : List SizeEvent) (k above moment n : ℕ) → k < length events → IsLargestSoFar events k above moment
    → get_or events k (Request 0) ≡ Free n → IsLargestSoFar events (k + 1) above moment
largest_free events k above moment n lt found is = record {
  within = omega (arith, found.within);
  counted = found.counted;
  below = λ m le some. found.below m le (omega (arith, some, requested-free events k m n lt is));
  some = λ some. omega (arith, found.some some, requested-free events k (above - 1) n lt is);
  first = found.first;
  none = found.none;
}

-- an event of a size that is below, or is not counted,
pub largest_kept : (events : List SizeEvent) (k above moment : ℕ) (event : SizeEvent) → k < length events
    → IsLargestSoFar events k above moment → get_or events k (Request 0) ≡ event → (size_of event < above) ⊎ (largest_counted < size_of event)
    → IsLargestSoFar events (k + 1) above moment
largest_kept events k above moment (Request n) lt found is which = largest_other events k above moment n lt found is which
largest_kept events k above moment (Free n) lt found is which = largest_free events k above moment n lt found is

-- and one of a larger size, which is a request.
pub largest_moved : (events : List SizeEvent) (k above moment : ℕ) (event : SizeEvent) → IsTimeline events → k < length events
    → IsLargestSoFar events k above moment → get_or events k (Request 0) ≡ event → above ≤ size_of event → size_of event ≤ largest_counted
    → IsLargestSoFar events (k + 1) (size_of event + 1) (k + 1)
largest_moved events k above moment (Request n) timeline lt found is larger counted =
    largest_request events k above moment n timeline lt found is larger counted
largest_moved events k above moment (Free n) timeline lt found is larger counted =
    absurd (omega (arith, larger, found.below n counted (freed-before events k n timeline lt counted is)))

pub largest_decides : (events : List SizeEvent) (k above moment : ℕ) → IsTimeline events → k ≡ length events
    → IsLargestSoFar events k above moment → Decides events moment
largest_decides events k above moment timeline all found numbers classes j lt is serving =
    elim (cases_lt 0 above) [
      | inl some ↦ largest_is_live events numbers classes j (above - 1) timeline lt (omega (arith, found.counted))
          (rw is (found.first some).live) (λ n le requests. omega (arith, below n le requests)) serving
      | inr none ↦ (requested_sizes events classes timeline).1 (λ n le requests. absurd (omega (arith, below n le requests)))
    ]
  where
    below : (n : ℕ) → n ≤ largest_counted → 0 < requested events n → n < above
    below n le requests = found.below n le (rw (take_all k events (omega arith)) requests)

pub largest_is_first : (events : List SizeEvent) (k above moment n : ℕ) → k ≡ length events → IsLargestSoFar events k above moment
    → IsLargest events n → IsFirstLive events n moment
largest_is_first events k above moment n all found is =
    rw own (found.first some)
  where
    whole : take k events ≡ events
    whole = take_all k events (omega (arith, all))

    some : 0 < above
    some = omega (arith, found.below n is.counted (rw whole is.some))

    own : n ≡ above - 1
    own = omega (
      arith,
      found.below n is.counted (rw whole is.some),
      is.greatest (above - 1) (omega (arith, found.counted)) (rw whole at (found.some some)),
    )

pub no_largest : (events : List SizeEvent) (k above moment : ℕ) → k ≡ length events → IsLargestSoFar events k above moment
    → ((n : ℕ) → n ≤ largest_counted → requested events n ≡ 0) → moment ≡ 0
no_largest events k above moment all found unrequested =
    found.none (elim (cases_lt 0 above) [
      | inl some ↦ absurd (omega (
        arith,
        rw (take_all k events (omega (arith, all))) at (found.some some),
        unrequested (above - 1) (omega (arith, found.counted)),
      ))
      | inr none ↦ omega (arith, none)
    ])

smaller_is_served : (classes : List ℕ) (n larger : ℕ) → n ≤ larger → IsSome (class_for classes larger) → IsSome (class_for classes n)
smaller_is_served [] n larger le some = some
smaller_is_served (c ∷ cs) n larger le some = grind (arith, nat_tests, smaller_is_served cs n larger)

-- a table with a class for the largest one serves all
pub largest_serves : (events : List SizeEvent) (classes : List ℕ) (k above moment : ℕ) → IsTimeline events → k ≡ length events
    → IsLargestSoFar events k above moment
    → (0 < above → IsSome (class_for classes (above - 1))) ↔ Serves (peaks (moments events)) classes
largest_serves events classes k above moment timeline all found = (
  λ served. (requested_sizes events classes timeline).1 (λ n le some.
      let below = found.below n le (rw whole some) in
      smaller_is_served classes n (above - 1) (omega (arith, below)) (served (omega (arith, below)))),
  λ serves some. (requested_sizes events classes timeline).0 serves (above - 1) (omega (arith, found.counted)) (rw whole at (found.some some)),
)
  where
    whole : take k events ≡ events
    whole = take_all k events (omega (arith, all))

-- ---- the least one without a class

pub least_none : (events : List SizeEvent) (classes : List ℕ) → IsLeastSoFar events classes 0 (largest_counted + 1)
least_none events classes = grind arith

least_request : (events : List SizeEvent) (classes : List ℕ) (k least n : ℕ) → k < length events → IsLeastSoFar events classes k least
    → get_or events k (Request 0) ≡ Request n → n < least → class_for classes n ≡ None → IsLeastSoFar events classes (k + 1) n
least_request events classes k least n lt found is lower none = record {
  within = omega (arith, found.within);
  below = λ m less some. found.below m (omega arith) (omega (arith, some, requested-still events k m n lt is (λ e. omega arith)));
  some = λ le. omega (arith, requested-next events k n (Request n) lt is, own-request n);
  no_class = λ le. none;
}

least_other : (events : List SizeEvent) (classes : List ℕ) (k least n : ℕ) → k < length events → IsLeastSoFar events classes k least
    → get_or events k (Request 0) ≡ Request n → (least ≤ n) ⊎ IsSome (class_for classes n) → IsLeastSoFar events classes (k + 1) least
least_other events classes k least n lt found is which = record {
  within = found.within;
  below = λ m less some. elim (eqb_tells m n) [
    | inl same ↦ grind arith
    | inr differs ↦ found.below m less (omega (arith, some, requested-still events k m n lt is differs.1))
  ];
  some = λ le. omega (arith, found.some le, requested-next events k least (Request n) lt is);
  no_class = found.no_class;
}

least_free : (events : List SizeEvent) (classes : List ℕ) (k least n : ℕ) → k < length events → IsLeastSoFar events classes k least
    → get_or events k (Request 0) ≡ Free n → IsLeastSoFar events classes (k + 1) least
least_free events classes k least n lt found is = record {
  within = found.within;
  below = λ m less some. found.below m less (omega (arith, some, requested-free events k m n lt is));
  some = λ le. omega (arith, found.some le, requested-free events k least n lt is);
  no_class = found.no_class;
}

-- an event of a size that has a class,
pub least_kept : (events : List SizeEvent) (classes : List ℕ) (k least : ℕ) (event : SizeEvent) → k < length events
    → IsLeastSoFar events classes k least → get_or events k (Request 0) ≡ event → IsSome (class_for classes (size_of event))
    → IsLeastSoFar events classes (k + 1) least
least_kept events classes k least (Request n) lt found is served = least_other events classes k least n lt found is (inr served)
least_kept events classes k least (Free n) lt found is served = least_free events classes k least n lt found is

-- and of one that has none.
pub least_unserved : (events : List SizeEvent) (classes : List ℕ) (k least : ℕ) (event : SizeEvent) → IsTimeline events → k < length events
    → IsLeastSoFar events classes k least → get_or events k (Request 0) ≡ event
    → (largest_counted < size_of event) ⊎ (class_for classes (size_of event) ≡ None)
    → IsLeastSoFar events classes (k + 1) (min least (size_of event))
least_unserved events classes k least (Request n) timeline lt found is none =
    elim (cases_lt n least) [
      | inl lower ↦ grind (arith, least_request)
      | inr above ↦ rw (min-eq_left above) (least_other events classes k least n lt found is (inl above))
    ]
least_unserved events classes k least (Free n) timeline lt found is none =
    elim (cases_lt n least) [
      | inl lower ↦ elim none [
        | inl large ↦ absurd (omega (arith, found.within))
        | inr no_class ↦
            let some = found.below n lower (freed-before events k n timeline lt (omega (arith, found.within)) is) in
            absurd (false≢true (rw no_class at some))
      ]
      | inr above ↦ rw (min-eq_left above) (least_free events classes k least n lt found is)
    ]

least_unserved_all : (events : List SizeEvent) (classes : List ℕ) (k least : ℕ) → k ≡ length events → IsLeastSoFar events classes k least
    → least ≤ largest_counted → IsLeastUnserved events classes least
least_unserved_all events classes k least all found le = grind (arith, take_all)

-- after all events: the least size that has none, if there is one
module _ (events : List SizeEvent) (classes : List ℕ) (least : ℕ) (found : IsLeastSoFar events classes (length events) least) where
  pub unserved_is_least : (o : Option ℕ) → IfSome o (λ n. (n ≡ least) × (n ≤ largest_counted))
      → IfSome o (λ n. IsLeastUnserved events classes n)
  unserved_is_least o is = grind (arith, least_unserved_all)

  pub none_is_unserved : (o : Option ℕ) → IsTimeline events → IfNone o (largest_counted < least)
      → IfNone o (Serves (peaks (moments events)) classes)
  none_is_unserved None timeline large =
      (requested_sizes events classes timeline).1 (grind (arith, take_all))
  none_is_unserved (Some n) timeline large = tt

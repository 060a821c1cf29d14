-- What one event changes of the live blocks, and which sizes are live at a moment.
use Rattle.std.proofs.Common.{◌≡◌, ◌↔◌, ℕ, zero, suc, ◌+◌, ◌<◌, ◌≤◌, List, [], ◌∷◌, length, take, slice_index, get_or, cond, arith, refl}
use Rattle.std.proofs.{Common.{ap, sym, ◌∙◌, add-one, IsSome}, lemmas.Bool.{cases_lt}, lemmas.Bool.Decides.{nat_tests}}
use Rattle.std.proofs.lemmas.{List.{get_or-map, length-map, take_all}, List.Sums.{sum_by_more, sum_by-take-le}}
use Rattle.class_table.specs.{Sizes.{largest_counted}, Tables.{class_for}}
use Rattle.tuner_theory.proofs.{Footprint.{most-above, peak-at, peaks-length}, FootprintLawLemmas.{most-bounded}}
use Rattle.tuner_theory.{proofs.Timelines.{live-at, moment-at, moment-below, moments-length}, specs.Histories.{peaks}, specs.Waste.{Serves}}
use Rattle.tuner_theory.specs.Timelines.{IsTimeline, freed, history_at, is_free, is_request, moments, requested, snapshot_at}
use Rattle.tuner_theory.specs.declared.size_event.{SizeEvent.{SizeEvent}, SizeEvent.TheVariants.{Free}}

abbrev pub requests_at : ℕ → SizeEvent → ℕ
requests_at n e = cond (is_request n e) 1 0

abbrev pub frees_at : ℕ → SizeEvent → ℕ
frees_at n e = cond (is_free n e) 1 0

pub requested-more : (events : List SizeEvent) (k n : ℕ) (d : SizeEvent) → k < length events
    → requested (take (suc k) events) n ≡ requested (take k events) n + requests_at n (get_or events k d)
requested-more events k n d lt =
    sym (ap (λ j. requested (take j events) n) (add-one k)) ∙ sum_by_more (requests_at n) events k d lt

pub freed-more : (events : List SizeEvent) (k n : ℕ) (d : SizeEvent) → k < length events
    → freed (take (suc k) events) n ≡ freed (take k events) n + frees_at n (get_or events k d)
freed-more events k n d lt = sym (ap (λ j. freed (take j events) n) (add-one k)) ∙ sum_by_more (frees_at n) events k d lt

one-event : (n : ℕ) (e : SizeEvent) → requests_at n e + frees_at n e ≤ 1
one-event n e = grind arith

-- ---- which sizes are live at a moment

never-requested : (events : List SizeEvent) (n k : ℕ) → IsTimeline events → n ≤ largest_counted → k ≤ length events
    → ((m : ℕ) → m ≤ k → requested (take m events) n ≤ freed (take m events) n) → requested (take k events) n ≡ 0
never-requested events n zero timeline small le never = refl
never-requested events n (suc k) timeline small le never =
    omega (
      arith,
      never-requested events n k timeline small (omega arith) (λ m lt. never m (omega arith)),
      timeline.live k n small,
      never (suc k) (omega arith),
      requested-more events k n (Free 0) (omega arith),
      freed-more events k n (Free 0) (omega arith),
      one-event n (get_or events k (Free 0)),
    )

-- a size that was requested is live at a moment
peak-of-requested : (events : List SizeEvent) (n : ℕ) → IsTimeline events → n ≤ largest_counted
    → get_or (peaks (moments events)) n 0 ≡ 0 → requested events n ≡ 0
peak-of-requested events n timeline le none =
    ap (λ es. requested es n) (sym (take_all (length events) events (omega arith)))
    ∙ never-requested events n (length events) timeline le (omega arith) (λ m le-length.
    omega (
      arith,
      none,
      peak-at (moments events) n 0 le,
      live-at events m n 0 le,
      moment-below (λ s. slice_index s n) events m le-length,
    ))

peak-at-most : (events : List SizeEvent) (n : ℕ) → n ≤ largest_counted → get_or (peaks (moments events)) n 0 ≤ requested events n
peak-at-most events n le = grind (arith, peak-at, most-bounded, moments-length, moment-at, live-at, sum_by-take-le)

pub requested_sizes : (events : List SizeEvent) (classes : List ℕ) → IsTimeline events → Serves (peaks (moments events)) classes
    ↔ ((n : ℕ) → n ≤ largest_counted → 0 < requested events n → IsSome (class_for classes n))
requested_sizes events classes timeline = grind (arith, peaks-length, cases_lt, peak-of-requested, peak-at-most)

-- ---- the largest size

largest-served : (classes : List ℕ) (n largest : ℕ) → n ≤ largest → IsSome (class_for classes largest) → IsSome (class_for classes n)
largest-served [] n largest le some = some
largest-served (c ∷ cs) n largest le some = grind (arith, nat_tests, largest-served cs n largest)

pub largest_is_live : (events : List SizeEvent) (numbers classes : List ℕ) (k largest : ℕ) → IsTimeline events → k < length numbers
    → largest ≤ largest_counted → 0 < slice_index (snapshot_at events (slice_index numbers k)) largest
    → ((n : ℕ) → n ≤ largest_counted → 0 < requested events n → n ≤ largest)
    → Serves (peaks (history_at events numbers)) classes → Serves (peaks (moments events)) classes
largest_is_live events numbers classes k largest timeline lt le live greatest serving =
    (requested_sizes events classes timeline).1 (λ n counted some.
    largest-served classes n largest (greatest n counted some)
    (serving largest (
      omega (arith, peaks-length (history_at events numbers)),
      omega (
        arith,
        live,
        peak-at (history_at events numbers) largest 0 le,
        ap (λ s. slice_index s largest) (get_or-map (snapshot_at events) numbers k 0 [] lt),
        most-above (λ s. slice_index s largest) (history_at events numbers) k []
            (omega (arith, length-map numbers (snapshot_at events))),
      ),
    )))

-- What a history of some moments says of the whole timeline.
use Rattle.std.proofs.Common.{◌≡◌, ℕ, ◌+◌, ◌-◌, ◌≤◌, Bool, List, [], ◌∷◌, length, take, get_or, arith, ap, All}
use Rattle.std.proofs.{Math.Nat.{mul-le-mul_left}, lemmas.List.{length-map, length-take}, lemmas.List.Sums.{count_by-le-length}}
use Rattle.std.proofs.lemmas.List.{Elements.{All-head, All-map, All-tail}, FromFn.{get_or-map-range_with_len, length-map-range_with_len}}
use Rattle.class_table.specs.{Sizes.{largest_counted}, Tables.{IsLegalTable}}
use Rattle.tuner_theory.proofs.{Footprint.{most-above, peak-at, peaks-length}, FootprintLawLemmas.{optimal_fit_is_least, sum-more}}
use Rattle.tuner_theory.{proofs.Served.{largest-served, served-cases, served-more}, specs.Best.{IsCandidate}, specs.Served.{served}}
use Rattle.tuner_theory.specs.{Footprint.{footprint_of}, Histories.{AreSnapshots, most, peaks}, Profiles.{AreCounts, IsCounted}}
use Rattle.tuner_theory.specs.{Sheets.{IsFitVerdict, Sheet}, Waste.{Serves}, declared.size_event.SizeEvent.{SizeEvent}}
use Rattle.tuner_theory.specs.Timelines.{moments, requested, snapshot_at, AreMoments, IsLeastOver, IsTimeline, footprint_over}
use Rattle.tuner_theory.specs.{Timelines.{freed, history_at}, declared.verdict.Refusal.TheVariants.{WasteWrong}}
use Rattle.tuner_theory.specs.declared.verdict.Verdict.TheVariants.{Optimal}

-- ---- snapshots

pub snapshot-length : (events : List SizeEvent) (moment : ℕ) → length (snapshot_at events moment) ≡ largest_counted + 1
unfolding snapshot_at
snapshot-length events moment =
    length-map-range_with_len (λ n. requested (take moment events) n - freed (take moment events) n) 0 (largest_counted + 1)

pub live-at : (events : List SizeEvent) (moment n d : ℕ) → n ≤ largest_counted
    → get_or (snapshot_at events moment) n d ≡ requested (take moment events) n - freed (take moment events) n
unfolding snapshot_at
live-at events moment n d le =
    get_or-map-range_with_len (λ m. requested (take moment events) m - freed (take moment events) m) 0 (largest_counted + 1) n n d
    (omega arith) (omega arith)

pub moments-length : (events : List SizeEvent) → length (moments events) ≡ length events + 1
unfolding moments
moments-length events = length-map-range_with_len (snapshot_at events) 0 (length events + 1)

pub moment-at : (events : List SizeEvent) (moment : ℕ) (d : List ℕ) → moment ≤ length events
    → get_or (moments events) moment d ≡ snapshot_at events moment
unfolding moments
moment-at events moment d le = grind (arith, get_or-map-range_with_len)

pub snapshot-counts : (events : List SizeEvent) (moment : ℕ) → IsTimeline events → AreCounts (snapshot_at events moment)
snapshot-counts events moment timeline = grind (arith, snapshot-length, live-at, count_by-le-length, length-take)

pub moments_are_snapshots : (events : List SizeEvent) (numbers : List ℕ) → IsTimeline events → AreMoments events numbers
    → AreSnapshots (history_at events numbers)
moments_are_snapshots events numbers timeline are = search (arith, length-map, All-map, snapshot-counts)

-- ---- some moments against all

pub moment-below : (f : List ℕ → ℕ) (events : List SizeEvent) (moment : ℕ) → moment ≤ length events
    → f (snapshot_at events moment) ≤ most f (moments events)
moment-below f events moment le =
    omega (arith, ap f (moment-at events moment [] le), most-above f (moments events) moment [] (omega (arith, moments-length events)))

pub some-below : (f : List ℕ → ℕ) (events : List SizeEvent) (numbers : List ℕ) → All (λ number. number ≤ length events) numbers
    → most f (history_at events numbers) ≤ most f (moments events)
some-below f events [] within = omega arith
some-below f events (n ∷ ns) within =
    omega (
      arith,
      moment-below f events n (All-head (λ number. number ≤ length events) n ns within),
      some-below f events ns (All-tail (λ number. number ≤ length events) n ns within),
    )

pub some_moments_take_less : (events : List SizeEvent) (numbers classes : List ℕ) → AreMoments events numbers
    → footprint_of (history_at events numbers) classes ≤ footprint_over events classes
some_moments_take_less events numbers classes are = search (arith, sum-more, mul-le-mul_left, some-below)

pub counted-later : (events : List SizeEvent) (numbers : List ℕ) (n : ℕ) → AreMoments events numbers
    → IsCounted (peaks (history_at events numbers)) n → IsCounted (peaks (moments events)) n
counted-later events numbers n are counted = grind (arith, peaks-length, peak-at, some-below)

pub served-later : (forced : Bool) (events : List SizeEvent) (numbers : List ℕ) (n : ℕ) → AreMoments events numbers
    → IsCounted (served forced (peaks (history_at events numbers))) n → IsCounted (served forced (peaks (moments events))) n
served-later forced events numbers n are =
    served-more forced (peaks (history_at events numbers)) (peaks (moments events)) n (omega (arith, peaks-length (moments events)))
    (λ m. counted-later events numbers m are)

pub candidate-before : (forced : Bool) (events : List SizeEvent) (numbers : List ℕ) (step limit : ℕ) (classes : List ℕ)
    → AreMoments events numbers → IsCandidate (served forced (peaks (moments events))) step limit classes
    → IsCandidate (served forced (peaks (history_at events numbers))) step limit classes
candidate-before forced events numbers step limit classes are candidate = grind (arith, served-later)

-- what serves some moments has the largest class where it is forced, so nothing is left but the sizes that are live at a moment
pub serves-served : (forced : Bool) (events : List SizeEvent) (numbers classes : List ℕ)
    → Serves (served forced (peaks (history_at events numbers))) classes → Serves (peaks (moments events)) classes
    → Serves (served forced (peaks (moments events))) classes
serves-served forced events numbers classes some all n counted = grind (arith, served-cases, largest-served, peaks-length)

-- ---- fits

pub fit_bounds_run : (events : List SizeEvent) (numbers : List ℕ) (fit : Sheet) (other : List ℕ) → AreMoments events numbers
    → AreSnapshots (history_at events numbers) → IsLegalTable 1 fit.table → IsFitVerdict (history_at events numbers) fit Optimal
    → IsCandidate (served fit.forced (peaks (moments events))) fit.step fit.limit other → fit.cost ≤ footprint_over events other
fit_bounds_run events numbers fit other are snapshots legal meets candidate =
    let best = optimal_fit_is_least (history_at events numbers) fit snapshots legal meets in
    let says : fit.cost ≡ footprint_of (history_at events numbers) fit.table = meets WasteWrong in
    omega (
      arith,
      says,
      best.least other (candidate-before fit.forced events numbers fit.step fit.limit other are candidate),
      some_moments_take_less events numbers other are,
    )

pub fit_bounds_timeline : (events : List SizeEvent) (numbers : List ℕ) (fit : Sheet) (other : List ℕ) → IsTimeline events
    → AreMoments events numbers → IsLegalTable 1 fit.table → IsFitVerdict (history_at events numbers) fit Optimal
    → IsCandidate (served fit.forced (peaks (moments events))) fit.step fit.limit other → fit.cost ≤ footprint_over events other
fit_bounds_timeline events numbers fit other timeline are = grind (arith, fit_bounds_run, moments_are_snapshots)

pub least_over_timeline : (events : List SizeEvent) (numbers : List ℕ) (fit : Sheet) → IsTimeline events → AreMoments events numbers
    → IsLegalTable 1 fit.table → IsFitVerdict (history_at events numbers) fit Optimal → Serves (peaks (moments events)) fit.table
    → footprint_over events fit.table ≡ fit.cost → IsLeastOver fit.forced events fit.step fit.limit fit.table
least_over_timeline events numbers fit timeline are legal meets serving same =
    let best = optimal_fit_is_least (history_at events numbers) fit (moments_are_snapshots events numbers timeline are) legal meets in
    record {
      candidate = record {
        legal = best.candidate.legal;
        few = best.candidate.few;
        serving = serves-served fit.forced events numbers fit.table best.candidate.serving serving;
      };
      least = grind (arith, fit_bounds_timeline);
    }

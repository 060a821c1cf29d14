-- What histories of windows say of the run.
use Rattle.std.proofs.Common.{◌≡◌, ℕ, zero, suc, ◌+◌, ◌-◌, ◌<◌, ◌≤◌, List, [], ◌∷◌, length, map, slice_index, get_or, arith, refl, ap}
use Rattle.std.proofs.{Common.{◌∙◌, Contains}, Math.Nat.{mul-le-mul_left}, lemmas.List.{length-map}}
use Rattle.std.{proofs.lemmas.List.FromFn.{get_or-map-range_with_len, length-map-range_with_len}, specs.List.{AllZip, range_with_len}}
use Rattle.class_table.specs.{Sizes.{largest_counted}, Tables.{IsLegalTable}}
use Rattle.tuner_theory.{proofs.Footprint.{most-above, peak-at, peaks-length}, specs.Best.{IsCandidate}, specs.Histories.{most, peaks}}
use Rattle.tuner_theory.proofs.FootprintLawLemmas.{blocks-more, counts-more, most-bounded, optimal_fit_is_least, sum-more}
use Rattle.tuner_theory.{proofs.Timelines.{fit_bounds_run, moment-at, moments-length, serves-served, snapshot-length}, specs.Waste.{Serves}}
use Rattle.tuner_theory.specs.{Footprint.{footprint_of}, Served.{served}, Sheets.{IsFitVerdict, Sheet}}
use Rattle.tuner_theory.specs.Timelines.{IsLeastOver, footprint_over, history_at, moments, snapshot_at}
use Rattle.tuner_theory.specs.Windows.{AreWindows, IsLowerHistory, IsUpperHistory, Window, most_in}
use Rattle.tuner_theory.specs.declared.{size_event.SizeEvent.{SizeEvent}, verdict.Verdict.TheVariants.{Optimal}}

-- ---- an upper history

-- what grows with the counts is at most its most over an upper history
most-upper : (f : List ℕ → ℕ) (events : List SizeEvent) (upper : List (List ℕ))
    → ((live most : List ℕ) → AllZip (λ a b. a ≤ b) live most → f live ≤ f most)
    → IsUpperHistory events upper → most f (moments events) ≤ most f upper
most-upper f events upper grows is =
    most-bounded f (most f upper) (moments events) (λ k d lt. at k d (omega (arith, lt, moments-length events)))
  where
    at : (k : ℕ) (d : List ℕ) → k ≤ length events → f (get_or (moments events) k d) ≤ most f upper
    at k d le =
        let found = is k le in
        grind (arith, moment-at, most-above)

pub upper_takes_more : (events : List SizeEvent) (upper : List (List ℕ)) (classes : List ℕ) → IsUpperHistory events upper
    → footprint_over events classes ≤ footprint_of upper classes
upper_takes_more events upper classes is = grind (arith, sum-more, mul-le-mul_left, most-upper, blocks-more)

pub upper_serves : (events : List SizeEvent) (upper : List (List ℕ)) (classes : List ℕ) → IsUpperHistory events upper
    → Serves (peaks upper) classes → Serves (peaks (moments events)) classes
upper_serves events upper classes is serves n counted = grind (arith, peaks-length, peak-at, most-upper, counts-more)

-- ---- windows

zip-of : (f m : List ℕ) → length f ≡ length m → ((n : ℕ) → n < length f → slice_index f n ≤ slice_index m n)
    → AllZip (λ a b. a ≤ b) f m
zip-of [] [] same each = tt
zip-of [] (y ∷ ys) same each = absurd (omega (arith, same))
zip-of (x ∷ xs) [] same each = absurd (omega (arith, same))
zip-of (x ∷ xs) (y ∷ ys) same each =
    (each 0 (omega arith), zip-of xs ys (omega (arith, same)) (λ n lt. each (suc n) (omega (arith, lt))))

contains-map : {A B : Type 0} (f : A → B) (xs : List A) (x : A) → Contains xs x → Contains (map f xs) (f x)
contains-map f xs x has = (has.0, omega (arith, has.1, length-map xs f), at f xs x has.0 has.1 ∙ ap f has.2)
  where
    at : {A B : Type 0} (f : A → B) (xs : List A) (x : A) (k : ℕ) → k < length xs → get_or (map f xs) k (f x) ≡ f (get_or xs k x)
    at f [] x k lt = refl
    at f (y ∷ ys) x zero lt = refl
    at f (y ∷ ys) x (suc k) lt = at f ys x k (omega arith)

in-window : (events : List SizeEvent) (window : Window) (moment n : ℕ) → n ≤ largest_counted → window.first ≤ moment → moment ≤ window.last
    → slice_index (snapshot_at events moment) n ≤ slice_index (most_in events window) n
in-window events window moment n le from to =
    let all = map (snapshot_at events) (range_with_len window.first (window.last + 1 - window.first)) in
    let long : length all ≡ window.last + 1 - window.first =
    length-map-range_with_len (snapshot_at events) window.first (window.last + 1 - window.first) in
    let here : get_or all (moment - window.first) [] ≡ snapshot_at events moment =
    grind (arith, get_or-map-range_with_len) in
    grind (arith, peak-at, most-above)

pub windows_are_upper : (events : List SizeEvent) (windows : List Window) → AreWindows events windows
    → IsUpperHistory events (map (most_in events) windows)
windows_are_upper events windows are moment le =
    let found = are moment le in
    let all = map (snapshot_at events) (range_with_len found.0.first (found.0.last + 1 - found.0.first)) in
    let lives = snapshot-length events moment in (
      most_in events found.0,
      contains-map (most_in events) windows found.0 found.1,
      grind (arith, zip-of, peaks-length, in-window),
    )

-- ---- a lower history, and both

pub lower_bounds : (events : List SizeEvent) (numbers : List ℕ) (fit : Sheet) (other : List ℕ) → IsLowerHistory events numbers
    → IsLegalTable 1 fit.table → IsFitVerdict (history_at events numbers) fit Optimal
    → IsCandidate (served fit.forced (peaks (moments events))) fit.step fit.limit other → fit.cost ≤ footprint_over events other
lower_bounds events numbers fit other lower = fit_bounds_run events numbers fit other lower.moments lower.snapshots

pub interval : (events : List SizeEvent) (numbers : List ℕ) (upper : List (List ℕ)) (fit : Sheet) (least : List ℕ)
    → IsLowerHistory events numbers → IsUpperHistory events upper
    → IsLegalTable 1 fit.table → IsFitVerdict (history_at events numbers) fit Optimal
    → Serves (peaks (moments events)) fit.table → IsLeastOver fit.forced events fit.step fit.limit least
    → (fit.cost ≤ footprint_over events least) × (footprint_over events least ≤ footprint_over events fit.table)
    × (footprint_over events fit.table ≤ footprint_of upper fit.table)
interval events numbers upper fit least lower is legal meets serving best =
    let fitted = optimal_fit_is_least (history_at events numbers) fit lower.snapshots legal meets in
    let candidate : IsCandidate (served fit.forced (peaks (moments events))) fit.step fit.limit fit.table = record {
      legal = fitted.candidate.legal;
      few = fitted.candidate.few;
      serving = serves-served fit.forced events numbers fit.table fitted.candidate.serving serving;
    } in grind (arith, lower_bounds, upper_takes_more)

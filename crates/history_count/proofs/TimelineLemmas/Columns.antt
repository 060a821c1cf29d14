-- The live blocks by the lines of the requested sizes, one event more; and the stretches, one more.
use Rattle.std.proofs.Common.{◌≡◌, ℕ, suc, ◌+◌, ◌<◌, ◌≤◌, List, [], ◌∷◌, ◌++◌, length, length-append, max, replicate, slice_index}
use Rattle.std.proofs.Common.{slice_set, get_or, map, take, All, arith, refl, ap, sym, ◌∙◌, inl, inr}
use Rattle.std.proofs.{Math.Seq.{get_or-append_seam}, lemmas.Bool.{cases_lt}, lemmas.Bool.Decides.{eqb_tells}}
use Rattle.std.proofs.lemmas.List.{ext_get_or, get_or-map, get_or-replicate, get_or-set_other, get_or-set_same, get_or_append_left}
use Rattle.std.proofs.lemmas.List.{get_or_default, get_or_past, length-map, length-replicate, length-set, map-append, take_all, take_more}
use Rattle.std.proofs.lemmas.List.Elements.{All-map}
use Rattle.class_table.specs.Sizes.{largest_counted}
use Rattle.tuner_theory.{proofs.Timelines.{snapshot-length}, specs.Profiles.{greatest_count}}
use Rattle.tuner_theory.specs.{Timelines.{IsTimeline, history_at, requested, snapshot_at}, declared.size_event.SizeEvent.{SizeEvent}}
use Rattle.tuner_theory.specs.declared.size_event.SizeEvent.TheVariants.{Request, Free}
use Rattle.history_count.proofs.{RowPeaks.{spread-column}, TimelineLemmas.Requested.{free-requests, request-requests}}
use Rattle.history_count.{proofs.TimelineLemmas.Requests.{unrequested-before}, specs.CountedLines.{AreFew, AreSizes, CountsSizes, spread}}
use Rattle.history_count.proofs.TimelineLemmas.Walk.{free_counts, free_is_live, large_free_counts, large_request_counts, request_counts}
use Rattle.history_count.{proofs.TimelineLemmas.Walk.{snapshot_none, snapshot_small}, specs.Timelines.Runs.{after_event, may_come, size_of}}
use Rattle.history_count.specs.Timelines.Stretches.{AreRequested, AreStretchesTo, Bounds, IsLineOf, column_of}
use Rattle.history_count.specs.declared.timelines.requested_sizes.RequestedSizes.{RequestedSizes}

-- ---- columns

pub column-length : (sizes snapshot : List ℕ) → length (column_of sizes snapshot) ≡ length sizes
column-length sizes snapshot = length-map sizes (λ n. slice_index snapshot n)

pub column-at : (sizes snapshot : List ℕ) (k : ℕ) → k < length sizes
    → slice_index (column_of sizes snapshot) k ≡ slice_index snapshot (slice_index sizes k)
column-at sizes snapshot k lt = get_or-map (λ n. slice_index snapshot n) sizes k 0 0 lt

-- one count of a snapshot is one of its column
column-set : (sizes snapshot : List ℕ) (n line count : ℕ) → AreSizes sizes → line < length sizes → slice_index sizes line ≡ n
    → n < length snapshot → slice_set (column_of sizes snapshot) line count ≡ column_of sizes (slice_set snapshot n count)
column-set sizes snapshot n line count are within there inside =
    ext_get_or 0 (slice_set (column_of sizes snapshot) line count) (column_of sizes (slice_set snapshot n count))
    (length-set (column_of sizes snapshot) line count ∙ column-length sizes snapshot ∙ sym (column-length sizes (slice_set snapshot n count)))
    (λ j lt. each j (omega (arith, lt, length-set (column_of sizes snapshot) line count, column-length sizes snapshot)))
  where
    each : (j : ℕ) → j < length sizes
        → slice_index (slice_set (column_of sizes snapshot) line count) j ≡ slice_index (column_of sizes (slice_set snapshot n count)) j
    each j lt =
        elim (eqb_tells j line) [
          | inl same ↦ grind (arith, get_or-set_same, column-length, column-at)
          | inr differs ↦ grind (arith, get_or-set_other, column-at)
        ]

-- ---- one event more

-- the line of a size, as it was read
pub line-read : (events : List SizeEvent) (r : RequestedSizes) (n line : ℕ) → AreRequested events r → n ≤ largest_counted → 0 < requested events n
    → line ≡ get_or r.lines.items n line → IsLineOf r.sizes.items n line
line-read events r n line are counted some read = grind (arith, get_or_default)

-- of these counts the one of this line is that after an event, and the others are the same
pub record IsCountedAt (sizes : List ℕ) (line : ℕ) (event : SizeEvent) (counts newer : List ℕ) : Type 0 where
  pub within : line < length sizes
  pub may : may_come event (slice_index counts line)
  pub after : slice_set counts line (after_event event (slice_index counts line)) ≡ newer

-- an event's line, and its count after it
pub column-event : (events : List SizeEvent) (r : RequestedSizes) (k : ℕ) (event : SizeEvent) → IsTimeline events → AreRequested events r
    → k < length events → get_or events k (Request 0) ≡ event → size_of event ≤ largest_counted → (line : ℕ)
    → line ≡ get_or r.lines.items (size_of event) line
    → IsCountedAt r.sizes.items line event (column_of r.sizes.items (snapshot_at events k)) (column_of r.sizes.items (snapshot_at events (k + 1)))
column-event events r k (Request n) timeline are lt is counted line read =
    let its = line-read events r n line are counted (request-requests events k n lt is) read in
    grind (arith, column-at, column-set, snapshot-length, request_counts)
column-event events r k (Free n) timeline are lt is counted line read =
    let its = line-read events r n line are counted (free-requests events k n timeline lt counted is) read in
    grind (arith, column-at, free_is_live, column-set, snapshot-length, free_counts)

pub column-large : (events : List SizeEvent) (sizes : List ℕ) (k : ℕ) (event : SizeEvent) → IsTimeline events → k < length events
    → get_or events k (Request 0) ≡ event → largest_counted < size_of event
    → column_of sizes (snapshot_at events k) ≡ column_of sizes (snapshot_at events (k + 1))
column-large events sizes k (Request n) timeline lt is large =
    ap (column_of sizes) (large_request_counts events k n (Request 0) lt timeline is large)
column-large events sizes k (Free n) timeline lt is large =
    ap (column_of sizes) (large_free_counts events k n (Request 0) lt timeline is large)

pub column-none : (events : List SizeEvent) (sizes : List ℕ) → AreSizes sizes
    → replicate (length sizes) 0 ≡ column_of sizes (snapshot_at events 0)
column-none events sizes are =
    ext_get_or 0 (replicate (length sizes) 0) (column_of sizes (snapshot_at events 0))
    (length-replicate {A = ℕ} (length sizes) 0 ∙ sym (column-length sizes (snapshot_at events 0)))
    (λ j lt.
    let within : j < length sizes = omega (arith, lt, length-replicate {A = ℕ} (length sizes) 0) in
    get_or-replicate {A = ℕ} (length sizes) j 0 0 within
    ∙ sym (column-at sizes (snapshot_at events 0) j within
    ∙ ap (λ (s : List ℕ). slice_index s (slice_index sizes j)) (sym (snapshot_none events))
    ∙ get_or-replicate {A = ℕ} (largest_counted + 1) (slice_index sizes j) 0 0 (omega (arith, are.small j within))))

-- ---- a snapshot and its column

-- no other size is live
pub column-counts : (events : List SizeEvent) (r : RequestedSizes) (m : ℕ) → AreRequested events r → m ≤ length events
    → CountsSizes (snapshot_at events m) r.sizes.items (column_of r.sizes.items (snapshot_at events m))
column-counts events r m are within = record {
  size = column-length r.sizes.items (snapshot_at events m);
  counted = λ k lt. sym (column-at r.sizes.items (snapshot_at events m) k lt);
  others = λ n none. elim (cases_lt largest_counted n) [
    | inl large ↦ get_or_past (snapshot_at events m) n 0 (omega (arith, snapshot-length events m))
    | inr counted ↦ unrequested-before events (length events) m n within counted (elim (cases_lt 0 (requested events n)) [
      | inl some ↦ let its = are.line n counted some in absurd (none (slice_index r.lines.items n) its.within its.there)
      | inr not ↦ rw (take_all (length events) events (omega arith)) (omega (arith, not))
    ])
  ];
}

-- ---- the most of a stretch

pub bounds-start : (events : List SizeEvent) (sizes : List ℕ) (from : ℕ) → IsTimeline events → AreSizes sizes
    → Bounds events sizes from from (column_of sizes (snapshot_at events from))
bounds-start events sizes from timeline are = grind (arith, column-length, column-at, snapshot_small, get_or_past)

pub bounds-more : (events : List SizeEvent) (sizes : List ℕ) (from k : ℕ) (most newer : List ℕ) → IsTimeline events → AreSizes sizes
    → Bounds events sizes from k most → length newer ≡ length most
    → ((j : ℕ) → slice_index newer j ≡ max (slice_index most j) (slice_index (column_of sizes (snapshot_at events (k + 1))) j))
    → Bounds events sizes from (k + 1) newer
bounds-more events sizes from k most newer timeline are bounds len raised = record {
  len = len ∙ bounds.len;
  few = λ j. omega (arith, raised j, bounds.few j, (bounds-start events sizes (k + 1) timeline are).few j);
  above = grind (arith, column-at);
}

-- the history of some moments is that of its columns
module _ (events : List SizeEvent) (r : RequestedSizes) (timeline : IsTimeline events) (are : AreRequested events r) where
  abbrev pub rows_at : List ℕ → List (List ℕ)
  rows_at numbers = map (λ m. column_of r.sizes.items (snapshot_at events m)) numbers

  pub rows-spread : (numbers : List ℕ) → All (λ number. number ≤ length events) numbers
      → spread r.sizes.items (rows_at numbers) ≡ history_at events numbers
  rows-spread [] within = refl
  rows-spread (m ∷ ms) within =
      rw (
        spread-column (snapshot_at events m) r.sizes.items (column_of r.sizes.items (snapshot_at events m)) are.sizes_are
            (snapshot-length events m)
            (column-counts events r m are (within 0 0 (omega arith))),
        rows-spread ms (λ k d lt. within (suc k) d (omega arith)),
      ) refl

  pub rows-few : (numbers : List ℕ) → AreFew (length r.sizes.items) (rows_at numbers)
  rows-few numbers = record {
    long = All-map (λ row. length row ≡ length r.sizes.items) (λ m. column_of r.sizes.items (snapshot_at events m)) numbers
        (λ k d lt. column-length r.sizes.items (snapshot_at events (get_or numbers k d)));
    few = All-map (λ row. (k : ℕ) → slice_index row k ≤ greatest_count) (λ m. column_of r.sizes.items (snapshot_at events m)) numbers
        (λ k d lt. (bounds-start events r.sizes.items (get_or numbers k d) timeline are.sizes_are).few);
  }

  pub rows-more : (numbers : List ℕ) (i : ℕ) (rows : List (List ℕ)) (row : List ℕ) → i < length numbers
      → rows ≡ rows_at (take i numbers) → row ≡ column_of r.sizes.items (snapshot_at events (slice_index numbers i))
      → rows ++ row ∷ [] ≡ rows_at (take (i + 1) numbers)
  rows-more numbers i rows row lt so_far is =
      ap (λ (before : List (List ℕ)). before ++ row ∷ []) so_far
      ∙ ap (λ (next : List ℕ). rows_at (take i numbers) ++ next ∷ []) is
      ∙ sym (map-append (λ m. column_of r.sizes.items (snapshot_at events m)) (take i numbers) (slice_index numbers i ∷ []))
      ∙ sym (ap rows_at (take_more numbers i 0 lt))

-- ---- the stretches

module _ (events : List SizeEvent) (sizes : List ℕ) (from to : ℕ) (starts : List ℕ) (before most : List (List ℕ)) (row : List ℕ)
    (are : AreStretchesTo events sizes from starts before most) (order : from ≤ to) (inside : to ≤ length events)
    (bounds : Bounds events sizes from to row) where
  start-end : slice_index (starts ++ to ∷ []) (length most + 1) ≡ to
  start-end = ap (slice_index (starts ++ to ∷ [])) (sym are.ends) ∙ get_or-append_seam starts to [] 0

  pub stretches-more : AreStretchesTo events sizes to (starts ++ to ∷ []) (before ++ column_of sizes (snapshot_at events to) ∷ [])
      (most ++ row ∷ [])
  stretches-more = grind (arith, length-append, start-end, get_or_append_left, get_or-append_seam)

-- One event more of a walk over the sizes.
use Rattle.std.proofs.Common.{◌≡◌, ◌≢◌, ℕ, suc, ◌+◌, ◌-◌, ◌<◌, ◌≤◌, List, length, replicate, slice_index, slice_set, get_or, cond}
use Rattle.std.proofs.{Common.{eqb, arith, refl, ap, sym, ◌∙◌, add-one}, lemmas.Bool.Decides.{nat_tests}}
use Rattle.std.proofs.lemmas.List.{ext_get_or, get_or-replicate, get_or-set_same, get_or-set_other, length-replicate, length-set}
use Rattle.std.proofs.lemmas.{List.{length-take}, List.Sums.{count_by-le-length}}
use Rattle.class_table.specs.Sizes.{largest_counted}
use Rattle.tuner_theory.proofs.{TimelineSteps.{frees_at, freed-more, requested-more, requests_at}, Timelines.{live-at, snapshot-length}}
use Rattle.tuner_theory.specs.{Timelines.{IsTimeline, snapshot_at}, declared.size_event.SizeEvent.{SizeEvent}}
use Rattle.tuner_theory.specs.declared.size_event.SizeEvent.TheVariants.{Request, Free}

-- ---- the counts

one-at : (size n : ℕ) → size ≡ n → cond {A = ℕ} (eqb size n) 1 0 ≡ 1
one-at size n same = grind (arith, nat_tests)

none-at : (size n : ℕ) → n ≢ size → cond {A = ℕ} (eqb size n) 1 0 ≡ 0
none-at size n other = grind (arith, nat_tests)

-- counts that differ as an event says are the next snapshot
next-snapshot : (events : List SizeEvent) (k : ℕ) (d : SizeEvent) (counts : List ℕ) → k < length events → IsTimeline events
    → length counts ≡ largest_counted + 1
    → ((n : ℕ) → n ≤ largest_counted → slice_index counts n + frees_at n (get_or events k d)
    ≡ slice_index (snapshot_at events k) n + requests_at n (get_or events k d))
    → counts ≡ snapshot_at events (k + 1)
next-snapshot events k d counts lt timeline len each =
    ext_get_or 0 counts (snapshot_at events (k + 1)) (len ∙ sym (snapshot-length events (k + 1))) (λ n within.
    let le : n ≤ largest_counted = omega arith in
    omega (
      arith,
      each n le,
      ap (λ j. get_or (snapshot_at events j) n 0) (add-one k),
      live-at events (suc k) n 0 le,
      live-at events k n 0 le,
      requested-more events k n d lt,
      freed-more events k n d lt,
      timeline.live k n le,
      timeline.live (suc k) n le,
    ))

-- a block that is freed was live
pub free_is_live : (events : List SizeEvent) (k size : ℕ) (d : SizeEvent) → k < length events
    → get_or events k d ≡ Free size → size ≤ largest_counted → IsTimeline events → 0 < slice_index (snapshot_at events k) size
free_is_live events k size d lt event counted timeline =
    omega (
      arith,
      timeline.live (suc k) size counted,
      live-at events k size 0 counted,
      requested-more events k size d lt,
      freed-more events k size d lt,
      ap (requests_at size) event,
      ap (frees_at size) event,
      one-at size size refl,
    )

-- ---- the next snapshots

pub request_counts : (events : List SizeEvent) (k size : ℕ) (d : SizeEvent) → k < length events → IsTimeline events
    → get_or events k d ≡ Request size → size ≤ largest_counted
    → slice_set (snapshot_at events k) size (slice_index (snapshot_at events k) size + 1) ≡ snapshot_at events (k + 1)
request_counts events k size d lt timeline event counted =
    next-snapshot events k d (slice_set (snapshot_at events k) size (slice_index (snapshot_at events k) size + 1)) lt
    timeline
    (length-set (snapshot_at events k) size (slice_index (snapshot_at events k) size + 1) ∙ snapshot-length events k)
    (grind (arith, get_or-set_same, snapshot-length, get_or-set_other))

pub free_counts : (events : List SizeEvent) (k size : ℕ) (d : SizeEvent) → k < length events → IsTimeline events
    → get_or events k d ≡ Free size → size ≤ largest_counted → 0 < slice_index (snapshot_at events k) size
    → slice_set (snapshot_at events k) size (slice_index (snapshot_at events k) size - 1) ≡ snapshot_at events (k + 1)
free_counts events k size d lt timeline event counted some =
    next-snapshot events k d (slice_set (snapshot_at events k) size (slice_index (snapshot_at events k) size - 1)) lt
    timeline
    (length-set (snapshot_at events k) size (slice_index (snapshot_at events k) size - 1) ∙ snapshot-length events k)
    (grind (arith, get_or-set_same, snapshot-length, get_or-set_other))

pub large_request_counts : (events : List SizeEvent) (k size : ℕ) (d : SizeEvent) → k < length events → IsTimeline events
    → get_or events k d ≡ Request size → largest_counted < size → snapshot_at events k ≡ snapshot_at events (k + 1)
large_request_counts events k size d lt timeline event large =
    next-snapshot events k d (snapshot_at events k) lt timeline (snapshot-length events k)
    (λ n le. rw event (omega (arith, none-at size n (omega arith))))

pub large_free_counts : (events : List SizeEvent) (k size : ℕ) (d : SizeEvent) → k < length events → IsTimeline events
    → get_or events k d ≡ Free size → largest_counted < size → snapshot_at events k ≡ snapshot_at events (k + 1)
large_free_counts events k size d lt timeline event large =
    next-snapshot events k d (snapshot_at events k) lt timeline (snapshot-length events k)
    (λ n le. rw event (omega (arith, none-at size n (omega arith))))

-- how large a count is
pub snapshot_small : (events : List SizeEvent) (k n : ℕ) → n ≤ largest_counted → slice_index (snapshot_at events k) n ≤ length events
snapshot_small events k n le = grind (arith, live-at, count_by-le-length, length-take)

-- ---- the ends

pub snapshot_none : (events : List SizeEvent) → replicate (largest_counted + 1) 0 ≡ snapshot_at events 0
snapshot_none events =
    ext_get_or 0 (replicate (largest_counted + 1) 0) (snapshot_at events 0)
    (length-replicate {A = ℕ} (largest_counted + 1) 0 ∙ sym (snapshot-length events 0))
    (λ n lt.
    let le : n ≤ largest_counted = omega (arith, length-replicate {A = ℕ} (largest_counted + 1) 0) in
    omega (arith, get_or-replicate {A = ℕ} (largest_counted + 1) n 0 0 (omega arith), live-at events 0 n 0 le))

-- One event more of a run.
use Rattle.std.proofs.Common.{◌≡◌, ◌≢◌, ℕ, ◌+◌, ◌-◌, ◌<◌, ◌≤◌, true, false, List, [], ◌∷◌, ◌++◌, length, take, cond, refl, sym, ◌∙◌, arith}
use Rattle.std.proofs.{Common.{inl, inr, slice_index, slice_set, replicate, length-append, eqb}, lemmas.Bool.Decides.{eqb_tells, nat_tests}}
use Rattle.std.proofs.lemmas.{Bool.{cases_lt, lt-ltb, ltb-true}, List.Elements.{All-append, All-cons, All-nil}}
use Rattle.std.proofs.lemmas.List.{get_or-replicate, get_or-set_other, get_or-set_same, length-replicate, length-set, take-append-le}
use Rattle.std.proofs.lemmas.{List.{take_all}, List.Sums.{sum_by-append}}
use Rattle.tuner_theory.{proofs.TimelineSteps.{frees_at, requests_at}, specs.Profiles.{greatest_count}}
use Rattle.tuner_theory.specs.{Timelines.{IsTimeline, freed, requested}, declared.size_event.SizeEvent.{SizeEvent}}
use Rattle.tuner_theory.specs.declared.size_event.SizeEvent.TheVariants.{Request, Free}
use Rattle.history_count.specs.Timelines.Runs.{AreLiveCounts, IsRun, after_event, large_size, lowered, may_come, raised, size_of}
use Rattle.history_count.specs.Timelines.TimelineText.{finds_live}

pub requested-append : (events : List SizeEvent) (event : SizeEvent) (n : ℕ)
    → requested (events ++ event ∷ []) n ≡ requested events n + requests_at n event
requested-append events event n = grind (arith, sum_by-append)

pub freed-append : (events : List SizeEvent) (event : SizeEvent) (n : ℕ)
    → freed (events ++ event ∷ []) n ≡ freed events n + frees_at n event
freed-append events event n = grind (arith, sum_by-append)

-- ---- runs

pub run-none : IsRun []
run-none = grind arith

pub run-all : (events : List SizeEvent) (n : ℕ) → IsRun events → freed events n ≤ requested events n
run-all events n run = rw (take_all (length events) events (omega arith)) at (run.live (length events) n)

pub timeline_of_run : (events : List SizeEvent) → IsRun events → IsTimeline events
timeline_of_run events run = record { few = run.few; live = λ moment n le. run.live moment n }

own-free : (n : ℕ) → frees_at n (Free n) ≡ 1
own-free n = grind (arith, nat_tests)

-- after one event more, no more blocks were freed than requested
still_live : (events : List SizeEvent) (event : SizeEvent) (n : ℕ) → freed events n ≤ requested events n → finds_live events event ≡ true
    → freed (events ++ event ∷ []) n ≤ requested (events ++ event ∷ []) n
still_live events (Request size) n le finds = omega (arith, requested-append events (Request size) n, freed-append events (Request size) n)
still_live events (Free size) n le finds = elim (eqb_tells size n) [
  | inl same ↦
      let found = ltb-true (freed events size) (requested events size) finds in
      let here : freed events n < requested events n = rw same.1 at found in
      let one : frees_at n (Free size) ≡ 1 = rw same.1 (own-free n) in
      omega (arith, here, one, requested-append events (Free size) n, freed-append events (Free size) n)
  | inr differs ↦
      let none : frees_at n (Free size) ≡ 0 = rw differs.0 refl in
      omega (arith, le, none, requested-append events (Free size) n, freed-append events (Free size) n)
]

pub run-more : (events : List SizeEvent) (event : SizeEvent) → IsRun events → size_of event ≤ large_size → length events < greatest_count
    → finds_live events event ≡ true → IsRun (events ++ event ∷ [])
run-more events event run small room finds = record {
  few = omega (arith, length-append events (event ∷ []));
  sizes = All-append (λ event. size_of event ≤ large_size) events (event ∷ []) run.sizes
      (All-cons (λ event. size_of event ≤ large_size) event [] small (All-nil (λ event. size_of event ≤ large_size)));
  live = λ moment n. elim (cases_lt (length events) moment) [
    | inl past ↦
        let all : take moment (events ++ event ∷ []) ≡ events ++ event ∷ [] =
        take_all moment (events ++ event ∷ []) (omega (arith, length-append events (event ∷ []))) in
        rw all (still_live events event n (run-all events n run) finds)
    | inr before ↦ rw (take-append-le moment events (event ∷ []) before) (run.live moment n)
  ];
}

-- An event of a run finds a live block, if it is a free.
pub run-finds : (events rest : List SizeEvent) (event : SizeEvent) → IsRun ((events ++ event ∷ []) ++ rest) → finds_live events event ≡ true
run-finds events rest (Request n) run = refl
run-finds events rest (Free n) run =
    let front = events ++ Free n ∷ [] in
    let here : take (length front) (front ++ rest) ≡ front =
    take-append-le (length front) front rest (omega arith) ∙ take_all (length front) front (omega arith) in
    let live = rw here at (run.live (length front) n) in
    lt-ltb (freed events n) (requested events n)
    (omega (arith, live, own-free n, requested-append events (Free n) n, freed-append events (Free n) n))

-- ---- the counts of live blocks

pub live_counts-none : AreLiveCounts [] (replicate (large_size + 1) 0)
live_counts-none = record {
  few = omega arith;
  len = length-replicate {A = ℕ} (large_size + 1) 0;
  balance = λ n le. omega (arith, get_or-replicate {A = ℕ} (large_size + 1) n 0 0 (omega arith));
}

other-event : (size n : ℕ) → n ≢ size → cond {A = ℕ} (eqb size n) 1 0 ≡ 0
other-event size n other = grind (arith, nat_tests)

own-event : (n : ℕ) → cond {A = ℕ} (eqb n n) 1 0 ≡ 1
own-event n = grind (arith, nat_tests)

live_counts-request : (events : List SizeEvent) (live : List ℕ) (size : ℕ) → AreLiveCounts events live → size ≤ large_size
    → length events < greatest_count → AreLiveCounts (events ++ Request size ∷ []) (slice_set live size (slice_index live size + 1))
live_counts-request events live size are le room = record {
  few = omega (arith, length-append events (Request size ∷ []));
  len = length-set live size (slice_index live size + 1) ∙ are.len;
  balance = λ n within. elim (eqb_tells n size) [
    | inl same ↦ rw same.1 (omega (
      arith,
      are.balance size le,
      get_or-set_same live size (slice_index live size + 1) 0 (omega (arith, are.len)),
      own-event size,
      requested-append events (Request size) size,
      freed-append events (Request size) size,
    ))
    | inr differs ↦ omega (
      arith,
      are.balance n within,
      get_or-set_other live size n (slice_index live size + 1) 0 differs.1,
      other-event size n differs.1,
      requested-append events (Request size) n,
      freed-append events (Request size) n,
    )
  ];
}

live_counts-free : (events : List SizeEvent) (live : List ℕ) (size : ℕ) → AreLiveCounts events live → size ≤ large_size
    → length events < greatest_count → 0 < slice_index live size
    → AreLiveCounts (events ++ Free size ∷ []) (slice_set live size (slice_index live size - 1))
live_counts-free events live size are le room some = record {
  few = omega (arith, length-append events (Free size ∷ []));
  len = length-set live size (slice_index live size - 1) ∙ are.len;
  balance = λ n within. elim (eqb_tells n size) [
    | inl same ↦ rw same.1 (omega (
      arith,
      are.balance size le,
      get_or-set_same live size (slice_index live size - 1) 0 (omega (arith, are.len)),
      own-event size,
      requested-append events (Free size) size,
      freed-append events (Free size) size,
    ))
    | inr differs ↦ omega (
      arith,
      are.balance n within,
      get_or-set_other live size n (slice_index live size - 1) 0 differs.1,
      other-event size n differs.1,
      requested-append events (Free size) n,
      freed-append events (Free size) n,
    )
  ];
}

-- an event that may come
pub live_counts-event : (events : List SizeEvent) (live : List ℕ) (event : SizeEvent) → AreLiveCounts events live → size_of event ≤ large_size
    → length events < greatest_count → may_come event (slice_index live (size_of event))
    → AreLiveCounts (events ++ event ∷ []) (slice_set live (size_of event) (after_event event (slice_index live (size_of event))))
live_counts-event events live (Request n) are le room may = live_counts-request events live n are le room
live_counts-event events live (Free n) are le room may = live_counts-free events live n are le room may

pub finds-some : (events : List SizeEvent) (live : List ℕ) (event : SizeEvent) → AreLiveCounts events live → size_of event ≤ large_size
    → may_come event (slice_index live (size_of event)) → true ≡ finds_live events event
finds-some events live (Request n) are le may = refl
finds-some events live (Free n) are le may = sym (lt-ltb (freed events n) (requested events n) (omega (arith, are.balance n le, may)))

pub finds-none : (events : List SizeEvent) (live : List ℕ) (event : SizeEvent) → AreLiveCounts events live → size_of event ≤ large_size
    → (may_come event (slice_index live (size_of event)) → ⊥) → false ≡ finds_live events event
finds-none events live (Request n) are le none = absurd (none tt)
finds-none events live (Free n) are le none = grind arith

-- ---- an event in two steps

pub raised-may : (event : SizeEvent) (count : ℕ) → raised event count ≢ 0 → may_come event count
raised-may (Request n) count some = tt
raised-may (Free n) count some = omega (arith, some)

pub raised-none : (event : SizeEvent) (count : ℕ) → raised event count ≡ 0 → may_come event count → ⊥
raised-none event count none may = grind arith

pub lowered-after : (event : SizeEvent) (count : ℕ) → lowered event (raised event count) ≡ after_event event count
lowered-after event count = grind arith

-- The live bytes and the freed blocks of `peaks`, event by event.
use Rattle.std.proofs.Common.{◌≡◌, ℕ, zero, suc, ◌+◌, ◌-◌, ◌*◌, ◌<◌, ◌≤◌, true, false, List, [], ◌∷◌, length, take}
use Rattle.std.proofs.Common.{get_or, cond, eqb, arith, refl, ap, sym, ◌∙◌, inl, inr, add-one, sum_by}
use Rattle.std.proofs.{Math.Nat.{mul-add}, lemmas.Bool.{cases_lt}, lemmas.Bool.Decides.{nat_tests}, lemmas.List.Sums.{sum_by-cons, sum_by_more}}
use Rattle.class_table.{proofs.LawLemmas.{AreClassesAbove, classes_of_legal_table}, specs.Sizes.{granule_bytes, largest_counted}}
use Rattle.class_table.specs.Tables.{IsLegalTable}
use Rattle.tuner_theory.proofs.Footprint.{no-class, sum-later}
use Rattle.tuner_theory.proofs.TimelineBlocks.{blocks-none, blocks-step, comes_at, free-goes, goes_at, large-does-nothing}
use Rattle.tuner_theory.proofs.TimelineBlocks.{most_to-all, most_to-more, request-comes}
use Rattle.tuner_theory.specs.{Footprint.{blocks, is_class_of}, Histories.{most}}
use Rattle.tuner_theory.specs.{Timelines.{IsTimeline, moments, most_to, snapshot_at}, declared.size_event.SizeEvent.{SizeEvent}}
use Rattle.tuner_theory.specs.declared.size_event.SizeEvent.TheVariants.{Request, Free}
use Rattle.history_count.specs.Timelines.TablePeaks.{freed_blocks, greatest_to, live_bytes, most_freed}
use Rattle.mte_engine.specs.PeakLaws.{IsGreatestTo, block_bytes, bytes_given, bytes_out, bytes_taken, freed_at, pool_after, pool_at}

-- ---- the greatest

greatest-is : (amount : ℕ → ℕ) (last : ℕ) → IsGreatestTo amount last (greatest_to amount last)
greatest-is amount zero = record { bound = grind arith; reached = (0, omega arith, refl) }
greatest-is amount (suc last) =
    let before = greatest-is amount last in
    elim (cases_lt (greatest_to amount last) (amount (suc last))) [
      | inl up ↦ record {
        bound = λ m le. elim (cases_lt m (suc last)) [
          | inl earlier ↦ omega (arith, before.bound m (omega arith), up)
          | inr here ↦ let same : m ≡ suc last = omega arith in omega (arith, ap amount same)
        ];
        reached = (suc last, omega arith, omega (arith, up));
      }
      | inr kept ↦ record {
        bound = λ m le. elim (cases_lt m (suc last)) [
          | inl earlier ↦ omega (arith, before.bound m (omega arith))
          | inr here ↦ let same : m ≡ suc last = omega arith in omega (arith, ap amount same, kept)
        ];
        reached = (before.reached.0, omega (arith, before.reached.1), omega (arith, before.reached.2, kept));
      }
    ]

-- where two amounts are the same at each moment, the greatest of one is that of the other
greatest-same : (amount other : ℕ → ℕ) (last much : ℕ) → ((m : ℕ) → m ≤ last → amount m ≡ other m) → IsGreatestTo amount last much
    → IsGreatestTo other last much
greatest-same amount other last much same is = record {
  bound = λ m le. omega (arith, same m le, is.bound m le);
  reached = (is.reached.0, is.reached.1, sym (same is.reached.0 is.reached.1) ∙ is.reached.2);
}

most_to-greatest : (f : List ℕ → ℕ) (events : List SizeEvent) (last : ℕ)
    → most_to f events last ≡ greatest_to (λ m. f (snapshot_at events m)) last
most_to-greatest f events zero = grind arith
most_to-greatest f events (suc last) = omega (arith, most_to-more f events last, most_to-greatest f events last)

most-greatest : (f : List ℕ → ℕ) (events : List SizeEvent)
    → IsGreatestTo (λ m. f (snapshot_at events m)) (length events) (most f (moments events))
most-greatest f events =
    rw (← most_to-all f events, most_to-greatest f events (length events)) (greatest-is (λ m. f (snapshot_at events m)) (length events))

-- ---- sums

sum-parts : (f g h : ℕ → ℕ) (xs : List ℕ) → ((x : ℕ) → f x + g x ≡ h x) → sum_by f xs + sum_by g xs ≡ sum_by h xs
sum-parts f g h [] each = refl
sum-parts f g h (x ∷ xs) each =
    omega (arith, each x, sum-parts f g h xs each, sum_by-cons f x xs, sum_by-cons g x xs, sum_by-cons h x xs)

sum-four : (f g h i : ℕ → ℕ) (xs : List ℕ) → ((x : ℕ) → f x + g x ≡ h x + i x)
    → sum_by f xs + sum_by g xs ≡ sum_by h xs + sum_by i xs
sum-four f g h i [] each = refl
sum-four f g h i (x ∷ xs) each =
    omega (
      arith,
      each x,
      sum-four f g h i xs each,
      sum_by-cons f x xs,
      sum_by-cons g x xs,
      sum_by-cons h x xs,
      sum_by-cons i x xs,
    )

sum-none : (f : ℕ → ℕ) (xs : List ℕ) → ((x : ℕ) → f x ≡ 0) → sum_by f xs ≡ 0
sum-none f [] each = refl
sum-none f (x ∷ xs) each = omega (arith, each x, sum-none f xs each, sum_by-cons f x xs)

-- ---- the block of a size

-- what the block of a size adds to a class
abbrev one_of : List ℕ → ℕ → ℕ → ℕ
one_of classes n class = cond (is_class_of classes class n) 1 0

first-is : (c class n : ℕ) (cs : List ℕ) → n ≤ 16 * c - 16 → is_class_of (c ∷ cs) class n ≡ eqb c class
first-is c class n cs le = grind (arith, nat_tests)

first-bytes : (c n : ℕ) (cs : List ℕ) → n ≤ 16 * c - 16 → block_bytes (c ∷ cs) n ≡ 16 * c
first-bytes c n cs le = grind (arith, nat_tests)

next-is : (c class n : ℕ) (cs : List ℕ) → 16 * c - 16 < n → is_class_of (c ∷ cs) class n ≡ is_class_of cs class n
next-is c class n cs over = grind (arith, nat_tests)

next-bytes : (c n : ℕ) (cs : List ℕ) → 16 * c - 16 < n → block_bytes (c ∷ cs) n ≡ block_bytes cs n
next-bytes c n cs over = grind (arith, nat_tests)

block-of_class : (low n : ℕ) (classes : List ℕ) → 1 ≤ low → AreClassesAbove 1 low classes
    → sum_by (λ class. granule_bytes * class * one_of classes n class) classes ≡ block_bytes classes n
block-of_class low n [] one above = refl
block-of_class low n (c ∷ cs) one above =
    let f : ℕ → ℕ = λ class. granule_bytes * class * one_of (c ∷ cs) n class in
    elim (cases_lt (16 * c - 16) n) [
      | inl over ↦ omega (
        arith,
        sum_by-cons f c cs,
        ap (λ b. granule_bytes * c * cond b 1 0)
            (next-is c c n cs over ∙ no-class 1 (omega arith) c c n cs (omega (arith, above.0)) (omega arith) above.3),
        sum-later 1 (omega arith) f (λ class. granule_bytes * class * one_of cs n class) c c cs
            (λ class later. ap (λ b. granule_bytes * class * cond b 1 0) (next-is c class n cs over)) (omega arith) above.3,
        block-of_class c n cs (omega (arith, above.0)) above.3,
        next-bytes c n cs over,
      )
      | inr fits ↦ omega (
        arith,
        sum_by-cons f c cs,
        ap (λ b. granule_bytes * c * cond b 1 0) (first-is c c n cs fits ∙ same-class c),
        sum-later 1 (omega arith) f (λ class. 0) c c cs
            (λ class later. omega (
              arith,
              ap (λ b. granule_bytes * class * cond b 1 0) (first-is c class n cs fits ∙ other-class c class later),
            )) (omega arith) above.3,
        sum-none (λ class. 0) cs (λ class. refl),
        first-bytes c n cs fits,
      )
    ]
  where
    same-class : (c : ℕ) → eqb c c ≡ true
    same-class c = grind (arith, nat_tests)

    other-class : (c class : ℕ) → c < class → eqb c class ≡ false
    other-class c class later = grind (arith, nat_tests)

no-large : (low n class : ℕ) (classes : List ℕ) → AreClassesAbove 1 low classes → largest_counted < n → is_class_of classes class n ≡ false
no-large low n class [] above large = refl
no-large low n class (c ∷ cs) above large =
    next-is c class n cs (omega (arith, above.1)) ∙ no-large c n class cs above.3 large

-- ---- what an event does to the blocks of a class

-- how many blocks of a class an event makes live, and how many it ends
come : List ℕ → ℕ → SizeEvent → ℕ
come classes class (Request n) = one_of classes n class
come classes class (Free n) = 0

gone : List ℕ → ℕ → SizeEvent → ℕ
gone classes class (Request n) = 0
gone classes class (Free n) = one_of classes n class

come-is : (classes : List ℕ) (class : ℕ) (event : SizeEvent) → IsLegalTable 1 classes
    → comes_at classes class event ≡ come classes class event
unfolding come
come-is classes class (Request n) legal =
    elim (cases_lt largest_counted n) [
      | inl large ↦ omega (
        arith,
        (large-does-nothing classes class n large).0.0,
        ap (λ b. cond {A = ℕ} b 1 0) (no-large 1 n class classes (classes_of_legal_table 1 classes legal) large),
      )
      | inr counted ↦ (request-comes classes class n counted).0
    ]
come-is classes class (Free n) legal =
    elim (cases_lt largest_counted n) [
      | inl large ↦ (large-does-nothing classes class n large).1.0
      | inr counted ↦ (free-goes classes class n counted).1
    ]

gone-is : (classes : List ℕ) (class : ℕ) (event : SizeEvent) → IsLegalTable 1 classes
    → goes_at classes class event ≡ gone classes class event
unfolding gone
gone-is classes class (Request n) legal =
    elim (cases_lt largest_counted n) [
      | inl large ↦ (large-does-nothing classes class n large).0.1
      | inr counted ↦ (request-comes classes class n counted).1
    ]
gone-is classes class (Free n) legal =
    elim (cases_lt largest_counted n) [
      | inl large ↦ omega (
        arith,
        (large-does-nothing classes class n large).1.1,
        ap (λ b. cond {A = ℕ} b 1 0) (no-large 1 n class classes (classes_of_legal_table 1 classes legal) large),
      )
      | inr counted ↦ (free-goes classes class n counted).0
    ]

blocks-next : (events : List SizeEvent) (classes : List ℕ) (class k : ℕ) → IsTimeline events → IsLegalTable 1 classes → k < length events
    → blocks classes class (snapshot_at events (suc k)) + gone classes class (get_or events k (Free 0))
    ≡ blocks classes class (snapshot_at events k) + come classes class (get_or events k (Free 0))
blocks-next events classes class k timeline legal lt =
    omega (
      arith,
      blocks-step events classes class k (Free 0) timeline lt,
      come-is classes class (get_or events k (Free 0)) legal,
      gone-is classes class (get_or events k (Free 0)) legal,
    )

-- ---- the freed blocks

pool-step : (classes : List ℕ) (class pool : ℕ) (event : SizeEvent)
    → (pool_after classes class event pool ≡ pool - come classes class event + gone classes class event)
    × (come classes class event + gone classes class event ≤ 1)
unfolding come gone
pool-step classes class pool (Request n) = grind (arith, nat_tests)
pool-step classes class pool (Free n) = grind (arith, nat_tests)

module _ (events : List SizeEvent) (classes : List ℕ) (timeline : IsTimeline events) (legal : IsLegalTable 1 classes) where
  -- a class has as many blocks as were live at once so far
  pool-is : (class k : ℕ) → k ≤ length events
      → pool_at classes events class k + blocks classes class (snapshot_at events k) ≡ most_to (blocks classes class) events k
  pool-is class zero le = omega (arith, blocks-none events classes class, most_to-greatest (blocks classes class) events 0)
  pool-is class (suc k) le =
      omega (
        arith,
        pool-is class k (omega arith),
        blocks-next events classes class k timeline legal (omega arith),
        pool-step classes class (pool_at classes events class k) (get_or events k (Free 0)),
        most_to-more (blocks classes class) events k,
      )

  freed-is : (k : ℕ) → k ≤ length events → freed_blocks events classes k ≡ freed_at classes events k
  freed-is k le =
      omega (
        arith,
        sum-parts (λ class. pool_at classes events class k) (λ class. blocks classes class (snapshot_at events k))
            (λ class. most_to (blocks classes class) events k) classes (λ class. pool-is class k le),
      )

  pub most_freed_is_greatest : IsGreatestTo (freed_at classes events) (length events) (most_freed events classes)
  most_freed_is_greatest =
      greatest-same (freed_blocks events classes) (freed_at classes events) (length events) (most_freed events classes) freed-is
      (greatest-is (freed_blocks events classes) (length events))

  -- ---- the live bytes

  given-is : (event : SizeEvent) → sum_by (λ class. granule_bytes * class * come classes class event) classes ≡ bytes_given classes event
  unfolding come
  given-is (Request n) = block-of_class 1 n classes (omega arith) (classes_of_legal_table 1 classes legal)
  given-is (Free n) = sum-none (λ class. granule_bytes * class * 0) classes (λ class. omega arith)

  taken-is : (event : SizeEvent) → sum_by (λ class. granule_bytes * class * gone classes class event) classes ≡ bytes_taken classes event
  unfolding gone
  taken-is (Request n) = sum-none (λ class. granule_bytes * class * 0) classes (λ class. omega arith)
  taken-is (Free n) = block-of_class 1 n classes (omega arith) (classes_of_legal_table 1 classes legal)

  live-next : (k : ℕ) → k < length events
      → live_bytes classes (snapshot_at events (suc k)) + bytes_taken classes (get_or events k (Free 0))
      ≡ live_bytes classes (snapshot_at events k) + bytes_given classes (get_or events k (Free 0))
  live-next k lt =
      let event = get_or events k (Free 0) in
      omega (
        arith,
        given-is event,
        taken-is event,
        sum-four (λ class. granule_bytes * class * blocks classes class (snapshot_at events (suc k)))
            (λ class. granule_bytes * class * gone classes class event)
            (λ class. granule_bytes * class * blocks classes class (snapshot_at events k))
            (λ class. granule_bytes * class * come classes class event) classes
            (λ class. times (granule_bytes * class) _ _ _ _ (blocks-next events classes class k timeline legal lt)),
      )
    where
      times : (a b c d e : ℕ) → b + c ≡ d + e → a * b + a * c ≡ a * d + a * e
      times a b c d e same = omega (arith, ap (λ n. a * n) same, mul-add a b c, mul-add a d e)

  live-is : (k : ℕ) → k ≤ length events
      → live_bytes classes (snapshot_at events k) + sum_by (bytes_taken classes) (take k events)
      ≡ sum_by (bytes_given classes) (take k events)
  live-is zero le =
      omega (
        arith,
        sum-none (λ class. granule_bytes * class * blocks classes class (snapshot_at events 0)) classes
            (λ class. omega (arith, ap (λ n. granule_bytes * class * n) (blocks-none events classes class))),
      )
  live-is (suc k) le =
      omega (
        arith,
        live-is k (omega arith),
        live-next k (omega arith),
        sum_by_more (bytes_taken classes) events k (Free 0) (omega arith),
        sum_by_more (bytes_given classes) events k (Free 0) (omega arith),
        ap (λ n. sum_by (bytes_taken classes) (take n events)) (add-one k),
        ap (λ n. sum_by (bytes_given classes) (take n events)) (add-one k),
      )

  pub most_live_is_greatest : IsGreatestTo (bytes_out classes events) (length events) (most (live_bytes classes) (moments events))
  most_live_is_greatest =
      greatest-same (λ k. live_bytes classes (snapshot_at events k)) (bytes_out classes events) (length events)
      (most (live_bytes classes) (moments events)) (λ k le. omega (arith, live-is k le)) (most-greatest (live_bytes classes) events)

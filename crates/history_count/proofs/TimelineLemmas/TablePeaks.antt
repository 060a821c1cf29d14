-- What one event more does to the sums over the classes of a table.
use Rattle.std.proofs.Common.{◌≡◌, ◌≢◌, ℕ, zero, suc, ◌+◌, ◌-◌, ◌*◌, ◌<◌, ◌≤◌, List, [], ◌∷◌, length, take, sum_by, max, slice_index}
use Rattle.std.proofs.{Common.{slice_set, ltb, arith, refl, ap, sym, subst, ◌∙◌, inl, inr, add-one}, Math.Nat.{mul-add}}
use Rattle.std.proofs.lemmas.{Bool.{cases_lt, le-ltb, lt-ltb}, List.{get_or-set_same, get_or-set_other, length-set, set-get_or, take_all}}
use Rattle.std.proofs.lemmas.List.Sums.{sum_by_more}
use Rattle.class_table.specs.{Sizes.{granule_bytes}, Tables.{IsLegalTable}}
use Rattle.tuner_theory.{proofs.TimelineBlocks.{blocks-none, most_to-more}, specs.Footprint.{blocks}, specs.Histories.{most}}
use Rattle.tuner_theory.specs.{Timelines.{most_to, snapshot_at}, declared.size_event.SizeEvent.{SizeEvent}}
use Rattle.tuner_theory.specs.declared.size_event.SizeEvent.TheVariants.{Request, Free}
use Rattle.history_count.specs.Timelines.{LiveBlocks.{AreLive, AreSame, IsMoved, IsOneMore, moved_by}, Runs.{after_event, may_come}}
use Rattle.history_count.specs.Timelines.TablePeaks.{AreSums, MayMove, live_blocks, live_bytes, made_blocks, moved_sums}
use Rattle.history_count.specs.{Timelines.TablePeaks.{sums_after}, declared.timelines.counting.BlockMove.{BlockMove}}
use Rattle.history_count.specs.declared.timelines.{counting.BlockMove.TheVariants.{Nothing, New, Again, Freed}, sums.Sums.{Sums}}

-- ---- one more block of a class

one_more : (counts : List ℕ) (number : ℕ) → number < length counts
    → IsOneMore number counts (slice_set counts number (slice_index counts number + 1))
one_more counts number within = grind (arith, get_or-set_same, get_or-set_other)

-- counts are the same where the greater of one and no more is put in its place
kept_same : (most : List ℕ) (number newer : ℕ) → newer ≤ slice_index most number
    → AreSame most (slice_set most number (max (slice_index most number) newer))
kept_same most number newer below j = grind (arith, set-get_or)

pub event_moved : (event : SizeEvent) (live most : List ℕ) (number : ℕ) → number < length live → number < length most
    → slice_index live number ≤ slice_index most number → may_come event (slice_index live number)
    → let newer = after_event event (slice_index live number) in
    IsMoved (moved_by event number (ltb (slice_index most number) newer)) live most (slice_set live number newer)
    (slice_set most number (max (slice_index most number) newer))
event_moved (Request n) live most number within inside below may =
    elim (cases_lt (slice_index most number) (slice_index live number + 1)) [
      | inl up ↦ let same : max (slice_index most number) (slice_index live number + 1) ≡ slice_index most number + 1 = omega arith in
          rw (lt-ltb _ _ up, same) (one_more live number within, one_more most number inside)
      | inr kept ↦
          rw (le-ltb _ _ kept) (one_more live number within, kept_same most number (slice_index live number + 1) kept)
    ]
event_moved (Free n) live most number within inside below may =
    (grind (arith, length-set, get_or-set_same, get_or-set_other), kept_same most number (slice_index live number - 1) (omega arith))

-- ---- sums over a list

module _ (f g : ℕ → ℕ) (xs : List ℕ) where
  same-to : (m : ℕ) → m ≤ length xs → ((j : ℕ) → j < m → f (slice_index xs j) ≡ g (slice_index xs j))
      → sum_by f (take m xs) ≡ sum_by g (take m xs)
  same-to zero le each = refl
  same-to (suc m) le each =
      omega (
        arith,
        each m (omega arith),
        same-to m (omega arith) (λ j lt. each j (omega arith)),
        sum_by_more f xs m 0 (omega arith),
        sum_by_more g xs m 0 (omega arith),
        ap (λ n. sum_by f (take n xs)) (add-one m),
        ap (λ n. sum_by g (take n xs)) (add-one m),
      )

  below-to : (m : ℕ) → m ≤ length xs → ((j : ℕ) → j < m → f (slice_index xs j) ≤ g (slice_index xs j))
      → sum_by f (take m xs) ≤ sum_by g (take m xs)
  below-to zero le each = omega arith
  below-to (suc m) le each =
      omega (
        arith,
        each m (omega arith),
        below-to m (omega arith) (λ j lt. each j (omega arith)),
        sum_by_more f xs m 0 (omega arith),
        sum_by_more g xs m 0 (omega arith),
        ap (λ n. sum_by f (take n xs)) (add-one m),
        ap (λ n. sum_by g (take n xs)) (add-one m),
      )

  module _ (number more : ℕ) (there : f (slice_index xs number) ≡ g (slice_index xs number) + more)
      (others : (j : ℕ) → j < length xs → j ≢ number → f (slice_index xs j) ≡ g (slice_index xs j)) where
    more-to : (m : ℕ) → number < m → m ≤ length xs → sum_by f (take m xs) ≡ sum_by g (take m xs) + more
    more-to zero lt le = absurd (omega arith)
    more-to (suc m) lt le =
        elim (cases_lt number m) [
          | inl before ↦ omega (
            arith,
            others m (omega arith) (λ same. omega arith),
            more-to m before (omega arith),
            sum_by_more f xs m 0 (omega arith),
            sum_by_more g xs m 0 (omega arith),
            ap (λ n. sum_by f (take n xs)) (add-one m),
            ap (λ n. sum_by g (take n xs)) (add-one m),
          )
          | inr after ↦ let here : number ≡ m = omega arith in
              omega (
                arith,
                subst (λ (n : ℕ). f (slice_index xs n) ≡ g (slice_index xs n) + more) here there,
                same-to m (omega arith) (λ j before. others j (omega arith) (λ same. omega arith)),
                sum_by_more f xs m 0 (omega arith),
                sum_by_more g xs m 0 (omega arith),
                ap (λ n. sum_by f (take n xs)) (add-one m),
                ap (λ n. sum_by g (take n xs)) (add-one m),
              )
        ]

  all : take (length xs) xs ≡ xs
  all = take_all (length xs) xs (omega arith)

  sum-same : ((j : ℕ) → j < length xs → f (slice_index xs j) ≡ g (slice_index xs j)) → sum_by f xs ≡ sum_by g xs
  sum-same each = omega (arith, same-to (length xs) (omega arith) each, ap (sum_by f) all, ap (sum_by g) all)

  sum-below : ((j : ℕ) → j < length xs → f (slice_index xs j) ≤ g (slice_index xs j)) → sum_by f xs ≤ sum_by g xs
  sum-below each = omega (arith, below-to (length xs) (omega arith) each, ap (sum_by f) all, ap (sum_by g) all)

  sum-more : (number more : ℕ) → number < length xs → f (slice_index xs number) ≡ g (slice_index xs number) + more
      → ((j : ℕ) → j < length xs → j ≢ number → f (slice_index xs j) ≡ g (slice_index xs j)) → sum_by f xs ≡ sum_by g xs + more
  sum-more number more within there others =
      omega (arith, more-to number more there others (length xs) within (omega arith), ap (sum_by f) all, ap (sum_by g) all)

-- what one block more takes
one-block : (class m n : ℕ) → m ≡ n + 1 → granule_bytes * class * m ≡ granule_bytes * class * n + 16 * class
one-block class m n is = omega (arith, ap (λ b. granule_bytes * class * b) is, mul-add (granule_bytes * class) n 1)

no-sum : (xs : List ℕ) → sum_by {X = ℕ} (λ c. 0) xs ≡ 0
no-sum [] = refl
no-sum (x ∷ xs) = no-sum xs

-- ---- one event more

-- The sums at a moment.
pub record IsSummed (events : List SizeEvent) (classes : List ℕ) (moment made alive bytes : ℕ) : Type 0 where
  pub made-is : made ≡ made_blocks events classes moment
  pub alive-is : alive ≡ live_blocks events classes moment
  pub bytes-is : bytes ≡ live_bytes classes (snapshot_at events moment)
  pub below : alive ≤ made

module _ (events : List SizeEvent) (classes : List ℕ) (k : ℕ) (sums : Sums) (live most firsts newer greater newest : List ℕ)
    (are : AreLive events classes k live most firsts) (next : AreLive events classes (k + 1) newer greater newest)
    (so-far : AreSums events classes k sums) where
  abbrev class : ℕ → ℕ
  class j = slice_index classes j

  abbrev now : ℕ → ℕ
  now c = blocks classes c (snapshot_at events k)

  abbrev later : ℕ → ℕ
  later c = blocks classes c (snapshot_at events (k + 1))

  module _ (number : ℕ) (is : IsOneMore number live newer) where
    inside : number < length classes
    inside = omega (arith, is.within, are.live_len)

    there : later (class number) ≡ now (class number) + 1
    there = omega (arith, next.live_at number inside, are.live_at number inside, is.there)

    others : (j : ℕ) → j < length classes → j ≢ number → later (class j) ≡ now (class j)
    others j within other = sym (next.live_at j within) ∙ is.others j other ∙ are.live_at j within

    live-more : sums.live + 1 ≡ live_blocks events classes (k + 1)
    live-more = omega (arith, so-far.live, sum-more later now classes number 1 inside there others)

    bytes-more : sums.bytes + 16 * class number ≡ live_bytes classes (snapshot_at events (k + 1))
    bytes-more =
        omega (
          arith,
          so-far.bytes,
          sum-more (λ c. granule_bytes * c * later c) (λ c. granule_bytes * c * now c) classes number (16 * class number) inside
              (one-block (class number) (later (class number)) (now (class number)) there)
              (λ j within other. ap (λ b. granule_bytes * class j * b) (others j within other)),
        )

  module _ (number : ℕ) (is : IsOneMore number newer live) where
    held : number < length classes
    held = omega (arith, is.within, next.live_len)

    gone : now (class number) ≡ later (class number) + 1
    gone = omega (arith, next.live_at number held, are.live_at number held, is.there)

    rest : (j : ℕ) → j < length classes → j ≢ number → now (class j) ≡ later (class j)
    rest j within other = sym (are.live_at j within) ∙ is.others j other ∙ next.live_at j within

    live-less : sums.live ≡ live_blocks events classes (k + 1) + 1
    live-less = omega (arith, so-far.live, sum-more now later classes number 1 held gone rest)

    bytes-less : sums.bytes ≡ live_bytes classes (snapshot_at events (k + 1)) + 16 * class number
    bytes-less =
        omega (
          arith,
          so-far.bytes,
          sum-more (λ c. granule_bytes * c * now c) (λ c. granule_bytes * c * later c) classes number (16 * class number) held
              (one-block (class number) (now (class number)) (later (class number)) gone)
              (λ j within other. ap (λ b. granule_bytes * class j * b) (rest j within other)),
        )

  module _ (is : AreSame live newer) where
    same : (j : ℕ) → j < length classes → later (class j) ≡ now (class j)
    same j within = sym (next.live_at j within) ∙ is j ∙ are.live_at j within

  abbrev most-now : ℕ → ℕ
  most-now c = most_to (blocks classes c) events k

  abbrev most-later : ℕ → ℕ
  most-later c = most_to (blocks classes c) events (k + 1)

  made-more : (number : ℕ) → IsOneMore number most greater → sums.made + 1 ≡ made_blocks events classes (k + 1)
  made-more number is =
      let inside : number < length classes = omega (arith, is.within, are.most_len) in
      omega (
        arith,
        so-far.made,
        sum-more most-later most-now classes number 1 inside
            (omega (arith, next.most_at number inside, are.most_at number inside, is.there))
            (λ j within other. sym (next.most_at j within) ∙ is.others j other ∙ are.most_at j within),
      )

  made-same : AreSame most greater → sums.made ≡ made_blocks events classes (k + 1)
  made-same is =
      omega (
        arith,
        so-far.made,
        sum-same most-later most-now classes (λ j within. sym (next.most_at j within) ∙ is j ∙ are.most_at j within),
      )

  live-below : live_blocks events classes (k + 1) ≤ made_blocks events classes (k + 1)
  live-below =
      sum-below later most-later classes (grind arith)

  -- what an event makes of the sums
  summed-by : (made alive bytes : ℕ) → made ≡ made_blocks events classes (k + 1) → alive ≡ live_blocks events classes (k + 1)
      → bytes ≡ live_bytes classes (snapshot_at events (k + 1)) → IsSummed events classes (k + 1) made alive bytes
  summed-by made alive bytes made-is alive-is bytes-is = grind (arith, live-below)

  next-sums : (made alive bytes : ℕ) → IsSummed events classes (k + 1) made alive bytes → made ≤ k + 1 → bytes ≤ 16384 * (k + 1)
      → AreSums events classes (k + 1) (sums_after sums made alive bytes)
  next-sums made alive bytes is few small = grind (arith, most_to-more)

  pub sums-moved : IsLegalTable 1 classes → (moved : BlockMove) → IsMoved moved live most newer greater
      → MayMove classes sums moved × AreSums events classes (k + 1) (moved_sums classes sums moved)
  sums-moved legal Nothing is =
      let its = summed-by _ _ _ (made-same is.1) (grind (arith, sum-same, same)) (grind (arith, sum-same, same)) in
      (its.below, next-sums _ _ _ its (omega (arith, so-far.few)) (omega (arith, so-far.small)))
  sums-moved legal (New number) is =
      let within = inside number is.0 in
      let its = summed-by _ _ _ (made-more number is.1) (live-more number is.0) (bytes-more number is.0) in (
        (within, omega (arith, its.below)),
        next-sums _ _ _ its (omega (arith, so-far.few)) (omega (arith, so-far.small, (legal.in_range number 0 within).1)),
      )
  sums-moved legal (Again number) is =
      let within = inside number is.0 in
      let its = summed-by _ _ _ (made-same is.1) (live-more number is.0) (bytes-more number is.0) in (
        (within, omega (arith, its.below)),
        next-sums _ _ _ its (omega (arith, so-far.few)) (omega (arith, so-far.small, (legal.in_range number 0 within).1)),
      )
  sums-moved legal (Freed number) is =
      let alive = live-less number is.0 in
      let taken = bytes-less number is.0 in
      let its = summed-by sums.made (sums.live - 1) (sums.bytes - granule_bytes * class number) (made-same is.1) (omega (arith, alive))
      (omega (arith, taken)) in (
        (held number is.0, omega (arith, taken), omega (arith, alive), its.below),
        next-sums _ _ _ its (omega (arith, so-far.few)) (omega (arith, so-far.small)),
      )

-- before any event, and after all
pub no-sums : (events : List SizeEvent) (classes : List ℕ) (sums : Sums) → sums.made ≡ 0 → sums.live ≡ 0 → sums.bytes ≡ 0
    → sums.most_bytes ≡ 0 → sums.most_freed ≡ 0 → AreSums events classes 0 sums
no-sums events classes sums made live bytes most_bytes most_freed =
    let alive : sum_by (λ c. blocks classes c (snapshot_at events 0)) classes ≡ 0 =
    sum-same (λ c. blocks classes c (snapshot_at events 0)) (λ c. 0) classes (λ j within. blocks-none events classes (slice_index classes j))
    ∙ no-sum classes in
    grind (arith, blocks-none)

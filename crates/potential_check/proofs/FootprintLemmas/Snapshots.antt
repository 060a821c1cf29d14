-- Sums up to places, and the most blocks of intervals.
use Rattle.std.proofs.Common.{◌≡◌, ℕ, zero, suc, ◌+◌, ◌-◌, ◌*◌, ◌^◌, ◌<◌, ◌≤◌, ◌&&◌, max, List, [], ◌∷◌, length, slice_index}
use Rattle.std.proofs.{Common.{slice_index_or, slice_set, cond, ltb, leb, arith, refl, take}, lemmas.Bool.{cases_lt}}
use Rattle.std.proofs.lemmas.{Bool.Decides.{nat_tests}, Grind.{common_steps}, List.{get_or-set_other, get_or-set_same, length-set}}
use Rattle.potential_check.specs.Footprints.SnapshotSums.{AreMostBlocks, AreMostIn, AreScaled, AreSumsAt, AreWritten, HoldsSnapshots}
use Rattle.potential_check.specs.Footprints.SnapshotSums.{IsRaised, IsRaisedBy, raised_to}
use Rattle.tuner_theory.{proofs.FootprintLawLemmas.{span_footprints_fit}, proofs.Sums.{sum_split}, specs.Growing.{IsGrowing}}
use Rattle.tuner_theory.{proofs.LawLemmas.{places_ascend, span_footprints_grow, step-positive}, specs.Histories.{most}}
use Rattle.tuner_theory.specs.{Footprint.{blocks_between, footprint_between}, Intervals.{span_cost}}
use Rattle.tuner_theory.specs.Spans.{counted_up_to, need_at, places, rounded_need}

-- ---- blocks between by two sums

module _ (step low high : ℕ) (s : List ℕ) (le : low ≤ high) where
  blocks-more : counted_up_to s step high ≡ counted_up_to s step low + blocks_between step low high s
  blocks-more = sum_split _ _ _ (length s) (λ n within. at (rounded_need step n) (slice_index s n))
    where
      at : (x v : ℕ) → cond (leb x high) v 0 ≡ cond (leb x low) v 0 + cond (ltb low x && leb x high) v 0
      at x v = grind (arith, nat_tests)

  pub blocks-ascend : counted_up_to s step low ≤ counted_up_to s step high
  blocks-ascend = omega (arith, blocks-more)

  pub blocks-sums : counted_up_to s step high - counted_up_to s step low ≡ blocks_between step low high s
  blocks-sums = omega (arith, blocks-more)

-- ---- the most of the first snapshots

pub most-take : (f : List ℕ → ℕ) (xs : List (List ℕ)) (t : ℕ) → t < length xs
    → most f (take (suc t) xs) ≡ max (most f (take t xs)) (f (slice_index_or xs t []))
most-take f [] t lt = absurd (omega arith)
most-take f (x ∷ xs) zero lt = omega arith
most-take f (x ∷ xs) (suc t) lt = omega (arith, most-take f xs t (omega arith))

most-next : (f : List ℕ → ℕ) (xs : List (List ℕ)) (t : ℕ) → t < length xs
    → most f (take (t + 1) xs) ≡ max (most f (take t xs)) (f (slice_index_or xs t []))
most-next f xs t lt = let next : t + 1 ≡ suc t = omega arith in rw next (most-take f xs t lt)

-- more snapshots have no fewer
most-up : (f : List ℕ → ℕ) (xs : List (List ℕ)) (s t : ℕ) → s ≤ t → most f (take s xs) ≤ most f (take t xs)
most-up f [] zero t le = omega arith
most-up f [] (suc s) t le = omega arith
most-up f (x ∷ xs) zero t le = omega arith
most-up f (x ∷ xs) (suc s) zero le = absurd (omega arith)
most-up f (x ∷ xs) (suc s) (suc t) le = omega (arith, most-up f xs s t (omega arith))

pub take-all : (xs : List (List ℕ)) (t : ℕ) → t ≡ length xs → take t xs ≡ xs
take-all xs t is = grind (arith, common_steps)

-- one number more
pub raised-more : (rows : List (List ℕ)) (i start j x : ℕ) (old numbers : List ℕ) → start ≤ j → j - start < length numbers
    → x ≡ raised_to rows i j (slice_index numbers (j - start)) → IsRaisedBy rows i start j old numbers
    → IsRaisedBy rows i start (j + 1) old (slice_set numbers (j - start) x)
raised-more rows i start j x old numbers from within value raised = grind (arith, length-set, cases_lt, get_or-set_other, get_or-set_same)

-- a number that is raised further
raised-max : (rows : List (List ℕ)) (i j x y : ℕ) → raised_to rows i j (max x y) ≡ max (raised_to rows i j x) y
raised-max [] i j x y = refl
raised-max (row ∷ rows) i j x y = grind (arith, raised-max rows i j)

-- Rows of sums, from that of snapshot t on.
abbrev pub AreRowsFrom : List (List ℕ) → ℕ → List (List ℕ) → Type 0
AreRowsFrom sums t [] = Unit {0}
AreRowsFrom sums t (row ∷ rows) = (row ≡ slice_index_or sums t []) × AreRowsFrom sums (t + 1) rows

pub eight-rows : (sums : List (List ℕ)) (t : ℕ) → {a b c d e f g h : List ℕ} → a ≡ slice_index_or sums t []
    → b ≡ slice_index_or sums (t + 1) [] → c ≡ slice_index_or sums (t + 2) [] → d ≡ slice_index_or sums (t + 3) []
    → e ≡ slice_index_or sums (t + 4) [] → f ≡ slice_index_or sums (t + 5) [] → g ≡ slice_index_or sums (t + 6) []
    → h ≡ slice_index_or sums (t + 7) [] → AreRowsFrom sums t (a ∷ b ∷ c ∷ d ∷ e ∷ f ∷ g ∷ h ∷ [])
eight-rows sums t a_is b_is c_is d_is e_is f_is g_is h_is = grind arith

module _ (snapshots : List (List ℕ)) (counts : List ℕ) (step : ℕ) (sums : List (List ℕ))
    (holds : HoldsSnapshots snapshots counts step sums) where
  pub small-spans : (i j : ℕ) → i < j → j ≤ places counts step → span_cost (footprint_between snapshots step) counts step i j ≤ 2 ^ 60
  small-spans i j lt le = omega (arith, span_footprints_fit snapshots counts step i j holds.is_step holds.are holds.are_counts lt le)

  pub spans-grow : IsGrowing (span_cost (footprint_between snapshots step) counts step) (places counts step)
  spans-grow = span_footprints_grow snapshots counts step holds.is_step holds.are holds.covers

  needs-up : (i j : ℕ) → i < j → j ≤ places counts step → need_at counts step i ≤ need_at counts step j
  needs-up i j lt le = omega (arith, places_ascend counts step (step-positive step holds.is_step) i j lt le)

  -- the sums of a snapshot ascend
  pub sums-size : (t : ℕ) → t < length snapshots → length (slice_index_or sums t []) ≡ places counts step + 1
  sums-size t lt = (holds.sums_are.each t lt).size

  pub sums-ascend : (t i j : ℕ) → t < length snapshots → i < j → j < places counts step + 1
      → slice_index (slice_index_or sums t []) i ≤ slice_index (slice_index_or sums t []) j
  sums-ascend t i j lt ij le = let are = holds.sums_are.each t lt in grind (arith, blocks-ascend, needs-up)

  -- one snapshot more
  pub most-raised : (i t : ℕ) (row old new : List ℕ) → t < length snapshots → row ≡ slice_index_or sums t []
      → AreMostBlocks snapshots counts step i t old → IsRaised row i (length row) old new
      → AreMostBlocks snapshots counts step i (t + 1) new
  most-raised i t row old new lt is before raised = let are = holds.sums_are.each t lt in grind (arith, blocks-sums, needs-up, most-take)

  -- what a snapshot's sums grow by
  grown : (i t : ℕ) (row : List ℕ) → t < length snapshots → row ≡ slice_index_or sums t [] → (j : ℕ) → i < j → j ≤ places counts step
      → slice_index row j - slice_index row i ≡ blocks_between step (need_at counts step i) (need_at counts step j) (slice_index_or snapshots t [])
  grown i t row lt is j after le = grind (arith, blocks-sums, needs-up)

  -- raised by the rows of snapshots in a row
  most-raised_by : (i j : ℕ) → i < j → j ≤ places counts step → (rows : List (List ℕ)) (t : ℕ) → t + length rows ≤ length snapshots
      → AreRowsFrom sums t rows
      → raised_to rows i j (most (blocks_between step (need_at counts step i) (need_at counts step j)) (take t snapshots))
      ≡ most (blocks_between step (need_at counts step i) (need_at counts step j)) (take (t + length rows) snapshots)
  most-raised_by i j after le [] t fit are = let none : t + 0 ≡ t = omega arith in rw none refl
  most-raised_by i j after le (row ∷ rows) t fit are = grind (arith, most-raised_by i j after le rows (t + 1) (omega arith) are.1, grown, most-next)

  -- where the first of them were taken before
  most-again : (i j : ℕ) → i < j → j ≤ places counts step → (rows : List (List ℕ)) (t done : ℕ) → t + length rows ≤ length snapshots
      → AreRowsFrom sums t rows → t ≤ done → done ≤ t + length rows
      → raised_to rows i j (most (blocks_between step (need_at counts step i) (need_at counts step j)) (take done snapshots))
      ≡ most (blocks_between step (need_at counts step i) (need_at counts step j)) (take (t + length rows) snapshots)
  most-again i j after le rows t done fit are from to =
      let f = blocks_between step (need_at counts step i) (need_at counts step j) in
      let before = most f (take t snapshots) in
      let so_far = most f (take done snapshots) in
      let more : so_far ≡ max before so_far = omega (arith, most-up f snapshots t done from) in
      grind (arith, raised-max, most-raised_by, most-up)

  pub most-raised_in : (i start stop t done : ℕ) (rows : List (List ℕ)) (old new : List ℕ) → i < start → stop ≤ places counts step + 1
      → t + length rows ≤ length snapshots → AreRowsFrom sums t rows → t ≤ done → done ≤ t + length rows
      → AreMostIn snapshots counts step i start stop done old
      → IsRaisedBy rows i start stop old new → AreMostIn snapshots counts step i start stop (t + length rows) new
  most-raised_in i start stop t done rows old new after within fit are from to before raised = grind (arith, most-again)

  -- at all snapshots
  pub most-all_in : (i start stop j : ℕ) (numbers : List ℕ) → start ≤ j → j < stop
      → AreMostIn snapshots counts step i start stop (length snapshots) numbers
      → slice_index numbers (j - start) ≡ most (blocks_between step (need_at counts step i) (need_at counts step j)) snapshots
  most-all_in i start stop j numbers from to are = grind (arith, take-all)

  pub sums-at : (t : ℕ) (row : List ℕ) → t < length snapshots → row ≡ slice_index_or sums t []
      → AreSumsAt snapshots counts step sums t row
  sums-at t row lt is = grind (arith, sums-size, sums-ascend)

  pub most-all : (i t : ℕ) (numbers : List ℕ) → t ≡ length snapshots → AreMostBlocks snapshots counts step i t numbers
      → AreScaled snapshots counts step i (i + 1) numbers
  most-all i t numbers all are = grind (arith, take-all)

  product-is : (i j w m : ℕ) → i < j → j ≤ places counts step
      → m ≡ most (blocks_between step (need_at counts step i) (need_at counts step j)) snapshots
      → w ≡ m * (16 * need_at counts step j)
      → w ≡ footprint_between snapshots step (need_at counts step i) (need_at counts step j)
  product-is i j w m ij le blocks product = grind arith

  pub product-fits : (i j w m : ℕ) → i < j → j ≤ places counts step
      → m ≡ most (blocks_between step (need_at counts step i) (need_at counts step j)) snapshots
      → w ≡ m * (16 * need_at counts step j) → w ≤ 2 ^ 60
  product-fits i j w m ij le blocks product = grind (arith, product-is, small-spans i j)

  -- the most blocks of the next place, where they are not scaled yet
  pub others-at : (i j : ℕ) (numbers : List ℕ) → AreScaled snapshots counts step i j numbers → i < j → j ≤ places counts step
      → slice_index numbers j ≡ most (blocks_between step (need_at counts step i) (need_at counts step j)) snapshots
  others-at i j numbers are ij le = are.others j ij (omega arith) le

  -- one place more
  pub scaled-more : (i j w : ℕ) (numbers : List ℕ) → AreScaled snapshots counts step i j numbers → i < j → j ≤ places counts step
      → w ≡ slice_index numbers j * (16 * need_at counts step j) → AreScaled snapshots counts step i (j + 1) (slice_set numbers j w)
  scaled-more i j w numbers are ij le product = grind (arith, product-is, others-at, length-set, get_or-set_other, get_or-set_same)

  pub written-more : (i j w m : ℕ) (numbers : List ℕ) → AreWritten snapshots counts step i j numbers → i < j → j ≤ places counts step
      → m ≡ most (blocks_between step (need_at counts step i) (need_at counts step j)) snapshots
      → w ≡ m * (16 * need_at counts step j) → AreWritten snapshots counts step i (j + 1) (slice_set numbers j w)
  written-more i j w m numbers are ij le blocks product = grind (arith, product-is, length-set, get_or-set_other, get_or-set_same)

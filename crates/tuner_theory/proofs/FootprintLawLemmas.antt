-- What holds of footprints: how large they are, what one snapshot makes of them, and what larger histories do.
use Rattle.std.proofs.Common.{◌≡◌, ℕ, suc, ◌+◌, ◌*◌, ◌^◌, ◌<◌, ◌≤◌, ◌&&◌, Bool, List, [], ◌∷◌, length, slice_index}
use Rattle.std.proofs.{Common.{get_or, cond, ltb, leb, arith, refl, ap, sym, ◌∙◌, inl, inr, All, sum_by}, lemmas.List.{ext_get_or}}
use Rattle.std.proofs.{Math.Nat.{le-max_right, mul-le-mul_left, mul-le-mul_right}, lemmas.Bool.Decides.{nat_tests}}
use Rattle.std.proofs.lemmas.{Bool.{cases_lt, cond-false, cond-true, false≢true, le-leb, le-ltb, lt-ltb}, List.Sums.{sum_by-cons}}
use Rattle.std.specs.List.{AllZip}
use Rattle.class_table.{proofs.LawLemmas.{AreClassesAbove, classes_of_legal_table}, specs.Sizes.{granule_bytes, largest_counted, loss_of}}
use Rattle.class_table.specs.{Steps.{IsStep}, Tables.{IsLegalTable}}
use Rattle.tuner_theory.proofs.{Footprint.{footprint-above, footprint-all, footprint_is_sum, peak-at, peaks-length}, Needs.{place_is_class}}
use Rattle.tuner_theory.proofs.{Rounding.{rounded-fits, rounded-positive, step-positive}, Served.{counted-served, served_waste}}
use Rattle.tuner_theory.proofs.{Sheets.{optimal-best_by}, Spans.{count-small}, Tables.{ServesAbove, ServesAbove-later, waste-sum}}
use Rattle.tuner_theory.{proofs.Sums.{sum_at_most, sum_balance, sum_bounded, sum_none, sum_same, sum_split}, specs.Measures.{footprint_on}}
use Rattle.tuner_theory.specs.{Best.{IsCandidate, IsCanonical, IsCanonicalBy}, Histories.{AreSnapshots, most, peaks}, Served.{served}}
use Rattle.tuner_theory.specs.Footprint.{IsFitted, IsLeastFootprint, blocks, blocks_between, footprint_between, footprint_of}
use Rattle.tuner_theory.specs.{Intervals.{cost_above, span_cost}, Profiles.{AreCounts, greatest_count}, Sheets.{IsFitVerdict, Sheet}}
use Rattle.tuner_theory.specs.{Spans.{need_at, places, rounded_need, waste_between}, Waste.{Serves, sum_below, waste_of}}
use Rattle.tuner_theory.specs.declared.verdict.Verdict.TheVariants.{Optimal}

-- A fit that meets all conditions, and whose table is legal, has a table of least footprint, whoever wrote it.
pub optimal_fit_is_least : (snapshots : List (List ℕ)) (fit : Sheet) → AreSnapshots snapshots → IsLegalTable 1 fit.table
    → IsFitVerdict snapshots fit Optimal → IsLeastFootprint fit.forced snapshots fit.step fit.limit fit.table
optimal_fit_is_least snapshots fit are legal meets =
    optimal-best_by (footprint_on fit.forced snapshots) fit (λ step pos. footprint_is_sum fit.forced snapshots step pos are) legal meets

-- ---- how large numbers are

pub most-bounded : (f : List ℕ → ℕ) (bound : ℕ) (snapshots : List (List ℕ)) → All (λ s. f s ≤ bound) snapshots → most f snapshots ≤ bound
most-bounded f bound [] each = omega arith
most-bounded f bound (s ∷ ss) each =
    omega (arith, each 0 [] (omega arith), most-bounded f bound ss (λ k d lt. each (suc k) d (omega arith)))

masked-bounded : (b : Bool) (v bound : ℕ) → v ≤ bound → cond b v 0 ≤ bound
masked-bounded b v bound le = grind arith

pub peaks_are_counts : (snapshots : List (List ℕ)) → AreSnapshots snapshots → AreCounts (peaks snapshots)
peaks_are_counts snapshots are = grind (arith, peaks-length, peak-at, most-bounded, count-small)

pub span_footprints_fit : (snapshots : List (List ℕ)) (counts : List ℕ) (step i j : ℕ) → IsStep step → AreSnapshots snapshots
    → AreCounts counts → i < j → j ≤ places counts step → span_cost (footprint_between snapshots step) counts step i j < 2 ^ 58
span_footprints_fit snapshots counts step i j is_step are are_counts lt le =
    let class = place_is_class counts step j is_step (omega (arith, are_counts.sizes)) (omega arith) le in
    let counted = most-bounded (blocks_between step (need_at counts step i) (need_at counts step j))
    ((largest_counted + 1) * greatest_count) snapshots (λ k d within. at (get_or snapshots k d) (are.counts k d within)) in
    grind arith
  where
    masked : (x low high v : ℕ) → v ≤ greatest_count → cond (ltb low x && leb x high) v 0 ≤ greatest_count
    masked x low high v le = masked-bounded (ltb low x && leb x high) v greatest_count le

    at : (s : List ℕ) → AreCounts s
        → blocks_between step (need_at counts step i) (need_at counts step j) s
        ≤ (largest_counted + 1) * greatest_count
    at s its =
        omega (
          arith,
          its.sizes,
          sum_bounded _ (length s) greatest_count
              (λ n within. masked (rounded_need step n) (need_at counts step i) (need_at counts step j) _ (count-small s n its)),
        )

-- ---- one snapshot

-- at one request, of need x, that loses u in a class of k bytes: what it holds is what it loses, what it requests, and its header
held-at_one : (x low high k v n u : ℕ) → (x ≤ high → u + (n + 16) ≡ k)
    → cond (ltb low x && leb x high) (v * u) 0 + cond (ltb low x && leb x high) (v * (n + 16)) 0 + k * 0
    ≡ k * cond (ltb low x && leb x high) v 0 + 0
held-at_one x low high k v n u whole =
    elim (cases_lt high x) [
      | inl above ↦ grind (arith, nat_tests)
      | inr fits ↦ (let e : v * (u + (n + 16)) ≡ v * k = ap (λ z. v * z) (whole fits) in
          elim (cases_lt low x) [
            | inl over ↦ simp (lt-ltb low x over, le-leb x high fits) (omega (arith, e))
            | inr under ↦ simp (le-ltb low x under, le-leb x high fits) (omega arith)
          ])
    ]

module _ (counts : List ℕ) (step : ℕ) (pos : 0 < step) where
  -- what the requests ask for whose need is above low and at most high, with their headers
  abbrev asked_between : ℕ → ℕ → ℕ
  asked_between low high =
      sum_below (λ n. cond (ltb low (rounded_need step n) && leb (rounded_need step n) high) (slice_index counts n * (n + 16)) 0)
      (length counts)

  abbrev asked_above : ℕ → ℕ
  asked_above low = sum_below (λ n. cond (ltb low (rounded_need step n)) (slice_index counts n * (n + 16)) 0) (length counts)

  held-between : (low c : ℕ) → 2 ≤ c
      → footprint_between (counts ∷ []) step low c ≡ waste_between counts step low c + asked_between low c
  held-between low c two =
      let balance = sum_balance _ _ (λ n. 0) _ (λ n. 0) (16 * c) (length counts)
      (λ n within. held-at_one (rounded_need step n) low c (16 * c) (slice_index counts n) n (loss_of n c)
      (λ fits. omega (arith, rounded-fits step pos n c fits))) in
      let alone : most (blocks_between step low c) (counts ∷ []) ≡ blocks_between step low c counts = omega arith in
      omega (
        arith,
        balance,
        ap (λ m. 16 * c * m) alone,
        ap (λ m. 16 * c * m) (sum_none (λ n. 0) (length counts) (λ n within. refl)),
        sum_none (λ n. 0) (length counts) (λ n within. refl),
      )

  asked-split : (low c : ℕ) → low < c → asked_above low ≡ asked_between low c + asked_above c
  asked-split low c lt = sum_split _ _ _ (length counts) (λ n within. split (rounded_need step n) _)
    where
      split : (x v : ℕ) → cond (ltb low x) v 0 ≡ cond (ltb low x && leb x c) v 0 + cond (ltb c x) v 0
      split x v = grind (arith, nat_tests)

  asked-none : (low : ℕ) → ServesAbove counts step low [] → asked_above low ≡ 0
  asked-none low served =
      grind (arith, sum_none, cases_lt, cond-false, le-ltb, false≢true, cond-true, lt-ltb, nothing)
    where
      nothing : (v w : ℕ) → v ≤ 0 → v * w ≡ 0
      nothing v w le = omega (arith, mul-le-mul_right w le)

  held-above : (low : ℕ) (classes : List ℕ) → 1 ≤ low → AreClassesAbove step low classes → ServesAbove counts step low classes
      → cost_above (footprint_between (counts ∷ []) step) low classes
      ≡ cost_above (waste_between counts step) low classes + asked_above low
  held-above low [] one above served = omega (arith, asked-none low served)
  held-above low (c ∷ cs) one above served =
      grind (arith, held-above c cs (omega (arith, above.0)) above.3 (ServesAbove-later counts step pos low c cs one above.0 above.2 served), held-between, asked-split)

pub one_snapshot : (counts classes : List ℕ) (step : ℕ) → IsStep step → IsLegalTable step classes → Serves counts classes
    → footprint_of (counts ∷ []) classes
    ≡ waste_of counts classes + sum_below (λ n. slice_index counts n * (n + granule_bytes)) (length counts)
one_snapshot counts classes step is_step legal serves =
    let pos = step-positive step is_step in
    let above = classes_of_legal_table step classes legal in
    omega (
      arith,
      footprint-all step pos (counts ∷ []) classes above,
      footprint-above step pos (counts ∷ []) 1 classes (omega arith) above,
      held-above counts step pos 1 classes (omega arith) above (λ n counted over. serves n counted),
      (waste-sum counts step pos).sum classes legal,
      sum_same (λ n. cond (ltb 1 (rounded_need step n)) (slice_index counts n * (n + 16)) 0) (λ n. slice_index counts n * (n + 16))
          (length counts) (λ n within. cond-true _ _ _ (lt-ltb 1 (rounded_need step n) (rounded-positive step pos n))),
    )

peaks-one : (counts : List ℕ) → AreCounts counts → peaks (counts ∷ []) ≡ counts
peaks-one counts are =
    ext_get_or 0 (peaks (counts ∷ [])) counts (peaks-length (counts ∷ []) ∙ sym are.sizes)
    (λ n lt. omega (arith, peak-at (counts ∷ []) n 0 (omega (arith, lt, peaks-length (counts ∷ [])))))

-- a cost that is greater by the same for each table in question has the same canonical table
canonical-greater : (cost greater : List ℕ → ℕ) (counts : List ℕ) (step limit more : ℕ) (classes : List ℕ)
    → ((table : List ℕ) → IsCandidate counts step limit table → greater table ≡ cost table + more)
    → IsCanonicalBy greater counts step limit classes → IsCanonicalBy cost counts step limit classes
canonical-greater cost greater counts step limit more classes by canonical = grind arith

pub fitted_is_tuned : (forced : Bool) (counts classes : List ℕ) (step limit : ℕ) → IsStep step → AreCounts counts
    → IsFitted forced (counts ∷ []) step limit classes → IsCanonical (served forced counts) step limit classes
fitted_is_tuned forced counts classes step limit is_step are fitted =
    canonical-greater (waste_of (served forced counts)) (footprint_of (counts ∷ [])) (served forced counts) step limit
    (sum_below (λ n. slice_index counts n * (n + 16)) (length counts)) classes
    (grind (arith, one_snapshot, counted-served, served_waste))
    (grind (arith, peaks-one))

-- ---- larger histories

pub sum-more : (f g : ℕ → ℕ) (classes : List ℕ) → ((class : ℕ) → f class ≤ g class) → sum_by f classes ≤ sum_by g classes
sum-more f g [] each = omega arith
sum-more f g (c ∷ cs) each = omega (arith, sum_by-cons f c cs, sum_by-cons g c cs, each c, sum-more f g cs each)

pub snapshot_more : (snapshot : List ℕ) (snapshots : List (List ℕ)) (classes : List ℕ)
    → footprint_of snapshots classes ≤ footprint_of (snapshot ∷ snapshots) classes
snapshot_more snapshot snapshots classes = grind (arith, sum-more, mul-le-mul_left, le-max_right)

pub counts-more : (f m : List ℕ) → AllZip (λ a b. a ≤ b) f m → (length f ≡ length m) × ((n : ℕ) → slice_index f n ≤ slice_index m n)
counts-more [] [] each = (refl, λ n. omega arith)
counts-more [] (y ∷ ys) each = absurd each
counts-more (x ∷ xs) [] each = absurd each
counts-more (x ∷ xs) (y ∷ ys) each = grind (arith, counts-more xs ys each.1)

pub blocks-more : (classes : List ℕ) (class : ℕ) (f m : List ℕ) → AllZip (λ a b. a ≤ b) f m → blocks classes class f ≤ blocks classes class m
blocks-more classes class f m each = grind (arith, counts-more, sum_at_most)

most-more : (classes : List ℕ) (class : ℕ) (fewer more : List (List ℕ)) → AllZip (λ f m. AllZip (λ a b. a ≤ b) f m) fewer more
    → most (blocks classes class) fewer ≤ most (blocks classes class) more
most-more classes class [] [] each = omega arith
most-more classes class [] (m ∷ ms) each = absurd each
most-more classes class (f ∷ fs) [] each = absurd each
most-more classes class (f ∷ fs) (m ∷ ms) each = grind (arith, most-more classes class fs ms each.1, blocks-more)

pub counts_more : (fewer more : List (List ℕ)) (classes : List ℕ) → AllZip (λ f m. AllZip (λ a b. a ≤ b) f m) fewer more
    → footprint_of fewer classes ≤ footprint_of more classes
counts_more fewer more classes each = grind (arith, sum-more, mul-le-mul_left, most-more)

-- The distinct needs: they ascend, each is the need of a counted size, and each counted size has its need among them.
use Rattle.std.proofs.Common.{◌≡◌, ℕ, zero, suc, ◌+◌, ◌%◌, ◌<◌, ◌≤◌, List, [], ◌∷◌, length, slice_index, eqb, ltb, arith, refl, sym}
use Rattle.std.proofs.{Common.{ap, ◌∙◌, inl, inr, ◌⊎◌}, lemmas.Bool.{cond_both, eqb-true, eqb-false, ltb-true, cases_lt}}
use Rattle.std.specs.Bool.{⊤}
use Rattle.tuner_theory.proofs.Rounding.{rounded-mono, rounded-multiple, rounded-positive, rounded-small, step-positive}
use Rattle.tuner_theory.specs.Profiles.{AreCounts, IsCounted}
use Rattle.tuner_theory.specs.Spans.{with_need, needs_below, distinct_needs, places, need_at, rounded_need}
use Rattle.class_table.specs.{Sizes.{IsBlockSize, largest_counted}, Steps.{IsStep}, declared.sizes.TheConstants.{MOST_NEEDS}}

-- ---- lists that ascend

-- each number is above the one before it, the first above low
abbrev Ascends : ℕ → List ℕ → Type 0
Ascends low [] = ⊤
Ascends low (x ∷ xs) = (low < x) × Ascends x xs

abbrev AtMost : ℕ → List ℕ → Type 0
AtMost high [] = ⊤
AtMost high (x ∷ xs) = (x ≤ high) × AtMost high xs

Ascends-with_need : (low need : ℕ) (xs : List ℕ) → Ascends low xs → AtMost need xs → low < need → Ascends low (with_need xs need)
Ascends-with_need low need [] up below lt = (lt, tt)
Ascends-with_need low need (x ∷ xs) up below lt =
    cond_both (eqb x need) _ _ (Ascends low) (λ e. up)
    (λ e. let other : x ≡ need → ⊥ = eqb-false x need e in (up.0, Ascends-with_need x need xs up.1 below.1 (omega (arith, below.0))))

AtMost-with_need : (high need : ℕ) (xs : List ℕ) → AtMost high xs → need ≤ high → AtMost high (with_need xs need)
AtMost-with_need high need [] below le = (le, tt)
AtMost-with_need high need (x ∷ xs) below le = grind (arith, AtMost-with_need high need xs below.1 le)

Ascends-first : (low : ℕ) (xs : List ℕ) (i : ℕ) → Ascends low xs → i < length xs → low < slice_index xs i
Ascends-first low [] i up lt = absurd (omega arith)
Ascends-first low (x ∷ xs) zero up lt = up.0
Ascends-first low (x ∷ xs) (suc i) up lt = omega (arith, up.0, Ascends-first x xs i up.1 (omega arith))

Ascends-places : (low : ℕ) (xs : List ℕ) (i j : ℕ) → Ascends low xs → i < j → j ≤ length xs →
    slice_index (low ∷ xs) i < slice_index (low ∷ xs) j
Ascends-places low xs i zero up lt le = absurd (omega arith)
Ascends-places low xs zero (suc j) up lt le = Ascends-first low xs j up (omega arith)
Ascends-places low [] (suc i) (suc j) up lt le = absurd (omega arith)
Ascends-places low (x ∷ xs) (suc i) (suc j) up lt le = Ascends-places x xs i j up.1 (omega arith) (omega arith)

-- ---- what is in the list with a need after it

abbrev HasAt : ℕ → List ℕ → ℕ → Type 0
HasAt need xs i = (i < length xs) × (slice_index xs i ≡ need)

with_need-has : (need : ℕ) (xs : List ℕ) → (i : ℕ) × HasAt need (with_need xs need) i
with_need-has need [] = (0, (omega arith, refl))
with_need-has need (x ∷ xs) =
    let later = with_need-has need xs in
    cond_both (eqb x need) _ _ (λ (ys : List ℕ). (i : ℕ) × HasAt need ys i)
    (λ e. (0, (omega arith, eqb-true x need e))) (λ e. (suc later.0, (omega (arith, later.1.0), later.1.1)))

with_need-keeps : (need : ℕ) (xs : List ℕ) (i : ℕ) → i < length xs → HasAt (slice_index xs i) (with_need xs need) i
with_need-keeps need [] i lt = absurd (omega arith)
with_need-keeps need (x ∷ xs) zero lt = grind arith
with_need-keeps need (x ∷ xs) (suc i) lt = grind (arith, with_need-keeps need xs i (omega arith))

with_need-from : (need : ℕ) (xs : List ℕ) (i : ℕ) → i < length (with_need xs need)
    → HasAt (slice_index (with_need xs need) i) xs i ⊎ (slice_index (with_need xs need) i ≡ need)
with_need-from need [] zero lt = inr refl
with_need-from need [] (suc i) lt = absurd (omega arith)
with_need-from need (x ∷ xs) zero lt = grind arith
with_need-from need (x ∷ xs) (suc i) lt = grind (arith, with_need-from need xs i)

-- ---- the needs of the counted sizes below m

-- a counted size below m with this need
abbrev IsNeedBelow : List ℕ → ℕ → ℕ → ℕ → Type 0
IsNeedBelow counts step m need = (n : ℕ) × (n < m) × (0 < slice_index counts n) × (rounded_need step n ≡ need)

needs-from : (counts : List ℕ) (step m i : ℕ) → i < length (needs_below counts step m) →
    IsNeedBelow counts step m (slice_index (needs_below counts step m) i)
needs-from counts step zero i lt = absurd (omega arith)
needs-from counts step (suc m) i lt =
    let before = needs-from counts step m in
    cond_both (ltb 0 (slice_index counts m)) _ _ (λ (ys : List ℕ). i < length ys → IsNeedBelow counts step (suc m) (slice_index ys i))
    (λ e lt. elim (with_need-from (rounded_need step m) (needs_below counts step m) i lt) [
      | inl old ↦ (let b = before i old.0 in (b.0, omega (arith, b.1), b.2, b.3 ∙ old.1))
      | inr new ↦ (m, omega arith, ltb-true 0 (slice_index counts m) e, sym new)
    ])
    (λ e lt. let b = before i lt in (b.0, omega (arith, b.1), b.2, b.3)) lt

needs-has : (counts : List ℕ) (step m n : ℕ) → n < m → 0 < slice_index counts n →
    (i : ℕ) × HasAt (rounded_need step n) (needs_below counts step m) i
needs-has counts step zero n lt some = absurd (omega arith)
needs-has counts step (suc m) n lt some =
    let before = needs-has counts step m n in
    cond_both (ltb 0 (slice_index counts m)) _ _ (λ (ys : List ℕ). (i : ℕ) × HasAt (rounded_need step n) ys i)
    (λ e. elim (cases_lt n m) [
      | inl below ↦ (let b = before below some in
          let kept = with_need-keeps (rounded_need step m) (needs_below counts step m) b.0 b.1.0 in (b.0, (kept.0, kept.1 ∙ b.1.1)))
      | inr not ↦ (let same : m ≡ n = omega arith in
          let new = with_need-has (rounded_need step m) (needs_below counts step m) in
          (new.0, (new.1.0, new.1.1 ∙ ap (rounded_need step) same)))
    ])
    (grind arith)

module _ (counts : List ℕ) (step : ℕ) (pos : 0 < step) where
  AtMost-needs : (m high : ℕ) → ((n : ℕ) → n < m → rounded_need step n ≤ high) → AtMost high (needs_below counts step m)
  AtMost-needs zero high each = tt
  AtMost-needs (suc m) high each = grind (arith, AtMost-needs m high, AtMost-with_need)

  Ascends-needs : (m : ℕ) → Ascends 0 (needs_below counts step m)
  Ascends-needs zero = tt
  Ascends-needs (suc m) =
      let before = Ascends-needs m in
      let below = AtMost-needs m (rounded_need step m) (λ n lt. rounded-mono step pos n m (omega arith)) in
      grind (arith, cond_both, Ascends-with_need, rounded-positive)

  pub places_ascend : (i j : ℕ) → i < j → j ≤ places counts step → need_at counts step i < need_at counts step j
  places_ascend i j lt le = Ascends-places 0 (distinct_needs counts step) i j (Ascends-needs (length counts)) lt le

  pub need_at-mono : (i j : ℕ) → i ≤ j → j ≤ places counts step → need_at counts step i ≤ need_at counts step j
  need_at-mono i j ij le = grind (arith, places_ascend)

-- ---- places

pub place_is_counted : (counts : List ℕ) (step i : ℕ) → 0 < i → i ≤ places counts step
    → (n : ℕ) × IsCounted counts n × (rounded_need step n ≡ need_at counts step i)
place_is_counted counts step zero pos le = absurd (omega arith)
place_is_counted counts step (suc i) pos le = let b = needs-from counts step (length counts) i le in (b.0, (b.1, b.2), b.3)

pub counted_has_place : (counts : List ℕ) (step n : ℕ) → IsCounted counts n
    → (i : ℕ) × (0 < i) × (i ≤ places counts step) × (need_at counts step i ≡ rounded_need step n)
counted_has_place counts step n counted =
    let b = needs-has counts step (length counts) n counted.0 counted.1 in (suc b.0, omega arith, b.1.0, b.1.1)

-- the need of a place: between a counted size and the largest class
pub place_is_class : (counts : List ℕ) (step i : ℕ) → IsStep step → length counts ≤ largest_counted + 1 → 0 < i → i ≤ places counts step
    → IsBlockSize (need_at counts step i) × (need_at counts step i % step ≡ 0)
place_is_class counts step i is_step small pos le =
    let at = place_is_counted counts step i pos le in
    grind (arith, rounded-multiple, step-positive, rounded-positive, rounded-small)

-- there are fewer places than classes
need_at-large : (counts : List ℕ) (step i : ℕ) → 0 < step → suc i ≤ places counts step → suc (suc i) ≤ need_at counts step (suc i)
need_at-large counts step zero pos le =
    let at = place_is_counted counts step 1 (omega arith) le in omega (arith, at.2, rounded-positive step pos at.0)
need_at-large counts step (suc i) pos le =
    omega (arith, need_at-large counts step i pos (omega arith), places_ascend counts step pos (suc i) (suc (suc i)) (omega arith) le)

pub few_places : (counts : List ℕ) (step : ℕ) → IsStep step → AreCounts counts → places counts step ≤ MOST_NEEDS
few_places counts step is_step are = few (places counts step) (omega arith)
  where
    few : (d : ℕ) → d ≤ places counts step → d ≤ MOST_NEEDS
    few zero le = omega arith
    few (suc d) le =
        omega (
          arith,
          need_at-large counts step d (step-positive step is_step) le,
          (place_is_class counts step (suc d) is_step (omega (arith, are.sizes)) (omega arith) le).0.1,
        )

-- ---- how far a number reaches

-- of the places up to m, j is the last whose need is not above x
pub record Reaches (counts : List ℕ) (step x m j : ℕ) : Type 0 where
  pub within : j ≤ m
  pub reached : need_at counts step j ≤ x
  pub last : (i : ℕ) → i ≤ m → need_at counts step i ≤ x → i ≤ j

pub reach : (counts : List ℕ) (step x m : ℕ) → (j : ℕ) × Reaches counts step x m j
reach counts step x zero = (0, record { within = omega arith; reached = omega arith; last = λ i le below. le })
reach counts step x (suc m) =
    elim (cases_lt x (need_at counts step (suc m))) [
      | inr far ↦ (suc m, record { within = omega arith; reached = far; last = λ i le below. le })
      | inl short ↦ (let b = reach counts step x m in (
        b.0,
        record {
          within = omega (arith, b.1.within);
          reached = b.1.reached;
          last = λ i le below. elim (cases_lt i (suc m)) [
            | inl before ↦ b.1.last i (omega arith) below
            | inr not ↦ absurd (let same : i ≡ suc m = omega arith in omega (arith, ap (need_at counts step) same))
          ];
        },
      ))
    ]

module _ (counts : List ℕ) (step : ℕ) (pos : 0 < step) where
  -- a counted size whose need x reaches is not above the place that x reaches
  pub reach-covers : (x j n : ℕ) → Reaches counts step x (places counts step) j → IsCounted counts n
      → rounded_need step n ≤ x → rounded_need step n ≤ need_at counts step j
  reach-covers x j n r counted le =
      let at = counted_has_place counts step n counted in
      grind (arith, need_at-mono)

  -- a place's need reaches that place
  pub reach-at : (j : ℕ) → j ≤ places counts step → Reaches counts step (need_at counts step j) (places counts step) j
  reach-at j le = grind (arith, places_ascend)

  -- no need is as small as 1
  pub reach-one : Reaches counts step 1 (places counts step) 0
  reach-one = record {
    within = omega arith;
    reached = omega arith;
    last = λ i le below. elim (cases_lt 0 i) [
      | inr none ↦ none
      | inl some ↦ (let at = place_is_counted counts step i some le in absurd (omega (arith, at.2, rounded-positive step pos at.0)))
    ];
  }

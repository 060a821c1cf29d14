-- The places of a profile and the sums up to each, as they grow size by size.
use Rattle.std.proofs.Common.{◌≡◌, ℕ, zero, suc, ◌+◌, ◌-◌, ◌*◌, ◌<◌, ◌≤◌, List, [], ◌∷◌, ◌++◌, length, length-append, slice_index, cond}
use Rattle.std.proofs.{Common.{leb, add-suc, add-zero, arith, refl, ap, subst, sym, ◌∙◌}, Math.Nat.{mul-le-mul}}
use Rattle.std.proofs.{Math.Seq.{get_or-append_seam}, lemmas.Grind.{common_steps}, lemmas.List.{get_or_append_left}}
use Rattle.std.proofs.lemmas.Bool.{cases_lt, cond_both, cond-false, cond-true, eq-eqb, le-leb, lt-ltb, ne_eqb}
use Rattle.class_table.specs.{Sizes.{largest_counted}, Steps.{IsStep}}
use Rattle.potential_check.specs.Certificates.Spanned.{AreSumsUpTo, HoldsSums, last_need}
use Rattle.tuner_theory.{proofs.Sums.{sum_below-more, sum_below-none, sum_bounded, sum_same}, specs.Profiles.{AreCounts, greatest_count}}
use Rattle.tuner_theory.specs.{Spans.{needs_below, rounded_need, with_need}, Waste.{sum_below}}

-- ---- sums

-- the sum of f over the sizes below n whose rounded need is at most high
abbrev pub sum_up_to : (ℕ → ℕ) → ℕ → ℕ → ℕ → ℕ
sum_up_to f step n high = sum_below (λ k. cond (leb (rounded_need step k) high) (f k) 0) n

-- ---- needs in a list

-- the need at a place
abbrev pub need_in : List ℕ → ℕ → ℕ
need_in needs i = slice_index (0 ∷ needs) i

with_need-in : (need i : ℕ) (needs : List ℕ) → i < length needs → slice_index needs i ≡ need → with_need needs need ≡ needs
with_need-in need i [] lt e = absurd (omega arith)
with_need-in need zero (x ∷ xs) lt e = cond-true _ _ _ (eq-eqb x need e)
with_need-in need (suc i) (x ∷ xs) lt e = grind (arith, with_need-in need i xs (omega arith) e)

with_need-above : (need : ℕ) (needs : List ℕ) → ((i : ℕ) → i < length needs → slice_index needs i < need) →
    with_need needs need ≡ needs ++ need ∷ []
with_need-above need [] below = refl
with_need-above need (x ∷ xs) below =
    let first : x < need = below 0 (omega arith) in
    cond-false _ _ _ (ne_eqb x need (λ e. omega arith))
    ∙ ap (λ (ys : List ℕ). x ∷ ys) (with_need-above need xs (λ i lt. below (suc i) (omega arith)))

need_in-old : (needs : List ℕ) (need i : ℕ) → i ≤ length needs → need_in (needs ++ need ∷ []) i ≡ need_in needs i
need_in-old needs need i le = get_or_append_left (0 ∷ needs) (need ∷ []) 0 i (omega arith)

need_in-new : (needs : List ℕ) (need : ℕ) → last_need (needs ++ need ∷ []) ≡ need
need_in-new needs need = grind (arith, common_steps)

-- ---- what stands after the sizes below n

-- for each place from 0 up to the one before the last, the sum up to its need; f is 0 at sizes that were not counted
pub record AreSumsBefore (f : ℕ → ℕ) (step n : ℕ) (needs sums : List ℕ) (total : ℕ) : Type 0 where
  pub size : length sums ≡ length needs
  pub sums_are : (i : ℕ) → i < length needs → slice_index sums i ≡ sum_up_to f step n (need_in needs i)
  pub total_is : total ≡ sum_below f n

-- the needs so far are `needs`; they ascend, none is above the need of a later size, and the last one covers all counted sizes
pub record AreNeeds (counts : List ℕ) (step n : ℕ) (all needs : List ℕ) : Type 0 where
  pub needs_are : needs ≡ all
  pub ascending : (i : ℕ) → i < length needs → need_in needs i < last_need needs
  pub reached : (m : ℕ) → n ≤ m → last_need needs ≤ rounded_need step m
  pub covered : (k : ℕ) → k < n → 0 < slice_index counts k → rounded_need step k ≤ last_need needs

pub record IsBuilt (counts : List ℕ) (step n : ℕ) (needs counted bytes : List ℕ) (total total_bytes : ℕ) : Type 0 where
  pub needs_are : AreNeeds counts step n (needs_below counts step n) needs
  pub counted_are : AreSumsBefore (slice_index counts) step n needs counted total
  pub bytes_are : AreSumsBefore (λ k. slice_index counts k * k) step n needs bytes total_bytes

-- the same, once the rounded need of size n is the last one
pub record HasPlace (counts : List ℕ) (step n : ℕ) (needs counted bytes : List ℕ) (total total_bytes : ℕ) : Type 0 where
  pub needs_are : AreNeeds counts step n (with_need (needs_below counts step n) (rounded_need step n)) needs
  pub last_is : last_need needs ≡ rounded_need step n
  pub counted_are : AreSumsBefore (slice_index counts) step n needs counted total
  pub bytes_are : AreSumsBefore (λ k. slice_index counts k * k) step n needs bytes total_bytes

-- ---- one size more

-- a sum up to a need that covers all
sum_up_to-all : (f : ℕ → ℕ) (step n high : ℕ) → ((k : ℕ) → k < n → 0 < f k → rounded_need step k ≤ high) →
    sum_up_to f step n high ≡ sum_below f n
sum_up_to-all f step n high covers = grind (arith, sum_same, cases_lt, leb, cond-true, le-leb, cond_both)

-- the total stands after the sums, as the sum up to the last need
pub sums-pushed : (f : ℕ → ℕ) (step n total : ℕ) (needs sums : List ℕ) → ((k : ℕ) → k < n → 0 < f k → rounded_need step k ≤ last_need needs)
    → AreSumsBefore f step n needs sums total → (i : ℕ) → i ≤ length needs →
    slice_index (sums ++ total ∷ []) i ≡ sum_up_to f step n (need_in needs i)
sums-pushed f step n total needs sums covers s i le = grind (arith, cases_lt, get_or_append_left, slice_index, get_or-append_seam, sum_up_to-all)

sums-new : (f : ℕ → ℕ) (step n total need : ℕ) (needs sums : List ℕ) → ((k : ℕ) → k < n → 0 < f k → rounded_need step k ≤ last_need needs)
    → AreSumsBefore f step n needs sums total → AreSumsBefore f step n (needs ++ need ∷ []) (sums ++ total ∷ []) total
sums-new f step n total need needs sums covers s = grind (arith, length-append, sums-pushed, need_in-old)

product-some : (a b : ℕ) → 0 < a * b → 0 < a
product-some a b is = grind arith

module _ (counts : List ℕ) (step : ℕ) (is_step : IsStep step) where
  rounded-mono : (m n : ℕ) → m ≤ n → rounded_need step m ≤ rounded_need step n
  rounded-mono m n le = grind arith

  pub built-none : IsBuilt counts step 0 [] [] [] 0 0
  built-none = grind (arith, sum_below-none, slice_index)

  module _ (n total total_bytes : ℕ) (needs counted bytes : List ℕ) where
    -- a size that was not counted
    pub built-skip : slice_index counts n ≤ 0 → IsBuilt counts step n needs counted bytes total total_bytes
        → IsBuilt counts step (suc n) needs counted bytes total total_bytes
    built-skip none b =
        let no_count : slice_index counts n ≡ 0 = omega arith in
        grind (arith, sum_below-more)

    -- a size whose rounded need is the last one already
    pub place-same : last_need needs ≡ rounded_need step n → IsBuilt counts step n needs counted bytes total total_bytes
        → HasPlace counts step n needs counted bytes total total_bytes
    place-same last b = grind (arith, with_need-in)

    -- a size with a new rounded need
    pub place-new : (last_need needs ≡ rounded_need step n → ⊥) → IsBuilt counts step n needs counted bytes total total_bytes
        → HasPlace counts step n (needs ++ rounded_need step n ∷ []) (counted ++ total ∷ []) (bytes ++ total_bytes ∷ []) total total_bytes
    place-new new b =
        let lower : last_need needs < rounded_need step n = omega (arith, b.needs_are.reached n (omega arith), new) in
        let size : length (needs ++ rounded_need step n ∷ []) ≡ suc (length needs) =
        omega (arith, length-append {A = ℕ} needs (rounded_need step n ∷ [])) in
        let last = need_in-new needs (rounded_need step n) in
        record {
          needs_are = record {
            needs_are = sym (ap (λ (xs : List ℕ). with_need xs (rounded_need step n)) (sym b.needs_are.needs_are)
                ∙ with_need-above (rounded_need step n) needs (λ i lt. below lower (suc i) (omega arith)));
            ascending = λ i lt. omega (arith, below lower i (omega arith), need_in-old needs (rounded_need step n) i (omega arith), last);
            reached = λ m le. omega (arith, last, rounded-mono n m le);
            covered = λ k lt some. omega (arith, last, rounded-mono k n (omega arith));
          };
          last_is = last;
          counted_are = sums-new (slice_index counts) step n total (rounded_need step n) needs counted b.needs_are.covered b.counted_are;
          bytes_are = sums-new (λ k. slice_index counts k * k) step n total_bytes (rounded_need step n) needs bytes
              (λ k lt some. b.needs_are.covered k lt (product-some (slice_index counts k) k some)) b.bytes_are;
        }
      where
        below : last_need needs < rounded_need step n → (i : ℕ) → i ≤ length needs → need_in needs i < rounded_need step n
        below lower i le = grind arith

    -- its requests are added to the totals
    pub built-add : 0 < slice_index counts n → HasPlace counts step n needs counted bytes total total_bytes
        → IsBuilt counts step (suc n) needs counted bytes (total + slice_index counts n) (total_bytes + slice_index counts n * n)
    built-add some b = grind (arith, lt-ltb, sum_below-more)

-- ---- all sizes

-- sizes that were not counted
pub built-skips : (counts : List ℕ) (step n m total total_bytes : ℕ) (needs counted bytes : List ℕ) → IsStep step → n ≤ m →
    ((k : ℕ) → n ≤ k → k < m → slice_index counts k ≡ 0)
    → IsBuilt counts step n needs counted bytes total total_bytes → IsBuilt counts step m needs counted bytes total total_bytes
built-skips counts step n m total total_bytes needs counted bytes is_step le none b =
    subst (λ (to : ℕ). IsBuilt counts step to needs counted bytes total total_bytes) (let e : n + (m - n) ≡ m = omega arith in e)
    (skips (m - n) (λ k from to. none k from (omega arith)))
  where
    skips : (more : ℕ) → ((k : ℕ) → n ≤ k → k < n + more → slice_index counts k ≡ 0) → IsBuilt counts step (n + more) needs counted bytes total total_bytes
    skips zero none = rw add-zero b
    skips (suc more) none = rw add-suc (built-skip counts step is_step (n + more) total total_bytes needs counted bytes
        (let here : slice_index counts (n + more) ≡ 0 = none (n + more) (omega arith) (omega arith) in omega arith)
        (skips more (λ k from to. none k from (omega arith))))

pub built-end : (counts : List ℕ) (step n total total_bytes : ℕ) (needs counted bytes : List ℕ) → IsStep step → AreCounts counts →
    n ≡ length counts
    → IsBuilt counts step n needs counted bytes total total_bytes →
    HoldsSums counts step needs (counted ++ total ∷ []) (bytes ++ total_bytes ∷ [])
built-end counts step n total total_bytes needs counted bytes is_step are end b = record {
  is_step = is_step;
  are_counts = are;
  needs_are = all.needs_are.needs_are;
  counted_are = sums (slice_index counts) total counted (λ k lt some. some) all.counted_are;
  bytes_are = sums (λ k. slice_index counts k * k) total_bytes bytes (λ k lt some. product-some (slice_index counts k) k some) all.bytes_are;
}
  where
    all : IsBuilt counts step (length counts) needs counted bytes total total_bytes
    all = rw end at b

    sums : (f : ℕ → ℕ) (total : ℕ) (xs : List ℕ) → ((k : ℕ) → k < length counts → 0 < f k → 0 < slice_index counts k)
        → AreSumsBefore f step (length counts) needs xs total →
        AreSumsUpTo (sum_up_to f step (length counts)) counts step (xs ++ total ∷ [])
    sums f total xs counted_too s = grind (arith, length-append, all, sums-pushed)

pub built-small : (counts : List ℕ) (step n total total_bytes : ℕ) (needs counted bytes : List ℕ) → AreCounts counts
    → n ≤ largest_counted + 1 → IsBuilt counts step n needs counted bytes total total_bytes
    → (total ≤ n * greatest_count) × (total_bytes ≤ n * (greatest_count * largest_counted))
built-small counts step n total total_bytes needs counted bytes are le b =
    let small : (k : ℕ) → k < n → slice_index counts k ≤ greatest_count = (λ k lt. are.in_range k 0 (omega (arith, are.sizes))) in (
      omega (arith, b.counted_are.total_is, sum_bounded (slice_index counts) n greatest_count small),
      omega (
        arith,
        b.bytes_are.total_is,
        sum_bounded (λ k. slice_index counts k * k) n (greatest_count * largest_counted)
            (λ k lt. mul-le-mul (small k lt) (let within : k ≤ largest_counted = omega arith in within)),
      ),
    )

-- The first class that serves a size is the least one.
use Rattle.std.proofs.Common.{◌≡◌, ℕ, ◌<◌, ◌≤◌, true, false, List, [], ◌∷◌, length, slice_index, get_or, Option, Some, None, arith}
use Rattle.std.{proofs.Common.{sym, ◌∙◌, subst, IfSome, IfNone, slice_get, option_and_then, All}, specs.Int.{div_ceil}}
use Rattle.std.proofs.lemmas.{Bool.{cases_lt, lt-ltb, le-ltb, le-leb, lt-leb}, Grind.{div_ceil_times}}
use Rattle.std.proofs.lemmas.{List.{get_or_default}, List.Elements.{All-nil}, List.Folds.{find_at}}
use Rattle.std.proofs.lemmas.List.{Kept.{AllPairs-from_increasing}, Quantifiers.{position-Some}, Sums.{position_or_len_is}}
use Rattle.std.{proofs.lemmas.Option.{get_or_from_slice_get, slice_get_past}, specs.List.{position_or_len}}
use Rattle.std.specs.List.Sorted.{IsNonDecreasingBy, IsStrictlyIncreasing}
use Rattle.class_table.specs.{Counts.{AreCounts}, Sizes.{serves}, Tables.{IsLegalTable, IsLeastServing, class_for, class_number_for}}

pub least_at : (step : ℕ) (classes : List ℕ) (n number : ℕ) → IsLegalTable step classes → class_number_for classes n ≡ Some number
    → (number < length classes) × IsLeastServing classes n (slice_index classes number)
least_at step classes n number legal found =
    let first = position-Some (serves n) classes number 0 found in
    let within : number < length classes = first.0 in (
      within,
      record {
        listed = (number, within, get_or_default classes number (slice_index classes number) 0 within);
        serving = first.1;
        least = λ k d inside serving.
            let at_zero : get_or classes k d ≡ get_or classes k 0 = get_or_default classes k d 0 inside in
            grind (arith, AllPairs-from_increasing);
      },
    )

pub least_of : (step : ℕ) (classes : List ℕ) (n : ℕ) (number : Option ℕ) → IsLegalTable step classes → number ≡ class_number_for classes n
    → IfSome number (λ k. (k < length classes) × IsLeastServing classes n (slice_index classes k))
least_of step classes n None legal found = tt
least_of step classes n (Some number) legal found = least_at step classes n number legal (sym found)

-- the place that `find` and `position` stop at
first_place : (n : ℕ) (classes : List ℕ) → class_for classes n ≡ slice_get classes (position_or_len (serves n) classes)
first_place n classes = find_at (serves n) classes

pub number_gives_class : (n : ℕ) (classes : List ℕ) → class_for classes n ≡ option_and_then (slice_get classes) (class_number_for classes n)
number_gives_class n classes = grind (arith, cases_lt, lt-ltb, first_place, le-ltb, slice_get_past)

numbered : (classes : List ℕ) (class : ℕ) (number : Option ℕ) → option_and_then (slice_get classes) number ≡ Some class →
    (k : ℕ) × (number ≡ Some k) × (slice_get classes k ≡ Some class)
numbered classes class number is = grind arith

-- `first_is_least` is there to be proved: it says what the definition, the first that serves, means
pub first_is_least : (step n class : ℕ) (classes : List ℕ) → IsLegalTable step classes → class_for classes n ≡ Some class →
    IsLeastServing classes n class
first_is_least step n class classes legal found =
    let at = numbered classes class (class_number_for classes n) (sym (number_gives_class n classes) ∙ found) in
    let least = least_at step classes n at.0 legal at.1 in
    subst (IsLeastServing classes n) (get_or_from_slice_get classes at.0 class 0 at.2) least.1

pub no_class_serves : (n : ℕ) (classes : List ℕ) → class_for classes n ≡ None → All (λ class. serves n class ≡ false) classes
no_class_serves n [] none = All-nil (λ class. serves n class ≡ false)
no_class_serves n (class ∷ classes) none = grind (arith, no_class_serves n classes)

pub none_of : (classes : List ℕ) (n : ℕ) (number : Option ℕ) → number ≡ class_number_for classes n →
    IfNone number (All (λ class. serves n class ≡ false) classes)
none_of classes n number is = grind (arith, no_class_serves, number_gives_class)

-- ---- the number of a size's class is how many classes are too small

-- a class is too small where it is at most the granules of the bytes
too_small : (n class : ℕ) → 2 ≤ class → class ≤ div_ceil n 16 → serves n class ≡ false
too_small n class two small = lt-leb n _ (omega (arith, div_ceil_times n 16 (omega arith)))

large_enough : (n class : ℕ) → div_ceil n 16 < class → serves n class ≡ true
large_enough n class large = le-leb n _ (omega (arith, div_ceil_times n 16 (omega arith)))

pub ascending_classes : (classes : List ℕ) → IsStrictlyIncreasing classes → IsNonDecreasingBy (λ class. class) classes
ascending_classes classes ascending i j d le within = grind (arith, AllPairs-from_increasing)

pub counted_place : (step : ℕ) (classes : List ℕ) (n number : ℕ) → IsLegalTable step classes → number ≤ length classes →
    ((k d : ℕ) → k < length classes → k < number → get_or classes k d ≤ div_ceil n 16) →
    ((k d : ℕ) → number ≤ k → k < length classes → div_ceil n 16 < get_or classes k d) →
    position_or_len (serves n) classes ≡ number
counted_place step classes n number legal bound below above =
    position_or_len_is (serves n) classes number 0 bound
    (λ k less. too_small n (get_or classes k 0) (legal.in_range k 0 (omega arith)).0 (below k 0 (omega arith) less))
    (λ within. large_enough n (get_or classes number 0) (above number 0 (omega arith) within))

pub none_counted : (n : ℕ) (classes : List ℕ) (number : ℕ) → position_or_len (serves n) classes ≡ number → length classes ≤ number →
    None ≡ class_number_for classes n
none_counted n classes number place past = grind arith

-- ---- by a table of counts

-- a class has at most 1,024 granules
pub none_past_counts : (classes : List ℕ) (n : ℕ) → IsLegalTable 1 classes → 1024 ≤ div_ceil n 16 → None ≡ class_number_for classes n
none_past_counts classes n legal past =
    none_counted n classes (length classes)
    (counted_place 1 classes n (length classes) legal (omega arith)
    (λ k d within less. omega (arith, past, legal.in_range k d within))
    (λ k d from within. absurd (omega arith)))
    (omega arith)

pub place_by_counts : (classes counts : List ℕ) (n : ℕ) → IsLegalTable 1 classes → AreCounts counts 1 classes → div_ceil n 16 < 1024 →
    position_or_len (serves n) classes ≡ slice_index counts (div_ceil n 16)
place_by_counts classes counts n legal are within =
    let granules : ℕ = div_ceil n 16 in
    let known = are.each granules within in
    counted_place 1 classes n (slice_index counts granules) legal known.bound
    (λ k d inside less. let least = known.below k d less in omega (arith, least))
    (λ k d from inside. let more = are.above granules k d within from inside in omega (arith, more))

-- The profile of requests, and one request more.
use Rattle.std.proofs.Common.{◌≡◌, ◌≢◌, ℕ, ◌+◌, ◌<◌, ◌≤◌, List, [], ◌∷◌, ◌++◌, length, get_or, set, cond, eqb, refl, sym, ap, ◌∙◌}
use Rattle.std.proofs.{Common.{arith, inl, inr, ne_eqb, append_assoc, append-nil}, lemmas.List.Sums.{count_by-le-length, sum_by_push}}
use Rattle.std.proofs.lemmas.Bool.{cases_eq, eq-eqb, leb-true}
use Rattle.std.proofs.lemmas.List.{get_or-set_same, get_or-set_other, length-set}
use Rattle.std.proofs.lemmas.List.FromFn.{fill_by_all, get_or-map-range_with_len, length-map-range_with_len}
use Rattle.class_table.specs.Sizes.{largest_counted}
use Rattle.tuner_theory.specs.Profiles.{Profile}
use Rattle.profile_count.{proofs.Zeros.{zeros_are_counts, each_is_zero}, specs.Counts.{count_for, nothing_counted, with_one_more, zeros}}
use Rattle.profile_count.specs.Requests.{CountsRequests, profile_of_sizes, requests_below, requests_of, with_more}

-- ---- the counts of the sizes below a bound

pub length-requests_below : (n : ℕ) (sizes : List ℕ) → length (requests_below n sizes) ≡ n
unfolding requests_below
length-requests_below n sizes = length-map-range_with_len (requests_of sizes) 0 n

pub get_or-requests_below : (n : ℕ) (sizes : List ℕ) (k : ℕ) → k < n → get_or (requests_below n sizes) k 0 ≡ requests_of sizes k
unfolding requests_below
get_or-requests_below n sizes k within = get_or-map-range_with_len (requests_of sizes) 0 n k k 0 within (omega arith)

-- a list with the number of each size's requests is that of the counts
requests_below-is : (counts : List ℕ) (n : ℕ) (sizes : List ℕ) → length counts ≡ n →
    ((k : ℕ) → k < n → get_or counts k 0 ≡ requests_of sizes k) → counts ≡ requests_below n sizes
unfolding requests_below
requests_below-is counts n sizes long each = fill_by_all (requests_of sizes) counts n 0 long each

-- ---- one request more

requests_of-same : (sizes : List ℕ) (n : ℕ) → requests_of (sizes ++ n ∷ []) n ≡ requests_of sizes n + 1
requests_of-same sizes n = sum_by_push (λ size. cond (eqb size n) 1 0) sizes n ∙ rw (eq-eqb n n refl) refl

requests_of-other : (sizes : List ℕ) (n k : ℕ) → n ≢ k → requests_of (sizes ++ n ∷ []) k ≡ requests_of sizes k
requests_of-other sizes n k other = sum_by_push (λ size. cond (eqb size k) 1 0) sizes n ∙ rw (ne_eqb n k other) (omega arith)

-- a request of a size below the bound raises the count of its size,
requests_below-raised : (bound : ℕ) (sizes : List ℕ) (n : ℕ) → n < bound
    → set (requests_below bound sizes) n (get_or (requests_below bound sizes) n 0 + 1) ≡ requests_below bound (sizes ++ n ∷ [])
requests_below-raised bound sizes n within =
    let before = requests_below bound sizes in
    let raised = set before n (get_or before n 0 + 1) in
    let long : length before ≡ bound = length-requests_below bound sizes in
    requests_below-is raised bound (sizes ++ n ∷ []) (length-set before n (get_or before n 0 + 1) ∙ long) (λ k below. elim (cases_eq k n) [
      | inl same ↦ grind (arith, requests_of-same, get_or-requests_below, get_or-set_same)
      | inr other ↦ get_or-set_other before n k (get_or before n 0 + 1) 0 other ∙ get_or-requests_below bound sizes k below
          ∙ sym (requests_of-other sizes n k (λ same. other (sym same)))
    ])

-- and one of another size none of them
requests_below-same : (bound : ℕ) (sizes : List ℕ) (n : ℕ) → bound ≤ n → requests_below bound sizes ≡ requests_below bound (sizes ++ n ∷ [])
requests_below-same bound sizes n past =
    requests_below-is (requests_below bound sizes) bound (sizes ++ n ∷ []) (length-requests_below bound sizes)
    (λ k below. get_or-requests_below bound sizes k below ∙ sym (requests_of-other sizes n k (λ same. omega arith)))

same_parts : (a b : List ℕ) (c d : ℕ) → a ≡ b → c ≡ d →
    (let p : Profile = record { counts = a; large = c } in p) ≡ record { counts = b; large = d }
same_parts a b c d counts large = rw (counts, large) refl

-- One request more gives the profile of all of them.
pub one_more_is_counted : (sizes : List ℕ) (n : ℕ) →
    with_one_more (profile_of_sizes sizes) n ≡ profile_of_sizes (sizes ++ n ∷ [])
one_more_is_counted sizes n = grind (arith, requests_below-raised, sum_by_push, requests_below-same)

-- ---- all requests, one by one

nothing_counted-is : nothing_counted ≡ profile_of_sizes []
nothing_counted-is =
    same_parts (zeros (largest_counted + 1)) (requests_below (largest_counted + 1) []) 0 0
    (requests_below-is (zeros (largest_counted + 1)) (largest_counted + 1) []
    (zeros_are_counts (zeros (largest_counted + 1)) refl).sizes (λ k below. each_is_zero (largest_counted + 1) k)) refl

with_more-profile_of_sizes : (before sizes : List ℕ) → with_more (profile_of_sizes before) sizes ≡ profile_of_sizes (before ++ sizes)
with_more-profile_of_sizes before [] = ap profile_of_sizes (sym (append-nil before))
with_more-profile_of_sizes before (n ∷ sizes) = grind (arith, with_more-profile_of_sizes (before ++ n ∷ []) sizes, one_more_is_counted, append_assoc)

-- Requests that are added one by one to the empty profile give their profile.
pub added_requests_are_counted : (sizes : List ℕ) → with_more nothing_counted sizes ≡ profile_of_sizes sizes
added_requests_are_counted sizes = ap (λ p. with_more p sizes) nothing_counted-is ∙ with_more-profile_of_sizes [] sizes

-- ---- what the profile has

-- `profile_counts_requests`: for each size the number of its requests, and the number of the large ones
pub profile_counts_requests : (sizes : List ℕ) → CountsRequests (profile_of_sizes sizes) sizes
profile_counts_requests sizes = grind (arith, length-requests_below, get_or-requests_below)

-- No count is above the number of all requests.
pub counts_are_few : (sizes : List ℕ) (n : ℕ) → count_for (profile_of_sizes sizes) n ≤ length sizes
counts_are_few sizes n = grind (arith, leb-true, get_or-requests_below, count_by-le-length)

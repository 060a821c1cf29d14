-- What a class table wastes on the profile of requests is what the requests lose one by one.
use Rattle.std.proofs.Common.{◌≡◌, ◌↔◌, ℕ, zero, suc, ◌+◌, ◌*◌, ◌<◌, ◌≤◌, Bool, true, false, List, [], ◌∷◌, length, get_or, cond, not, eqb}
use Rattle.std.{proofs.Common.{leb, ltb, refl, sym, ap, ◌∙◌, arith, inl, inr, ne_eqb}}
use Rattle.std.proofs.lemmas.{Bool.{cases_eq, eq-eqb, leb-true, le-leb, ltb-true, ltb-false}, List.Filters.{sum_by-filter_both}}
use Rattle.std.proofs.lemmas.List.Elements.{All-from_get_or, All-head, All-tail, filter_agree, filter_passes}
use Rattle.std.{proofs.lemmas.List.Sums.{get_or-le-sum_by, sum_by-cons}, specs.Prelude.{All, IsSome, filter, sum_by}}
use Rattle.class_table.specs.{Sizes.{counted_of, largest_counted}, Tables.{class_for, loss_of_size, ServesSizes, rounding_loss}}
use Rattle.tuner_theory.{proofs.Sums.{sum_none, sum_same, sum_split}, specs.Waste.{Serves, sum_below, waste_at, waste_of}}
use Rattle.profile_count.proofs.CountedRequests.{get_or-requests_below, length-requests_below}
use Rattle.profile_count.specs.Requests.{profile_of_sizes, requests_below, requests_of}

-- ---- a sum over sizes as a sum over requests

-- 1 where a request of this size is one of n bytes, 0 elsewhere: the number that it adds to the requests of n bytes
abbrev adds_to : ℕ → ℕ → ℕ
adds_to n size = cond (eqb size n) 1 0

-- f at the size of one request, and 0 at each other
of_size : (ℕ → ℕ) → ℕ → ℕ → ℕ
of_size f size n = adds_to n size * f n

of_size-other : (f : ℕ → ℕ) (size k : ℕ) → k ≤ size → sum_below (of_size f size) k ≡ 0
unfolding of_size
of_size-other f size k past = sum_none (of_size f size) k (λ n below. rw (ne_eqb size n (λ same. omega arith)) (omega arith))

of_size-same : (f : ℕ → ℕ) (size k : ℕ) → size < k → sum_below (of_size f size) k ≡ f size
unfolding of_size sum_below
of_size-same f size zero within = absurd (omega arith)
of_size-same f size (suc k) within = grind (arith, of_size-same f size k, of_size-other)

-- one more request adds f at its size
one_more_of : (f : ℕ → ℕ) (size : ℕ) (sizes : List ℕ) (n : ℕ)
    → requests_of (size ∷ sizes) n * f n ≡ of_size f size n + requests_of sizes n * f n
unfolding of_size
one_more_of f size sizes n = rw (sum_by-cons (adds_to n) size sizes) (omega arith)

-- The sum over the sizes below k, each as often as it was requested, is the sum over the requests below k.
sum-requests_of : (f : ℕ → ℕ) (k : ℕ) (sizes : List ℕ)
    → sum_below (λ n. requests_of sizes n * f n) k ≡ sum_by f (filter (λ n. ltb n k) sizes)
sum-requests_of f k [] = sum_none (λ n. requests_of [] n * f n) k (λ n below. omega arith)
sum-requests_of f k (size ∷ sizes) =
    sum_split (λ n. requests_of (size ∷ sizes) n * f n) (of_size f size) (λ n. requests_of sizes n * f n) k
    (λ n below. one_more_of f size sizes n)
    ∙ go (ltb size k) refl (sum-requests_of f k sizes)
  where
    go : (b : Bool) → ltb size k ≡ b → sum_below (λ n. requests_of sizes n * f n) k ≡ sum_by f (filter (λ n. ltb n k) sizes)
        → sum_below (of_size f size) k + sum_below (λ n. requests_of sizes n * f n) k ≡ sum_by f (filter (λ n. ltb n k) (size ∷ sizes))
    go true e rest = rw (e, of_size-same f size k (ltb-true size k e), rest) (sym (sum_by-cons f size (filter (λ n. ltb n k) sizes)))
    go false e rest = rw (e, of_size-other f size k (ltb-false size k e), rest) (omega arith)

-- ---- the waste

waste_of-requests_below : (top : ℕ) (sizes classes : List ℕ)
    → waste_of (requests_below (top + 1) sizes) classes ≡ sum_by (loss_of_size classes) (filter (λ n. leb n top) sizes)
waste_of-requests_below top sizes classes =
    let counts = requests_below (top + 1) sizes in
    ap (sum_below (waste_at counts classes)) (length-requests_below (top + 1) sizes)
    ∙ sum_same (waste_at counts classes) (λ n. requests_of sizes n * loss_of_size classes n) (top + 1)
    (grind (arith, get_or-requests_below))
    ∙ sum-requests_of (loss_of_size classes) (top + 1) sizes
    ∙ ap (sum_by (loss_of_size classes)) (filter_agree (λ n. ltb n (top + 1)) (λ n. leb n top) (grind arith) sizes)

-- The waste is the sum of what the counted requests lose.
pub waste_is_the_sum_of_losses : (sizes classes : List ℕ)
    → waste_of (profile_of_sizes sizes).counts classes ≡ rounding_loss classes (counted_of sizes)
waste_is_the_sum_of_losses = waste_of-requests_below largest_counted

-- ---- serving

-- each of the requests that pass a test has been requested
requests_of-passing : (p : ℕ → Bool) (sizes : List ℕ) (i : ℕ)
    → i < length (filter p sizes) → 0 < requests_of sizes (get_or (filter p sizes) i 0)
requests_of-passing p sizes i within =
    let size = get_or (filter p sizes) i 0 in
    let here : adds_to size size ≡ 1 = rw (eq-eqb size size refl) refl in
    let among = get_or-le-sum_by (adds_to size) (filter p sizes) i 0 within in
    omega (arith, here, among, sum_by-filter_both p (λ s. not (p s)) (λ s. refl) (adds_to size) sizes)

-- what holds of each request that passes a test holds of a size that passes it and has been requested
holds_of-requested : (P : ℕ → Type 0) (p : ℕ → Bool) (sizes : List ℕ) (n : ℕ)
    → p n ≡ true → 0 < requests_of sizes n → All P (filter p sizes) → P n
holds_of-requested P p [] n passes some all = absurd (omega arith)
holds_of-requested P p (size ∷ sizes) n passes some all = elim (cases_eq size n) [
  | inl same ↦
      let listed = rw (same, passes) at all in
      All-head P n (filter p sizes) listed
  | inr other ↦
      let step = sum_by-cons (adds_to n) size sizes in
      let fewer : requests_of (size ∷ sizes) n ≡ requests_of sizes n = rw (step, ne_eqb size n other) (omega arith) in
      holds_of-requested P p sizes n passes (rw fewer at some) (rest (p size) refl)
]
  where
    rest : (b : Bool) → p size ≡ b → All P (filter p sizes)
    rest true e = let both = rw e at all in All-tail P size (filter p sizes) both
    rest false e = rw e at all

serves-requests_below : (top : ℕ) (sizes classes : List ℕ)
    → Serves (requests_below (top + 1) sizes) classes ↔ All (λ n. IsSome (class_for classes n)) (filter (λ n. leb n top) sizes)
serves-requests_below top sizes classes = (each, served)
  where
    each : Serves (requests_below (top + 1) sizes) classes → All (λ n. IsSome (class_for classes n)) (filter (λ n. leb n top) sizes)
    each serves = All-from_get_or (λ n. IsSome (class_for classes n)) (filter (λ n. leb n top) sizes) 0 (λ i within.
        let n = get_or (filter (λ n. leb n top) sizes) i 0 in
        let small : n ≤ top = leb-true n top (filter_passes (λ n. leb n top) sizes i 0 within) in
        let counted = get_or-requests_below (top + 1) sizes n (omega arith) in
        let some : 0 < requests_of sizes n = requests_of-passing (λ n. leb n top) sizes i within in
        serves n (omega (arith, length-requests_below (top + 1) sizes), omega arith))

    served : All (λ n. IsSome (class_for classes n)) (filter (λ n. leb n top) sizes) → Serves (requests_below (top + 1) sizes) classes
    served all n counted =
        let below : n < top + 1 = omega (arith, counted.0, length-requests_below (top + 1) sizes) in
        holds_of-requested (λ n. IsSome (class_for classes n)) (λ n. leb n top) sizes n (le-leb n top (omega arith))
        (omega (arith, counted.1, get_or-requests_below (top + 1) sizes n below)) all

-- A table serves the profile where each counted request has a class.
pub serves_each_request : (sizes classes : List ℕ)
    → Serves (profile_of_sizes sizes).counts classes ↔ ServesSizes classes (counted_of sizes)
serves_each_request = serves-requests_below largest_counted

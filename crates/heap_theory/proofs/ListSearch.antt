-- What `find`, `filter` and `position` give.
use Rattle.std.proofs.Common.{◌≡◌, ◌≢◌, ◌⊎◌, ℕ, zero, suc, ◌<◌, ◌≤◌, Bool, true, false, cond, List, [], ◌∷◌, length, get_or, refl, sym, ap}
use Rattle.std.proofs.Common.{◌∙◌, subst, inl, inr, arith, Some, None, Option, slice_get, All, AllPairs, Contains}
use Rattle.std.proofs.lemmas.{Bool.{both_ways, cases_Bool, cases_lt, cond_both, eqb-true, lt-ltb}, Bool.Decides.{Decides-eqb}}
use Rattle.std.proofs.lemmas.List.{Elements.{All-nil, Contains-get_or}, FromFn.{get_or-range_with_len, length-range_with_len}}
use Rattle.std.proofs.lemmas.{List.Sums.{fails_before_first}, Map.Made.{IsDistinct-from_AllPairs}, Map.Views.{Contains-from_any}}
use Rattle.std.{proofs.lemmas.Map.Steps.{length-le_from_distinct_below}, specs.List.{find, filter, position, range_with_len}}

-- ---- find

-- what holds of each element holds of one that is found
pub All-find : {X : Type 0} (P : X → Type 0) (p : X → Bool) (xs : List X) (x : X) → All P xs → find p xs ≡ Some x → P x
All-find P p [] x all is = cc
All-find P p (y ∷ ys) x all is = elim (cases_Bool (p y)) [
  | inl passed ↦
      let found : Some y ≡ Some x = subst (λ b. cond b (Some y) (find p ys) ≡ Some x) passed is in
      let same : y ≡ x = cc in subst P same (all 0 y (omega arith))
  | inr failed ↦ All-find P p ys x (λ k d within. all (suc k) d (omega arith)) (subst (λ b. cond b (Some y) (find p ys) ≡ Some x) failed is)
]

pub find_passes : {X : Type 0} (p : X → Bool) (xs : List X) (x : X) → find p xs ≡ Some x → p x ≡ true
find_passes p [] x is = cc
find_passes p (y ∷ ys) x is = grind (arith, find_passes p ys x)

pub none_found : {X : Type 0} (p : X → Bool) (xs : List X) → find p xs ≡ None → All (λ x. p x ≡ false) xs
none_found p [] is = All-nil (λ x. p x ≡ false)
none_found p (x ∷ xs) is = grind (arith, none_found p xs)

-- the only element that passes is found
pub find_only : {X : Type 0} (p : X → Bool) (xs : List X) (x : X) → Contains xs x → p x ≡ true → All (λ y. p y ≡ true → y ≡ x) xs →
    find p xs ≡ Some x
find_only {X} p xs x there passes only = by (find p xs) refl
  where
    by : (found : Option X) → find p xs ≡ found → find p xs ≡ Some x
    by None was = absurd (both_ways _ (none_found p xs was there.0 x there.1) (subst (λ y. p y ≡ true) (sym there.2) passes))
    by (Some y) was = was ∙ ap Some (All-find (λ y. p y ≡ true → y ≡ x) p xs y only was (find_passes p xs y was))

-- ---- filter

pub in_filter : {X : Type 0} (p : X → Bool) (xs : List X) (x : X) → Contains xs x → p x ≡ true → Contains (filter p xs) x
in_filter {X} p xs x there passes = at xs there.0 there.1 there.2
  where
    after : (ys : List X) (y : X) → Contains ys x → Contains (y ∷ ys) x
    after ys y c = (suc c.0, omega (arith, c.1), c.2)

    at : (xs : List X) (k : ℕ) → k < length xs → get_or xs k x ≡ x → Contains (filter p xs) x
    at [] k within is = absurd (omega arith)
    at (y ∷ ys) zero within is = grind arith
    at (y ∷ ys) (suc k) within is =
        let rest : Contains (filter p ys) x = at ys k (omega arith) is in
        cond_both (p y) (y ∷ filter p ys) (filter p ys) (λ zs. Contains zs x) (λ _. after (filter p ys) y rest) (λ _. rest)

-- the first element that passes a filter
pub first_in_filter : {X : Type 0} (p : X → Bool) (xs : List X) → slice_get (filter p xs) 0 ≡ find p xs
first_in_filter p [] = refl
first_in_filter p (x ∷ xs) = grind (arith, cases_Bool, first_in_filter p xs)

-- ---- numbers below a bound

pub All-range : (n : ℕ) → All (λ s. s < n) (range_with_len 0 n)
All-range n k d within = grind (arith, length-range_with_len, get_or-range_with_len)

pub Contains-range : (n s : ℕ) → s < n → Contains (range_with_len 0 n) s
Contains-range n s below =
    (s, subst (λ m. s < m) (sym (length-range_with_len 0 n)) below, get_or-range_with_len 0 n s s below ∙ omega arith)

-- numbers below n that differ are at most n
pub few_below : (n : ℕ) (xs : List ℕ) → ((x : ℕ) → Contains xs x → x < n) → AllPairs (λ x y. x ≢ y) xs → length xs ≤ n
few_below n xs below apart =
    length-le_from_distinct_below xs n (IsDistinct-from_AllPairs Decides-eqb xs apart)
    (λ x there. below x (Contains-from_any eqb-true x xs there))

-- ---- what a list contains

pub Contains-head : {X : Type 0} (x : X) (xs : List X) → Contains (x ∷ xs) x
Contains-head x xs = (0, omega arith, refl)

pub Contains-tail : {X : Type 0} (y : X) (xs : List X) (x : X) → Contains xs x → Contains (y ∷ xs) x
Contains-tail y xs x there = (suc there.0, omega (arith, there.1), there.2)

pub Contains-cases : {X : Type 0} (y : X) (xs : List X) (x : X) → Contains (y ∷ xs) x → (y ≡ x) ⊎ Contains xs x
Contains-cases {X} y xs x there = grind arith

pub Contains-none : {X : Type 0} (x : X) → Contains [] x → ⊥
Contains-none x there = omega (arith, there.1)

pub AllPairs-cons : {X : Type 0} (R : X → X → Type 0) (x : X) (xs : List X) → ((y : X) → Contains xs y → R x y) → AllPairs R xs →
    AllPairs R (x ∷ xs)
AllPairs-cons R x xs front rest = pairs
  where
    pairs : AllPairs R (x ∷ xs)
    pairs i zero d before within = absurd (omega arith)
    pairs zero (suc j) d before within = front (get_or xs j d) (Contains-get_or xs j d (omega arith))
    pairs (suc i) (suc j) d before within = rest i j d (omega arith) (omega arith)

-- the first element is related to each later one
pub AllPairs-first : {X : Type 0} (R : X → X → Type 0) (x : X) (xs : List X) (y : X) → AllPairs R (x ∷ xs) → Contains xs y → R x y
AllPairs-first R x xs y pairs there = subst (R x) there.2 (pairs 0 (suc there.0) y (omega arith) (omega (arith, there.1)))

pub AllPairs-nil : {X : Type 0} (R : X → X → Type 0) → AllPairs R []
AllPairs-nil R i j d before within = absurd (omega arith)

-- where no place is found, no element passes
pub position-None : {X : Type 0} (p : X → Bool) (xs : List X) → position p xs ≡ None → All (λ x. p x ≡ false) xs
position-None p xs is = grind (arith, cases_lt, fails_before_first, lt-ltb)

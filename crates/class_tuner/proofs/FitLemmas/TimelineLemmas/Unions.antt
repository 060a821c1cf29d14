-- Unions of ascending lists.
use Rattle.std.proofs.Common.{◌≡◌, ◌⊎◌, ℕ, suc, ◌+◌, ◌<◌, ◌≤◌, List, [], ◌∷◌, length, slice_index, get_or, arith, ap, refl, subst}
use Rattle.std.proofs.{Common.{inl, inr, ◌∙◌}, lemmas.Bool.{cases_lt}, lemmas.List.{get_or_default}, lemmas.List.Elements.{Contains-get_or}}
use Rattle.std.proofs.lemmas.List.{Kept.{AllPairs-from_increasing}, Sorted.{Contains-permutation, IsPermutation-insert, IsPermutation-sym}}
use Rattle.std.specs.{List.{Contains, insert}, List.Sorted.{IsStrictlyIncreasing}}
use Rattle.class_tuner.specs.Fits.Timelines.Rounds.{IsUnion}

-- one of a list is its head, or in the rest
head_or_rest : (x : ℕ) (xs : List ℕ) (n k : ℕ) → k < length (x ∷ xs) → get_or (x ∷ xs) k n ≡ n → (x ≡ n) ⊎ Contains xs n
head_or_rest x xs n k lt is = grind arith

in_rest : (x : ℕ) (xs : List ℕ) (n : ℕ) → Contains xs n → Contains (x ∷ xs) n
in_rest x xs n has = (suc has.0, omega (arith, has.1), has.2)

above-head : (x : ℕ) (xs : List ℕ) (n : ℕ) → IsStrictlyIncreasing (x ∷ xs) → Contains xs n → x < n
above-head x xs n up has =
    let below : x < get_or xs has.0 n = AllPairs-from_increasing (x ∷ xs) up 0 (suc has.0) n (omega arith) (omega (arith, has.1)) in
    omega (arith, below, has.2)

rest-ascends : (x : ℕ) (xs : List ℕ) → IsStrictlyIncreasing (x ∷ xs) → IsStrictlyIncreasing xs
rest-ascends x xs up k lt =
    AllPairs-from_increasing (x ∷ xs) up (suc k) (suc (k + 1)) 0 (omega arith) (omega (arith, lt))

-- ascending lists with the same members are the same
pub same-ascending : (xs ys : List ℕ) → IsStrictlyIncreasing xs → IsStrictlyIncreasing ys → ((n : ℕ) → Contains xs n → Contains ys n)
    → ((n : ℕ) → Contains ys n → Contains xs n) → xs ≡ ys
same-ascending [] [] up rises to from = refl
same-ascending [] (y ∷ ys) up rises to from = let has = from y (0, omega arith, refl) in absurd (omega (arith, has.1))
same-ascending (x ∷ xs) [] up rises to from = let has = to x (0, omega arith, refl) in absurd (omega (arith, has.1))
same-ascending (x ∷ xs) (y ∷ ys) up rises to from =
    let low : y ≤ x = (let has = to x (0, omega arith, refl) in
    elim (head_or_rest y ys x has.0 has.1 has.2) [
      | inl is ↦ omega (arith, is)
      | inr later ↦ omega (arith, above-head y ys x rises later)
    ]) in
    let high : x ≤ y = (let has = from y (0, omega arith, refl) in
    elim (head_or_rest x xs y has.0 has.1 has.2) [
      | inl is ↦ omega (arith, is)
      | inr later ↦ omega (arith, above-head x xs y up later)
    ]) in
    let same : x ≡ y = omega arith in
    let rest : xs ≡ ys = same-ascending xs ys (rest-ascends x xs up) (rest-ascends y ys rises)
    (λ n has. let above = above-head x xs n up has in
    let had = to n (in_rest x xs n has) in
    elim (head_or_rest y ys n had.0 had.1 had.2) [ inl is ↦ absurd (omega (arith, above, is, same)) | inr later ↦ later ])
    (λ n has. let above = above-head y ys n rises has in
    let had = from n (in_rest y ys n has) in
    elim (head_or_rest x xs n had.0 had.1 had.2) [ inl is ↦ absurd (omega (arith, above, is, same)) | inr later ↦ later ]) in
    rw (same, rest) refl

-- two lists have one union
pub one-union : (xs ys both other : List ℕ) → IsUnion xs ys both → IsUnion xs ys other → both ≡ other
one-union xs ys both other a b =
    same-ascending both other a.ascending b.ascending
    (λ n has. (b.each n).1 ((a.each n).0 has)) (λ n has. (a.each n).1 ((b.each n).0 has))

-- a number is put among others, or is there
only : (m n : ℕ) → Contains (n ∷ []) m → n ≡ m
only m n has = elim (head_or_rest n [] m has.0 has.1 has.2) [ inl is ↦ is | inr later ↦ absurd (omega (arith, later.1)) ]

pub insert-union : (xs : List ℕ) (i n : ℕ) → IsStrictlyIncreasing (insert xs i n) → IsUnion xs (n ∷ []) (insert xs i n)
insert-union xs i n up = record {
  ascending = up;
  each = λ m. (
    λ has.
        let moved = Contains-permutation (insert xs i n) (n ∷ xs) m (IsPermutation-sym _ _ (IsPermutation-insert xs i n)) has in
        elim (head_or_rest n xs m moved.0 moved.1 moved.2) [ inl is ↦ inr (0, omega arith, is) | inr later ↦ inl later ],
    λ either. Contains-permutation (n ∷ xs) (insert xs i n) m (IsPermutation-insert xs i n)
        (elim either [ inl has ↦ in_rest n xs m has | inr one ↦ (0, omega arith, only m n one) ]),
  );
}

-- ---- one list's numbers added to another's, one by one

-- The first i of `further` are added to `start`.
pub record AreAdded (start further : List ℕ) (i : ℕ) (xs : List ℕ) : Type 0 where
  pub ascending : IsStrictlyIncreasing xs
  pub members : (n : ℕ) → Contains xs n → Contains start n ⊎ Contains further n
  pub left : (n : ℕ) → Contains start n → Contains xs n
  pub added : (k : ℕ) → k < i → Contains xs (slice_index further k)

pub added-more : (start further xs more : List ℕ) (i : ℕ) → i < length further → AreAdded start further i xs
    → IsUnion xs (slice_index further i ∷ []) more → AreAdded start further (i + 1) more
added-more start further xs more i lt before union = record {
  ascending = union.ascending;
  members = λ n has. elim ((union.each n).0 has) [
    | inl old ↦ before.members n old
    | inr one ↦ inr (subst (Contains further) (only n (slice_index further i) one) (Contains-get_or further i 0 lt))
  ];
  left = λ n has. (union.each n).1 (inl (before.left n has));
  added = λ k less. elim (cases_lt k i) [
    | inl earlier ↦ (union.each (slice_index further k)).1 (inl (before.added k earlier))
    | inr not ↦ (let here : i ≡ k = omega arith in
        (union.each (slice_index further k)).1 (inr (0, omega arith, ap (slice_index further) here)))
  ];
}

pub added-all : (start further xs : List ℕ) (i : ℕ) → length further ≤ i → AreAdded start further i xs → IsUnion start further xs
added-all start further xs i le are = record {
  ascending = are.ascending;
  each = λ n. (
    are.members n,
    λ either. elim either [
      | inl has ↦ are.left n has
      | inr has ↦ subst (Contains xs) (get_or_default further has.0 0 n has.1 ∙ has.2) (are.added has.0 (omega (arith, has.1)))
    ],
  );
}

-- A run that is written changes only its bytes.
use Rattle.std.proofs.Common.{◌≡◌, ℕ, ◌+◌, ◌-◌, ◌<◌, ◌≤◌, ◌++◌, List, length, take, drop, replicate, sym, ap, subst, ◌∙◌, arith, inl, inr}
use Rattle.std.proofs.{Common.{slice_range, slice_index, ◌⊎◌, get_or}, Math.Seq.{drop-append-add, take-append_seam}}
use Rattle.std.proofs.lemmas.List.{take-append-drop, length-append, length-drop, length-take-le, drop-drop, append_assoc, take-append-le}
use Rattle.std.{proofs.lemmas.List.{get_or-take, get_or-drop, drop-take, length-replicate}}
use native.Mathlib.Nat.{add-zero}
use Rattle.raw_region.specs.Bytes.{word_at, with_bytes, ChangesOnly}

pub slice_range-add : (xs : List ℕ) (j n : ℕ) → slice_range xs j (j + n) ≡ take n (drop j xs)
slice_range-add xs j n = let e : j + n - j ≡ n = omega arith in ap (λ (k : ℕ). take k (drop j xs)) e

module _ (xs new : List ℕ) (i : ℕ) (fits : i + length new ≤ length xs) where
  abbrev ys : List ℕ
  ys = with_bytes xs i new

  take-with_bytes : (j : ℕ) → j ≤ i → take j ys ≡ take j xs
  take-with_bytes j low =
      let front = take i xs in let rest = drop (i + length new) xs in
      let in_front : j ≤ length front = omega (arith, length-take-le i xs (omega arith)) in
      ap (take j) (append_assoc front new rest) ∙ take-append-le j front (new ++ rest) in_front ∙
      sym (take-append-le j front (drop i xs) in_front) ∙ ap (take j) (take-append-drop i xs)

  pub drop-with_bytes : (j : ℕ) → i + length new ≤ j → drop j ys ≡ drop j xs
  drop-with_bytes j past =
      let front = take i xs ++ new in let rest = drop (i + length new) xs in let n : ℕ = j - (i + length new) in
      let at : j ≡ length front + n = omega (arith, length-append (take i xs) new, length-take-le i xs (omega arith)) in
      grind (arith, drop-append-add, drop-drop)

  byte-with_bytes : (k : ℕ) → (k < i) ⊎ (i + length new ≤ k) → slice_index ys k ≡ slice_index xs k
  byte-with_bytes k (inl low) =
      sym (get_or-take i ys k 0 low) ∙ ap (λ (zs : List ℕ). get_or zs k 0) (take-with_bytes i (omega arith)) ∙ get_or-take i xs k 0 low
  byte-with_bytes k (inr past) =
      ap (λ (n : ℕ). get_or ys n 0) (sym (add-zero k)) ∙ sym (get_or-drop k ys 0 0)
      ∙ ap (λ (zs : List ℕ). get_or zs 0 0) (drop-with_bytes k past) ∙
      get_or-drop k xs 0 0 ∙ ap (λ (n : ℕ). get_or xs n 0) (add-zero k)

  range-with_bytes : (j n : ℕ) → (j + n ≤ i) ⊎ (i + length new ≤ j) → slice_range ys j (j + n) ≡ slice_range xs j (j + n)
  range-with_bytes j n (inl low) =
      slice_range-add ys j n ∙ sym (drop-take j n ys) ∙ ap (drop j) (take-with_bytes (j + n) low) ∙ drop-take j n xs
      ∙ sym (slice_range-add xs j n)
  range-with_bytes j n (inr past) = grind (arith, drop-with_bytes)

  pub length-with_bytes : length ys ≡ length xs
  length-with_bytes = grind (arith, length-append, length-take-le, length-drop)

  changes : ChangesOnly xs ys i (i + length new)
  unfolding word_at
  changes = grind (arith, length-with_bytes, take-with_bytes, drop-with_bytes, byte-with_bytes, range-with_bytes)

-- the same of a list that is known to be so written
pub changes_only : (xs new ys : List ℕ) (i to : ℕ) → ys ≡ with_bytes xs i new → i + length new ≡ to → to ≤ length xs →
    ChangesOnly xs ys i to
changes_only xs new ys i to written ends fits =
    let within : i + length new ≤ length xs = omega arith in
    subst (λ (k : ℕ). ChangesOnly xs ys i k) ends
    (subst (λ (zs : List ℕ). ChangesOnly xs zs i (i + length new)) (sym written) (changes xs new i within))

-- ---- a run that is filled, with the run after it filled too

pub filled_twice : (xs ys : List ℕ) (from middle to a b : ℕ) → from ≤ middle → middle ≤ to → to ≤ length xs →
    ys ≡ take from xs ++ replicate (middle - from) a ++ drop middle xs →
    take middle ys ++ replicate (to - middle) b ++ drop to ys
    ≡ take from xs ++ replicate (middle - from) a ++ replicate (to - middle) b ++ drop to xs
filled_twice xs ys from middle to a b first second fits written =
    let front : List ℕ = take from xs ++ replicate (middle - from) a in
    let rest : List ℕ = drop middle xs in
    let long : length front ≡ middle =
    grind (arith, length-append, length-take-le, length-replicate) in
    let n : ℕ = to - middle in let at : to ≡ length front + n = omega arith in grind (arith, take-append_seam, drop-append-add, drop-drop)

-- a run of one byte that is written
filled_once : (xs : List ℕ) (from to a : ℕ) → from ≤ to →
    with_bytes xs from (replicate (to - from) a) ≡ take from xs ++ replicate (to - from) a ++ drop to xs
filled_once xs from to a less = grind (arith, length-replicate)

pub written_twice : (xs : List ℕ) (from middle to a b : ℕ) → from ≤ middle → middle ≤ to → to ≤ length xs →
    with_bytes (with_bytes xs from (replicate (middle - from) a)) middle (replicate (to - middle) b)
    ≡ take from xs ++ replicate (middle - from) a ++ replicate (to - middle) b ++ drop to xs
written_twice xs from middle to a b first second fits = grind (arith, filled_once, filled_twice)

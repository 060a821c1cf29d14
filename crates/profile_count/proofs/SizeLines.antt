-- The lines of the sizes, of which only counted ones have one.
use Rattle.std.proofs.Common.{◌≡◌, ◌≢◌, ℕ, zero, suc, ◌+◌, ◌-◌, ◌<◌, ◌≤◌, List, [], ◌∷◌, ◌++◌, length, get_or, drop, refl, arith, ne_eqb}
use Rattle.std.proofs.{Common.{add-one, add-zero}, Math.Seq.{drop-cons}, lemmas.List.{drop_all}}
use Rattle.line_text.specs.Lines.{ended, text_of}
use Rattle.profile_count.specs.ProfileText.{size_line, size_lines}

-- where nothing is counted, there is no line
pub size_lines-none : (size : ℕ) (counts : List ℕ) → ((k : ℕ) → get_or counts k 0 ≡ 0) → size_lines size counts ≡ []
unfolding size_lines
size_lines-none size [] none = refl
size_lines-none size (count ∷ counts) none = rw (none 0) (size_lines-none (suc size) counts (λ k. none (suc k)))

-- a size that is counted has the first line
pub size_lines-counted : (size count : ℕ) (counts : List ℕ) → count ≢ 0 →
    size_lines size (count ∷ counts) ≡ size_line size count ∷ size_lines (suc size) counts
unfolding size_lines
size_lines-counted size count counts some = rw (ne_eqb count 0 some) refl

-- and one that is not has none
pub size_lines-zero : (size : ℕ) (counts : List ℕ) → size_lines size (0 ∷ counts) ≡ size_lines (suc size) counts
unfolding size_lines
size_lines-zero size counts = refl

abbrev pub size_lines_from : List ℕ → ℕ → List (List ℕ)
size_lines_from counts size = size_lines size (drop size counts)

passed : (counts : List ℕ) (size n : ℕ) → size + n ≤ length counts → ((k : ℕ) → size ≤ k → k < size + n → get_or counts k 0 ≡ 0)
    → size_lines_from counts size ≡ size_lines_from counts (size + n)
passed counts size zero within none = rw add-zero refl
passed counts size (suc n) within none =
    let here : get_or counts size 0 ≡ 0 = none size (omega arith) (omega arith) in
    let next : size + suc n ≡ suc size + n = omega arith in
    rw (drop-cons counts size 0 (omega arith), here, size_lines-zero, next)
    (passed counts (suc size) n (omega arith) (λ k from below. none k (omega arith) (omega arith)))

-- sizes that are not counted are passed by
pub size_lines-passed : (counts : List ℕ) (low high : ℕ) → low ≤ high → high ≤ length counts →
    ((k : ℕ) → low ≤ k → k < high → get_or counts k 0 ≡ 0)
    → size_lines_from counts low ≡ size_lines_from counts high
size_lines-passed counts low high order within none =
    let is : low + (high - low) ≡ high = omega arith in
    rw is at (passed counts low (high - low) (omega arith) (λ k from below. none k from (omega arith)))

-- ---- the text of the sizes from one on

abbrev pub text_from : List ℕ → ℕ → List ℕ
text_from counts size = text_of (size_lines_from counts size)

-- a size that is counted has a line in front of the others,
pub text_from-counted : (counts : List ℕ) (size : ℕ) → size < length counts → 0 < get_or counts size 0
    → text_from counts size ≡ ended (size_line size (get_or counts size 0)) ++ text_from counts (size + 1)
text_from-counted counts size within some = grind (arith, drop-cons, size_lines-counted, add-one)

-- one that is not has none,
pub text_from-zero : (counts : List ℕ) (size : ℕ) → size < length counts → get_or counts size 0 ≡ 0 →
    text_from counts size ≡ text_from counts (size + 1)
text_from-zero counts size within none = rw (drop-cons counts size 0 within, none, size_lines-zero, add-one) refl

-- and after the last size there is nothing
pub text_from-end : (counts : List ℕ) (size : ℕ) → length counts ≤ size → text_from counts size ≡ []
unfolding size_lines
text_from-end counts size past = rw (drop_all size counts past) refl

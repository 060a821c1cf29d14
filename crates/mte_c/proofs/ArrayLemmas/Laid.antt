-- Arrays that are written number by number, and rows in one array.
use Rattle.std.proofs.Common.{◌≡◌, ℕ, ◌+◌, ◌-◌, ◌*◌, ◌/◌, ◌%◌, ◌<◌, ◌≤◌, List, [], ◌∷◌, ◌++◌, length, get_or, set, take, drop, append_assoc}
use Rattle.std.proofs.{Common.{arith, refl, slice_get, Some}, lemmas.List.{drop_more, length-take-le, set-append_right, take_more}}
use Rattle.std.proofs.lemmas.{Nat.{div-mul-add}, Option.{get_or_from_slice_get, slice_get_within}}
use Rattle.tuner_theory.specs.Rows.{HasShape, number_at}
use Rattle.mte_c.specs.Arrays.Spelled.{AreRows}

pub one_more : (xs ys : List ℕ) (n x : ℕ) → length xs ≤ length ys → slice_get xs n ≡ Some x
    → set (take n xs ++ drop n ys) n x ≡ take (n + 1) xs ++ drop (n + 1) ys
one_more xs ys n x room is =
    let within : n < length xs = slice_get_within xs n x is in
    let long : length (take n xs) ≡ n = length-take-le n xs (omega (arith, within)) in
    let tail : set (drop n ys) 0 x ≡ x ∷ drop (n + 1) ys = rw (drop_more ys n 0 (omega (arith, within, room))) refl in
    let next : take (n + 1) xs ≡ take n xs ++ x ∷ [] = rw (take_more xs n 0 within, get_or_from_slice_get xs n x 0 is) refl in
    let none : n - n ≡ 0 = omega arith in
    rw (set-append_right (take n xs) (drop n ys) n n x long (omega arith), none, tail, next, append_assoc) refl

pub rows_laid : (limit places : ℕ) (numbers : List ℕ) (rows : List (List ℕ)) → HasShape rows limit places →
    ((at : ℕ) → at < limit * places → get_or numbers at 0 ≡ number_at rows (at / places + 1) (at % places))
    → AreRows limit places numbers rows
rows_laid limit places numbers rows shape each = grind (arith, div-mul-add)

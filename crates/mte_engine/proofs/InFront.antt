-- The first of the elements that are left of a list.
use Rattle.std.proofs.{Common.{◌≡◌, ℕ, suc, ◌+◌, List, ◌∷◌, drop, Some, refl, ◌∙◌, arith, slice_get}, Math.Seq.{drop-cons}}
use Rattle.std.proofs.lemmas.Option.{get_or_from_slice_get, slice_get_within}

pub in_front : {X : Type 0} (xs : List X) (i : ℕ) (x : X) → slice_get xs i ≡ Some x → drop i xs ≡ x ∷ drop (i + 1) xs
in_front xs i x is =
    let next : suc i ≡ i + 1 = omega arith in
    drop-cons xs i x (slice_get_within xs i x is) ∙ rw (get_or_from_slice_get xs i x x is, next) refl

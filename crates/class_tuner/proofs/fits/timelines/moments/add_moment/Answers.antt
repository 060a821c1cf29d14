use Rattle.std.proofs.{Common.{◌<◌, ◌≤◌, ℕ, List, length, slice_index, arith}}
use Rattle.std.proofs.lemmas.{List.{get_or_default}, List.Kept.{AllPairs-from_increasing}}
use Rattle.std.specs.List.Sorted.{IsStrictlyIncreasing}
use Rattle.class_tuner.proofs.FitLemmas.TimelineLemmas.{Ascending.{insert-ascends}, Unions.{insert-union}}
use Rattle.class_tuner.proofs.fits.timelines.moments.add_moment.Goals as goal

pub returns-clause-union : goal.returns-clause-union
returns-clause-union c =
    let up = c.requires.ascending in
    let xs : List ℕ = c.args.numbers.now.items in
    let place : ℕ = c.place_of-place.result in
    let rises : IsStrictlyIncreasing c.deref.result.now = rw c.deref.ensures.value up in
    let within : place ≤ length xs = rw c.deref.ensures.value at c.place_of-place.ensures.within in
    let above : (k : ℕ) → place ≤ k → k < length xs → c.args.moment ≤ slice_index xs k =
    rw c.deref.ensures.value at (c.place_of-place.ensures.above rises) in
    let next : place < length xs → c.args.moment < slice_index xs place = grind (arith, get_or_default) in
    rw c.in_ok-insert.ensures.items
    (insert-union xs place c.args.moment
    (insert-ascends xs place c.args.moment up within (rw c.deref.ensures.value at (c.place_of-place.ensures.below rises)) (grind (arith, AllPairs-from_increasing))))

use Rattle.std.proofs.Common.{◌<◌, length, arith, ◌≡◌, ℕ, ◌+◌, ◌++◌, List, [], ◌∷◌, slice_index_or, take, Vec}
use Rattle.std.{proofs.lemmas.List.{map-append, take_more}, specs.declared.alloc.Global.{Global}}
use Rattle.tuner_theory.{proofs.Lists.{lists-length, row-read_at}, specs.Lists.{lists_of}}
use Rattle.potential_check.proofs.footprints.snapshot_sums.narrow_sums.Goals as goal

-- Rows that are taken over one by one.
narrow-more : (narrow : List (Vec ℕ Global)) (row : Vec ℕ Global) (sums : List (List ℕ)) (t : ℕ) → lists_of narrow ≡ take t sums
    → t < length sums → row.items ≡ slice_index_or sums t [] → lists_of (narrow ++ row ∷ []) ≡ take (t + 1) sums
narrow-more narrow row sums t are lt is = grind (arith, map-append, take_more)

pub loop-t-preserved : goal.loop-t-preserved
loop-t-preserved c =
    let sums = c.args.sums.now in
    let inside : c.loop-t.t < length (lists_of sums) = omega (arith, lists-length sums) in
    let read = row-read_at sums c.loop-t.t c.index-sums-t.result c.deref.result.now inside c.index-sums-t.is c.deref.ensures.value in
    grind (arith, narrow-more)

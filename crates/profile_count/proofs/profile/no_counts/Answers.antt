use Rattle.std.proofs.Common.{◌≡◌, ℕ, ◌-◌, ◌≤◌, List, ◌++◌, take, replicate, append_assoc, arith}
use Rattle.std.proofs.lemmas.List.{append-nil, replicate-append-replicate, take-replicate}
use Rattle.profile_count.specs.Counts.{zeros}
use Rattle.profile_count.proofs.profile.no_counts.Goals as goal

more-zeros : (items : List ℕ) (some block rest n : ℕ) → some ≤ block → some ≤ rest → items ++ zeros rest ≡ zeros n →
    (items ++ take some (replicate block 0)) ++ zeros (rest - some) ≡ zeros n
unfolding zeros
more-zeros items some block rest n within left held = grind (arith, append_assoc, take-replicate, replicate-append-replicate)

no-more : (items : List ℕ) (rest n : ℕ) → rest ≤ 0 → items ++ zeros rest ≡ zeros n → items ≡ zeros n
unfolding zeros
no-more items rest n none held = grind (arith, append-nil)

pub loop-rest-preserved : goal.loop-rest-preserved
loop-rest-preserved c =
    rw c.in_ok-extend_from_slice.ensures.items
    (more-zeros c.loop-rest.counts.items c.min-some.result 256 c.loop-rest.rest c.args.n (omega arith) (omega arith) c.loop-rest.invariant)

pub returns : goal.returns
returns c = no-more c.loop-rest.counts.items c.loop-rest.rest c.args.n (omega arith) c.loop-rest.invariant

use Rattle.std.proofs.Common.{◌≡◌, ◌∙◌, None, length, arith, slice_index, sym, ℕ, ◌+◌, ◌<◌, ◌≤◌, ◌⊎◌, List, [], ◌∷◌, inl, inr, get_or, drop}
use Rattle.std.proofs.{Common.{Some, Ok, Err, min, refl, add-one}, Math.Seq.{drop-cons}, lemmas.Bool.{cases_lt}, lemmas.List.{drop_all}}
use Rattle.mte_c.specs.Arrays.Spelled.{entry_fault, profile_from}
use Rattle.class_table.specs.Sizes.{largest_counted}
use Rattle.profile_count.specs.{Counts.{with_count}, declared.fault.ProfileFault.{ProfileFault}}
use Rattle.tuner_theory.specs.Profiles.{Profile}
use Rattle.mte_c.proofs.arrays.counting.count.Goals as goal

-- Counting a profile entry by entry.
entry_counted : (p : Profile) (next i : ℕ) (sizes counts : List ℕ) → i < length sizes → i < length counts →
    entry_fault next (get_or sizes i 0) (get_or counts i 0) ≡ None
    → profile_from i p next (drop i sizes) (drop i counts)
    ≡ profile_from (i + 1) (with_count p (get_or sizes i 0) (get_or counts i 0)) (get_or sizes i 0 + 1)
    (drop (i + 1) sizes) (drop (i + 1) counts)
unfolding profile_from
entry_counted p next i sizes counts within among none =
    rw (drop-cons sizes i 0 within, drop-cons counts i 0 among, none, add-one i, add-one (get_or sizes i 0)) refl

entry_refused : (p : Profile) (next i : ℕ) (sizes counts : List ℕ) (fault : ProfileFault) → i < length sizes →
    i < length counts → entry_fault next (get_or sizes i 0) (get_or counts i 0) ≡ Some fault
    → profile_from i p next (drop i sizes) (drop i counts) ≡ Err (i, fault)
unfolding profile_from
entry_refused p next i sizes counts fault within among is = rw (drop-cons sizes i 0 within, drop-cons counts i 0 among, is) refl

ends : (p : Profile) (next i : ℕ) (sizes counts : List ℕ) → (sizes ≡ []) ⊎ (counts ≡ [])
    → profile_from i p next sizes counts ≡ Ok p
unfolding profile_from
ends p next i [] counts at_end = refl
ends p next i (size ∷ sizes) [] at_end = refl
ends p next i (size ∷ sizes) (count ∷ counts) (inl is) = absurd cc
ends p next i (size ∷ sizes) (count ∷ counts) (inr is) = absurd cc

all_counted : (p : Profile) (next i : ℕ) (sizes counts : List ℕ) → (length sizes ≤ i) ⊎ (length counts ≤ i) →
    profile_from i p next (drop i sizes) (drop i counts) ≡ Ok p
all_counted p next i sizes counts (inl past) = ends p next i (drop i sizes) (drop i counts) (inl (drop_all i sizes past))
all_counted p next i sizes counts (inr past) = ends p next i (drop i sizes) (drop i counts) (inr (drop_all i counts past))

counted_small : (next size count : ℕ) → entry_fault next size count ≡ None → size ≤ largest_counted
counted_small next size count none = grind arith

past_one : (a b i : ℕ) → min a b ≤ i → (a ≤ i) ⊎ (b ≤ i)
past_one a b i past =
    elim (cases_lt i a) [
      | inl less ↦ inr (omega (arith, less, past))
      | inr ended ↦ inl ended
    ]

pub returns-in-Some : goal.returns-in-Some
returns-in-Some c =
    c.loop-index.invariant.rest
    ∙ entry_refused c.loop-index.profile c.loop-index.next c.loop-index.index c.args.sizes.now c.args.counts.now c.in-Some.fault
    (omega (arith, c.loop-index.invariant.ends, c.loop-index-test.true))
    (omega (arith, c.loop-index.invariant.ends, c.loop-index-test.true))
    (sym c.entry_fault.ensures ∙ c.in-Some.is)

pub loop-index-preserved : goal.loop-index-preserved
loop-index-preserved c =
    let size = slice_index c.args.sizes.now c.loop-index.index in
    let count = slice_index c.args.counts.now c.loop-index.index in
    let none : entry_fault c.loop-index.next size count ≡ None = sym c.entry_fault.ensures ∙ c.in_default.is in
    record {
      rest =
          rw c.set_count.ensures (c.loop-index.invariant.rest
          ∙ entry_counted c.loop-index.profile c.loop-index.next c.loop-index.index c.args.sizes.now c.args.counts.now
          (omega (arith, c.loop-index.invariant.ends, c.loop-index-test.true))
          (omega (arith, c.loop-index.invariant.ends, c.loop-index-test.true)) none);
      sizes = omega (arith, counted_small c.loop-index.next size count none);
      ends = c.loop-index.invariant.ends;
    }

pub returns : goal.returns
returns c =
    c.loop-index.invariant.rest
    ∙ all_counted c.loop-index.profile c.loop-index.next c.loop-index.index c.args.sizes.now c.args.counts.now
    (past_one (length c.args.sizes.now) (length c.args.counts.now) c.loop-index.index
    (omega (arith, c.loop-index.invariant.ends, c.loop-index-test.false)))

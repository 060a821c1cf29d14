use Rattle.std.proofs.Common.{◌≡◌, ◌+◌, ℕ, length, subst, arith, ◌∙◌, sym}
use Rattle.class_table.specs.Sizes.{largest_counted}
use Rattle.history_count.proofs.TimelineLemmas.{Requested.{are-requested, seen-none}, Requests.{largest_none}}
use Rattle.history_count.specs.Timelines.{Requests.{IsLargestSoFar}, Stretches.{AreLinesBelow, AreSeen}}
use Rattle.history_count.specs.declared.timelines.largest.Largest.{Largest}
use Rattle.history_count.proofs.timelines.requested_sizes.find_requested_sizes.Goals as goal

pub loop-k-init : goal.loop-k-init
loop-k-init c = record {
  seen = rw c.in_ok-seen.ensures (seen-none c.args.events.now);
  largest = largest_none c.args.events.now;
}

pub add_size-requires-clause-below : goal.add_size-requires-clause-below
add_size-requires-clause-below c = rw c.deref.ensures.value c.loop-n.invariant.below

pub loop-n-preserved : goal.loop-n-preserved
loop-n-preserved c = record {
  below = rw c.deref.ensures.value at c.in_ok-add_size.ensures.below;
  largest = c.add_size.ensures.largest ∙ c.loop-n.invariant.largest;
}

pub returns : goal.returns
returns c =
    let events = c.args.events.now in
    let all : c.loop-k.k ≡ length events = omega arith in
    let last : c.loop-n.n ≡ largest_counted + 1 = omega arith in
    let seen = c.loop-k.seen.items in
    let made = c.loop-n.requested in
    are-requested events seen made (subst (λ (k : ℕ). AreSeen events k seen) all c.loop-k.invariant.seen)
    (subst (λ (n : ℕ). AreLinesBelow seen n made.sizes.items made.lines.items) last c.loop-n.invariant.below)
    (subst (λ (largest : Largest). IsLargestSoFar events (length events) largest.above largest.moment) (sym c.loop-n.invariant.largest)
    (subst (λ (k : ℕ). IsLargestSoFar events k c.loop-k.largest.above c.loop-k.largest.moment) all c.loop-k.invariant.largest))

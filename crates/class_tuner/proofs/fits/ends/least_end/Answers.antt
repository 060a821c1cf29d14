use Rattle.std.proofs.Common.{◌≡◌, ℕ, ◌+◌, ◌*◌, ◌/◌, List, length, slice_index, slice_set, arith, refl, ◌<◌, ◌≤◌}
use Rattle.class_tuner.specs.Fits.{Ends.{IsLeastSoFar}, PlaceByPlace.{end_cost}}
use Rattle.potential_check.{proofs.FootprintLemmas.LawLemmas.{bounds-set}, specs.Footprints.Bounds.{AreBounds}}
use Rattle.potential_check.specs.declared.footprints.slack.TheConstants.{BLOCK}
use Rattle.class_tuner.proofs.fits.ends.least_end.Goals as goal

-- The best of the ends that were seen, and more ends.
module _ (f : ℕ → ℕ) (place last : ℕ) where
  -- more ends that all cost more
  so_far-past : (next more end : ℕ) → ((j : ℕ) → next ≤ j → j < more → j < last → f end < f j)
      → IsLeastSoFar f place next last end → IsLeastSoFar f place more last end
  so_far-past next more end each l = grind arith

  -- blocks that are passed over by their bounds
  so_far-blocks : (costs slack bounds : List ℕ) (before : ℕ → ℕ) (from next end least : ℕ)
      → ((j : ℕ) → f j ≡ slice_index costs j + before j) → AreBounds costs slack place last before bounds → place / BLOCK < from
      → least ≡ f end → ((b : ℕ) → from ≤ b → b < next → least + slice_index slack b < slice_index bounds b)
      → IsLeastSoFar f place (BLOCK * from) last end → IsLeastSoFar f place (BLOCK * next) last end
  so_far-blocks costs slack bounds before from next end least is are after value past l = grind arith

pub loop-block-init : goal.loop-block-init
loop-block-init c =
    let costs : List ℕ = c.args.costs.now in
    let before : List ℕ = c.args.before.now in
    let f : ℕ → ℕ = end_cost costs (slice_index before) in
    let place : ℕ = c.args.place in
    let last : ℕ = length before in
    let from : ℕ = (place + 1) / 16 + 1 in
    let near = c.look_at_first-near in
    let first = so_far-past f place last c.min-stop.result (BLOCK * from) near.result.1
    (λ j low high within. absurd (omega (arith, c.min-stop.ensures)))
    (near.ensures.least place last (omega arith) (omega (arith, c.min-stop.ensures)) c.first_guess-guess.ensures.least) in
    record {
      bounds = c.requires.bounds;
      least = so_far-blocks f place last costs c.args.slack.now c.args.bounds.now (slice_index before) from c.next_block-block.result
          near.result.1 near.result.0 (λ j. refl) c.requires.bounds (omega arith) near.ensures.value c.next_block-block.ensures.past first;
      value = near.ensures.value;
      small = near.ensures.small;
      after = omega (arith, c.next_block-block.ensures.order);
    }

pub overflow_add-bounds : goal.overflow_add-bounds
overflow_add-bounds c =
    let start : ℕ = c.loop-block.block * 16 in
    omega (
      arith,
      c.look_into-seen.ensures.low start (omega arith) (omega (arith, c.min.ensures)),
      c.requires.costs.small start (omega (arith, c.loop-block.invariant.after)) (omega arith),
      c.requires.small start,
      c.requires.slack.small c.loop-block.block,
    )

pub loop-block-preserved : goal.loop-block-preserved
loop-block-preserved c =
    let costs : List ℕ = c.args.costs.now in
    let before : List ℕ = c.args.before.now in
    let slack : List ℕ = c.args.slack.now in
    let f : ℕ → ℕ = end_cost costs (slice_index before) in
    let place : ℕ = c.args.place in
    let last : ℕ = length before in
    let b : ℕ = c.loop-block.block in
    let is = c.loop-block.invariant in
    let seen = c.look_into-seen in
    let new : List ℕ = slice_set c.loop-block.bounds b (seen.result.low + slice_index slack b) in
    let next = c.next_block-block-in-loop-block in
    let start : BLOCK * b ≡ b * 16 = omega arith in
    let bounds = bounds-set costs slack place last (slice_index before) c.loop-block.bounds b (seen.result.low + slice_index slack b)
    (omega (arith, is.after)) (omega (arith, is.bounds.long))
    (λ j here within. omega (arith, seen.ensures.low j (omega (arith, here)) (omega (arith, here, c.min.ensures)))) is.bounds in
    let least = so_far-past f place last c.min.result (BLOCK * (b + 1)) seen.result.end
    (λ j low high within. absurd (omega (arith, c.min.ensures)))
    (seen.ensures.least place last (omega (arith, is.after)) (omega (arith, c.min.ensures)) (rw start at is.least)) in
    record {
      bounds = bounds;
      least = so_far-blocks f place last costs slack new (slice_index before) (b + 1) next.result seen.result.end seen.result.least
          (λ j. refl) bounds (omega (arith, is.after)) seen.ensures.value next.ensures.past least;
      value = seen.ensures.value;
      small = seen.ensures.small;
      after = omega (arith, is.after, next.ensures.order);
    }

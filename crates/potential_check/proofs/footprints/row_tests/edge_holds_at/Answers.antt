use Rattle.std.proofs.{Common.{ℕ, ◌+◌, ◌-◌, ◌*◌, ◌/◌, ◌<◌, ◌≤◌, List, length, slice_index, arith}, lemmas.List.{get_or_past}}
use Rattle.std.proofs.lemmas.Bool.{false≢true, le-leb, leb-true}
use Rattle.potential_check.specs.{Footprints.RowConditions.{EdgeHoldsAt}, declared.footprints.slack.TheConstants.{BLOCK}}
use Rattle.potential_check.proofs.footprints.row_tests.edge_holds_at.Goals as goal

-- the last end is after all blocks
all_ends : (costs before : List ℕ) (number i block : ℕ)
    → ((j : ℕ) → i < j → j < BLOCK * block → j < length before → number ≤ slice_index costs j + slice_index before j)
    → (length before - 1) / BLOCK + 1 ≤ block → number ≤ slice_index costs (length before) → EdgeHoldsAt costs before number i
all_ends costs before number i block within past last = grind arith

last_end : (costs before : List ℕ) (number i : ℕ) → i < length before → EdgeHoldsAt costs before number i
    → number ≤ slice_index costs (length before)
last_end costs before number i within all = grind (arith, get_or_past)

pub returns-then-not-is_within-clause-edge : goal.returns-then-not-is_within-clause-edge
returns-then-not-is_within-clause-edge c = grind arith

pub returns-then-number-low-clause-edge : goal.returns-then-number-low-clause-edge
returns-then-number-low-clause-edge c = (
  (λ no. absurd (false≢true no)),
  (λ all. absurd (omega (
    arith,
    c.least_of-low.ensures.greatest c.args.number (omega (arith, c.ranges.number))
        (record { each = λ j from to. all.each j (omega arith) (omega (arith, c.min.ensures)) }),
  ))),
)

pub returns-clause-edge : goal.returns-clause-edge
returns-clause-edge c = (
  (λ is. all_ends c.args.costs.now c.args.before.now c.args.number c.args.i c.loop-block.block c.loop-block.invariant.within
      c.loop-block-test.false (leb-true _ _ is)),
  (λ all. le-leb _ _ (last_end c.args.costs.now c.args.before.now c.args.number c.args.i c.requires.place all)),
)

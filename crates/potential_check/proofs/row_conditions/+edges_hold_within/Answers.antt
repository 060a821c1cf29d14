use Rattle.std.proofs.Common.{◌+◌, ◌-◌, ◌/◌, arith, ℕ, ◌<◌, ◌≤◌, List, slice_index}
use Rattle.potential_check.specs.{Certificates.Spanned.{Spanned}, RowConditions.{EdgesHoldWithin, edge_bound}}
use Rattle.tuner_theory.{proofs.LawLemmas.{places_cross}, specs.Spans.{places}}
use Rattle.class_table.specs.Steps.{IsStep}
use Rattle.potential_check.proofs.row_conditions.+edges_hold_within.Goals as goal

-- The edges of a part of a row, from those of the parts on both sides of its middle place.

-- what stands over an end that is tightest for the middle place
record IsTightest (s : Spanned) (before : List ℕ) (middle low high end : ℕ) : Type 0 where
  pub after : middle < end
  pub from : low ≤ end
  pub to : end < high
  pub least : (j : ℕ) → middle < j → low ≤ j → j < high → edge_bound s before middle end ≤ edge_bound s before middle j

module _ (s : Spanned) (is_step : IsStep s.step) (before row : List ℕ) (start stop low high middle end : ℕ) where
  edges-join : high ≤ places s.counts s.step + 1 → IsTightest s before middle low high end
      → slice_index row middle ≤ edge_bound s before middle end
      → EdgesHoldWithin s before row start middle low (end + 1) → EdgesHoldWithin s before row (middle + 1) stop end high
      → EdgesHoldWithin s before row start stop low high
  edges-join within tight here left right = λ i j from below lt above upto. grind (
    arith,
    left i end from,
    left i j from,
    right i end,
    right i j,
    tight.least j,
    places_cross s.counts s.step i middle end j is_step,
    places_cross s.counts s.step middle i j end is_step,
  )

-- two calls: the part left of the middle, where the answer is true, and then the part right of it
pub returns-then-edges_hold_within : goal.returns-then-edges_hold_within
returns-then-edges_hold_within t c = (
  λ right. edges-join c.args.spans.now c.requires.step c.args.before.now c.args.row.now
      c.args.part.start c.args.part.end c.args.ends.start c.args.ends.end (c.args.part.start + (c.args.part.end - c.args.part.start) / 2)
      c.tightest_end-bound.result.1 c.requires.within
      (omega arith)
      (omega arith) (c.edges_hold_within.ensures.0 c.if-edges_hold_within.true)
      (c.edges_hold_within-then-edges_hold_within.ensures.0 right),
  grind arith,
)
